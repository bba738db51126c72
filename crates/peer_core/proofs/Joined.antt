-- What a join comes to.
use Rattle.std.proofs.Common.{◌≡◌, ℕ, zero, suc, ◌+◌, ◌<◌, refl, sym, ap, ◌∙◌, subst, arith, inl, inr, Bool, true, false, cond, Some, Result, Ok, Err, List, [], ◌∷◌, ◌++◌, append_assoc, append-nil}
use Rattle.std.specs.Prelude.{◌⊎◌, IfOk, IfErr, count_by}
use Rattle.std.proofs.lemmas.List.Elements.{Contains-append_left, Contains-append_right}
use Rattle.std.proofs.lemmas.List.Sums.{sum_by-append, sum_by-cons}
use Rattle.change_core.specs.declared.addresses.Address.{Address}
use Rattle.message_core.specs.declared.messages.Message.{Message}
use Rattle.node_core.specs.declared.errors.NodeError.{NodeError}
use Rattle.node_core.specs.declared.errors.NodeError.TheVariants as refusal
use Rattle.node_core.specs.declared.events.Event.TheVariants as call
use Rattle.node_core.specs.declared.events.Received.{Received}
use Rattle.node_core.specs.declared.events.Reply.TheVariants as reply
use Rattle.node_core.specs.Log.{one_if}
use Rattle.peer_core.specs.declared.errors.ClusterError.{ClusterError}
use Rattle.peer_core.specs.declared.errors.ClusterError.TheVariants as error
use Rattle.peer_core.specs.declared.errors.LinkError.{LinkError}
use Rattle.peer_core.specs.declared.hearing.Heard.{Heard}
use Rattle.peer_core.specs.declared.hearing.Heard.TheVariants as heard
use Rattle.peer_core.specs.Acts.{Act, OfActs, did}
use Rattle.peer_core.specs.Asking.{IsSent}
use Rattle.peer_core.specs.Joining.{Counts, HearsHost, IsJoin, JoinsHost, JoinsHosts}
use Rattle.peer_core.specs.Links.{MayAnswer, IsJoined, IsOther}
use Rattle.peer_core.specs.Parts.{IsOfLock}
use Rattle.peer_core.specs.Provenance.{applied, is_taking, HostAnswered, AllAnswered, CountedSo, JoinsRest, LastRefused, LastHostStarved, IsWhyNot}
use Rattle.peer_core.specs.Rounds.{Takes}

counted_more : (joined : Bool) (rest : List Bool) → count_by (λ j. j) (joined ∷ rest) ≡ one_if joined + count_by (λ j. j) rest
counted_more true rest = sum_by-cons (λ (j : Bool). cond j 1 0) true rest
counted_more false rest = sum_by-cons (λ (j : Bool). cond j 1 0) false rest

module _ {H : Type 0} where
  takings-append : (xs ys : List (Act H)) → count_by is_taking (xs ++ ys) ≡ count_by is_taking xs + count_by is_taking ys
  takings-append xs ys = sum_by-append (λ (act : Act H). cond (is_taking act) 1 0) xs ys

  -- what a message that was taken comes to is one act
  takes_one : (now : ℕ) (m : Message) (u : Unit {0}) (acts : List (Act H)) → Takes now m (Ok u) acts → (r : Received) × (acts ≡ did (call.Receive m now) (reply.Receive r) ∷ [])
  takes_one now m u acts (inl h) = absurd h
  takes_one now m u acts (inr t) = (
    t.0,
    t.1.2 ∙ (ap (λ (xs : List (Act H)). xs ++ t.1.1) t.1.3 ∙ ap (λ (ys : List (Act H)). (did (call.Receive m now) (reply.Receive t.0) ∷ []) ++ ys) t.1.4.0),
  )

module _ {H : Type 0} (Came : MayAnswer) (now : ℕ) where
  -- what came of one host
  abbrev pub HostDid : Address → Bool → OfActs H
  HostDid h joined acts = HostAnswered Came now h joined acts × (count_by is_taking acts ≡ one_if joined)

  joined_by : (h : Address) (q m : Message) (r : Received) (acts : List (Act H)) → acts ≡ applied q ∷ did (call.Receive m now) (reply.Receive r) ∷ []
      → Came h q (Ok m) → IsJoined m → HostDid h true acts
  joined_by h q m r acts e came is =
      subst (λ (xs : List (Act H)). HostDid h true xs) (sym e) ((q, m, r, (0, omega arith, refl), came, is, (1, omega arith, refl)), refl)

  refused_by : (h : Address) (q : Message) (answer : Result Message LinkError) (acts : List (Act H)) → acts ≡ applied q ∷ []
      → Came h q answer → IsOther IsJoined answer → HostDid h false acts
  refused_by h q answer acts e came is =
      subst (λ (xs : List (Act H)). HostDid h false xs) (sym e) ((q, answer, (0, omega arith, refl), came, is), refl)

  by_made : (h : Address) (made : Result Message NodeError) (x : Heard) (joined : Bool) (acts xs ys : List (Act H)) → acts ≡ xs ++ ys
      → xs ≡ did call.JoinMessage (reply.JoinMessage made) ∷ [] → IsSent Came h IsJoined made x → HearsHost now x (Ok joined) ys → HostDid h joined acts
  by_made h (Ok q) (heard.Answer m) joined acts xs ys e just sent (inl p) = absurd p
  by_made h (Ok q) (heard.Answer m) joined acts xs ys e just sent (inr p) =
      let one : (r : Received) × (p.1.0 ≡ did (call.Receive m now) (reply.Receive r) ∷ []) = takes_one now m p.0 p.1.0 p.1.3 in
      let is : joined ≡ true = cc (p.1.4.1) in
      let all : ys ≡ did (call.Receive m now) (reply.Receive one.0) ∷ [] =
      p.1.2 ∙ (ap (λ (zs : List (Act H)). zs ++ p.1.1) one.1 ∙ ap (λ (zs : List (Act H)). (did (call.Receive m now) (reply.Receive one.0) ∷ []) ++ zs) p.1.4.0) in
      subst (λ (j : Bool). HostDid h j acts) (sym is)
      (joined_by h q m one.0 acts (e ∙ (ap (λ (zs : List (Act H)). zs ++ ys) just ∙ ap (λ (zs : List (Act H)). (applied q ∷ []) ++ zs) all))
      (subst (λ (x : Result Message LinkError). Came h q x) sent.2.0 sent.1) sent.2.1)
  by_made h (Ok q) heard.Other joined acts xs ys e just sent p =
      let is : joined ≡ false = cc (p.1) in
      subst (λ (j : Bool). HostDid h j acts) (sym is)
      (refused_by h q sent.0 acts (e ∙ (ap (λ (zs : List (Act H)). zs ++ ys) just ∙ ap (λ (zs : List (Act H)). (applied q ∷ []) ++ zs) p.0)) sent.1 sent.2)
  by_made h made heard.OutOfMemory joined acts xs ys e just sent p = let no : Ok joined ≡ Err error.Memory = p.1 in cc
  by_made h (Err n) (heard.Answer m) joined acts xs ys e just sent p = cc
  by_made h (Err n) heard.Other joined acts xs ys e just sent p = cc

  pub host_did : (h : Address) (joined : Bool) (acts : List (Act H)) → JoinsHost Came now h (Ok joined) acts → HostDid h joined acts
  host_did h joined acts (inl p) = absurd p
  host_did h joined acts (inr t) = by_made h t.1.3.0 t.0 joined acts t.1.0 t.1.1 t.1.2 t.1.3.1 t.1.3.2 t.1.4

  answered_later : (h : Address) (joined : Bool) (xs ys : List (Act H)) → HostAnswered Came now h joined xs → HostAnswered Came now h joined (xs ++ ys)
  answered_later h true xs ys a =
      (a.0, a.1, a.2, Contains-append_left xs ys (applied a.0) a.3, a.4, a.5, Contains-append_left xs ys (did (call.Receive a.1 now) (reply.Receive a.2)) a.6)
  answered_later h false xs ys a = (a.0, a.1, Contains-append_left xs ys (applied a.0) a.2, a.3, a.4)

  answered_before : (h : Address) (joined : Bool) (xs ys : List (Act H)) → HostAnswered Came now h joined ys → HostAnswered Came now h joined (xs ++ ys)
  answered_before h true xs ys a =
      (a.0, a.1, a.2, Contains-append_right xs ys (applied a.0) a.3, a.4, a.5, Contains-append_right xs ys (did (call.Receive a.1 now) (reply.Receive a.2)) a.6)
  answered_before h false xs ys a = (a.0, a.1, Contains-append_right xs ys (applied a.0) a.2, a.3, a.4)

  all_before : (hs : List Address) (joined : List Bool) (xs ys : List (Act H)) → AllAnswered Came now hs joined ys → AllAnswered Came now hs joined (xs ++ ys)
  all_before [] [] xs ys a = tt
  all_before (h ∷ hs) (j ∷ js) xs ys a = (answered_before h j xs ys a.0, all_before hs js xs ys a.1)
  all_before [] (j ∷ js) xs ys a = absurd a
  all_before (h ∷ hs) [] xs ys a = absurd a

  abbrev CountedFrom : ℕ → List Address → ℕ → OfActs H
  CountedFrom n hosts m acts =
      (joined : List Bool) × AllAnswered Came now hosts joined acts × (m ≡ n + count_by (λ j. j) joined) × (m ≡ n + count_by is_taking acts)

  counted : (n m : ℕ) (hosts : List Address) (acts : List (Act H)) → JoinsHosts Came now n hosts (Ok m) acts → CountedFrom n hosts m acts
  counted n m [] acts p =
      let same : m ≡ n = cc (p.1) in
      subst (λ (xs : List (Act H)). CountedFrom n [] m xs) (sym p.0) ([], tt, omega arith, omega arith)
  counted n m (h ∷ hosts) acts (inl p) = absurd p
  counted n m (h ∷ hosts) acts (inr t) =
      let host : HostDid h t.0 t.1.0 = host_did h t.0 t.1.0 t.1.3 in
      let rest : CountedFrom (n + one_if t.0) hosts m t.1.1 = counted (n + one_if t.0) m hosts t.1.1 t.1.4 in
      subst (λ (xs : List (Act H)). CountedFrom n (h ∷ hosts) m xs) (sym t.1.2) (
        t.0 ∷ rest.0,
        (answered_later h t.0 t.1.0 t.1.1 host.0, all_before hosts rest.0 t.1.0 t.1.1 rest.1),
        omega (arith, counted_more t.0 rest.0, rest.2),
        omega (arith, takings-append t.1.0 t.1.1, host.1, rest.3),
      )

  -- by the lock, or out of memory when one of these hosts was asked
  abbrev pub Unasked : List Address → ClusterError → OfActs H
  Unasked hosts e acts = IsOfLock e ⊎ ((e ≡ error.Memory) × (LastRefused refusal.Memory acts ⊎ LastHostStarved Came hosts acts))

  -- out of memory when a host was asked
  by_want : (h : Address) (made : Result Message NodeError) → IsSent Came h IsJoined made heard.OutOfMemory
      → LastRefused {H = H} refusal.Memory (did call.JoinMessage (reply.JoinMessage made) ∷ [])
      ⊎ LastHostStarved {H = H} Came (h ∷ []) (did call.JoinMessage (reply.JoinMessage made) ∷ [])
  by_want h (Ok q) sent = inr (h, q, [], refl, (0, omega arith, refl), subst (λ (x : Result Message LinkError). Came h q x) sent.2 sent.1)
  by_want h (Err n) sent = inl (call.JoinMessage, reply.JoinMessage (Err n), [], refl, ap Some sent.0)

  pub host_refused : (h : Address) (e : ClusterError) (acts : List (Act H)) → JoinsHost Came now h (Err e) acts → Unasked (h ∷ []) e acts
  host_refused h e acts (inl p) = inl p.1
  host_refused h e acts (inr t) = by_heard t.0 t.1.3.0 t.1.0 t.1.1 t.1.2 t.1.3.1 t.1.3.2 t.1.4
    where
      by_heard : (x : Heard) (made : Result Message NodeError) (xs ys : List (Act H)) → acts ≡ xs ++ ys
          → xs ≡ did call.JoinMessage (reply.JoinMessage made) ∷ [] → IsSent Came h IsJoined made x → HearsHost now x (Err e) ys → Unasked (h ∷ []) e acts
      by_heard (heard.Answer m) made xs ys is just sent (inl (inl p)) = inl p.1
      by_heard (heard.Answer m) made xs ys is just sent (inl (inr p)) = absurd (let no : Err e ≡ Ok tt = p.1.4.1 in cc)
      by_heard (heard.Answer m) made xs ys is just sent (inr p) = absurd (let no : Err e ≡ Ok true = p.1.4.1 in cc)
      by_heard heard.Other made xs ys is just sent p = absurd (let no : Err e ≡ Ok false = p.1 in cc)
      by_heard heard.OutOfMemory made xs ys is just sent p =
          let memory : e ≡ error.Memory = (let same : Err e ≡ Err error.Memory = p.1 in cc) in
          let one : acts ≡ did call.JoinMessage (reply.JoinMessage made) ∷ [] =
          is ∙ (ap (λ (zs : List (Act H)). zs ++ ys) just ∙ ap (λ (zs : List (Act H)). (did call.JoinMessage (reply.JoinMessage made) ∷ []) ++ zs) p.0) in
          inr (memory, subst (λ (zs : List (Act H)). LastRefused refusal.Memory zs ⊎ LastHostStarved Came (h ∷ []) zs) (sym one) (by_want h made sent))

  -- the same of a host among more of them, and behind more acts before
  unasked_first : (h : Address) (hosts : List Address) (e : ClusterError) (acts : List (Act H)) → Unasked (h ∷ []) e acts → Unasked (h ∷ hosts) e acts
  unasked_first h hosts e acts (inl l) = inl l
  unasked_first h hosts e acts (inr (m, inl w)) = inr (m, inl w)
  unasked_first h hosts e acts (inr (m, inr w)) = inr (m, inr (w.0, w.1, w.2, w.3, Contains-append_left (h ∷ []) hosts w.0 w.4, w.5))

  unasked_more : (h : Address) (hosts : List Address) (e : ClusterError) (acts : List (Act H)) → Unasked hosts e acts → Unasked (h ∷ hosts) e acts
  unasked_more h hosts e acts (inl l) = inl l
  unasked_more h hosts e acts (inr (m, inl w)) = inr (m, inl w)
  unasked_more h hosts e acts (inr (m, inr w)) = inr (m, inr (w.0, w.1, w.2, w.3, Contains-append_right (h ∷ []) hosts w.0 w.4, w.5))

  pub unasked_later : (hosts : List Address) (e : ClusterError) (xs ys : List (Act H)) → Unasked hosts e ys → Unasked hosts e (xs ++ ys)
  unasked_later hosts e xs ys (inl l) = inl l
  unasked_later hosts e xs ys (inr (m, inl w)) =
      inr (m, inl (w.0, w.1, xs ++ w.2, ap (λ (zs : List (Act H)). xs ++ zs) w.3 ∙ sym (append_assoc xs w.2 (did w.0 w.1 ∷ [])), w.4))
  unasked_later hosts e xs ys (inr (m, inr w)) =
      inr (m, inr (w.0, w.1, xs ++ w.2, ap (λ (zs : List (Act H)). xs ++ zs) w.3 ∙ sym (append_assoc xs w.2 (applied w.1 ∷ [])), w.4, w.5))

  all_refused : (n : ℕ) (hosts : List Address) (e : ClusterError) (acts : List (Act H)) → JoinsHosts Came now n hosts (Err e) acts → Unasked hosts e acts
  all_refused n [] e acts p = absurd (let no : Err e ≡ Ok n = p.1 in cc)
  all_refused n (h ∷ hosts) e acts (inl p) = unasked_first h hosts e acts (host_refused h e acts p)
  all_refused n (h ∷ hosts) e acts (inr t) =
      subst (λ (zs : List (Act H)). Unasked (h ∷ hosts) e zs) (sym t.1.2) (unasked_more h hosts e (t.1.0 ++ t.1.1) (unasked_later hosts e t.1.0 t.1.1 (all_refused (n + one_if t.0) hosts e t.1.1 t.1.4)))

  more_none : (hosts : List Address) (n : ℕ) (acts xs ys : List (Act H)) → acts ≡ xs ++ ys → ys ≡ [] → CountedFrom 0 hosts n xs → CountedSo Came now hosts n acts
  more_none hosts n acts xs ys e none c =
      subst (λ (zs : List (Act H)). CountedSo Came now hosts n zs) (sym (e ∙ (ap (λ (zs : List (Act H)). xs ++ zs) none ∙ append-nil xs))) (c.0, c.1, omega (arith, c.2), omega (arith, c.3))

  joined_so : (hosts : List Address) (n m : ℕ) (acts xs ys : List (Act H)) → acts ≡ xs ++ ys → CountedFrom 0 hosts m xs → Counts m (Ok n) ys
      → (0 < n) × CountedSo Came now hosts n acts
  joined_so hosts n zero acts xs ys e c p = absurd (let no : Ok n ≡ Err error.NoneJoined = p.1 in cc)
  joined_so hosts n (suc m) acts xs ys e c p =
      let same : n ≡ suc m = (let is : Ok n ≡ Ok (suc m) = p.1 in cc) in
      (omega arith, more_none hosts n acts xs ys e p.0 (subst (λ (k : ℕ). CountedFrom 0 hosts k xs) (sym same) c))

  none_so : (hosts : List Address) (e : ClusterError) (m : ℕ) (acts xs ys : List (Act H)) → acts ≡ xs ++ ys → CountedFrom 0 hosts m xs → Counts m (Err e) ys
      → (e ≡ error.NoneJoined) × CountedSo Came now hosts 0 acts
  none_so hosts e zero acts xs ys is c p = (let same : Err e ≡ Err error.NoneJoined = p.1 in cc, more_none hosts 0 acts xs ys is p.0 c)
  none_so hosts e (suc m) acts xs ys is c p = absurd (let no : Err e ≡ Ok (suc m) = p.1 in cc)

  came_to : (hosts : List Address) (r : Result ℕ ClusterError) (acts : List (Act H)) → IsJoin Came now hosts r acts
      → IfOk r (λ n. (0 < n) × CountedSo Came now hosts n acts) × IfErr r (λ e. IsWhyNot Came now hosts e acts)
  came_to hosts (Ok n) acts (inl p) = absurd p
  came_to hosts (Ok n) acts (inr t) = (joined_so hosts n t.0 acts t.1.0 t.1.1 t.1.2 (counted 0 t.0 hosts t.1.0 t.1.3) t.1.4, tt)
  came_to hosts (Err e) acts (inl p) = (tt, inr (all_refused 0 hosts e acts p))
  came_to hosts (Err e) acts (inr t) = (tt, inl (none_so hosts e t.0 acts t.1.0 t.1.1 t.1.2 (counted 0 t.0 hosts t.1.0 t.1.3) t.1.4))

pub joins_rest : {H : Type 0} (Came : MayAnswer) → JoinsRest H Came
joins_rest Came now hosts r acts p = came_to Came now hosts r acts p
