-- What an answer rests on.
use Rattle.std.proofs.Common.{◌≡◌, ℕ, refl, sym, ap, ◌∙◌, subst, arith, inl, inr, Bool, true, false, Option, Some, None, Result, Ok, Err, List, [], ◌∷◌, ◌++◌, append_assoc}
use Rattle.std.specs.Prelude.{◌⊎◌, Contains}
use Rattle.std.proofs.lemmas.List.Elements.{Contains-append_left, Contains-append_right}
use Rattle.change_core.specs.declared.addresses.Address.{Address}
use Rattle.change_core.specs.declared.changes.Change.{Change}
use Rattle.message_core.specs.declared.kinds.Kind.TheVariants as kind
use Rattle.message_core.specs.declared.kinds.Reason.{Reason}
use Rattle.message_core.specs.declared.kinds.Reason.TheVariants as reason
use Rattle.message_core.specs.declared.messages.Content.{Content}
use Rattle.message_core.specs.declared.messages.Content.TheVariants as content
use Rattle.message_core.specs.declared.messages.Message.{Message}
use Rattle.message_core.specs.Messages.{kind_of}
use Rattle.node_core.specs.declared.errors.NodeError.{NodeError}
use Rattle.node_core.specs.declared.errors.NodeError.TheVariants as node
use Rattle.node_core.specs.declared.events.Event.TheVariants as call
use Rattle.node_core.specs.declared.events.Received.{Received}
use Rattle.node_core.specs.declared.events.Received.TheVariants as received
use Rattle.node_core.specs.declared.events.Reply.TheVariants as reply
use Rattle.peer_core.specs.declared.errors.LinkError.{LinkError}
use Rattle.peer_core.specs.declared.hearing.Heard.{Heard}
use Rattle.peer_core.specs.declared.hearing.Heard.TheVariants as heard
use Rattle.peer_core.specs.Acts.{Act, did, looked}
use Rattle.peer_core.specs.Asking.{IsSent}
use Rattle.peer_core.specs.Handling.{Handlings}
use Rattle.peer_core.specs.Links.{MayAnswer, IsAckOf}
use Rattle.peer_core.specs.Provenance.{pinged, AnswersSo, IsDecidedSo, IsFound, IsMadeOf, IsReport, ServingsRest}
use Rattle.peer_core.specs.Serving.{message_by, message_from, Answers, Finds, AnswersPingReq, Forwards, Gossips, IsDecided, PassesOn, Reaches, Reports, Says, Seeks, GivesMade, Serves, TellsRequester}

module _ {H : Type 0} where
  says_so : (told : Content) (answer : Message) (acts : List (Act H)) → Says told (Ok answer) acts → answer.content ≡ told
  says_so told answer acts (inl h) = absurd h
  says_so told answer acts (inr t) =
      let is : answer ≡ message_by t.0 told = (let same : Ok answer ≡ Ok (message_by t.0 told) = t.1.4.1 in cc) in ap (λ (m : Message). m.content) is

  refuses_so : (why : Reason) (answer : Message) (acts : List (Act H)) → Says (content.Refused why) (Ok answer) acts → kind_of answer.content ≡ kind.Refused
  refuses_so why answer acts h = ap kind_of (says_so (content.Refused why) answer acts h)

  -- one act and no other
  one_act : (act : Act H) (acts xs ys : List (Act H)) → acts ≡ xs ++ ys → xs ≡ act ∷ [] → ys ≡ [] → acts ≡ act ∷ []
  one_act act acts xs ys e just none = e ∙ (ap (λ (zs : List (Act H)). zs ++ ys) just ∙ ap (λ (zs : List (Act H)). (act ∷ []) ++ zs) none)

  -- the first acts have this one, and so have all
  pub has_first : (act : Act H) (acts xs ys : List (Act H)) → acts ≡ xs ++ ys → xs ≡ act ∷ [] → Contains acts act
  has_first act acts xs ys e just =
      subst (λ (zs : List (Act H)). Contains zs act) (sym e)
      (Contains-append_left xs ys act (subst (λ (zs : List (Act H)). Contains zs act) (sym just) (0, omega arith, refl)))

  pub has_later : (act : Act H) (acts xs ys : List (Act H)) → acts ≡ xs ++ ys → Contains ys act → Contains acts act
  has_later act acts xs ys e c = subst (λ (zs : List (Act H)). Contains zs act) (sym e) (Contains-append_right xs ys act c)

  gossips_by : (message answer : Message) (now : ℕ) (r : Received) (acts xs ys : List (Act H)) → acts ≡ xs ++ ys
      → xs ≡ did (call.Receive message now) (reply.Receive r) ∷ [] → Answers r (Ok answer) ys
      → (kind_of answer.content ≡ kind.Refused) ⊎ IsMadeOf message now answer acts
  gossips_by message answer now (received.Answer taken made) acts xs ys e just p =
      let same : made ≡ answer = (let is : Ok answer ≡ Ok made = p.1 in cc) in
      inr (
        taken,
        subst (λ (m : Message). acts ≡ did (call.Receive message now) (reply.Receive (received.Answer taken m)) ∷ []) same
            (one_act (did (call.Receive message now) (reply.Receive (received.Answer taken made))) acts xs ys e just p.0),
      )
  gossips_by message answer now (received.NoAnswer taken) acts xs ys e just p = inl (refuses_so _ answer ys p)
  gossips_by message answer now (received.Stopped stopped) acts xs ys e just p = inl (refuses_so _ answer ys p)
  gossips_by message answer now (received.Done taken) acts xs ys e just p = absurd p
  gossips_by message answer now received.NotGossip acts xs ys e just p = absurd p

  gossips_so : (message answer : Message) (now : ℕ) (acts : List (Act H)) → Gossips message now (Ok answer) acts
      → (kind_of answer.content ≡ kind.Refused) ⊎ IsMadeOf message now answer acts
  gossips_so message answer now acts (inl h) = absurd h
  gossips_so message answer now acts (inr t) = gossips_by message answer now t.0 acts t.1.0 t.1.1 t.1.2 t.1.3 t.1.4

module _ {H : Type 0} (Came : MayAnswer) (now : ℕ) (target : Address) where
  -- what was heard of the target
  seeks_by : (made : Result Message NodeError) (x : Heard) (reached : Bool) (acts ps ss : List (Act H)) → acts ≡ ps ++ ss
      → ps ≡ did (call.PingTo target) (reply.PingTo made) ∷ [] → IsSent Came target (IsAckOf target) made x → Seeks now x (Ok (Some reached)) ss
      → IsFound Came now target reached acts
  seeks_by (Ok q) (heard.Answer ack) reached acts ps ss e just sent (inl h) = absurd h
  seeks_by (Ok q) (heard.Answer ack) reached acts ps ss e just sent (inr y) =
      let is : reached ≡ true = (let same : Ok (Some reached) ≡ Ok (Some true) = y.1.4.1 in cc) in
      subst (λ (b : Bool). IsFound Came now target b acts) (sym is)
      (inr (
        q,
        ack,
        y.0,
        has_first (pinged target q) acts ps ss e just,
        subst (λ (x : Result Message LinkError). Came target q x) sent.2.0 sent.1,
        sent.2.1,
        has_later (did (call.Receive ack now) (reply.Receive y.0)) acts ps ss e (has_first (did (call.Receive ack now) (reply.Receive y.0)) ss y.1.0 y.1.1 y.1.2 y.1.3),
      ))
  seeks_by (Ok q) heard.Other reached acts ps ss e just sent p =
      let is : reached ≡ false = (let same : Ok (Some reached) ≡ Ok (Some false) = p.1 in cc) in
      subst (λ (b : Bool). IsFound Came now target b acts) (sym is) (q, sent.0, has_first (pinged target q) acts ps ss e just, sent.1, sent.2)
  seeks_by made heard.OutOfMemory reached acts ps ss e just sent p = absurd (let same : Ok (Some reached) ≡ Ok None = p.1 in cc)
  seeks_by (Err n) (heard.Answer ack) reached acts ps ss e just sent p = absurd (let no : heard.Answer ack ≡ heard.OutOfMemory = sent.1 in cc)
  seeks_by (Err n) heard.Other reached acts ps ss e just sent p = absurd (let no : heard.Other ≡ heard.OutOfMemory = sent.1 in cc)

  found_later : (reached : Bool) (acts xs ys : List (Act H)) → acts ≡ xs ++ ys → IsFound Came now target reached ys → IsFound Came now target reached acts
  found_later true acts xs ys e (inl w) = inl (w.0, has_later (did call.Own (reply.Own w.0)) acts xs ys e w.1, w.2)
  found_later true acts xs ys e (inr w) =
      inr (w.0, w.1, w.2, has_later (pinged target w.0) acts xs ys e w.3, w.4, w.5, has_later (did (call.Receive w.1 now) (reply.Receive w.2)) acts xs ys e w.6)
  found_later false acts xs ys e w = (w.0, w.1, has_later (pinged target w.0) acts xs ys e w.2, w.3, w.4)

  reaches_by : (own : Change) (reached : Bool) (acts xs ys : List (Act H)) → acts ≡ xs ++ ys → xs ≡ did call.Own (reply.Own own) ∷ []
      → Reaches Came now target own.address (Ok (Some reached)) ys → IsFound Came now target reached acts
  reaches_by own reached acts xs ys e just (inl w) =
      let is : reached ≡ true = (let same : Ok (Some reached) ≡ Ok (Some true) = w.1.1 in cc) in
      subst (λ (b : Bool). IsFound Came now target b acts) (sym is) (inl (own, has_first (did call.Own (reply.Own own)) acts xs ys e just, w.0))
  reaches_by own reached acts xs ys e just (inr (ne, inl h)) = absurd h
  reaches_by own reached acts xs ys e just (inr (ne, inr x)) =
      found_later reached acts xs ys e (seeks_by x.1.3.0 x.0 reached ys x.1.0 x.1.1 x.1.2 x.1.3.1 x.1.3.2 x.1.4)

  finds_so : (reached : Bool) (acts : List (Act H)) → Finds Came now target (Ok (Some reached)) acts → IsFound Came now target reached acts
  finds_so reached acts (inl h) = absurd h
  finds_so reached acts (inr w) = reaches_by w.0 reached acts w.1.0 w.1.1 w.1.2 w.1.3 w.1.4

  -- the requester is told by what the node made, or is refused
  sends_by : (requester : Address) (reached : Bool) (answer : Message) (made : Result Message NodeError) (acts xs ys : List (Act H)) → acts ≡ xs ++ ys
      → xs ≡ did (call.PingReqAckTo requester target reached) (reply.PingReqAckTo made) ∷ [] → GivesMade made (Ok answer) ys
      → (kind_of answer.content ≡ kind.Refused) ⊎ (acts ≡ did (call.PingReqAckTo requester target reached) (reply.PingReqAckTo (Ok answer)) ∷ [])
  sends_by requester reached answer (Ok m) acts xs ys e just p =
      let same : m ≡ answer = (let is : Ok answer ≡ Ok m = p.1 in cc) in
      inr (
      subst (λ (z : Message). acts ≡ did (call.PingReqAckTo requester target reached) (reply.PingReqAckTo (Ok z)) ∷ []) same
      (one_act (did (call.PingReqAckTo requester target reached) (reply.PingReqAckTo (Ok m))) acts xs ys e just p.0)
      )
  sends_by requester reached answer (Err node.Memory) acts xs ys e just p = inl (refuses_so _ answer ys p)
  sends_by requester reached answer (Err (node.BadConfig field)) acts xs ys e just p = absurd p
  sends_by requester reached answer (Err node.Exhausted) acts xs ys e just p = absurd p
  sends_by requester reached answer (Err node.Full) acts xs ys e just p = absurd p
  sends_by requester reached answer (Err node.AlreadyLeft) acts xs ys e just p = absurd p
  sends_by requester reached answer (Err node.NotLeft) acts xs ys e just p = absurd p
  sends_by requester reached answer (Err node.Busy) acts xs ys e just p = absurd p
  sends_by requester reached answer (Err node.Spent) acts xs ys e just p = absurd p
  sends_by requester reached answer (Err node.StaleProbe) acts xs ys e just p = absurd p
  sends_by requester reached answer (Err node.NotAsked) acts xs ys e just p = absurd p

  tells_by : (requester : Address) (answer : Message) (found : Option Bool) (acts xs ys : List (Act H)) → acts ≡ xs ++ ys
      → Finds Came now target (Ok found) xs → TellsRequester requester target found (Ok answer) ys
      → (kind_of answer.content ≡ kind.Refused) ⊎ IsReport Came requester now target answer acts
  tells_by requester answer None acts xs ys e f p = inl (refuses_so _ answer ys p)
  tells_by requester answer (Some reached) acts xs ys e f (inl h) = absurd h
  tells_by requester answer (Some reached) acts xs ys e f (inr v) = go (sends_by requester reached answer v.0 ys v.1.0 v.1.1 v.1.2 v.1.3 v.1.4)
    where
      go : (kind_of answer.content ≡ kind.Refused) ⊎ (ys ≡ did (call.PingReqAckTo requester target reached) (reply.PingReqAckTo (Ok answer)) ∷ [])
          → (kind_of answer.content ≡ kind.Refused) ⊎ IsReport Came requester now target answer acts
      go (inl h) = inl h
      go (inr s) = inr (reached, xs, e ∙ ap (λ (zs : List (Act H)). xs ++ zs) s, finds_so reached xs f)

  reports_so : (requester : Address) (answer : Message) (acts : List (Act H)) → Reports Came requester now target (Ok answer) acts
      → (kind_of answer.content ≡ kind.Refused) ⊎ IsReport Came requester now target answer acts
  reports_so requester answer acts (inl h) = absurd h
  reports_so requester answer acts (inr u) = tells_by requester answer u.0 acts u.1.0 u.1.1 u.1.2 u.1.3 u.1.4

  report_later : (requester : Address) (answer : Message) (acts xs ys : List (Act H)) → acts ≡ xs ++ ys
      → (kind_of answer.content ≡ kind.Refused) ⊎ IsReport Came requester now target answer ys
      → (kind_of answer.content ≡ kind.Refused) ⊎ IsReport Came requester now target answer acts
  report_later requester answer acts xs ys e (inl h) = inl h
  report_later requester answer acts xs ys e (inr w) =
      let act : Act H = did (call.PingReqAckTo requester target w.0) (reply.PingReqAckTo (Ok answer)) in
      inr (
        w.0,
        xs ++ w.1,
        e ∙ (ap (λ (zs : List (Act H)). xs ++ zs) w.2 ∙ sym (append_assoc xs w.1 (act ∷ []))),
        found_later w.0 (xs ++ w.1) xs w.1 refl w.3,
      )

  follows_by : (requester : Address) (answer : Message) (r : Received) (acts xs ys : List (Act H)) → acts ≡ xs ++ ys
      → AnswersPingReq Came requester now target r (Ok answer) ys
      → (kind_of answer.content ≡ kind.Refused) ⊎ IsReport Came requester now target answer acts
  follows_by requester answer (received.Done taken) acts xs ys e p = report_later requester answer acts xs ys e (reports_so requester answer ys p)
  follows_by requester answer (received.Stopped stopped) acts xs ys e p = inl (refuses_so _ answer ys p)
  follows_by requester answer (received.Answer taken made) acts xs ys e p = absurd p
  follows_by requester answer (received.NoAnswer taken) acts xs ys e p = absurd p
  follows_by requester answer received.NotGossip acts xs ys e p = absurd p

  passes_so : (message answer : Message) (acts : List (Act H)) → PassesOn Came message now target (Ok answer) acts
      → (kind_of answer.content ≡ kind.Refused) ⊎ IsReport Came message.source now target answer acts
  passes_so message answer acts (inl h) = absurd h
  passes_so message answer acts (inr t) = follows_by message.source answer t.0 acts t.1.0 t.1.1 t.1.2 t.1.4

module _ {H : Type 0} (hash_of : H → List ℕ → ℕ) (Handled : Handlings) (keys : List (List ℕ)) (body : List ℕ) (answer : Message) where
  forwards_so : (acts : List (Act H)) → Forwards hash_of Handled keys body (Ok answer) acts → IsDecidedSo hash_of Handled keys body answer.content acts
  forwards_so acts (inl h) = absurd h
  forwards_so acts (inr (Ok view, (first, next, eq, seen, (told, decided, gives)))) =
      let is : answer ≡ message_from view told = (let same : Ok answer ≡ Ok (message_from view told) = gives.1 in cc) in
      let content_is : told ≡ answer.content = sym (ap (λ (m : Message). m.content) is) in
      inl (view, has_first (looked (Ok view)) acts first next eq seen, subst (λ (c : Content). IsDecided hash_of Handled keys body view c) content_is decided)
  forwards_so acts (inr (Err n, (first, next, eq, seen, says))) =
      let among : Contains acts (looked (Err n)) = has_first (looked (Err n)) acts first next eq seen.0 in
      inr (subst (λ (x : NodeError). Contains acts (looked (Err x))) seen.1 among, says_so (content.Refused reason.Memory) answer next says.1)

pub servings_rest : {H : Type 0} (hash_of : H → List ℕ → ℕ) (Came : MayAnswer) (Handled : Handlings) → ServingsRest hash_of Came Handled
servings_rest {H} hash_of Came Handled message answer now acts p = by_content message.content p
  where
    by_content : (c : Content) → Serves hash_of Came Handled message now c (Ok answer) acts
        → AnswersSo hash_of Came Handled message now c answer acts
    by_content (content.Join news) h = gossips_so message answer now acts h.1
    by_content (content.Ping news) h = gossips_so message answer now acts h.1
    by_content (content.PingReq news target) h = passes_so Came now target message answer acts h.1
    by_content (content.Forward keys body) h = forwards_so hash_of Handled keys body answer acts h
    by_content (content.Joined news) h = says_so _ answer acts h.1
    by_content (content.Ack news) h = says_so _ answer acts h.1
    by_content (content.PingReqAck news target reached) h = says_so _ answer acts h.1
    by_content (content.Reply body) h = says_so _ answer acts h.1
    by_content content.NotOwner h = says_so _ answer acts h.1
    by_content (content.Refused why) h = says_so _ answer acts h.1
