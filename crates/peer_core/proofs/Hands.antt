-- The last of what is found in acts, and acts that rest on those before them.
use Rattle.std.proofs.Common.{◌≡◌, ℕ, refl, sym, ap, ◌∙◌, subst, inl, inr, Option, Some, None, Result, Ok, Err, List, [], ◌∷◌, ◌++◌, append_assoc, append-nil}
use Rattle.node_core.specs.declared.errors.NodeError.{NodeError}
use Rattle.node_core.specs.declared.events.Event.{Event}
use Rattle.node_core.specs.declared.events.Reply.{Reply}
use Rattle.message_core.specs.declared.messages.Message.{Message}
use Rattle.change_core.specs.declared.addresses.Address.{Address}
use Rattle.peer_core.specs.declared.errors.ClusterError.{ClusterError}
use Rattle.peer_core.specs.declared.hearing.Heard.{Heard}
use Rattle.peer_core.specs.Acts.{Act, OfActs, did, Just}
use Rattle.peer_core.specs.Links.{MayAnswer}
use Rattle.peer_core.specs.Asking.{IsSent}
use Rattle.peer_core.specs.Parts.{Part, Turn, onward, ended, Calls, Tries, Asks, Gives, Fails, Next, Until}
use Rattle.peer_core.specs.Provenance.{later_of, last_of, begun_by, shown_by, refusal_in, IsWhy, RestsOn, AllRest}

module _ {A : Type 0} where
  later_none : (x : Option A) → later_of x None ≡ x
  later_none None = refl
  later_none (Some a) = refl

  later_assoc : (x y z : Option A) → later_of (later_of x y) z ≡ later_of x (later_of y z)
  later_assoc None y z = refl
  later_assoc (Some a) y z = refl

module _ {H : Type 0} where
  pub last_of-append : {A : Type 0} (f : Act H → Option A) (xs ys : List (Act H)) → last_of f (xs ++ ys) ≡ later_of (last_of f ys) (last_of f xs)
  last_of-append f [] ys = sym (later_none (last_of f ys))
  last_of-append {A} f (x ∷ xs) ys = ap (λ (o : Option A). later_of o (f x)) (last_of-append f xs ys) ∙ later_assoc (last_of f ys) (last_of f xs) (f x)

  -- what one more act shows is the last
  pub last_one : {A : Type 0} (f : Act H → Option A) (xs : List (Act H)) (act : Act H) → last_of f (xs ++ act ∷ []) ≡ later_of (f act) (last_of f xs)
  last_one f xs act = last_of-append f xs (act ∷ [])

  pub last_kept : {A : Type 0} (f : Act H → Option A) (xs : List (Act H)) (act : Act H) → f act ≡ None → last_of f (xs ++ act ∷ []) ≡ last_of f xs
  last_kept {A} f xs act e = last_one f xs act ∙ ap (λ (o : Option A). later_of o (last_of f xs)) e

  pub last_behind : {A : Type 0} (f : Act H → Option A) (xs ys : List (Act H)) → last_of f ys ≡ None → last_of f (xs ++ ys) ≡ last_of f xs
  last_behind {A} f xs ys e = last_of-append f xs ys ∙ ap (λ (o : Option A). later_of o (last_of f xs)) e

  -- no probe is begun or looked for
  pub record Quiet (acts : List (Act H)) : Type 0 where
    pub none_begun : last_of begun_by acts ≡ None
    pub none_shown : last_of shown_by acts ≡ None

  pub quiet_none : Quiet []
  quiet_none = record { none_begun = refl; none_shown = refl }

  pub quiet_more : (acts : List (Act H)) (act : Act H) → begun_by act ≡ None → shown_by act ≡ None → Quiet acts → Quiet (acts ++ act ∷ [])
  quiet_more acts act b s q = record { none_begun = last_kept begun_by acts act b ∙ q.none_begun; none_shown = last_kept shown_by acts act s ∙ q.none_shown }

module _ {H : Type 0} (Came : MayAnswer) (now : ℕ) where
  pub AllRest-append : (before xs ys : List (Act H))
      → AllRest Came now before xs → AllRest Came now (before ++ xs) ys → AllRest Came now before (xs ++ ys)
  AllRest-append before [] ys h k = subst (λ (zs : List (Act H)). AllRest Came now zs ys) (append-nil before) k
  AllRest-append before (x ∷ xs) ys h k =
      (h.0, AllRest-append (before ++ x ∷ []) xs ys h.1 (subst (λ (zs : List (Act H)). AllRest Came now zs ys) (sym (append_assoc before (x ∷ []) xs)) k))

  -- what is known after a part, by its answer; or why it was refused
  abbrev pub After : {A : Type 0} → List (Act H) → (A → OfActs H) → Result A ClusterError → OfActs H
  After start Q (Ok a) s = Q a s
  After start Q (Err e) s = IsWhy Came e (start ++ s)

  -- After acts of which the first is known, each act of the part rests on those before it, and then the second is known, by its answer.
  pub record Rests {A : Type 0} (start : List (Act H)) (K : OfActs H) (P : Part H A) (Q : A → OfActs H) : Type 0 where
    pub rests : (s acts : List (Act H)) (r : Result A ClusterError) → K s → P r acts → AllRest Came now (start ++ s) acts × After start Q r (s ++ acts)

  pub rests_give : {A : Type 0} {start : List (Act H)} {K : OfActs H} (Q : A → OfActs H) (a : A) → ((s : List (Act H)) → K s → Q a s) → Rests start K (Gives a) Q
  rests_give {A} {start} Q a f = record {
    rests = λ s acts r k p.
        subst (λ (xs : List (Act H)). AllRest Came now (start ++ s) xs × After start Q r (s ++ xs)) (sym p.0)
        (tt, subst (λ (x : Result A ClusterError). After start Q x (s ++ [])) (sym p.1) (subst (λ (xs : List (Act H)). Q a xs) (sym (append-nil s)) (f s k)));
  }

  pub rests_fail : {A : Type 0} {start : List (Act H)} {K : OfActs H} (Q : A → OfActs H) (e : ClusterError) → ((s : List (Act H)) → K s → IsWhy Came e (start ++ s)) → Rests start K (Fails e) Q
  rests_fail {A} {start} Q e f = record {
    rests = λ s acts r k p.
        subst (λ (xs : List (Act H)). AllRest Came now (start ++ s) xs × After start Q r (s ++ xs)) (sym p.0)
        (tt, subst (λ (x : Result A ClusterError). After start Q x (s ++ [])) (sym p.1) (subst (λ (xs : List (Act H)). IsWhy Came e (start ++ xs)) (sym (append-nil s)) (f s k)));
  }

  -- one act
  one : (start s acts : List (Act H)) (act : Act H) → Just act acts → RestsOn Came now (start ++ s) act → AllRest Came now (start ++ s) acts
  one start s acts act e h = subst (λ (xs : List (Act H)). AllRest Came now (start ++ s) xs) (sym e) (h, tt)

  none : (start s acts : List (Act H)) → acts ≡ [] → AllRest Came now (start ++ s) acts
  none start s acts e = subst (λ (xs : List (Act H)). AllRest Came now (start ++ s) xs) (sym e) tt

  pub rests_call : {A : Type 0} {start : List (Act H)} {K : OfActs H} (Q : A → OfActs H) (event : Event) (reply_of : A → Reply)
      → ((s : List (Act H)) (a : A) → K s → RestsOn Came now (start ++ s) (did event (reply_of a)) × Q a (s ++ did event (reply_of a) ∷ []))
      → Rests start K (Calls event reply_of) Q
  rests_call {A} {start} {K} Q event reply_of f = record { rests = go }
    where
      go : (s acts : List (Act H)) (r : Result A ClusterError) → K s → Calls event reply_of r acts → AllRest Came now (start ++ s) acts × After start Q r (s ++ acts)
      go s acts (Ok a) k p =
          let h : RestsOn Came now (start ++ s) (did event (reply_of a)) × Q a (s ++ did event (reply_of a) ∷ []) = f s a k in
          (one start s acts (did event (reply_of a)) p h.0, subst (λ (xs : List (Act H)). Q a (s ++ xs)) (sym p) h.1)
      go s acts (Err e) k p = (none start s acts p.0, inl p.1)

  pub rests_try : {A : Type 0} {start : List (Act H)} {K : OfActs H} (Q : A → OfActs H) (event : Event) (reply_of : Result A NodeError → Reply)
      → ((s : List (Act H)) (a : A) → K s → RestsOn Came now (start ++ s) (did event (reply_of (Ok a))) × Q a (s ++ did event (reply_of (Ok a)) ∷ []))
      → ((s : List (Act H)) (n : NodeError) → K s → RestsOn Came now (start ++ s) (did event (reply_of (Err n))))
      → ((n : NodeError) → refusal_in (reply_of (Err n)) ≡ Some n)
      → Rests start K (Tries event reply_of) Q
  rests_try {A} {start} {K} Q event reply_of f g named = record { rests = go }
    where
      go : (s acts : List (Act H)) (r : Result A ClusterError) → K s → Tries event reply_of r acts → AllRest Came now (start ++ s) acts × After start Q r (s ++ acts)
      go s acts (Ok a) k p =
          let h : RestsOn Came now (start ++ s) (did event (reply_of (Ok a))) × Q a (s ++ did event (reply_of (Ok a)) ∷ []) = f s a k in
          (one start s acts (did event (reply_of (Ok a))) p h.0, subst (λ (xs : List (Act H)). Q a (s ++ xs)) (sym p) h.1)
      go s acts (Err e) k (inl p) = (none start s acts p.0, inl p.1)
      go s acts (Err e) k (inr p) =
          let act : Act H = did event (reply_of (Err p.0)) in (
            one start s acts act p.1 (g s p.0 k),
            inr (inl (p.0, p.2, (event, reply_of (Err p.0), start ++ s, ap (λ (xs : List (Act H)). start ++ (s ++ xs)) p.1 ∙ sym (append_assoc start s (act ∷ [])), named p.0))),
          )

  -- a question: the call that makes the message, and what was heard
  pub rests_ask : {start : List (Act H)} {K : OfActs H} (Q : Heard → OfActs H) (event : Event) (reply_of : Result Message NodeError → Reply) (a : Address) (Wanted : Message → Type 0)
      → ((s : List (Act H)) (made : Result Message NodeError) → K s → RestsOn Came now (start ++ s) (did event (reply_of made)))
      → ((s : List (Act H)) (made : Result Message NodeError) (heard : Heard) → K s → IsSent Came a Wanted made heard → Q heard (s ++ did event (reply_of made) ∷ []))
      → Rests start K (Asks (λ heard acts. (made : Result Message NodeError) × Just (did event (reply_of made)) acts × IsSent Came a Wanted made heard)) Q
  rests_ask {start} {K} Q event reply_of a Wanted f g = record { rests = go }
    where
      go : (s acts : List (Act H)) (r : Result Heard ClusterError) → K s
          → Asks (λ heard acts. (made : Result Message NodeError) × Just (did event (reply_of made)) acts × IsSent Came a Wanted made heard) r acts
          → AllRest Came now (start ++ s) acts × After start Q r (s ++ acts)
      go s acts (Ok heard) k p =
          (one start s acts (did event (reply_of p.0)) p.1 (f s p.0 k), subst (λ (xs : List (Act H)). Q heard (s ++ xs)) (sym p.1) (g s p.0 heard k p.2))
      go s acts (Err e) k p = (none start s acts p.0, inl p.1)

  pub rests_next : {A B : Type 0} {start : List (Act H)} {K : OfActs H} {First : Part H A} (M : A → OfActs H) {Rest : A → Part H B} {Q : B → OfActs H}
      → Rests start K First M → ((a : A) → Rests start (M a) (Rest a) Q) → Rests start K (Next First Rest) Q
  rests_next {A} {B} {start} {K} {First} M {Rest} {Q} f g = record { rests = go }
    where
      go : (s acts : List (Act H)) (r : Result B ClusterError) → K s → Next First Rest r acts → AllRest Came now (start ++ s) acts × After start Q r (s ++ acts)
      go s acts (Ok b) k (inl h) = absurd h
      go s acts (Err e) k (inl h) = f.rests s acts (Err e) k h
      go s acts r k (inr t) =
          let x : AllRest Came now (start ++ s) t.1.0 × M t.0 (s ++ t.1.0) = f.rests s t.1.0 (Ok t.0) k t.1.3 in
          let y : AllRest Came now (start ++ (s ++ t.1.0)) t.1.1 × After start Q r ((s ++ t.1.0) ++ t.1.1) = (g t.0).rests (s ++ t.1.0) t.1.1 r x.1 t.1.4 in
          subst (λ (xs : List (Act H)). AllRest Came now (start ++ s) xs × After start Q r (s ++ xs)) (sym t.1.2) (
            AllRest-append (start ++ s) t.1.0 t.1.1 x.0 (subst (λ (zs : List (Act H)). AllRest Came now zs t.1.1) (sym (append_assoc start s t.1.0)) y.0),
            subst (λ (zs : List (Act H)). After start Q r zs) (append_assoc s t.1.0 t.1.1) y.1,
          )

  pub rests_until : {S X A : Type 0} {start : List (Act H)} (I : S → OfActs H) {Step : S → Part H X} {way : X → Turn S A} (J : X → OfActs H) {Q : A → OfActs H}
      → ((s : S) → Rests start (I s) (Step s) J)
      → ((x : X) (t : S) (xs : List (Act H)) → way x ≡ onward t → J x xs → I t xs)
      → ((x : X) (a : A) (xs : List (Act H)) → way x ≡ ended a → J x xs → Q a xs)
      → (s : S) → Rests start (I s) (Until Step way s) Q
  rests_until {S} {X} {A} {start} I {Step} {way} J {Q} f g h u = record { rests = λ s acts r k p. go u r acts p s k }
    where
      go : (u : S) (r : Result A ClusterError) (acts : List (Act H)) → Until Step way u r acts → (s : List (Act H)) → I u s
          → AllRest Came now (start ++ s) acts × After start Q r (s ++ acts)
      go u r acts (Until.ends {acts = xs} x a p e) s k =
          let z : AllRest Came now (start ++ s) xs × J x (s ++ xs) = (f u).rests s xs (Ok x) k p in (z.0, h x a (s ++ xs) e z.1)
      go u r acts (Until.stops {acts = xs} e p) s k = (f u).rests s xs (Err e) k p
      go u r acts (Until.goes_on {r = q} {first = xs} {rest = ys} x t p e more) s k =
          let z : AllRest Came now (start ++ s) xs × J x (s ++ xs) = (f u).rests s xs (Ok x) k p in
          let y : AllRest Came now (start ++ (s ++ xs)) ys × After start Q q ((s ++ xs) ++ ys) = go t q ys more (s ++ xs) (g x t (s ++ xs) e z.1) in (
            AllRest-append (start ++ s) xs ys z.0 (subst (λ (zs : List (Act H)). AllRest Came now zs ys) (sym (append_assoc start s xs)) y.0),
            subst (λ (zs : List (Act H)). After start Q q zs) (append_assoc s xs ys) y.1,
          )

  pub rests_weaker : {A : Type 0} {start : List (Act H)} {K L : OfActs H} {P : Part H A} {Q : A → OfActs H} → ((s : List (Act H)) → L s → K s) → Rests start K P Q → Rests start L P Q
  rests_weaker f d = record { rests = λ s acts r k p. d.rests s acts r (f s k) p }

  pub rests_stronger : {A : Type 0} {start : List (Act H)} {K : OfActs H} {P : Part H A} (Q : A → OfActs H) {R : A → OfActs H} → ((a : A) (s : List (Act H)) → Q a s → R a s) → Rests start K P Q → Rests start K P R
  rests_stronger {A} {start} {K} {P} Q {R} f d = record { rests = go }
    where
      go : (s acts : List (Act H)) (r : Result A ClusterError) → K s → P r acts → AllRest Came now (start ++ s) acts × After start R r (s ++ acts)
      go s acts (Ok a) k p = let x : AllRest Came now (start ++ s) acts × Q a (s ++ acts) = d.rests s acts (Ok a) k p in (x.0, f a (s ++ acts) x.1)
      go s acts (Err e) k p = d.rests s acts (Err e) k p

  -- the same from another start
  pub rests_from : {A : Type 0} {K : OfActs H} {P : Part H A} (Q : A → OfActs H)
      → ((start : List (Act H)) → K start → Rests start (λ s. s ≡ []) P (λ a s. Q a (start ++ s))) → Rests [] K P Q
  rests_from {A} {K} {P} Q f = record { rests = go }
    where
      nothing : (s acts : List (Act H)) → AllRest Came now (s ++ []) acts → AllRest Came now s acts
      nothing s acts h = subst (λ (zs : List (Act H)). AllRest Came now zs acts) (append-nil s) h

      go : (s acts : List (Act H)) (r : Result A ClusterError) → K s → P r acts → AllRest Came now s acts × After [] Q r (s ++ acts)
      go s acts (Ok a) k p = let x : AllRest Came now (s ++ []) acts × Q a (s ++ acts) = (f s k).rests [] acts (Ok a) refl p in (nothing s acts x.0, x.1)
      go s acts (Err e) k p =
          let x : AllRest Came now (s ++ []) acts × IsWhy Came e (s ++ acts) = (f s k).rests [] acts (Err e) refl p in (nothing s acts x.0, x.1)
