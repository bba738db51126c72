-- A node whose entries, news and own entry are true to what the addresses have asserted, and how it stays so.
use Rattle.std.proofs.Common.{◌≡◌, ◌≢◌, ℕ, ◌⊎◌, ◌&&◌, Bool, true, false, cond, not, eqb, List, [], ◌∷◌, ◌++◌, Option, Some, None, refl, sym, ◌∙◌, ap, subst, inl, inr, map, append-nil, append_assoc}
use Rattle.std.proofs.lemmas.Bool.{eqb-true, eq-eqb, ne_eqb, and_parts, not-false}
use Rattle.change_core.specs.declared.changes.Change.{Change}
use Rattle.change_core.specs.declared.changes.Sourced.{Sourced}
use Rattle.change_core.specs.declared.statuses.Status.{Status}
use Rattle.change_core.specs.declared.statuses.Status.TheVariants.{Alive}
use Rattle.change_core.specs.Change.{Exceeds, change_of, exceeds}
use Rattle.change_core.specs.Members.{greatest, greater, members, alters}
use Rattle.change_core.specs.Status.{rank}
use Rattle.change_core.proofs.Precedence.{Exceeds-true, exceeds-true, Exceeds-irrefl, Exceeds-asym, Exceeds-trans, same_from_rank}
use Rattle.gossip_core.specs.declared.pending.Pending.{Pending}
use Rattle.change_core.specs.Ascending.{In}
use Rattle.change_core.proofs.Order.{in_append_left, in_append_right, in_append}
use Rattle.change_core.specs.Refutation.{is_refuted, refutation, refutations, log_one}
use Rattle.detector_core.specs.declared.timers.Timer.{Timer}
use Rattle.detector_core.specs.Probing.{OpenedProbe}
use Rattle.node_core.proofs.Synchronising.{Exceeds-refutation}
use Rattle.node_core.specs.Node.{Node, altered, asserted_by, or_birth, own_change, asserts}
use Rattle.gossip_core.specs.Pending.{put_pending, below}
use Rattle.node_core.specs.Taking.{alteration, altered_by, took, took_all}
use Rattle.node_core.specs.World.{grounds, IsGrounded, IsAssertedAt, last_about, later, refuted_in}
use Rattle.node_core.proofs.Listed.{In-members, In-put, In-below}
use Rattle.node_core.proofs.Greatest.{Agree, greatest-append, greatest-members}
use Rattle.node_core.proofs.Timed.{In-timers_with}
use Rattle.node_core.proofs.Log.{IsSettled, agree-log_one, altered_by-own, took_members, members-twice}

-- a change that is told: it is grounded, and its source's incarnation was asserted
pub record IsTold (A : List Change) (s : Sourced) : Type 0 where
  pub grounded : IsGrounded A s.change
  pub source : IsAssertedAt A s.source s.source_incarnation

-- whatever is told of the changes of A
pub record IsSound {H : Type 0} (A : List Change) (node : Node H) : Type 0 where
  pub settled : IsSettled node
  pub held : Change
  pub held_is : greatest node.members node.own ≡ Some held
  pub last_is : last_about node.own A ≡ Some held
  pub above : (d : Change) → In d A → d.address ≡ node.own → (d ≡ held) ⊎ Exceeds held d
  pub asserting : (d : Change) → In d A → asserts d.status ≡ true
  pub grounded : (c : Change) → In c node.members → IsGrounded A c
  pub news : (p : Pending) → In p node.gossip.pending → IsTold A p.sourced
  pub others : (p : OpenedProbe) → node.probing.running ≡ Some p → p.target ≢ node.own
  pub timed : (t : Timer) → In t node.timers → IsAssertedAt A t.address t.incarnation

-- A' has what A has
abbrev pub Has : List Change → List Change → Type 0
Has A A' = (d : Change) → In d A → In d A'

pub at-more : (A A' : List Change) (a i : ℕ) → Has A A' → IsAssertedAt A a i → IsAssertedAt A' a i
at-more A A' a i more h = (h.0, more h.0 h.1, h.2, h.3)

pub news-more : (A A' : List Change) (s : Sourced) → Has A A' → IsTold A s → IsTold A' s
news-more A A' s more h = record { grounded = more (grounds s.change) h.grounded; source = at-more A A' s.source s.source_incarnation more h.source }

pub last-append : (a : ℕ) (A B : List Change) → last_about a (A ++ B) ≡ later (last_about a B) (last_about a A)
last-append a [] B = none (last_about a B)
  where
    none : (o : Option Change) → o ≡ later o None
    none None = refl
    none (Some c) = refl
last-append a (c ∷ A) B =
    ap (λ o. later o (cond (eqb c.address a) (Some c) None)) (last-append a A B) ∙ assoc (last_about a B) (last_about a A) (cond (eqb c.address a) (Some c) None)
  where
    assoc : (x y z : Option Change) → later (later x y) z ≡ later x (later y z)
    assoc None y z = refl
    assoc (Some d) y z = refl

pub last-one : (a : ℕ) (c : Change) → c.address ≡ a → last_about a (c ∷ []) ≡ Some c
last-one a c e = ap (λ b. later None (cond b (Some c) None)) (eq-eqb c.address a e)

pub last-others : (a : ℕ) (B : List Change) → ((d : Change) → In d B → d.address ≢ a) → last_about a B ≡ None
last-others a [] h = refl
last-others a (c ∷ B) h =
    ap (λ o. later o (cond (eqb c.address a) (Some c) None)) (last-others a B (λ d k. h d (inr k)))
    ∙ ap (λ b. later None (cond b (Some c) None)) (ne_eqb c.address a (h c (inl refl)))

-- the last about an address is one of the list, about it
pub last-In : (a : ℕ) (A : List Change) (c : Change) → last_about a A ≡ Some c → In c A × (c.address ≡ a)
last-In a [] c h = cc
last-In a (d ∷ A) c h = by_last (last_about a A) refl h (λ k. last-In a A c k)
  where
    by_here : (b : Bool) → eqb d.address a ≡ b → cond b (Some d) None ≡ Some c → In c (d ∷ A) × (c.address ≡ a)
    by_here true e k = let same : d ≡ c = cc in (inl (sym same), subst (λ (x : Change). x.address ≡ a) same (eqb-true d.address a e))
    by_here false e k = cc

    by_last : (o : Option Change) → last_about a A ≡ o → later o (cond (eqb d.address a) (Some d) None) ≡ Some c
        → (last_about a A ≡ Some c → In c A × (c.address ≡ a)) → In c (d ∷ A) × (c.address ≡ a)
    by_last None e k again = by_here (eqb d.address a) refl k
    by_last (Some x) e k again = let r = again (e ∙ k) in (inr r.0, r.1)

-- what asserts stands on itself
pub grounds-asserting : (c : Change) → asserts c.status ≡ true → grounds c ≡ c
grounds-asserting c h = ap (λ b. cond b c (record c { status = Alive })) h

-- every grounded change has an incarnation that was asserted
pub at-grounded : (A : List Change) (c : Change) → IsGrounded A c → IsAssertedAt A c.address c.incarnation
at-grounded A c h = (grounds c, h, about (asserts c.status), at_it (asserts c.status))
  where
    about : (b : Bool) → (cond b c (record c { status = Alive })).address ≡ c.address
    about true = refl
    about false = refl

    at_it : (b : Bool) → (cond b c (record c { status = Alive })).incarnation ≡ c.incarnation
    at_it true = refl
    at_it false = refl

module _ {H : Type 0} (A : List Change) (node : Node H) (sound : IsSound A node) where
  pub held_about : sound.held.address ≡ node.own
  held_about = (last-In node.own A sound.held sound.last_is).1

  pub held_in : In sound.held A
  held_in = (last-In node.own A sound.held sound.last_is).0

  pub own_change_is : own_change node ≡ sound.held
  own_change_is = ap (or_birth node.own) sound.held_is

  -- the node's own incarnation was asserted
  pub own_asserted : IsAssertedAt A node.own (own_change node).incarnation
  own_asserted = (sound.held, held_in, held_about, ap (λ (c : Change). c.incarnation) (sym own_change_is))

  -- the node after an alteration by a change that is told
  pub altered_sound : (A' : List Change) (s : Sourced) → Has A A' → IsTold A' s → (held : Change)
      → greatest (altered node s).members node.own ≡ Some held → last_about node.own A' ≡ Some held
      → ((d : Change) → In d A' → d.address ≡ node.own → (d ≡ held) ⊎ Exceeds held d)
      → ((d : Change) → In d A' → asserts d.status ≡ true)
      → IsSound A' (altered node s)
  altered_sound A' s more news held held_is last_is above asserting = record {
    settled = members-twice (node.members ++ s.change ∷ []);
    held = held;
    held_is = held_is;
    last_is = last_is;
    above = above;
    asserting = asserting;
    grounded = λ c h. elim (in_append c node.members (s.change ∷ []) (In-members (node.members ++ s.change ∷ []) c h)) [
      | inl k ↦ more (grounds c) (sound.grounded c k)
      | inr k ↦ of_one c k
    ];
    news = λ p h. elim (In-put node.gossip.pending s p (In-below _ (put_pending node.gossip.pending s) p h)) [
      | inl e ↦ subst (λ (x : Pending). IsTold A' x.sourced) (sym e) news
      | inr k ↦ news-more A A' p.sourced more (sound.news p k)
    ];
    others = sound.others;
    timed = λ t h. elim (In-timers_with node.own node.config node.moment node.timers s.change t h) [
      | inl k ↦ at-more A A' t.address t.incarnation more (sound.timed t k)
      | inr e ↦ let at = at-grounded A' s.change news.grounded in (at.0, at.1, at.2 ∙ sym e.0, at.3 ∙ sym e.1)
    ];
  }
    where
      of_one : (c : Change) → In c (s.change ∷ []) → IsGrounded A' c
      of_one c (inl e) = subst (λ (x : Change). IsGrounded A' x) (sym e) news.grounded
      of_one c (inr k) = absurd k

  greatest_after : (c : Change) → greatest (members (node.members ++ c ∷ [])) node.own ≡ greater (Some sound.held) (cond (eqb c.address node.own) (Some c) None)
  greatest_after c = greatest-members (node.members ++ c ∷ []) node.own ∙ greatest-append node.members (c ∷ []) node.own ∙ ap (λ o. greater o (cond (eqb c.address node.own) (Some c) None)) sound.held_is

  -- an alteration by a change about another
  pub altered_other : (s : Sourced) → IsTold A s → s.change.address ≢ node.own → IsSound A (altered node s)
  altered_other s news other =
      altered_sound A s (λ d h. h) news sound.held
      (greatest_after s.change ∙ ap (λ b. greater (Some sound.held) (cond b (Some s.change) None)) (ne_eqb s.change.address node.own other))
      sound.last_is sound.above sound.asserting

  -- an alteration that the node asserts
  pub altered_own : (c : Change) → c.address ≡ node.own → Exceeds c sound.held → asserts c.status ≡ true → IsSound (A ++ c ∷ []) (altered node (asserted_by node.own c))
  altered_own c about above asserting =
      altered_sound (A ++ c ∷ []) (asserted_by node.own c) (λ d h. in_append_left d A (c ∷ []) h)
      (record {
        grounded = subst (λ (x : Change). In x (A ++ c ∷ [])) (sym (grounds-asserting c asserting)) here;
        source = (c, here, about, refl);
      })
      c
      (greatest_after c ∙ ap (λ b. greater (Some sound.held) (cond b (Some c) None)) (eq-eqb c.address node.own about) ∙ ap (λ b. Some (cond b c sound.held)) (exceeds-true c sound.held above))
      (last-append node.own A (c ∷ []) ∙ ap (λ o. later o (last_about node.own A)) (last-one node.own c about))
      (λ d h e. elim (in_append d A (c ∷ []) h) [
        | inl k ↦ elim (sound.above d k e) [ inl same ↦ inr (subst (λ (x : Change). Exceeds c x) (sym same) above) | inr below ↦ inr (Exceeds-trans c sound.held d above below) ]
        | inr k ↦ inl (of_one d k)
      ])
      (λ d h. elim (in_append d A (c ∷ []) h) [ inl k ↦ sound.asserting d k | inr k ↦ subst (λ (x : Change). asserts x.status ≡ true) (sym (of_one d k)) asserting ])
    where
      here : In c (A ++ c ∷ [])
      here = in_append_right c A (c ∷ []) (inl refl)

      of_one : (d : Change) → In d (c ∷ []) → d ≡ c
      of_one d (inl e) = e
      of_one d (inr k) = absurd k

-- what is asserted of other addresses leaves a node sound
pub sound-more : {H : Type 0} (A B : List Change) (node : Node H) → IsSound A node → ((d : Change) → In d B → d.address ≢ node.own) → ((d : Change) → In d B → asserts d.status ≡ true) → IsSound (A ++ B) node
sound-more {H} A B node sound apart asserting =
    let more : Has A (A ++ B) = λ d k. in_append_left d A B k in
    record {
      settled = sound.settled;
      held = sound.held;
      held_is = sound.held_is;
      last_is = last-append node.own A B ∙ ap (λ o. later o (last_about node.own A)) (last-others node.own B apart) ∙ sound.last_is;
      above = λ d h e. elim (in_append d A B h) [ inl k ↦ sound.above d k e | inr k ↦ absurd (apart d k e) ];
      asserting = λ d h. elim (in_append d A B h) [ inl k ↦ sound.asserting d k | inr k ↦ asserting d k ];
      grounded = λ c h. more (grounds c) (sound.grounded c h);
      news = λ p h. news-more A (A ++ B) p.sourced more (sound.news p h);
      others = sound.others;
      timed = λ t h. at-more A (A ++ B) t.address t.incarnation more (sound.timed t h);
    }

pub sound-nil : {H : Type 0} (A : List Change) (node : Node H) → IsSound A node → IsSound (A ++ []) node
sound-nil A node sound = subst (λ (L : List Change). IsSound L node) (sym (append-nil A)) sound

-- a change of the node's own status that exceeds its entry was never asserted
no_such : (A : List Change) (held c : Change) → ((d : Change) → In d A → d.address ≡ held.address → (d ≡ held) ⊎ Exceeds held d) → asserts held.status ≡ true
    → IsGrounded A c → c.address ≡ held.address → Exceeds c held → rank c.status ≡ rank held.status → ⊥
no_such A held c above asserting grounded about exceeding same =
    let status : c.status ≡ held.status = same_from_rank c.status held.status same in
    let mine : asserts c.status ≡ true = subst (λ (s : Status). asserts s ≡ true) (sym status) asserting in
    let among : In c A = subst (λ (x : Change). In x A) (grounds-asserting c mine) grounded in
    elim (above c among about) [
      | inl e ↦ Exceeds-irrefl held (subst (λ (x : Change). Exceeds x held) e exceeding)
      | inr below ↦ Exceeds-asym c held exceeding below
    ]

module _ {H : Type 0} (A : List Change) (node : Node H) (sound : IsSound A node) (s : Sourced) (news : IsTold A s) where
  took_plain : is_refuted node.own (Some sound.held) s.change ≡ false → (b : Bool) → alters (greatest node.members s.change.address) s.change ≡ b
      → IsSound (A ++ []) (altered_by node (cond b (Some s) None))
  took_plain kept false e = sound-nil A node sound
  took_plain kept true e = sound-nil A (altered node s) (altered_other A node sound s news other)
    where
      other : s.change.address ≢ node.own
      other about =
          let exceeding : exceeds s.change sound.held ≡ true = subst (λ (g : Option Change). alters g s.change ≡ true) (ap (λ (a : ℕ). greatest node.members a) about ∙ sound.held_is) e in
          let rest : (exceeds s.change sound.held && not (eqb (rank s.change.status) (rank sound.held.status))) ≡ false
          = subst (λ (b : Bool). (b && (exceeds s.change sound.held && not (eqb (rank s.change.status) (rank sound.held.status)))) ≡ false) (eq-eqb s.change.address node.own about) kept in
          let same : not (eqb (rank s.change.status) (rank sound.held.status)) ≡ false
          = subst (λ (b : Bool). (b && not (eqb (rank s.change.status) (rank sound.held.status))) ≡ false) exceeding rest in
          no_such A sound.held s.change (λ d h k. sound.above d h (k ∙ held_about A node sound)) (sound.asserting sound.held (held_in A node sound)) news.grounded
          (about ∙ sym (held_about A node sound)) (Exceeds-true s.change sound.held exceeding)
          (eqb-true (rank s.change.status) (rank sound.held.status) (not-false _ same))

  took_held : (b : Bool) → is_refuted node.own (Some sound.held) s.change ≡ b
      → IsSound (A ++ cond b (refutation sound.held s.change ∷ []) [])
      (altered_by node (cond b (Some (asserted_by node.own (refutation sound.held s.change))) (cond (alters (greatest node.members s.change.address) s.change) (Some s) None)))
  took_held false e = took_plain e (alters (greatest node.members s.change.address) s.change) refl
  took_held true e =
      let parts = and_parts _ _ e in
      let more = and_parts _ _ parts.1 in
      altered_own A node sound (refutation sound.held s.change) (held_about A node sound)
      (Exceeds-refutation sound.held s.change (Exceeds-true s.change sound.held more.0))
      (sound.asserting sound.held (held_in A node sound))

  -- the node once a change that is told is taken, with its refutation asserted
  pub took_sound : IsSound (A ++ refutations node.own (greatest node.members node.own) s.change) (took node s)
  took_sound =
      subst (λ (g : Option Change). IsSound (A ++ refutations node.own g s.change)
      (altered_by node (cond (is_refuted node.own g s.change) (Some (asserted_by node.own (refutation (or_birth node.own g) s.change))) (cond (alters (greatest node.members s.change.address) s.change) (Some s) None))))
      (sym sound.held_is) (took_held (is_refuted node.own (Some sound.held) s.change) refl)

-- the refutations depend on the greatest changes alone
refuted_in-agree : (own : ℕ) (L L' : List Change) (cs : List Change) → Agree L L' → refuted_in own L cs ≡ refuted_in own L' cs
refuted_in-agree own L L' [] h = refl
refuted_in-agree own L L' (c ∷ cs) h =
    ap (λ g. refutations own g c ++ refuted_in own (log_one own L c) cs) (h own)
    ∙ ap (λ rs. refutations own (greatest L' own) c ++ rs) (refuted_in-agree own (log_one own L c) (log_one own L' c) cs (agree-log_one own L L' c h))

pub took_all_sound : {H : Type 0} (A : List Change) (node : Node H) (ss : List Sourced) → IsSound A node → ((s : Sourced) → In s ss → IsTold A s)
    → IsSound (A ++ refuted_in node.own node.members (map change_of ss)) (took_all node ss)
took_all_sound A node [] sound news = sound-nil A node sound
took_all_sound {H} A node (s ∷ ss) sound news =
    let R = refutations node.own (greatest node.members node.own) s.change in
    let L = log_one node.own node.members s.change in
    let next : IsSound (A ++ R) (took node s) = took_sound A node sound s (news s (inl refl)) in
    let rest : IsSound ((A ++ R) ++ refuted_in (took node s).own (took node s).members (map change_of ss)) (took_all (took node s) ss)
    = took_all_sound (A ++ R) (took node s) ss next (λ t h. news-more A (A ++ R) t (λ d k. in_append_left d A R k) (news t (inr h))) in
    let same : refuted_in (took node s).own (took node s).members (map change_of ss) ≡ refuted_in node.own L (map change_of ss)
    = ap (λ (o : ℕ). refuted_in o (took node s).members (map change_of ss)) (altered_by-own node (alteration node s))
    ∙ ap (λ (M : List Change). refuted_in node.own M (map change_of ss)) (took_members node s sound.settled)
    ∙ refuted_in-agree node.own (members L) L (map change_of ss) (greatest-members L) in
    subst (λ (B : List Change). IsSound B (took_all (took node s) ss)) (append_assoc A R _ ∙ ap (λ (B : List Change). A ++ (R ++ B)) same) rest
