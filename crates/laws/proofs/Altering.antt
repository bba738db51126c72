-- What a call does to what a node holds and passes on, and to its timers.
use Rattle.std.proofs.Common.{◌≡◌, ◌≢◌, ◌⊎◌, ℕ, ◌+◌, ◌&&◌, Bool, true, false, cond, not, eqb, List, [], ◌∷◌, ◌++◌, Option, Some, None, refl, sym, ◌∙◌, ap, subst, inl, inr}
use Rattle.std.proofs.lemmas.Bool.{eqb-true, eqb-false, eq-eqb, ne_eqb, not-false}
use Rattle.std.proofs.lemmas.List.Elements.{Contains-append_left}
use Rattle.change_core.specs.declared.changes.Change.{Change}
use Rattle.change_core.specs.declared.changes.Sourced.{Sourced}
use Rattle.change_core.specs.declared.statuses.Status.{Status}
use Rattle.change_core.specs.Ascending.{In}
use Rattle.change_core.specs.Change.{Exceeds, exceeds}
use Rattle.change_core.specs.Members.{greatest, greater, members, alters}
use Rattle.change_core.specs.Refutation.{is_refuted, refutation}
use Rattle.change_core.specs.Status.{rank}
use Rattle.change_core.proofs.Members.{greatest-append, greatest-members}
use Rattle.change_core.proofs.News.{greatest-news, greatest-others}
use Rattle.change_core.proofs.Order.{in_append}
use Rattle.change_core.proofs.Precedence.{Exceeds-true, Exceeds-irrefl, same_from_neither, same_from_rank}
use Rattle.detector_core.specs.declared.timers.Timer.{Timer}
use Rattle.detector_core.specs.Timers.{with_timer, without_timer}
use Rattle.gossip_core.specs.declared.pending.Pending.{Pending}
use Rattle.gossip_core.specs.Pending.{put_pending, counted}
use Rattle.node_core.specs.declared.configs.Config.{Config}
use Rattle.node_core.specs.Expiring.{timer_of}
use Rattle.node_core.specs.Messages.{told}
use Rattle.node_core.specs.Node.{Node, altered, asserted_by, asserts, has_deadline, is_timed, next_status, or_birth, wait_for}
use Rattle.node_core.specs.Taking.{alteration, altered_by, took, took_all}
use Rattle.node_core.proofs.Listed.{address-greatest, In-below, In-counted, In-members, In-put}
use Rattle.node_core.proofs.Timed.{timer_of-with, timer_of-with_here, timer_of-without}
use Rattle.laws.specs.Witnesses.{Holds}
use Rattle.laws.proofs.Rising.{Rises, rises, rises-then}

-- a node holds itself, as alive or leave
abbrev pub HoldsItself : {H : Type 0} → Node H → Type 0
HoldsItself node = (held : Change) × (greatest node.members node.own ≡ Some held) × (asserts held.status ≡ true)

-- the timer of an entry, which old held already with this timer, or which new took, and set the timer for
abbrev pub TimerFrom : {H : Type 0} → Node H → Node H → ℕ → Change → Timer → Type 0
TimerFrom old new a c t =
    ((greatest old.members a ≡ Some c) × (timer_of old.timers a ≡ Some t))
    ⊎ ((greatest old.members a ≢ Some c) × (t.deadline ≡ new.moment + wait_for new.config c.status))

-- from old to new a node put in changes of which Q holds
pub record Alters {H : Type 0} (Q : Change → Type 0) (old new : Node H) : Type 0 where
  pub own_is : new.own ≡ old.own
  pub config_is : new.config ≡ old.config
  pub known : (c : Change) → Holds new c → Holds old c ⊎ Q c
  pub rises : (a : ℕ) (held : Change) → greatest old.members a ≡ Some held → Rises old.members new.members a held
  pub timers : (a : ℕ) (c : Change) (t : Timer) → a ≢ old.own → greatest new.members a ≡ Some c → has_deadline c.status ≡ true → timer_of new.timers a ≡ Some t → TimerFrom old new a c t
  pub itself : HoldsItself old → HoldsItself new

still : (L : List Change) (a : ℕ) (held : Change) → greatest L a ≡ Some held → Rises L L a held
still L a held e = record { now = held; now_is = e; no_less = Exceeds-irrefl held }

-- what no alteration changes, no batch does
pub took_all-kept : {H X : Type 0} (f : Node H → X) → ((node : Node H) (s : Sourced) → f (altered node s) ≡ f node) → (node : Node H) (ss : List Sourced) → f (took_all node ss) ≡ f node
took_all-kept f kept node [] = refl
took_all-kept {H} f kept node (s ∷ ss) = took_all-kept f kept (took node s) ss ∙ of_one (alteration node s)
  where
    of_one : (o : Option Sourced) → f (altered_by node o) ≡ f node
    of_one None = refl
    of_one (Some t) = kept node t

module _ {H : Type 0} (Q : Change → Type 0) where
  -- nothing was put in
  pub Alters-none : (old new : Node H) → new.own ≡ old.own → new.config ≡ old.config → new.members ≡ old.members → new.timers ≡ old.timers
      → ((c : Change) → Holds new c → Holds old c) → Alters Q old new
  Alters-none old new o c m t known = record {
    own_is = o;
    config_is = c;
    known = λ d h. inl (known d h);
    rises = λ a held e. subst (λ (M : List Change). Rises old.members M a held) (sym m) (still old.members a held e);
    timers = λ a d u other e has k. inl (ap (λ (M : List Change). greatest M a) (sym m) ∙ e, ap (λ (ts : List Timer). timer_of ts a) (sym t) ∙ k);
    itself = λ h. (h.0, ap (λ (a : ℕ). greatest new.members a) o ∙ ap (λ (M : List Change). greatest M old.own) m ∙ h.1, h.2);
  }

  pub Alters-same : (old new : Node H) → new ≡ old → Alters Q old new
  Alters-same old new e = subst (λ (n : Node H). Alters Q old n) (sym e) (Alters-none old old refl refl refl refl (λ c h. h))

  -- one change after another, at one moment
  pub Alters-then : (old middle new : Node H) → Alters Q old middle → Alters Q middle new → new.moment ≡ middle.moment → Alters Q old new
  Alters-then old middle new first next moment = record {
    own_is = next.own_is ∙ first.own_is;
    config_is = next.config_is ∙ first.config_is;
    known = λ c h. elim (next.known c h) [ inl k ↦ first.known c k | inr q ↦ inr q ];
    rises = λ a held e. let one = first.rises a held e in rises-then old.members middle.members new.members a held one (next.rises a one.now one.now_is);
    timers = λ a c t other e has k. elim (next.timers a c t (λ s. other (s ∙ first.own_is)) e has k) as (λ v. TimerFrom old new a c t) [
      | inl held ↦ elim (first.timers a c t other held.0 has held.1) as (λ v. TimerFrom old new a c t) [
        | inl same ↦ inl same
        | inr set ↦ inr (set.0, set.1 ∙ ap (λ (m : ℕ). m + wait_for middle.config c.status) (sym moment) ∙ ap (λ (f : Config). new.moment + wait_for f c.status) (sym next.config_is))
      ]
      | inr set ↦ inr (λ h. set.0 (unaltered a c h e), set.1)
    ];
    itself = λ h. next.itself (first.itself h);
  }
    where
      -- what is held at both ends is held between
      unaltered : (a : ℕ) (c : Change) → greatest old.members a ≡ Some c → greatest new.members a ≡ Some c → greatest middle.members a ≡ Some c
      unaltered a c h e =
          let one = first.rises a c h in
          let two = next.rises a one.now one.now_is in
          let both : Some two.now ≡ Some c = sym two.now_is ∙ e in
          let same : two.now ≡ c = cc in
          by_order one.now one.now_is one.no_less (subst (λ (x : Change). Exceeds one.now x → ⊥) same two.no_less)
        where
          by_order : (now : Change) → greatest middle.members a ≡ Some now → (Exceeds c now → ⊥) → (Exceeds now c → ⊥) → greatest middle.members a ≡ Some c
          by_order now is below above = is ∙ ap Some (same_from_neither now c (address-greatest middle.members a now is ∙ sym (address-greatest old.members a c h)) above below)

  -- one change was put in, which of another is news, and of itself asserts
  module _ (node : Node H) (s : Sourced) (q : Q s.change) (news : s.change.address ≢ node.own → alters (greatest node.members s.change.address) s.change ≡ true)
      (own : s.change.address ≡ node.own → asserts s.change.status ≡ true) where
    abbrev more : List Change
    more = node.members ++ s.change ∷ []

    altered_known : (c : Change) → Holds (altered node s) c → Holds node c ⊎ Q c
    altered_known c (inl h) = elim (in_append c node.members (s.change ∷ []) (In-members more c h)) [ inl k ↦ inl (inl k) | inr k ↦ inr (of_one k) ]
      where
        of_one : In c (s.change ∷ []) → Q c
        of_one (inl e) = subst Q (sym e) q
        of_one (inr k) = absurd k
    altered_known c (inr (p, h, e)) = elim (In-put node.gossip.pending s p (In-below _ (put_pending node.gossip.pending s) p h)) [
      | inl f ↦ inr (subst Q (ap (λ (x : Pending). x.sourced.change) (sym f) ∙ e) q)
      | inr k ↦ inl (inr (p, k, e))
    ]

    altered_rises : (a : ℕ) (held : Change) → greatest node.members a ≡ Some held → Rises node.members (members more) a held
    altered_rises a held e = rises node.members more a held (λ c h. Contains-append_left node.members (s.change ∷ []) c h) e

    -- of the address that the change is about
    timer_here : (c : Change) (t : Timer) → s.change.address ≢ node.own → greatest (members more) s.change.address ≡ Some c → has_deadline c.status ≡ true
        → timer_of (altered node s).timers s.change.address ≡ Some t → TimerFrom node (altered node s) s.change.address c t
    timer_here c t other e has k =
        let held : Some s.change ≡ Some c = sym (greatest-members more s.change.address ∙ greatest-news node.members s.change (news other)) ∙ e in
        let same : s.change ≡ c = cc in
        subst (λ (x : Change). TimerFrom node (altered node s) s.change.address x t) same
        (inr (unheld, set (subst (λ (x : Change). has_deadline x.status ≡ true) (sym same) has)))
      where
        unheld : greatest node.members s.change.address ≢ Some s.change
        unheld h = Exceeds-irrefl s.change (Exceeds-true s.change s.change (sym (ap (λ o. alters o s.change) h) ∙ news other))

        set : has_deadline s.change.status ≡ true → t.deadline ≡ node.moment + wait_for node.config s.change.status
        set d =
            let T : Timer = record { address = s.change.address; incarnation = s.change.incarnation; next = next_status s.change.status; deadline = node.moment + wait_for node.config s.change.status } in
            let timed : is_timed node.own s.change ≡ true = ap (λ b. b && not (eqb s.change.address node.own)) d ∙ ap not (ne_eqb s.change.address node.own other) in
            let both : Some T ≡ Some t = sym (ap (λ b. timer_of (cond b (with_timer node.timers T) (without_timer node.timers s.change.address)) s.change.address) timed ∙ timer_of-with_here node.timers T) ∙ k in
            let is : T ≡ t = cc in
            ap (λ (u : Timer). u.deadline) (sym is)

    -- of any other address the timer stays
    timer_there : (a : ℕ) → s.change.address ≢ a → timer_of (altered node s).timers a ≡ timer_of node.timers a
    timer_there a apart = by_timed (is_timed node.own s.change)
      where
        by_timed : (b : Bool) → timer_of (cond b (with_timer node.timers (record { address = s.change.address; incarnation = s.change.incarnation; next = next_status s.change.status; deadline = node.moment + wait_for node.config s.change.status }))
            (without_timer node.timers s.change.address)) a ≡ timer_of node.timers a
        by_timed true = timer_of-with node.timers _ a apart
        by_timed false = timer_of-without node.timers s.change.address a apart

    altered_timers : (a : ℕ) (c : Change) (t : Timer) → a ≢ node.own → greatest (members more) a ≡ Some c → has_deadline c.status ≡ true
        → timer_of (altered node s).timers a ≡ Some t → TimerFrom node (altered node s) a c t
    altered_timers a c t other e has k = by_address (eqb s.change.address a) refl
      where
        by_address : (b : Bool) → eqb s.change.address a ≡ b → TimerFrom node (altered node s) a c t
        by_address true h =
            let about : s.change.address ≡ a = eqb-true s.change.address a h in
            subst (λ (x : ℕ). TimerFrom node (altered node s) x c t) about
            (timer_here c t (λ i. other (sym about ∙ i)) (ap (λ (x : ℕ). greatest (members more) x) about ∙ e) has (ap (λ (x : ℕ). timer_of (altered node s).timers x) about ∙ k))
        by_address false h =
            let apart : s.change.address ≢ a = eqb-false s.change.address a h in
            inl (sym (greatest-members more a ∙ greatest-others node.members s.change a apart) ∙ e, sym (timer_there a apart) ∙ k)

    -- what it holds of itself is what it held, or what it asserts
    altered_itself : HoldsItself node → HoldsItself (altered node s)
    altered_itself h = by_address (eqb s.change.address node.own) refl
      where
        holds : greatest (members more) node.own ≡ greater (greatest node.members node.own) (cond (eqb s.change.address node.own) (Some s.change) None)
        holds = greatest-members more node.own ∙ greatest-append node.members (s.change ∷ []) node.own

        either : (b : Bool) → asserts s.change.status ≡ true → (held : Change) × (Some (cond b s.change h.0) ≡ Some held) × (asserts held.status ≡ true)
        either true a = (s.change, refl, a)
        either false a = (h.0, refl, h.2)

        by_address : (b : Bool) → eqb s.change.address node.own ≡ b → HoldsItself (altered node s)
        by_address true e =
            let r = either (exceeds s.change h.0) (own (eqb-true s.change.address node.own e)) in
            (r.0, holds ∙ ap (λ b. greater (greatest node.members node.own) (cond b (Some s.change) None)) e ∙ ap (λ o. greater o (Some s.change)) h.1 ∙ r.1, r.2)
        by_address false e =
            (h.0, holds ∙ ap (λ b. greater (greatest node.members node.own) (cond b (Some s.change) None)) e ∙ ap (λ o. greater o None) h.1, h.2)

    pub Alters-altered : Alters Q node (altered node s)
    Alters-altered = record {
      own_is = refl;
      config_is = refl;
      known = altered_known;
      rises = altered_rises;
      timers = altered_timers;
      itself = altered_itself;
    }

  -- a message takes what it tells off the list of what is passed on
  pub Alters-told : (node : Node H) (target : ℕ) → Alters Q node (told node target)
  Alters-told node target = Alters-none node (told node target) refl refl refl refl (λ c h. of_told c h)
    where
      of_told : (c : Change) → Holds (told node target) c → Holds node c
      of_told c (inl h) = inl h
      of_told c (inr (p, h, e)) =
          let r = In-counted target node.config.per_message node.gossip.pending p (In-below node.gossip.limit (counted target node.config.per_message node.gossip.pending) p h) in
          inr (r.0, r.1, ap (λ (x : Sourced). x.change) r.2 ∙ e)

  -- one given change is taken
  module _ (node : Node H) (s : Sourced) (q : Q s.change) (asserted : (c : Change) → asserts c.status ≡ true → Q c) (itself : HoldsItself node) where
    abbrev held : Change
    held = itself.0

    took_plain : is_refuted node.own (Some held) s.change ≡ false → (b : Bool) → alters (greatest node.members s.change.address) s.change ≡ b
        → Alters Q node (altered_by node (cond b (Some s) None))
    took_plain kept false e = Alters-same node node refl
    took_plain kept true e = Alters-altered node s q (λ other. e) own
      where
        own : s.change.address ≡ node.own → asserts s.change.status ≡ true
        own about =
            let exceeding : exceeds s.change held ≡ true = subst (λ (g : Option Change). alters g s.change ≡ true) (ap (λ (a : ℕ). greatest node.members a) about ∙ itself.1) e in
            let rest : (exceeds s.change held && not (eqb (rank s.change.status) (rank held.status))) ≡ false
            = subst (λ (b : Bool). (b && (exceeds s.change held && not (eqb (rank s.change.status) (rank held.status)))) ≡ false) (eq-eqb s.change.address node.own about) kept in
            let same : not (eqb (rank s.change.status) (rank held.status)) ≡ false
            = subst (λ (b : Bool). (b && not (eqb (rank s.change.status) (rank held.status))) ≡ false) exceeding rest in
            subst (λ (x : Status). asserts x ≡ true) (sym (same_from_rank s.change.status held.status (eqb-true (rank s.change.status) (rank held.status) (not-false _ same)))) itself.2

    took_held : (b : Bool) → is_refuted node.own (Some held) s.change ≡ b
        → Alters Q node (altered_by node (cond b (Some (asserted_by node.own (refutation held s.change))) (cond (alters (greatest node.members s.change.address) s.change) (Some s) None)))
    took_held false e = took_plain e (alters (greatest node.members s.change.address) s.change) refl
    took_held true e = Alters-altered node (asserted_by node.own (refutation held s.change)) (asserted (refutation held s.change) itself.2)
        (λ other. absurd (other (address-greatest node.members node.own held itself.1))) (λ about. itself.2)

    Alters-took : Alters Q node (took node s)
    Alters-took =
        subst (λ (g : Option Change). Alters Q node
        (altered_by node (cond (is_refuted node.own g s.change) (Some (asserted_by node.own (refutation (or_birth node.own g) s.change))) (cond (alters (greatest node.members s.change.address) s.change) (Some s) None))))
        (sym itself.1) (took_held (is_refuted node.own (Some held) s.change) refl)

  -- a batch is taken
  pub Alters-took_all : (node : Node H) (ss : List Sourced) → ((s : Sourced) → In s ss → Q s.change) → ((c : Change) → asserts c.status ≡ true → Q c) → HoldsItself node
      → Alters Q node (took_all node ss)
  Alters-took_all node [] given asserted itself = Alters-same node node refl
  Alters-took_all node (s ∷ ss) given asserted itself =
      let one = Alters-took node s (given s (inl refl)) asserted itself in
      Alters-then node (took node s) (took_all (took node s) ss) one
      (Alters-took_all (took node s) ss (λ t h. given t (inr h)) asserted (one.itself itself))
      (took_all-kept (λ (n : Node H). n.moment) (λ n t. refl) (took node s) ss)
