-- One alteration keeps the invariant of a node.
use Rattle.std.proofs.Common.{◌≡◌, ◌≢◌, ℕ, ◌+◌, ◌≤◌, Bool, true, false, cond, eqb, [], ◌∷◌, ◌++◌, Option, Some, None, refl, sym, ◌∙◌, ap, subst, inl, inr, length}
use Rattle.std.specs.Prelude.{nat_lt, option_map}
use Rattle.std.proofs.lemmas.Bool.{eq-eqb, ne_eqb, ltb-true, cases_eq}
use Rattle.change_core.specs.declared.changes.Change.{Change}
use Rattle.change_core.specs.declared.changes.Sourced.{Sourced}
use Rattle.change_core.specs.Members.{greatest, greater, serving, alters}
use Rattle.change_core.proofs.Members.{IsMemberList-members}
use Rattle.change_core.proofs.Order.{in_filter}
use Rattle.detector_core.specs.declared.timers.Timer.{Timer}
use Rattle.detector_core.specs.Timers.{with_timer, without_timer}
use Rattle.gossip_core.specs.declared.pending.Pending.{Pending}
use Rattle.gossip_core.specs.Pending.{put_pending, subject, limit_for}
use Rattle.node_core.specs.Expiring.{timer_of}
use Rattle.node_core.specs.Invariant.{purpose, purpose_of, IsNode}
use Rattle.node_core.specs.Node.{Node, altered, asserts, is_timed, next_status, wait_for, timers_with, members_after}
use Rattle.node_core.proofs.Apart.{AreApart, AreApart-from_each, OnePerAddress-from_apart, apart-filter, apart-put, put-cases}
use Rattle.node_core.proofs.Greatest.{greatest-append, greatest-members}
use Rattle.node_core.proofs.Listed.{In-below}
use Rattle.node_core.proofs.Timed.{timer_of-with, timer_of-with_here, timer_of-without, timer_of-without_here}

-- an alteration

module _ {H : Type 0} (node : Node H) (kept : IsNode node) (s : Sourced) where
  greatest_after : (a : ℕ) → greatest (members_after node s.change) a ≡ greater (greatest node.members a) (cond (eqb s.change.address a) (Some s.change) None)
  greatest_after a = greatest-members (node.members ++ s.change ∷ []) a ∙ greatest-append node.members (s.change ∷ []) a

  greater-new : (o : Option Change) → alters o s.change ≡ true → greater o (Some s.change) ≡ Some s.change
  greater-new None e = refl
  greater-new (Some d) e = ap (λ b. Some (cond b s.change d)) e

  greater-none : (o : Option Change) → greater o None ≡ o
  greater-none None = refl
  greater-none (Some d) = refl

  pub greatest_here : alters (greatest node.members s.change.address) s.change ≡ true → greatest (members_after node s.change) s.change.address ≡ Some s.change
  greatest_here e =
      greatest_after s.change.address ∙ ap (λ b. greater (greatest node.members s.change.address) (cond b (Some s.change) None)) (eq-eqb s.change.address s.change.address refl)
      ∙ greater-new (greatest node.members s.change.address) e

  pub greatest_there : (a : ℕ) → s.change.address ≢ a → greatest (members_after node s.change) a ≡ greatest node.members a
  greatest_there a h =
      greatest_after a ∙ ap (λ b. greater (greatest node.members a) (cond b (Some s.change) None)) (ne_eqb s.change.address a h) ∙ greater-none (greatest node.members a)

  abbrev timer : Timer
  timer = record { address = s.change.address; incarnation = s.change.incarnation; next = next_status s.change.status; deadline = node.moment + wait_for node.config s.change.status }

  timers_there : (a : ℕ) → s.change.address ≢ a → timer_of (timers_with node.own node.config node.moment node.timers s.change) a ≡ timer_of node.timers a
  timers_there a h = by_purpose (is_timed node.own s.change)
    where
      by_purpose : (b : Bool) → timer_of (cond b (with_timer node.timers timer) (without_timer node.timers s.change.address)) a ≡ timer_of node.timers a
      by_purpose true = timer_of-with node.timers timer a h
      by_purpose false = timer_of-without node.timers s.change.address a h

  timers_here : option_map purpose_of (timer_of (timers_with node.own node.config node.moment node.timers s.change) s.change.address) ≡ purpose node.own (Some s.change)
  timers_here = by_purpose (is_timed node.own s.change)
    where
      by_purpose : (b : Bool) → option_map purpose_of (timer_of (cond b (with_timer node.timers timer) (without_timer node.timers s.change.address)) s.change.address)
          ≡ cond b (Some (s.change.incarnation, next_status s.change.status)) None
      by_purpose true = ap (option_map purpose_of) (timer_of-with_here node.timers timer)
      by_purpose false = ap (option_map purpose_of) (timer_of-without_here node.timers s.change.address)

  -- the entry of its address after the change, the node's own one if it is about the node itself
  pub altered_kept : alters (greatest node.members s.change.address) s.change ≡ true → (s.change.address ≡ node.own → asserts s.change.status ≡ true)
      → length (members_after node s.change) ≤ node.config.max_members → IsNode (altered node s)
  altered_kept new stays fits = elim (cases_eq s.change.address node.own) [
    | inl e ↦ with_held s.change (subst (λ (a : ℕ). greatest (members_after node s.change) a ≡ Some s.change) e (greatest_here new)) (stays e)
    | inr h ↦ with_held kept.held (greatest_there node.own h ∙ kept.held_is) kept.held_stays
  ]
    where
      apart : AreApart node.gossip.pending
      apart = AreApart-from_each node.gossip.pending kept.apart

      with_held : (held : Change) → greatest (members_after node s.change) node.own ≡ Some held → asserts held.status ≡ true → IsNode (altered node s)
      with_held held held_is held_stays = record {
        one_each = IsMemberList-members (node.members ++ s.change ∷ []);
        few = fits;
        held = held;
        held_is = held_is;
        held_stays = held_stays;
        current = λ p h. elim (put-cases node.gossip.pending s p apart (In-below _ (put_pending node.gossip.pending s) p h)) [
          | inl e ↦ subst (λ (q : Pending). greatest (members_after node s.change) (subject q) ≡ Some q.sourced.change) (sym e) (greatest_here new)
          | inr k ↦ greatest_there (subject p) (λ j. k.1 (sym j)) ∙ kept.current p k.0
        ];
        apart = OnePerAddress-from_apart _ (apart-filter _ (put_pending node.gossip.pending s) (apart-put node.gossip.pending s apart));
        unspent = λ p h. ltb-true p.count _ (in_filter (λ (q : Pending). nat_lt q.count (limit_for node.gossip.factor (length (serving (members_after node s.change))))) p (put_pending node.gossip.pending s) h).1;
        limit_is = refl;
        timed = λ a. elim (cases_eq s.change.address a) [
          | inl e ↦ subst (λ (x : ℕ). option_map purpose_of (timer_of (timers_with node.own node.config node.moment node.timers s.change) x) ≡ purpose node.own (greatest (members_after node s.change) x)) e
              (timers_here ∙ ap (purpose node.own) (sym (greatest_here new)))
          | inr h ↦ ap (option_map purpose_of) (timers_there a h) ∙ kept.timed a ∙ ap (purpose node.own) (sym (greatest_there a h))
        ];
        others = kept.others;
        probed = kept.probed;
        configured = kept.configured;
        factor_is = kept.factor_is;
        helpers_is = kept.helpers_is;
      }
