-- What nodes come to that hear of all and are heard by all thereafter, wherever the news is meanwhile.
use Rattle.std.proofs.Common.{◌≡◌, ◌≢◌, ◌⊎◌, ℕ, true, List, [], Option, Some, None, refl, sym, ◌∙◌, ap, subst, inl, inr}
use Rattle.change_core.specs.declared.changes.Change.{Change}
use Rattle.change_core.specs.Members.{greatest}
use Rattle.change_core.proofs.Members.{same_members, IsGreatest-greatest}
use Rattle.change_core.proofs.Precedence.{same_from_neither}
use Rattle.node_core.specs.Invariant.{IsNode}
use Rattle.node_core.specs.Node.{Node, asserts, own_change, or_birth}
use Rattle.laws.specs.Convergence.{Nodes, IsThere, AreNodes, GathersThenBroadcasts, IsGreatestHeld, HaveConverged}
use Rattle.laws.specs.Spreading.{Hop, Reaches}
use Rattle.laws.proofs.Exchanging.{covers-not_exceeds}
use Rattle.laws.proofs.Spreading as spread
use Rattle.laws.proofs.Spreading.{Covers, Lists, Run, Hears}

-- what a node holds that may be there
abbrev pub members_of : {H : Type 0} → Option (Node H) → List Change
members_of None = []
members_of (Some node) = node.members

pub members-at : {H : Type 0} (nodes : Nodes H) (a : ℕ) (node : Node H) → nodes a ≡ Some node → members_of (nodes a) ≡ node.members
members-at {H} nodes a node e = ap (λ (o : Option (Node H)). members_of o) e

-- the same nodes are there, each with the status that it had of itself
pub record HaveStayed {H : Type 0} (before after : Nodes H) : Type 0 where
  pub came : (a : ℕ) (node : Node H) → after a ≡ Some node → (old : Node H) × (before a ≡ Some old) × ((own_change node).status ≡ (own_change old).status)
  pub goes_on : (a : ℕ) → IsThere before a → IsThere after a

-- one of the nodes holds this change of the address
abbrev pub IsHeldIn : {H : Type 0} → Nodes H → ℕ → Change → Type 0
IsHeldIn {H} nodes z c = (b : ℕ) × (y : Node H) × (nodes b ≡ Some y) × (greatest y.members z ≡ Some c)

-- nodes have converged that hold the same, nothing less than any held before, and of an address without a node what one held
module _ {H : Type 0} (before after : Nodes H) (are : AreNodes after) (stayed : HaveStayed before after)
    (same : (a b : ℕ) (x y : Node H) → after a ≡ Some x → after b ≡ Some y → (z : ℕ) → greatest x.members z ≡ greatest y.members z)
    (no_less : (a b : ℕ) (x y : Node H) → after a ≡ Some x → before b ≡ Some y → (z : ℕ) → Covers (greatest x.members z) (greatest y.members z))
    (of_start : (z a : ℕ) (x : Node H) (c : Change) → before z ≡ None → after a ≡ Some x → greatest x.members z ≡ Some c → IsHeldIn before z c) where
  was : (a : ℕ) (node : Node H) → after a ≡ Some node → IsThere before a
  was a node is = let b = stayed.came a node is in (b.0, b.1)

  others-greatest : (z a : ℕ) (node : Node H) (c : Change) → before z ≡ None → after a ≡ Some node → greatest node.members z ≡ Some c → IsGreatestHeld before z c
  others-greatest z a node c none at_a is =
      let start = of_start z a node c none at_a is in
      record {
        holder = start.0;
        node = start.1;
        there = start.2;
        held = start.3;
        highest = λ b other d b_there b_held.
            covers-not_exceeds c d
            (subst (λ (o : Option Change). Covers o (Some d)) is
            (subst (λ (o : Option Change). Covers (greatest node.members z) o) b_held (no_less a b node other at_a b_there z)));
      }

  others-held : (z a : ℕ) (node : Node H) (c : Change) → before z ≡ None → after a ≡ Some node → IsGreatestHeld before z c → greatest node.members z ≡ Some c
  others-held z a node c none at_a g = by_value (greatest node.members z) refl
    where
      cover : Covers (greatest node.members z) (Some c)
      cover = subst (λ (o : Option Change). Covers (greatest node.members z) o) g.held (no_less a g.holder node g.node at_a g.there z)

      by_value : (o : Option Change) → greatest node.members z ≡ o → greatest node.members z ≡ Some c
      by_value None e = let no : Some c ≡ None = subst (λ (o : Option Change). Covers o (Some c)) e cover in cc
      by_value (Some d) e =
          let is = others-greatest z a node d none at_a e in
          let equal : d ≡ c = same_from_neither d c ((IsGreatest-greatest node.members z d e).about ∙ sym (IsGreatest-greatest g.node.members z c g.held).about)
          (g.highest is.holder is.node d is.there is.held) (is.highest g.holder g.node c g.there g.held) in
          e ∙ ap Some equal

  -- a node and what it holds of itself
  module _ (a : ℕ) (x : Node H) (at_a : after a ≡ Some x) where
    kept : IsNode x
    kept = are.kept a x at_a

    mine : own_change x ≡ kept.held
    mine = ap (λ (o : Option Change). or_birth x.own o) kept.held_is

    held-by_all : (b : ℕ) (y : Node H) → after b ≡ Some y → greatest y.members a ≡ Some (own_change x)
    held-by_all b y at_b = same b a y x at_b at_a a ∙ ap (λ (z : ℕ). greatest x.members z) (sym (are.own a x at_a)) ∙ kept.held_is ∙ ap Some (sym mine)

    status-still : (old : Node H) → before a ≡ Some old → (own_change x).status ≡ (own_change old).status
    status-still old at_old =
        let first = stayed.came a x at_a in
        let both : Some first.0 ≡ Some old = sym first.1 ∙ at_old in
        let is : first.0 ≡ old = cc in
        first.2 ∙ ap (λ (n : Node H). (own_change n).status) is

    asserts-it : asserts (own_change x).status ≡ true
    asserts-it = ap (λ (d : Change). asserts d.status) mine ∙ kept.held_stays

  pub settled : HaveConverged before after
  settled = record {
    nodes_stay = λ a. (stayed.goes_on a, λ there. was a there.0 there.1);
    members_same = λ a b x y at_a at_b. same_members x.members y.members (are.kept a x at_a).one_each (are.kept b y at_b).one_each (same a b x y at_a at_b);
    of_nodes = λ a b x y at_a at_b. held-by_all a x at_a b y at_b;
    status_stays = λ a old x at_old at_a. status-still a x at_a old at_old;
    asserted = asserts-it;
    of_others = λ x a node c none at_a. (others-greatest x a node c none at_a, others-held x a node c none at_a);
  }

module _ {H P : Type 0} (same_place : (p q : P) → (p ≡ q) ⊎ (p ≢ q)) (home : ℕ → P) (Is : P → Type 0) (before after : Nodes H) (M N : Lists P) (hops : List (Hop P))
    (run : Run same_place home Is M hops N)
    (M_is : (a : ℕ) → M (home a) ≡ members_of (before a)) (N_is : (a : ℕ) → N (home a) ≡ members_of (after a))
    (back : (a : ℕ) → Is (home a) → IsThere before a) (on : (a : ℕ) → IsThere before a → Is (home a))
    (homes : (p : P) → Is p → (M p ≡ []) ⊎ ((a : ℕ) × (home a ≡ p)))
    (are : AreNodes after) (stayed : HaveStayed before after)
    (each : (a : ℕ) → IsThere before a → GathersThenBroadcasts home before hops a) where
  abbrev Ends : P → Type 0
  Ends p = (b : ℕ) × IsThere before b × (home b ≡ p)

  hears : (a : ℕ) → IsThere before a → Hears same_place home Is M N hops run Ends (home a)
  hears a there =
      let h = each a there in
      record {
        first = h.first;
        rest = h.rest;
        parts = h.parts;
        hears = λ p is. elim (homes p is) [
          | inl none ↦ inl none
          | inr at ↦ inr (subst (λ (q : P). Reaches q h.first (home a)) at.1 (h.gathers at.0 (back at.0 (subst (λ (q : P). Is q) (sym at.1) is))))
        ];
        is_heard = λ p end. subst (λ (q : P). Reaches (home a) h.rest q) end.2 (h.broadcasts end.0 end.1);
      }

  was-there : (a : ℕ) (node : Node H) → after a ≡ Some node → IsThere before a
  was-there a node is = let b = stayed.came a node is in (b.0, b.1)

  holds-at : (a : ℕ) (node : Node H) (x : ℕ) → after a ≡ Some node → greatest (N (home a)) x ≡ greatest node.members x
  holds-at a node x is = ap (λ (L : List Change). greatest L x) (N_is a ∙ members-at after a node is)

  held-at : (a : ℕ) (node : Node H) (x : ℕ) → before a ≡ Some node → greatest (M (home a)) x ≡ greatest node.members x
  held-at a node x is = ap (λ (L : List Change). greatest L x) (M_is a ∙ members-at before a node is)

  free : (z : ℕ) → before z ≡ None → Is (home z) → ⊥
  free z none is = let there = back z is in let no : None ≡ Some there.0 = sym none ∙ there.1 in cc

  to_owner : (z a : ℕ) → IsThere before z → IsThere before a → greatest (N (home a)) z ≡ greatest (N (home z)) z
  to_owner z a z_there there = spread.owned same_place home Is M N hops run Ends z (hears z z_there) (home a) (on a there) (a, there, refl)

  same_of : (a b : ℕ) (x y : Node H) → after a ≡ Some x → after b ≡ Some y → (z : ℕ) → greatest x.members z ≡ greatest y.members z
  same_of a b x y at_a at_b z = sym (holds-at a x z at_a) ∙ by_node (before z) refl ∙ holds-at b y z at_b
    where
      by_node : (o : Option (Node H)) → before z ≡ o → greatest (N (home a)) z ≡ greatest (N (home b)) z
      by_node None none = spread.unowned same_place home Is M N hops run Ends z (free z none) (home a) (home b)
          (on a (was-there a x at_a)) (on b (was-there b y at_b)) (hears a (was-there a x at_a)) (hears b (was-there b y at_b))
      by_node (Some node) is = to_owner z a (node, is) (was-there a x at_a) ∙ sym (to_owner z b (node, is) (was-there b y at_b))

  heard : (a b : ℕ) (x y : Node H) → after a ≡ Some x → before b ≡ Some y → (z : ℕ) → Covers (greatest x.members z) (greatest y.members z)
  heard a b x y at_a at_b z =
      subst (λ (o : Option Change). Covers o (greatest y.members z)) (holds-at a x z at_a)
      (subst (λ (o : Option Change). Covers (greatest (N (home a)) z) o) (held-at b y z at_b)
      (spread.heard same_place home Is M N hops run Ends (home a) (hears a (was-there a x at_a)) (home b) (on b (y, at_b)) z))

  of_one : (z a : ℕ) (x : Node H) (c : Change) → before z ≡ None → after a ≡ Some x → greatest x.members z ≡ Some c → IsHeldIn before z c
  of_one z a x c none at_a is =
      let start = spread.from_start same_place home Is M N hops run Ends z (free z none) (home a) (on a (was-there a x at_a)) in
      let held : greatest (M start.0) z ≡ Some c = sym start.2 ∙ holds-at a x z at_a ∙ is in
      elim (homes start.0 start.1) [
        | inl empty ↦ let no : None ≡ Some c = sym (ap (λ (L : List Change). greatest L z) empty) ∙ held in cc
        | inr at ↦
            let there = back at.0 (subst (λ (q : P). Is q) (sym at.1) start.1) in
            (at.0, there.0, there.1, sym (held-at at.0 there.0 z there.1) ∙ ap (λ (p : P). greatest (M p) z) at.1 ∙ held)
      ]

  pub ended : HaveConverged before after
  ended = settled before after are stayed same_of heard of_one
