-- Nodes that tell one another what they hold come to hold the same.
use Rattle.std.proofs.Common.{◌≡◌, ◌≢◌, ◌⊎◌, ℕ, Bool, true, cond, List, [], ◌∷◌, ◌++◌, Option, Some, refl, sym, ◌∙◌, ap, subst, inl, inr}
use Rattle.std.proofs.lemmas.Bool.{cases_eq, eq-eqb, ne_eqb}
use Rattle.change_core.specs.declared.changes.Change.{Change}
use Rattle.change_core.specs.Ascending.{In}
use Rattle.change_core.specs.Members.{greatest, IsMemberList}
use Rattle.change_core.proofs.SameChanges.{HaveSameChanges-refl}
use Rattle.node_core.specs.Invariant.{IsNode}
use Rattle.node_core.specs.Node.{Node, own_change}
use Rattle.node_core.specs.World.{placed_at}
use Rattle.node_core.proofs.Agreeing.{nodes_agree}
use Rattle.laws.specs.Convergence.{Nodes, IsThere, AreNodes, Takes, Exchange, ExchangeStep, ExchangeRun, NodesConverge, IsSweep, SweepsConverge, ConvergedAgree, at_itself}
use Rattle.laws.specs.Spreading.{Reaches}
use Rattle.laws.proofs.Staying.{members_of, members-at, HaveStayed, ended}
use Rattle.laws.proofs.Exchanging.{took-keeps, took-covers, took-of_others, took-of_itself, took-status}
use Rattle.laws.proofs.Reconciling.{node_of_members}
use Rattle.laws.proofs.Spreading.{Covers, Lists, Goes, Run}

-- one node of many becomes another

module _ {H : Type 0} (before after : Nodes H) (a : ℕ) (old new : Node H) (at : before a ≡ Some old) (is : after ≡ placed_at a new before) where
  pub at_new : after a ≡ Some new
  at_new = ap (λ (f : Nodes H). f a) is ∙ ap (λ b. cond b (Some new) (before a)) (eq-eqb a a refl)

  pub elsewhere : (b : ℕ) → b ≢ a → after b ≡ before b
  elsewhere b other = ap (λ (f : Nodes H). f b) is ∙ ap (λ t. cond t (Some new) (before b)) (ne_eqb b a other)

  from_old : (b : ℕ) (node : Node H) → after b ≡ Some node → ((b ≡ a) × (node ≡ new)) ⊎ (before b ≡ Some node)
  from_old b node there = elim (cases_eq b a) [
    | inl t ↦ let same : Some node ≡ Some new = sym there ∙ ap (λ (x : ℕ). after x) t ∙ at_new in
        let n : node ≡ new = cc in
        inl (t, n)
    | inr other ↦ inr (sym (elsewhere b other) ∙ there)
  ]

  pub are_still : AreNodes before → new.own ≡ old.own → IsNode new → AreNodes after
  are_still are own kept = record {
    own = λ b node there. elim (from_old b node there) [
      | inl t ↦ ap (λ (n : Node H). n.own) t.1 ∙ own ∙ are.own a old at ∙ sym t.0
      | inr same ↦ are.own b node same
    ];
    kept = λ b node there. elim (from_old b node there) [
      | inl t ↦ subst (λ (n : Node H). IsNode n) (sym t.1) kept
      | inr same ↦ are.kept b node same
    ];
  }

  -- the same nodes are there
  pub stay : (own_change new).status ≡ (own_change old).status → HaveStayed before after
  stay status = record {
    came = λ b node there. elim (from_old b node there) [
      | inl t ↦ (old, ap (λ (x : ℕ). before x) t.0 ∙ at, ap (λ (n : Node H). (own_change n).status) t.1 ∙ status)
      | inr same ↦ (node, same, refl)
    ];
    goes_on = λ b there. elim (cases_eq b a) [
      | inl same ↦ (new, ap (λ (x : ℕ). after x) same ∙ at_new)
      | inr other ↦ (there.0, elsewhere b other ∙ there.1)
    ];
  }

-- one node of many takes what it is told

module _ {H : Type 0} (before after : Nodes H) (a : ℕ) (taker new : Node H) (whole : Bool) (told : List Change) (are : AreNodes before) (at : before a ≡ Some taker)
    (listed : IsMemberList told) (takes : Takes whole taker told new) (is : after ≡ placed_at a new before) where
  at_taker : after a ≡ Some new
  at_taker = at_new before after a taker new at is

  own_is : taker.own ≡ a
  own_is = are.own a taker at

  pub taker-still : AreNodes after
  taker-still = are_still before after a taker new at is are takes.own_stays takes.kept

  pub taker-stays : HaveStayed before after
  taker-stays = stay before after a taker new at is (took-status whole taker told new (are.kept a taker at) listed takes)

  -- what the taker holds then, where lists of what is held say what they do

  pub taker-keeps : (x : ℕ) → Covers (greatest (members_of (after a)) x) (greatest (members_of (before a)) x)
  taker-keeps x = subst (λ (M : List Change). Covers (greatest M x) (greatest (members_of (before a)) x)) (sym (members-at after a new at_taker))
      (subst (λ (M : List Change). Covers (greatest new.members x) (greatest M x)) (sym (members-at before a taker at)) (took-keeps whole taker told new (are.kept a taker at) listed takes x))

  pub taker-covers : whole ≡ true → (x : ℕ) → Covers (greatest (members_of (after a)) x) (greatest told x)
  taker-covers w x = subst (λ (M : List Change). Covers (greatest M x) (greatest told x)) (sym (members-at after a new at_taker)) (took-covers whole taker told new (are.kept a taker at) listed takes w x)

  pub taker-of_others : (x : ℕ) → x ≢ a → (greatest (members_of (after a)) x ≡ greatest (members_of (before a)) x) ⊎ (greatest (members_of (after a)) x ≡ greatest told x)
  taker-of_others x other = elim (took-of_others whole taker told new (are.kept a taker at) listed takes x (λ k. other (k ∙ own_is))) [
    | inl mine ↦ inl (ap (λ (M : List Change). greatest M x) (members-at after a new at_taker) ∙ mine ∙ ap (λ (M : List Change). greatest M x) (sym (members-at before a taker at)))
    | inr theirs ↦ inr (ap (λ (M : List Change). greatest M x) (members-at after a new at_taker) ∙ theirs)
  ]

  pub taker-of_itself : Covers (greatest (members_of (before a)) a) (greatest told a) → greatest (members_of (after a)) a ≡ greatest (members_of (before a)) a
  taker-of_itself less =
      let at_own : Covers (greatest taker.members a) (greatest told a)
      = subst (λ (M : List Change). Covers (greatest M a) (greatest told a)) (members-at before a taker at) less in
      let same : greatest new.members a ≡ greatest taker.members a
      = subst (λ (y : ℕ). Covers (greatest taker.members y) (greatest told y) → greatest new.members y ≡ greatest taker.members y) own_is (took-of_itself whole taker told new (are.kept a taker at) listed takes) at_own in
      ap (λ (M : List Change). greatest M a) (members-at after a new at_taker) ∙ same ∙ ap (λ (M : List Change). greatest M a) (sym (members-at before a taker at))

pub stay-none : {H : Type 0} (before after : Nodes H) → after ≡ before → HaveStayed before after
stay-none {H} before after same = record {
  came = λ a node is. (node, ap (λ (f : Nodes H). f a) (sym same) ∙ is, refl);
  goes_on = λ a there. (there.0, ap (λ (f : Nodes H). f a) same ∙ there.1);
}

pub stay-both : {H : Type 0} (before between after : Nodes H) → HaveStayed before between → HaveStayed between after → HaveStayed before after
stay-both before between after first second = record {
  came = λ a node is.
      let late = second.came a node is in
      let early = first.came a late.0 late.1 in
      (early.0, early.1, late.2 ∙ early.2);
  goes_on = λ a there. second.goes_on a (first.goes_on a there);
}

-- one exchange

module _ {H : Type 0} (before : Nodes H) (e : Exchange) (after : Nodes H) (are : AreNodes before) (step : ExchangeStep before e after) where
  listed : IsMemberList step.giver.members
  listed = (are.kept e.giver step.giver step.giver_is).one_each

  pub goes : Goes at_itself (λ a. members_of (before a)) e (λ a. members_of (after a))
  goes = record {
    others_stay = λ a other. ap (λ (o : Option (Node H)). members_of o)
        (elsewhere before after e.taker step.taker step.new step.taker_is step.after_is a other);
    keeps = taker-keeps before after e.taker step.taker step.new e.whole step.giver.members are step.taker_is listed step.takes step.after_is;
    covers = λ w x. subst (λ (M : List Change). Covers (greatest (members_of (after e.taker)) x) (greatest M x)) (sym (members-at before e.giver step.giver step.giver_is))
        (taker-covers before after e.taker step.taker step.new e.whole step.giver.members are step.taker_is listed step.takes step.after_is w x);
    of_others = λ x other. elim (taker-of_others before after e.taker step.taker step.new e.whole step.giver.members are step.taker_is listed step.takes step.after_is x other) [
      | inl mine ↦ inl mine
      | inr theirs ↦ inr (theirs ∙ ap (λ (M : List Change). greatest M x) (sym (members-at before e.giver step.giver step.giver_is)))
    ];
    of_itself = λ x home less.
        let here = taker-of_itself before after e.taker step.taker step.new e.whole step.giver.members are step.taker_is listed step.takes step.after_is in
        subst (λ (y : ℕ). greatest (members_of (after e.taker)) y ≡ greatest (members_of (before e.taker)) y) (sym home) (here
        (subst (λ (y : ℕ). Covers (greatest (members_of (before e.taker)) y) (greatest step.giver.members y)) home
        (subst (λ (M : List Change). Covers (greatest (members_of (before e.taker)) x) (greatest M x)) (members-at before e.giver step.giver step.giver_is) less)));
  }

  pub still : AreNodes after
  still = taker-still before after e.taker step.taker step.new e.whole step.giver.members are step.taker_is listed step.takes step.after_is

  pub stays : HaveStayed before after
  stays = taker-stays before after e.taker step.taker step.new e.whole step.giver.members are step.taker_is listed step.takes step.after_is

  there-back : (a : ℕ) → IsThere after a → IsThere before a
  there-back a there = let b = stays.came a there.0 there.1 in (b.0, b.1)

-- exchanges one after another

module _ {H : Type 0} where
  pub running : (first before after : Nodes H) (es : List Exchange) → AreNodes before → ((a : ℕ) → IsThere before a → IsThere first a) → ExchangeRun before es after
      → Run cases_eq at_itself (λ a. IsThere first a) (λ a. members_of (before a)) es (λ a. members_of (after a))
  running first before after [] are back all = ap {B = Lists ℕ} (λ (f : Nodes H) (a : ℕ). members_of (f a)) all
  running first before after (e ∷ es) are back all = (
    (λ a. members_of (all.0 a)),
    back e.taker (all.1.taker, all.1.taker_is),
    back e.giver (all.1.giver, all.1.giver_is),
    goes before e all.0 are all.1,
    running first all.0 after es (still before e all.0 are all.1) (λ a there. back a (there-back before e all.0 are all.1 a there)) all.2,
  )

  pub ending : (before after : Nodes H) (es : List Exchange) → AreNodes before → ExchangeRun before es after → AreNodes after
  ending before after [] are all = subst (λ (f : Nodes H). AreNodes f) (sym all) are
  ending before after (e ∷ es) are all = ending all.0 after es (still before e all.0 are all.1) all.2

  pub staying : (before after : Nodes H) (es : List Exchange) → AreNodes before → ExchangeRun before es after → HaveStayed before after
  staying before after [] are all = stay-none before after all
  staying before after (e ∷ es) are all =
      stay-both before all.0 after (stays before e all.0 are all.1) (staying all.0 after es (still before e all.0 are all.1) all.2)

pub nodes_converge : {H : Type 0} → NodesConverge H
nodes_converge before after es are all each =
    ended cases_eq at_itself (λ a. IsThere before a) before after (λ a. members_of (before a)) (λ a. members_of (after a)) es
    (running before before after es are (λ a there. there) all)
    (λ a. refl) (λ a. refl) (λ a there. there) (λ a there. there) (λ a there. inr (a, refl))
    (ending before after es are all) (staying before after es are all) each

-- two sweeps

pub reaches-stays : (a : ℕ) (es : List Exchange) → Reaches a es a
reaches-stays a [] = refl
reaches-stays a (e ∷ es) = inl (reaches-stays a es)

pub reaches-taken : (a b : ℕ) (es : List Exchange) → In (record { taker = b; giver = a; whole = true }) es → Reaches a es b
reaches-taken a b [] h = absurd h
reaches-taken a b (e ∷ es) h = by_place h (λ k. reaches-taken a b es k)
  where
    by_place : (record { taker = b; giver = a; whole = true } ≡ e) ⊎ In (record { taker = b; giver = a; whole = true }) es
        → (In (record { taker = b; giver = a; whole = true }) es → Reaches a es b) → Reaches a (e ∷ es) b
    by_place (inl is) again = subst (λ (f : Exchange). Reaches a (f ∷ es) b) is (inr (refl, refl, reaches-stays b es))
    by_place (inr k) again = inl (again k)

reaches-sweep : {H : Type 0} (nodes : Nodes H) (es : List Exchange) → IsSweep nodes es → (a b : ℕ) → IsThere nodes a → IsThere nodes b → Reaches a es b
reaches-sweep nodes es sweep a b at_a at_b = elim (cases_eq a b) [
  | inl same ↦ subst (λ (c : ℕ). Reaches a es c) same (reaches-stays a es)
  | inr apart ↦ reaches-taken a b es (sweep b a at_b at_a (λ k. apart (sym k)))
]

pub sweeps_converge : {H : Type 0} → SweepsConverge H
sweeps_converge before after first second are all one other = nodes_converge before after (first ++ second) are all (λ a there. record {
  first = first;
  rest = second;
  parts = refl;
  gathers = λ b at_b. reaches-sweep before first one b a at_b there;
  broadcasts = λ b at_b. reaches-sweep before second other a b there at_b;
})

-- such nodes agree
pub converged_agree : {H : Type 0} (hash_of : H → List ℕ → ℕ) → ConvergedAgree hash_of
converged_agree hash_of before after a b x y converged at_a at_b x_seen y_seen hash replicas =
    nodes_agree hash_of x y y.node.members y.node.members
    (node_of_members hash_of x y.node.members x_seen (converged.members_same a b x.node y.node at_a at_b))
    (node_of_members hash_of y y.node.members y_seen refl)
    (HaveSameChanges-refl y.node.members) hash replicas
