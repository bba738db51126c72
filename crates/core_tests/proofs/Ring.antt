-- Three nodes that take all of one another round a ring, twice.
use Rattle.std.proofs.Common.{◌≡◌, ◌≢◌, ◌⊎◌, ℕ, true, cond, List, [], ◌∷◌, Some, None, Ok, refl, sym, ◌∙◌, ap, subst, inl, inr}
use Rattle.std.proofs.lemmas.Bool.{cases_eq, eq-eqb, ne_eqb}
use Rattle.change_core.specs.declared.changes.Change.{Change}
use Rattle.node_core.specs.declared.events.Event.TheVariants as event
use Rattle.node_core.specs.declared.events.Reply.TheVariants as reply
use Rattle.node_core.specs.Agreement.{Agree}
use Rattle.node_core.specs.Invariant.{IsNode, IsSeen}
use Rattle.node_core.specs.Node.{Node, Seen}
use Rattle.node_core.specs.World.{placed_at}
use Rattle.laws.specs.Convergence.{Nodes, IsThere, AreNodes, Takes, CallsTake, Exchange, ExchangeStep, ExchangeRun, GathersThenBroadcasts, HaveConverged, NodesConverge, ConvergedAgree, at_itself}
use Rattle.laws.specs.Reconciliation.{TakesAllOf}

-- b takes all of a, then c of b, then a of c, and so again
pub record TwoRounds {H : Type 0} (a b c a' b' c' : Node H) : Type 0 where
  pub b1 : Node H
  pub c1 : Node H
  pub a1 : Node H
  pub first : TakesAllOf b a b1
  pub second : TakesAllOf c b1 c1
  pub third : TakesAllOf a c1 a1
  pub fourth : TakesAllOf b1 a1 b'
  pub fifth : TakesAllOf c1 b' c'
  pub sixth : TakesAllOf a1 c' a'

here : {H : Type 0} (own : ℕ) (node : Node H) (nodes : Nodes H) → placed_at own node nodes own ≡ Some node
here own node nodes = ap (λ b. cond b (Some node) (nodes own)) (eq-eqb own own refl)

skip : {H : Type 0} (own : ℕ) (node : Node H) (nodes : Nodes H) (x : ℕ) → x ≢ own → placed_at own node nodes x ≡ nodes x
skip own node nodes x other = ap (λ b. cond b (Some node) (nodes x)) (ne_eqb x own other)

module _ {H : Type 0} (hash_of : H → List ℕ → ℕ) (converge : NodesConverge H) (calls : CallsTake hash_of) (agree : ConvergedAgree hash_of)
    (a b c : Node H) (a' b' c' : Seen H) (a_kept : IsNode a) (b_kept : IsNode b) (c_kept : IsNode c)
    (a_b : a.own ≢ b.own) (b_c : b.own ≢ c.own) (a_c : a.own ≢ c.own) (they : TwoRounds a b c a'.node b'.node c'.node) where
  takes-all : (taker giver new : Node H) → TakesAllOf taker giver new → IsNode taker → Takes true taker giver.members new
  takes-all taker giver new all kept =
      subst (λ (M : List Change). Takes true taker M new) all.all
      (calls taker new (event.Take all.given all.moment) (reply.Take (Ok all.taken)) kept all.step refl)

  abbrev nodes-0 : Nodes H
  nodes-0 = placed_at a.own a (placed_at b.own b (placed_at c.own c (λ x. None)))

  at_b : nodes-0 b.own ≡ Some b
  at_b = skip a.own a (placed_at b.own b (placed_at c.own c (λ x. None))) b.own (λ k. a_b (sym k)) ∙ here b.own b (placed_at c.own c (λ x. None))

  at_c : nodes-0 c.own ≡ Some c
  at_c = skip a.own a (placed_at b.own b (placed_at c.own c (λ x. None))) c.own (λ k. a_c (sym k))
      ∙ skip b.own b (placed_at c.own c (λ x. None)) c.own (λ k. b_c (sym k)) ∙ here c.own c (λ x. None)

  abbrev nodes-1 : Nodes H
  nodes-1 = placed_at b.own they.b1 nodes-0

  abbrev nodes-2 : Nodes H
  nodes-2 = placed_at c.own they.c1 nodes-1

  abbrev nodes-3 : Nodes H
  nodes-3 = placed_at a.own they.a1 nodes-2

  abbrev nodes-4 : Nodes H
  nodes-4 = placed_at b.own b'.node nodes-3

  abbrev nodes-5 : Nodes H
  nodes-5 = placed_at c.own c'.node nodes-4

  abbrev nodes-6 : Nodes H
  nodes-6 = placed_at a.own a'.node nodes-5

  abbrev hop : ℕ → ℕ → Exchange
  hop taker giver = record { taker = taker; giver = giver; whole = true }

  abbrev round : List Exchange → List Exchange
  round rest = hop b.own a.own ∷ hop c.own b.own ∷ hop a.own c.own ∷ rest

  step : (before : Nodes H) (to from : ℕ) (taker giver new : Node H) → before to ≡ Some taker → before from ≡ Some giver
      → Takes true taker giver.members new → ExchangeStep before (hop to from) (placed_at to new before)
  step before to from taker giver new at_taker at_giver takes = record {
    taker = taker;
    giver = giver;
    new = new;
    taker_is = at_taker;
    giver_is = at_giver;
    takes = takes;
    after_is = refl;
  }

  one : Takes true b a.members they.b1
  one = takes-all b a they.b1 they.first b_kept

  two : Takes true c they.b1.members they.c1
  two = takes-all c they.b1 they.c1 they.second c_kept

  three : Takes true a they.c1.members they.a1
  three = takes-all a they.c1 they.a1 they.third a_kept

  four : Takes true they.b1 they.a1.members b'.node
  four = takes-all they.b1 they.a1 b'.node they.fourth one.kept

  five : Takes true they.c1 b'.node.members c'.node
  five = takes-all they.c1 b'.node c'.node they.fifth two.kept

  six : Takes true they.a1 c'.node.members a'.node
  six = takes-all they.a1 c'.node a'.node they.sixth three.kept

  run : ExchangeRun nodes-0 (round (round [])) nodes-6
  run = (
    nodes-1,
    step nodes-0 b.own a.own b a they.b1 at_b (here a.own a (placed_at b.own b (placed_at c.own c (λ x. None)))) one,
    (
      nodes-2,
      step nodes-1 c.own b.own c they.b1 they.c1 (skip b.own they.b1 nodes-0 c.own (λ k. b_c (sym k)) ∙ at_c) (here b.own they.b1 nodes-0) two,
      (
        nodes-3,
        step nodes-2 a.own c.own a they.c1 they.a1
            (skip c.own they.c1 nodes-1 a.own a_c ∙ skip b.own they.b1 nodes-0 a.own a_b ∙ here a.own a (placed_at b.own b (placed_at c.own c (λ x. None)))) (here c.own they.c1 nodes-1) three,
        (
          nodes-4,
          step nodes-3 b.own a.own they.b1 they.a1 b'.node
              (skip a.own they.a1 nodes-2 b.own (λ k. a_b (sym k)) ∙ skip c.own they.c1 nodes-1 b.own b_c ∙ here b.own they.b1 nodes-0) (here a.own they.a1 nodes-2) four,
          (
            nodes-5,
            step nodes-4 c.own b.own they.c1 b'.node c'.node
                (skip b.own b'.node nodes-3 c.own (λ k. b_c (sym k)) ∙ skip a.own they.a1 nodes-2 c.own (λ k. a_c (sym k)) ∙ here c.own they.c1 nodes-1) (here b.own b'.node nodes-3) five,
            (
              nodes-6,
              step nodes-5 a.own c.own they.a1 c'.node a'.node
                  (skip c.own c'.node nodes-4 a.own a_c ∙ skip b.own b'.node nodes-3 a.own a_b ∙ here a.own they.a1 nodes-2) (here c.own c'.node nodes-4) six,
              refl,
            ),
          ),
        ),
      ),
    ),
  )

  -- where there is a node, it is one of the three

  abbrev IsOne : ℕ → Type 0
  IsOne x = (x ≡ a.own) ⊎ ((x ≡ b.own) ⊎ (x ≡ c.own))

  one_of : (x : ℕ) → IsThere nodes-0 x → IsOne x
  one_of x there = elim (cases_eq x a.own) [
    | inl is ↦ inl is
    | inr not_a ↦ elim (cases_eq x b.own) [
      | inl is ↦ inr (inl is)
      | inr not_b ↦ elim (cases_eq x c.own) [
        | inl is ↦ inr (inr is)
        | inr not_c ↦
            let none : nodes-0 x ≡ None = skip a.own a (placed_at b.own b (placed_at c.own c (λ x. None))) x not_a
            ∙ skip b.own b (placed_at c.own c (λ x. None)) x not_b ∙ skip c.own c (λ x. None) x not_c in
            let no : None ≡ Some there.0 = sym none ∙ there.1 in cc
      ]
    ]
  ]

  of_three : (P : ℕ → Type 0) → P a.own → P b.own → P c.own → (x : ℕ) → IsThere nodes-0 x → P x
  of_three P pa pb pc x there = elim (one_of x there) [
    | inl is ↦ subst P (sym is) pa
    | inr other ↦ elim other [
      | inl is ↦ subst P (sym is) pb
      | inr is ↦ subst P (sym is) pc
    ]
  ]

  are : AreNodes nodes-0
  are = record {
    own = λ x node is. (both x node is).0;
    kept = λ x node is. (both x node is).1;
  }
    where
      same : (x : ℕ) (old node : Node H) → nodes-0 x ≡ Some old → nodes-0 x ≡ Some node → old ≡ node
      same x old node at_old at_node = let e : Some old ≡ Some node = sym at_old ∙ at_node in cc

      both : (x : ℕ) (node : Node H) → nodes-0 x ≡ Some node → (node.own ≡ x) × IsNode node
      both x node is = of_three (λ y. (n : Node H) → nodes-0 y ≡ Some n → (n.own ≡ y) × IsNode n)
          (λ n e. subst (λ (m : Node H). (m.own ≡ a.own) × IsNode m) (same a.own a n (here a.own a (placed_at b.own b (placed_at c.own c (λ x. None)))) e) (refl, a_kept))
          (λ n e. subst (λ (m : Node H). (m.own ≡ b.own) × IsNode m) (same b.own b n at_b e) (refl, b_kept))
          (λ n e. subst (λ (m : Node H). (m.own ≡ c.own) × IsNode m) (same c.own c n at_c e) (refl, c_kept))
          x (node, is) node is

  each : (x : ℕ) → IsThere nodes-0 x → GathersThenBroadcasts at_itself nodes-0 (round (round [])) x
  each = of_three (λ x. GathersThenBroadcasts at_itself nodes-0 (round (round [])) x)
      (record {
        first = round [];
        rest = round [];
        parts = refl;
        gathers = of_three _ (inl (inl (inl refl))) (inl (inr (refl, refl, inr (refl, refl, refl)))) (inl (inl (inr (refl, refl, refl))));
        broadcasts = of_three _ (inl (inl (inl refl))) (inr (refl, refl, inl (inl refl))) (inr (refl, refl, inr (refl, refl, inl refl)));
      })
      (record {
        first = round (hop b.own a.own ∷ []);
        rest = hop c.own b.own ∷ hop a.own c.own ∷ [];
        parts = refl;
        gathers = of_three _ (inr (refl, refl, inl (inl (inl refl)))) (inl (inl (inl (inl refl)))) (inl (inl (inr (refl, refl, inr (refl, refl, refl)))));
        broadcasts = of_three _ (inr (refl, refl, inr (refl, refl, refl))) (inl (inl refl)) (inr (refl, refl, inl refl));
      })
      (record {
        first = hop b.own a.own ∷ hop c.own b.own ∷ [];
        rest = hop a.own c.own ∷ round [];
        parts = refl;
        gathers = of_three _ (inr (refl, refl, inr (refl, refl, refl))) (inl (inr (refl, refl, refl))) (inl (inl refl));
        broadcasts = of_three _ (inr (refl, refl, inl (inl (inl refl)))) (inr (refl, refl, inr (refl, refl, inl (inl refl)))) (inl (inl (inl (inl refl))));
      })

  converged : HaveConverged nodes-0 nodes-6
  converged = converge nodes-0 nodes-6 (round (round [])) are run each

  pub ring_agrees : IsSeen hash_of a' → IsSeen hash_of b' → IsSeen hash_of c' → a'.node.hash ≡ b'.node.hash → b'.node.hash ≡ c'.node.hash
      → a'.node.config.replicas ≡ b'.node.config.replicas → b'.node.config.replicas ≡ c'.node.config.replicas → Agree hash_of a' b' × Agree hash_of b' c'
  ring_agrees a_seen b_seen c_seen ab_hash bc_hash ab_points bc_points =
      let at_a' = here a.own a'.node nodes-5 in
      let at_b' = skip a.own a'.node nodes-5 b.own (λ k. a_b (sym k)) ∙ skip c.own c'.node nodes-4 b.own b_c ∙ here b.own b'.node nodes-3 in
      let at_c' = skip a.own a'.node nodes-5 c.own (λ k. a_c (sym k)) ∙ here c.own c'.node nodes-4 in (
        agree nodes-0 nodes-6 a.own b.own a' b' converged at_a' at_b' a_seen b_seen ab_hash ab_points,
        agree nodes-0 nodes-6 b.own c.own b' c' converged at_b' at_c' b_seen c_seen bc_hash bc_points,
      )
