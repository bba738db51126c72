-- A cluster that was parted in two sides, of which neither took anything of the other, and heals: each node takes the whole of the others of its side, and of
-- one of the other side. That two such turns are enough is this project's own theorem.
use Rattle.std.specs.Prelude.{◌≡◌, ◌≢◌, ℕ, Bool, true, List, ◌++◌}
use Rattle.change_core.specs.Ascending.{In}
use Rattle.laws.specs.Convergence.{Nodes, IsThere, AreNodes, Exchange, ExchangeRun, HaveConverged}

-- in a sweep of both sides each node takes the whole of each other of its side, in any order
abbrev pub IsSideSweep : {H : Type 0} → (ℕ → Bool) → Nodes H → List Exchange → Type 0
IsSideSweep side nodes es =
    (a b : ℕ) → IsThere nodes a → IsThere nodes b → a ≢ b → side a ≡ side b → In (record { taker = a; giver = b; whole = true }) es

-- in a meeting a node takes the whole of one of the other side
pub record Meeting {H : Type 0} (side : ℕ → Bool) (nodes : Nodes H) (es : List Exchange) (a : ℕ) : Type 0 where
  pub met : ℕ
  pub there : IsThere nodes met
  pub across : side met ≢ side a
  pub taken : In (record { taker = a; giver = met; whole = true }) es

-- each node has a meeting
abbrev pub AllMeet : {H : Type 0} → (ℕ → Bool) → Nodes H → List Exchange → Type 0
AllMeet side nodes es = (a : ℕ) → IsThere nodes a → Meeting side nodes es a

-- nodes converge in two sweeps of both sides, after each of which each node has a meeting
abbrev pub PartitionsHeal : Type 0 → Type 0
PartitionsHeal H =
    (before after : Nodes H) (side : ℕ → Bool) (first met second met_again : List Exchange) → AreNodes before
    → ExchangeRun before ((first ++ met) ++ (second ++ met_again)) after
    → IsSideSweep side before first → AllMeet side before met → IsSideSweep side before second → AllMeet side before met_again → HaveConverged before after
