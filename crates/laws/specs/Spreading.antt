-- The spread of changes from place to place: along a path of hops, in the order in which the hops are made.
use Rattle.std.specs.Prelude.{◌≡◌, ◌⊎◌, Bool, true, List, [], ◌∷◌}

-- one place takes what another holds, the whole of it or only a part
pub record Hop (P : Type 0) : Type 0 where
  pub taker : P
  pub giver : P
  pub whole : Bool

-- a path leads through these hops from p to q: each hop of it is made after the one before it, and takes the whole
abbrev pub Reaches : {P : Type 0} → P → List (Hop P) → P → Type 0
Reaches p [] q = p ≡ q
Reaches p (h ∷ hs) q = Reaches p hs q ⊎ ((h.whole ≡ true) × (h.giver ≡ p) × Reaches h.taker hs q)
