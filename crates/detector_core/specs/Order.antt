-- The order in which members are probed (SWIM, section 4.3): a random order, whose rest is the members after the last pick, and how long a
-- member may have to wait in it. A member that was skipped has had its turn: if it becomes pingable again it waits for the next order.
use Rattle.std.specs.Prelude.{◌≡◌, ℕ, ◌+◌, ◌-◌, ◌<◌, ◌⊎◌, ◌≢◌, Bool, nat_eq, List, [], ◌∷◌, ◌++◌, length, filter, if◌then◌else◌, Contains, AllPairs, IsPermutation, Option, Some, None}
use Rattle.std.specs.List.{list_any, position_or_len}
use Rattle.rand_core.specs.Stream.{Stream}
use Rattle.detector_core.specs.Choices.{new_order}

-- no member appears twice
abbrev pub AllDifferent : List ℕ → Type 0
AllDifferent xs = AllPairs (λ a b. a ≢ b) xs

-- whether a is in the list
abbrev pub is_in : List ℕ → ℕ → Bool
is_in xs a = list_any (nat_eq a) xs

-- the pingable members of the rest
abbrev pub near : List ℕ → List ℕ → List ℕ
near pingable rest = filter (is_in pingable) rest

-- how many picks may come before a's, while the pingable members stay: its place among the pingable members of the rest; if it is not
-- there, the number of these, and all others of the next order
abbrev pub bound : List ℕ → List ℕ → ℕ → ℕ
bound pingable rest a =
    let among = near pingable rest in
    if is_in among a then position_or_len (nat_eq a) among else length among + (length pingable - 1)

-- the target is the first pingable member of the rest, those before it are skipped, and `left` is the rest from then on
pub record IsNextIn (pingable rest : List ℕ) (target : ℕ) (left : List ℕ) : Type 0 where
  pub passed : List ℕ
  pub split : rest ≡ passed ++ target ∷ left
  pub none_passed : near pingable passed ≡ []
  pub picked : Contains pingable target

-- the target is the first of a new order of the pingable members, and none of the rest is pingable
pub record IsNewOrder (pingable rest : List ℕ) (target : ℕ) (left : List ℕ) : Type 0 where
  pub used_up : near pingable rest ≡ []
  pub reordered : IsPermutation pingable (target ∷ left)

-- targets are picked in turn
abbrev pub IsTurn : List ℕ → List ℕ → ℕ → List ℕ → Type 0
IsTurn pingable rest target left = IsNextIn pingable rest target left ⊎ IsNewOrder pingable rest target left

-- after the pick each other pingable member is nearer
abbrev pub AllNearer : List ℕ → List ℕ → ℕ → List ℕ → Type 0
AllNearer pingable rest target left = (a : ℕ) → Contains pingable a → a ≢ target → bound pingable left a < bound pingable rest a

-- the first pingable member of an order, and the rest after it
abbrev pub next_in : List ℕ → List ℕ → Option (ℕ × List ℕ)
next_in pingable [] = None
next_in pingable (a ∷ rest) = if is_in pingable a then Some (a, rest) else next_in pingable rest

-- the pick from the rest if it has a pingable member, and else the pick from a new order
abbrev pub next_or_new : List ℕ → Stream → Option (ℕ × List ℕ) → Option (ℕ × List ℕ) × Stream
next_or_new pingable choices (Some next) = (Some next, choices)
next_or_new pingable choices None = (next_in pingable (new_order pingable choices).0, (new_order pingable choices).1)

-- the pick that the choices give, with the rest and the choices left
abbrev pub drawn_turn : List ℕ → List ℕ → Stream → Option (ℕ × List ℕ) × Stream
drawn_turn pingable rest choices = next_or_new pingable choices (next_in pingable rest)
