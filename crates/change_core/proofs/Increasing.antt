-- Numbers that rise, in the words of std: each below the next.
use Rattle.std.proofs.Common.{ℕ, ◌+◌, ◌<◌, zero, suc, List, [], ◌∷◌, Bool, arith}
use Rattle.std.specs.List.{All, AllPairs, filter}
use Rattle.std.specs.List.Sorted.{IsStrictlyIncreasing}
use Rattle.std.proofs.lemmas.List.Elements.{All-head, All-tail}
use Rattle.std.proofs.lemmas.List.Kept.{AllPairs-cons, AllPairs-from_increasing, IsStrictlyIncreasing-filter}
use Rattle.change_core.specs.declared.changes.Change.{Change}
use Rattle.change_core.specs.Members.{AllAbove, IsRising, serving}
use Rattle.change_core.proofs.Serving.{IsRising-serving}

All-AllAbove : (m : ℕ) (xs : List ℕ) → AllAbove m xs → All (λ x. m < x) xs
All-AllAbove m [] h k d within = absurd (omega arith)
All-AllAbove m (x ∷ xs) h zero d within = h.0
All-AllAbove m (x ∷ xs) h (suc k) d within = All-AllAbove m xs h.1 k d (omega arith)

AllAbove-All : (m : ℕ) (xs : List ℕ) → All (λ x. m < x) xs → AllAbove m xs
AllAbove-All m [] h = tt
AllAbove-All m (x ∷ xs) h = (All-head (λ y. m < y) x xs h, AllAbove-All m xs (All-tail (λ y. m < y) x xs h))

AllPairs-IsRising : (xs : List ℕ) → IsRising xs → AllPairs (λ x y. x < y) xs
AllPairs-IsRising [] h = λ i j d below within. absurd (omega arith)
AllPairs-IsRising (x ∷ xs) h = AllPairs-cons (λ a b. a < b) x xs (All-AllAbove x xs h.0) (AllPairs-IsRising xs h.1)

IsRising-AllPairs : (xs : List ℕ) → AllPairs (λ x y. x < y) xs → IsRising xs
IsRising-AllPairs [] h = tt
IsRising-AllPairs (x ∷ xs) h = (
  AllAbove-All x xs (λ k d within. h zero (suc k) d (omega arith) (omega arith)),
  IsRising-AllPairs xs (λ i j d below within. h (suc i) (suc j) d (omega arith) (omega arith)),
)

-- what rises is strictly increasing, and the other way round
pub IsStrictlyIncreasing-IsRising : (xs : List ℕ) → IsRising xs → IsStrictlyIncreasing xs
IsStrictlyIncreasing-IsRising xs h = λ k within. AllPairs-IsRising xs h k (k + 1) 0 (omega arith) within

pub IsRising-IsStrictlyIncreasing : (xs : List ℕ) → IsStrictlyIncreasing xs → IsRising xs
IsRising-IsStrictlyIncreasing xs h = IsRising-AllPairs xs (AllPairs-from_increasing xs h)

-- the serving addresses are strictly increasing, and so are those of them that a test keeps
pub IsStrictlyIncreasing-serving : (cs : List Change) → IsStrictlyIncreasing (serving cs)
IsStrictlyIncreasing-serving cs = IsStrictlyIncreasing-IsRising (serving cs) (IsRising-serving cs)

pub IsStrictlyIncreasing-serving_kept : (p : ℕ → Bool) (cs : List Change) → IsStrictlyIncreasing (filter p (serving cs))
IsStrictlyIncreasing-serving_kept p cs = IsStrictlyIncreasing-filter p (serving cs) (IsStrictlyIncreasing-serving cs)
