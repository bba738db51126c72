-- Which requests may wait for other nodes: those that wait are a list with one address for each, that of the owner for which it waits.
use Rattle.std.specs.Prelude.{◌<◌, ◌≤◌, ◌==◌, ◌&&◌, ◌||◌, ℕ, nat_lt, Bool, not, cond, IsTrue, List, [], ◌∷◌, ◌++◌, length, count_by}

-- whether a request waits for this owner
abbrev pub is_for : ℕ → ℕ → Bool
is_for owner waiting = waiting == owner

-- how many of the requests wait for an owner
abbrev pub count_for : ℕ → List ℕ → ℕ
count_for owner waiting = count_by (is_for owner) waiting

-- how many of the requests wait for other nodes than this one
abbrev pub count_beside : ℕ → List ℕ → ℕ
count_beside owner waiting = count_by (λ a. not (is_for owner a)) waiting

-- Whether another request may wait for an owner: while fewer than 64 wait, or fewer than 128 and for this owner fewer than its share of 32.
abbrev pub may_wait : ℕ → List ℕ → Bool
may_wait owner waiting = nat_lt (length waiting) 64 || (nat_lt (length waiting) 128 && nat_lt (count_for owner waiting) 32)

-- the requests that wait once another has come for an owner: it waits if it may
abbrev pub waiting_with : ℕ → List ℕ → List ℕ
waiting_with owner waiting = cond (may_wait owner waiting) (waiting ++ owner ∷ []) waiting

-- the requests that wait once one for an owner waits no more
abbrev pub waiting_without : ℕ → List ℕ → List ℕ
waiting_without owner [] = []
waiting_without owner (first ∷ rest) = cond (is_for owner first) rest (first ∷ waiting_without owner rest)

-- At most 128 requests wait, and at most 64 of them for one owner.
pub record IsShared (waiting : List ℕ) : Type 0 where
  pub all : length waiting ≤ 128
  pub each : (owner : ℕ) → count_for owner waiting ≤ 64

-- However many requests wait for one node, another owner has its share: while fewer than 64 wait for nodes other than that one, and fewer than 32
-- for this owner, another may wait for it.
abbrev pub OneSparesOthers : List ℕ → Type 0
OneSparesOthers waiting = (one owner : ℕ) → count_beside one waiting < 64 → count_for owner waiting < 32 → IsTrue (may_wait owner waiting)
