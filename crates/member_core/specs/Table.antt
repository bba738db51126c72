-- The model of a member table.
use Rattle.std.specs.Prelude.{ℕ, ◌≤◌, List, length}
use Rattle.change_core.specs.declared.changes.Change.{Change}
use Rattle.change_core.specs.Numbers.{most_members}
use Rattle.change_core.specs.Members.{IsMemberList}

-- the members, and their greatest number
pub record Table : Type 0 where
  pub members : List Change
  pub max : ℕ

-- the same, and for how many more members there is room without an allocation
pub record Store : Type 0 where
  pub members : List Change
  pub max : ℕ
  pub room : ℕ

-- a member list of at most max members
pub record IsTable (members : List Change) (max : ℕ) : Type 0 where
  pub sorted : IsMemberList members
  pub fits : length members ≤ max
  pub positive : 1 ≤ max
  pub limited : max ≤ most_members
