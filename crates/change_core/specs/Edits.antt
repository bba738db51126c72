-- The effect of one change on a member list, if it has one.
use Rattle.std.specs.Prelude.{◌≡◌, List, ◌∷◌, ◌++◌}
use Rattle.change_core.specs.declared.changes.Change.{Change}

-- c is inserted between two parts of the old list
pub record IsInserted (old : List Change) (c : Change) (new : List Change) : Type 0 where
  pub before : List Change
  pub after : List Change
  pub was : old ≡ before ++ after
  pub is : new ≡ before ++ c ∷ after

-- c replaces d
pub record IsReplaced (old : List Change) (d c : Change) (new : List Change) : Type 0 where
  pub before : List Change
  pub after : List Change
  pub was : old ≡ before ++ d ∷ after
  pub is : new ≡ before ++ c ∷ after
