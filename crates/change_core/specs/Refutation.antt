-- The entries that a given change writes: the change, and directly after it the node's refutation if it calls for one.
use Rattle.std.specs.Prelude.{ℕ, ◌+◌, ◌==◌, ◌&&◌, Bool, false, not, cond, Option, Some, None, List, [], ◌∷◌, ◌++◌}
use Rattle.change_core.specs.declared.changes.Change.{Change}
use Rattle.change_core.specs.Change.{exceeds}
use Rattle.change_core.specs.Members.{greatest}
use Rattle.change_core.specs.Status.{rank}

-- a node's answer to a wrong change about itself: the next incarnation, with the status and the weight that it holds of itself
abbrev pub refutation : Change → Change → Change
refutation held given = record { address = held.address; incarnation = given.incarnation + 1; status = held.status; weight = held.weight }

-- the given change is about the node itself, exceeds the node's own entry, and has another status
abbrev pub is_refuted : ℕ → Option Change → Change → Bool
is_refuted own None given = false
is_refuted own (Some held) given = (given.address == own) && (exceeds given held && not (rank given.status == rank held.status))

-- the refutation of a given change, if it calls for one
abbrev pub refutations : ℕ → Option Change → Change → List Change
refutations own None given = []
refutations own (Some held) given = cond (is_refuted own (Some held) given) (refutation held given ∷ []) []

-- the log with one given change added, and its refutation directly after it
abbrev pub log_one : ℕ → List Change → Change → List Change
log_one own log given = log ++ given ∷ refutations own (greatest log own) given
