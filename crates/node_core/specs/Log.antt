-- The log of a node: its first members, and then each change that it took, its refutations among them, in the order in which they came.
use Rattle.std.specs.Prelude.{ℕ, ◌+◌, Bool, cond, List, [], ◌∷◌}
use Rattle.change_core.specs.declared.changes.Change.{Change}
use Rattle.change_core.specs.Members.{greatest, alters}
use Rattle.change_core.specs.Refutation.{is_refuted, log_one}

-- the log with these given changes more
abbrev pub log_given : ℕ → List Change → List Change → List Change
log_given own log [] = log
log_given own log (c ∷ cs) = log_given own (log_one own log c) cs

-- 1 if it is so, and else 0
abbrev pub one_if : Bool → ℕ
one_if b = cond b 1 0

-- how many of the given changes alter an entry
abbrev pub applied : ℕ → List Change → List Change → ℕ
applied own log [] = 0
applied own log (c ∷ cs) = one_if (alters (greatest log c.address) c) + applied own (log_one own log c) cs

-- how many of them are refuted
abbrev pub refuted : ℕ → List Change → List Change → ℕ
refuted own log [] = 0
refuted own log (c ∷ cs) = one_if (is_refuted own (greatest log own) c) + refuted own (log_one own log c) cs
