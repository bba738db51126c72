-- How the node's own entry changed.
use Rattle.std.specs.Prelude.{◌≢◌, ◌==◌, ℕ, List, find, Option, Some, None}
use Rattle.change_core.specs.declared.changes.Change.{Change}

-- the entry of an address among members
abbrev pub entry_of : List Change → ℕ → Option Change
entry_of members address = find (λ c. c.address == address) members

-- two entries have different incarnations
abbrev pub Differ : Option Change → Option Change → Type 0
Differ (Some before) (Some after) = before.incarnation ≢ after.incarnation
Differ None after = ⊥
Differ (Some before) None = ⊥

-- the node's own entry, at this address, has another incarnation in the later list of members
abbrev pub IsRefuted : ℕ → List Change → List Change → Type 0
IsRefuted own before after = Differ (entry_of before own) (entry_of after own)
