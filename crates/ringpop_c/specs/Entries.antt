-- The output of an export about a member.
use Rattle.std.specs.Prelude.{◌≡◌, ℕ, Option, Some, None}
use Rattle.change_core.specs.Address.{ip_of, port_of}
use Rattle.change_core.specs.Change.{entry_of}
use Rattle.change_core.specs.Status.{rank}
use Rattle.change_core.specs.declared.changes.Change.{Change}
use Rattle.change_core.specs.declared.changes.Entry.{Entry}
use Rattle.ringpop_c.specs.declared.codes.Code.{Code}
use Rattle.ringpop_c.specs.declared.codes.Code.TheVariants as code
use Rattle.ringpop_c.specs.declared.entries.RingpopEntry.{RingpopEntry}

-- an entry as the caller has it: its status by its place in precedence
abbrev pub entry_told : Entry → RingpopEntry
entry_told e = record { incarnation = e.incarnation; status = rank e.status; weight = e.weight }

-- an entry is written, or there is none
abbrev pub TellsEntry : Option Entry → RingpopEntry → Code → Type 0
TellsEntry None told answer = answer ≡ code.Nothing
TellsEntry (Some e) told answer = (answer ≡ code.Done) × (told ≡ entry_told e)

-- a place of the caller's for an entry: what was in it, and what is in it then
pub record EntryPlace : Type 0 where
  pub before : RingpopEntry
  pub after : RingpopEntry

-- the target of a probe is suspect, and its entry is written if it was alive, else nothing
abbrev pub TellsSuspicion : Option Change → EntryPlace → Code → Type 0
TellsSuspicion None place answer = (answer ≡ code.Suspected) × (place.after ≡ place.before)
TellsSuspicion (Some change) place answer = (answer ≡ code.Suspected) × (place.after ≡ entry_told (entry_of change))

-- a change is written: its address and its entry
abbrev pub TellsChange : Change → ℕ → ℕ → RingpopEntry → Code → Type 0
TellsChange change ip port told answer = (answer ≡ code.Done) × (ip ≡ ip_of change.address) × (port ≡ port_of change.address) × (told ≡ entry_told (entry_of change))
