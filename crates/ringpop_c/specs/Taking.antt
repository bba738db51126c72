-- The effect of an export with the line of a change.
use Rattle.std.specs.Prelude.{◌≡◌, ◌≢◌, ◌==◌, ◌⊎◌, ℕ, cond, Result, Ok, Err, List, [], ◌∷◌}
use Rattle.change_core.specs.declared.changes.Sourced.{Sourced}
use Rattle.hash_ring.specs.declared.hash.Sha256Hash.{Sha256Hash}
use Rattle.node_core.specs.declared.events.Stopped.{Stopped}
use Rattle.node_core.specs.declared.events.Taken.{Taken}
use Rattle.node_core.specs.Node.{Node}
use Rattle.node_core.specs.Taking.{TakeStep}
use Rattle.message_core.specs.declared.errors.WireError.{WireError}
use Rattle.message_core.specs.declared.errors.WireError.TheVariants as wire
use Rattle.wire_json.specs.Forms.{ChangeFault, ChangeForm}
use Rattle.wire_json.specs.Lines.{Faults, IsLine}
use Rattle.ringpop_c.specs.declared.codes.Code.{Code}
use Rattle.ringpop_c.specs.declared.codes.Code.TheVariants as code
use Rattle.ringpop_c.specs.Codes.{code_of_stop, code_of_wire}

-- the code of a batch that was processed, or stopped: `Nothing` if no entry was altered
abbrev pub code_of_batch : Result Taken Stopped → Code
code_of_batch (Ok taken) = cond (taken.applied == 0) code.Nothing code.Done
code_of_batch (Err stopped) = code_of_stop stopped.cause

-- the node takes these changes at this moment, or stops and answers why
abbrev pub TakesBy : List Sourced → ℕ → Node Sha256Hash → Code → Node Sha256Hash → Type 0
TakesBy given moment old answer new = (taken : Result Taken Stopped) × (answer ≡ code_of_batch taken) × TakeStep old given moment taken new

-- the code is the error of the line of a change, or out of memory for reading it
abbrev pub IsUnreadChange : List ℕ → Code → Type 0
IsUnreadChange line answer = (fault : WireError) × (answer ≡ code_of_wire fault) × (fault ≢ wire.Memory → Faults ChangeFault line fault)

-- the node processes the change of a line, or is unchanged if the line is not a change
abbrev pub HearsChange : List ℕ → ℕ → Node Sha256Hash → Code → Node Sha256Hash → Type 0
HearsChange line moment old answer new =
    ((change : Sourced) × IsLine (λ v. ChangeForm v change) line × TakesBy (change ∷ []) moment old answer new)
    ⊎ ((new ≡ old) × IsUnreadChange line answer)
