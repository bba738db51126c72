-- The effect of deadlines on entries.
use Rattle.std.specs.Prelude.{◌≡◌, ◌≢◌, ℕ, ◌==◌, ◌&&◌, Bool, false, nat_le, Option, Some, None, Result, Ok, Err, List}
use Rattle.std.specs.List.{find}
use Rattle.change_core.specs.declared.changes.Change.{Change}
use Rattle.detector_core.specs.declared.timers.Timer.{Timer}
use Rattle.node_core.specs.declared.errors.NodeError.{NodeError}
use Rattle.node_core.specs.declared.errors.NodeError.TheVariants as error
use Rattle.node_core.specs.Node.{Node, altered, at_moment, is_timed, next_status, said_by}

-- the timer of an address
abbrev pub timer_of : List Timer → ℕ → Option Timer
timer_of timers a = find (λ t. t.address == a) timers

-- whether there is a timer, and its deadline is reached now
abbrev pub is_reached : ℕ → Option Timer → Bool
is_reached now None = false
is_reached now (Some t) = nat_le t.deadline now

-- an entry of another is due if it is suspect or faulty and its deadline is reached
abbrev pub is_due : {H : Type 0} → Node H → Change → Bool
is_due node c = is_timed node.own c && is_reached node.moment (timer_of node.timers c.address)

-- of the entries that are due the first: that of the least address, since members ascend
abbrev pub due : {H : Type 0} → Node H → Option Change
due node = find (is_due node) node.members

-- an entry with its next status
abbrev pub expired : Change → Change
expired c = record c { status = next_status c.status }

-- the entry that is due at a moment gets its next status, or none is due; out of memory changes nothing
abbrev pub ExpireStep : {H : Type 0} → Node H → ℕ → Result (Option Change) NodeError → Node H → Type 0
ExpireStep old moment (Ok None) new = (due (at_moment old moment) ≡ None) × (new ≡ at_moment old moment)
ExpireStep old moment (Ok (Some change)) new =
    (entry : Change) × (due (at_moment old moment) ≡ Some entry) × (change ≡ expired entry) × (new ≡ altered (at_moment old moment) (said_by old change))
ExpireStep old moment (Err error.Memory) new = (due (at_moment old moment) ≢ None) × (new ≡ old)
ExpireStep old moment (Err other) new = ⊥
