-- The tombstones by which a node joins: after each hundredth round one, in the order of their addresses, and from the first again after the last.
use Rattle.std.specs.Prelude.{◌==◌, ◌&&◌, ℕ, ◌-◌, ◌%◌, Bool, true, false, List, Option, Some, None, find, nat_lt, if◌then◌else◌}
use Rattle.change_core.specs.declared.changes.Change.{Change}
use Rattle.change_core.specs.declared.statuses.Status.{Status}
use Rattle.change_core.specs.declared.statuses.Status.TheVariants.{Tombstone}
use Rattle.agent_core.specs.declared.tombstones.Tombstones.{Tombstones}

-- whether a status is that of a tombstone
abbrev pub is_over : Status → Bool
is_over Tombstone = true
is_over other = false

-- whether a member is a tombstone
abbrev pub is_tombstone : Change → Bool
is_tombstone c = is_over c.status

-- whether a member is a tombstone with a greater address than this one
abbrev pub is_past : ℕ → Change → Bool
is_past last c = is_tombstone c && nat_lt last c.address

-- the address of a member, if there is one
abbrev pub address_of : Option Change → Option ℕ
address_of None = None
address_of (Some c) = Some c.address

-- the address of the first tombstone
abbrev pub first_tombstone : List Change → Option ℕ
first_tombstone held = address_of (find is_tombstone held)

-- the address of a member, if there is one, and else this address
abbrev pub address_or : Option Change → Option ℕ → Option ℕ
address_or None other = other
address_or (Some c) other = Some c.address

-- the address of the first tombstone past this address, or else of the first of all
abbrev pub next_tombstone : ℕ → List Change → Option ℕ
next_tombstone last held = address_or (find (is_past last) held) (first_tombstone held)

-- the address past which the next one is looked for, once this one was found
abbrev pub last_after : ℕ → Option ℕ → ℕ
last_after last None = last
last_after last (Some address) = address

-- the state at the start: the first Join comes after one of the first hundred rounds, by the node's address, past which its tombstone is
abbrev pub begins_at : ℕ → Tombstones
begins_at own = record { left = own % 100; last = own }

-- after a round: whether a Join is due, as after each hundredth; and the state from then on
abbrev pub after_round : Tombstones → Bool × Tombstones
after_round t = if t.left == 0 then (true, record t { left = 99 }) else (false, record t { left = t.left - 1 })
