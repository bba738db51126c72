-- How an agent divides the descriptors of its process.
use Rattle.std.specs.Prelude.{◌+◌, ◌-◌, ◌*◌, ◌/◌, ℕ, min}
use Rattle.agent_core.specs.declared.descriptors.Budget.{Budget}

-- The part of the descriptors that each kind of connection has: a sixteenth of those that are left by the agent's own 28.
abbrev pub part_of : ℕ → ℕ
part_of descriptors = (descriptors - 28) / 16

-- The most descriptors that are open without those for clients: the agent's own 28, those of other nodes, two for each hand, and those that rest.
abbrev pub others_open : Budget → ℕ
others_open b = 28 + (b.nodes + b.queued + 2 * b.hands + b.spares + b.kept)

-- The most descriptors that are open at a time: with those above, each client's, and one more for each of the 256 requests of clients that are answered at a time.
abbrev pub most_open : Budget → ℕ
most_open b = others_open b + (b.clients + min b.clients 256)
