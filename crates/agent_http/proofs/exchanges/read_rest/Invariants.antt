use Rattle.std.proofs.Common.{◌≡◌, ◌≤◌, length}
use Rattle.agent_http.proofs.exchanges.read_rest.Given as goal

-- the answer is the one that is wanted, and short so far
abbrev pub invariant-loop : goal.invariant-loop
invariant-loop g l = (l.answer.wanted ≡ l.fn.wanted) × (length l.answer.body.items ≤ 1048576)
