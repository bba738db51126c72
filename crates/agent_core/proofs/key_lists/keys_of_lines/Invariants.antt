use Rattle.std.proofs.Common.{Bor, ℕ, List}
use Rattle.agent_core.specs.Requests.{line_at}
use Rattle.agent_core.proofs.Listing.{SoFar}
use Rattle.agent_core.proofs.key_lists.keys_of_lines.Given as goal

-- the keys so far stand before those that are left
abbrev pub invariant-loop-line : goal.invariant-loop-line
invariant-loop-line l = SoFar (λ (line : Bor (List ℕ)). line.now) line_at l.lines l.line-index l.items.items
