use Rattle.std.proofs.Common.{◌≡◌, ◌++◌, length, map}
use Rattle.agent_core.specs.Parts.{joined}
use Rattle.agent_core.proofs.parts.parts_in.Given as goal

abbrev pub invariant-loop-rest : goal.invariant-loop-rest
invariant-loop-rest l = l.bytes ≡ joined (map (λ p. p.now) l.parts.items) ++ l.rest

abbrev pub decreases-loop-rest : goal.decreases-loop-rest
decreases-loop-rest l = length l.rest
