use Rattle.std.proofs.Common.{◌≡◌, ◌*◌, map, take}
use Rattle.agent_core.specs.Passing.{flat, named}
use Rattle.agent_core.proofs.passing.fields_of.Given as goal

-- the first parts are those of the fields so far
abbrev pub invariant-loop-i : goal.invariant-loop-i
invariant-loop-i l = map (λ p. p.now) (take (2 * l.i) l.parts) ≡ flat (map named l.fields.items)
