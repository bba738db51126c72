use Rattle.std.proofs.Common.{◌≡◌, take}
use Rattle.agent_core.specs.Texts.{on_ring}
use Rattle.agent_core.proofs.texts.on_ring.Given as goal

abbrev pub invariant-loop-member : goal.invariant-loop-member
invariant-loop-member l = l.servers.items ≡ on_ring (take l.member-index l.members)
