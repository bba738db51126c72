use Rattle.peer_core.proofs.Healed.{IsAhead}
use Rattle.peer_core.proofs.healing.met_at.Given as goal

abbrev pub invariant-loop-member : goal.invariant-loop-member
invariant-loop-member l = IsAhead l.own l.members l.place l.member-index l.left
