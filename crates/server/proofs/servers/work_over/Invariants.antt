use Rattle.peer_core.specs.Acts.{Makes}
use Rattle.line_service.specs.Answering.{IsSame}
use Rattle.server.specs.Working.{ServesEach}
use Rattle.server.proofs.servers.work_over.Given as goal

-- the counted connections have been served
abbrev pub invariant-loop-served : goal.invariant-loop-served
invariant-loop-served g l = record {
  made : Makes l.fn.member.node (ServesEach g.H.PointHash.hash_of g.A.HandlerMut.handled l.served l.fn.handler l.handler) l.fn.member.pass.now l.member.pass.now;
  same : IsSame l.fn.member l.member;
}
