use Rattle.std.proofs.Common.{◌≡◌}
use Rattle.peer_core.specs.Acts.{Makes}
use Rattle.cluster_core.specs.Working.{ServesEach}
use Rattle.cluster_core.proofs.clusters.work_over.Given as goal

-- messages have been served, by the same pass of the same node
abbrev pub invariant-jobs : goal.invariant-jobs
invariant-jobs g l = record {
  iterates : (goal.iterator-jobs g).can_next l.iterator' × (goal.iterator-jobs g).is_finite l.iterator';
  node : l.member.node ≡ l.fn.member.node;
  pass : l.member.pass.ghost_name ≡ l.fn.member.pass.ghost_name;
  served : Makes l.fn.member.node (ServesEach g.H.PointHash.hash_of g.A.HandlerMut.handled l.fn.handler l.handler) l.fn.member.pass.now l.member.pass.now;
}
