use Rattle.std.proofs.Common.{subst}
use Rattle.peer_core.specs.Acts.{Makes, Times}
use Rattle.peer_core.specs.Handling.{shared}
use Rattle.server.specs.Working.{IsConnection}
use Rattle.server.proofs.Worked.{served_shared}
use Rattle.server.proofs.threads.work_by.Goals as goal

pub returns : goal.returns
returns g c =
    subst (λ s. Makes s.node (Times (IsConnection g.H.PointHash.hash_of (shared (g.A.Handler.may_handle s.handler))) c.work-connections.result) c.args.pass c.work-connections.new.pass) c.deref-server.ensures
    (served_shared g.H.PointHash.hash_of c.deref-server.result.now.node c.work-connections.new.handler _ (λ h. g.A.Handler.may_handle h.now) c.work-connections.result c.args.pass c.work-connections.new.pass
    c.work-connections.ensures.made)
