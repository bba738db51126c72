use Rattle.cluster_core.proofs.Worked.{has_worked, worked_shared}
use Rattle.cluster_core.proofs.clusters.work_with.Goals as goal

pub returns-clause-made : goal.returns-clause-made
returns-clause-made g c =
    worked_shared c.args.member.now.node g.H.PointHash.hash_of c.work_over.new.handler _ (λ h. g.A.Handler.may_handle h.now) c.args.member.now.pass.now c.work_over.new.member.pass.now
    c.work_over.ensures.served

pub returns-clause-worked : goal.returns-clause-worked
returns-clause-worked g c =
    has_worked c.args.member.now.node g.H.PointHash.hash_of c.work_over.new.handler _ (λ h. g.A.Handler.may_handle h.now) c.args.member.now.pass.now c.work_over.new.member.pass.now
    c.work_over.ensures.served
