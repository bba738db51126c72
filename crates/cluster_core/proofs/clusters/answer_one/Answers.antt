use Rattle.std.proofs.Common.{subst}
use Rattle.peer_core.specs.Handling.{between}
use Rattle.peer_core.specs.Members.{Done}
use Rattle.peer_core.specs.Parts.{let_in}
use Rattle.peer_core.specs.Serving.{Serves}
use Rattle.peer_core.specs.Links.{any_answer}
use Rattle.cluster_core.proofs.clusters.answer_one.Goals as goal

pub returns : goal.returns
returns g c =
    subst (λ n. Done (Serves g.H.PointHash.hash_of any_answer (between g.A.HandlerMut.handled c.args.handler.now c.serve.new.handler) c.args.message.now n c.args.message.now.content) (let_in c.serve.result) c.args.member.now c.serve.new.self)
    c.beginning.ensures c.serve.ensures.done
