use Rattle.peer_core.specs.MemberErrors.{error_of_request, widened}
use Rattle.server.proofs.Requested.{requested_shared}
use Rattle.server.proofs.seats.request_over.Goals as goal

pub returns : goal.returns
returns g c =
    requested_shared g.H.PointHash.hash_of c.request.new.handler _ (λ h. g.A.Handler.may_handle h.now) c.args.keys c.args.body (widened error_of_request c.request.result) c.args.member.now c.request.new.self
    c.request.ensures.done
