use Rattle.std.proofs.Common.{sym, ◌∙◌}
use Rattle.agent_api.proofs.Unsure.{went_ended}
use Rattle.agent_api.proofs.onces.OnceLinkLink.call.Goals as goal

pub returns-then-ends_request-clause-went : goal.returns-then-ends_request-clause-went
returns-then-ends_request-clause-went g c =
    let ended = c.end-then-ends_request.ensures in
    let sent = c.send-answer.ensures in
    went_ended g.N.Dial.dialled c.args.to c.args.message.now c.send-answer.result c.end-then-ends_request.result c.args.self.now c.send-answer.new.self c.note.new.self
    c.end-then-ends_request.new.self _ ended.error ended.last ended.unsure ended.repeatable ended.net c.note.ensures.same c.note.ensures.net sent.connects sent.unmade sent.unsure
    sent.repeatable (sym c.ends_request.ensures ∙ c.if-ends_request.true)
