use Rattle.std.proofs.Common.{subst}
use Rattle.std.specs.Prelude.{IfNone, IfSome}
use Rattle.peer_core.specs.Acts.{Makes}
use Rattle.peer_core.specs.Handling.{between}
use Rattle.line_service.specs.Answering.{IsSentAs, IsTried, SendsNothing}
use Rattle.line_service.proofs.Answered.{if_none, responded, silent_unanswered, silent_unsent}
use Rattle.line_service.proofs.answering.respond.Goals as goal

pub returns-in_err-answer-clause-silent : goal.returns-in_err-answer-clause-silent
returns-in_err-answer-clause-silent g c =
    if_none _ c.from_residual.result
    (silent_unanswered g.H.PointHash.hash_of g.L.Link.may_answer (between g.A.HandlerMut.handled c.args.handler.now c.answer.new.handler) c.args.now c.args.member.now.node c.args.member.now.pass.now c.answer.new.member.pass.now
    c.args.input.now c.in_err-answer.ensures.unanswered)

pub returns-clause-sent : goal.returns-clause-sent
returns-clause-sent g c =
    responded g.H.PointHash.hash_of g.L.Link.may_answer (between g.A.HandlerMut.handled c.args.handler.now c.answer.new.handler) c.args.now c.args.member.now.node c.args.member.now.pass.now c.answer.new.member.pass.now
    c.args.input.now c.in_ok-answer.answer c.line_of.result c.line_of.new.member.pass.now c.in_ok-answer.ensures.answered
    (subst (λ n. IfSome c.line_of.result (λ v. Makes n (IsSentAs c.in_ok-answer.answer v.items) c.answer.new.member.pass.now c.line_of.new.member.pass.now)) c.answer.ensures.same.node
    c.line_of.ensures.sent)

pub returns-clause-silent : goal.returns-clause-silent
returns-clause-silent g c =
    silent_unsent g.H.PointHash.hash_of g.L.Link.may_answer (between g.A.HandlerMut.handled c.args.handler.now c.answer.new.handler) c.args.now c.args.member.now.node c.args.member.now.pass.now c.answer.new.member.pass.now
    c.args.input.now c.in_ok-answer.answer c.line_of.result c.line_of.new.member.pass.now c.in_ok-answer.ensures.answered
    (subst (λ n. IfNone c.line_of.result (IsTried (SendsNothing c.in_ok-answer.answer) n c.answer.new.member.pass.now c.line_of.new.member.pass.now)) c.answer.ensures.same.node
    c.line_of.ensures.silent)
