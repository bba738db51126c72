use Rattle.std.proofs.Common.{sym, ap, ◌∙◌}
use Rattle.message_core.specs.declared.messages.Message.{Message}
use Rattle.peer_core.proofs.Forwarded.{judged_as, same_request, sent_lent}
use Rattle.peer_core.proofs.Resent.{once_lent}
use Rattle.peer_core.proofs.forwarding.send.Goals as goal

pub returns-clause-sent : goal.returns-clause-sent
returns-clause-sent g c =
    sent_lent g.L.Link.may_answer g.C.Clock.time c.args.view.now c.args.owner c.args.request _ _ _ c.call-answer.result c.now.result c.judge.result
    c.lend-keys.ensures c.message_from-message.ensures c.call-answer.ensures.came c.now.ensures
    (judged_as c.now.result _ c.args.request c.call-answer.result c.judge.result
    (same_request c.args.request _ _ _ _ _ c.lend-keys.ensures (sym (ap (λ (m : Message). m.content) c.message_from-message.ensures) ∙ c.in-Forward.is) c.take_back-attempt.ensures)
    c.judge.ensures.judged)

pub returns-clause-once : goal.returns-clause-once
returns-clause-once g c = once_lent g.L.Link.went c.args.view.now c.args.owner c.args.request _ _ _ c.call-answer.result c.now.result c.judge.result _ _
    c.lend-keys.ensures c.message_from-message.ensures c.call-answer.ensures.went
    (judged_as c.now.result _ c.args.request c.call-answer.result c.judge.result
    (same_request c.args.request _ _ _ _ _ c.lend-keys.ensures (sym (ap (λ (m : Message). m.content) c.message_from-message.ensures) ∙ c.in-Forward.is) c.take_back-attempt.ensures)
    c.judge.ensures.judged)
