use Rattle.std.proofs.Common.{List, Ok, ap, refl, subst, sym, ◌∙◌}
use Rattle.change_core.specs.declared.changes.Sourced.{Sourced}
use Rattle.message_core.specs.declared.messages.Content.{Content}
use Rattle.node_core.specs.declared.events.Received.{Received}
use Rattle.node_core.specs.Messages.{ack_by, carried, joined_by, told}
use Rattle.node_core.specs.Receiving.{AnswerStep, ReceiveStep, is_answered}
use Rattle.node_core.specs.Taking.{TakeStep}
use Rattle.node_core.proofs.Receipts.{receive-answered}
use Rattle.node_core.proofs.node.NodeState.receive.Goals as goal

pub returns-in-Ok : goal.returns-in-Ok
returns-in-Ok g c =
    let old = c.args.self.now.node in
    let message = c.args.message.now in
    let new = c.take.new.self.node in
    record {
      step = subst (λ (r : Received). ReceiveStep old message c.args.moment r new) (sym c.answered.ensures)
          (receive-answered old message c.args.moment c.in-Ok.taken c.joined.result new new new (joined_by new) (ap is_answered c.in-Join.is)
          (subst (λ (given : List Sourced). TakeStep old given c.args.moment (Ok c.in-Ok.taken) new) (c.as_slice.ensures.items ∙ sym (ap carried c.in-Join.is)) c.in-Ok.ensures.step)
          c.joined.ensures.step
          (λ made e. subst (λ (content : Content). AnswerStep new message.source content made new) (sym c.in-Join.is) (e, refl)));
    }

pub returns-in-Ok-take : goal.returns-in-Ok-take
returns-in-Ok-take g c =
    let old = c.args.self.now.node in
    let message = c.args.message.now in
    let mid = c.take-in-Ping.new.self.node in
    let new = c.ack.new.self.node in
    record {
      step = subst (λ (r : Received). ReceiveStep old message c.args.moment r new) (sym c.answered-in-Ok-take.ensures)
          (receive-answered old message c.args.moment c.in-Ok-take.taken c.ack.result mid (told mid message.source) new (ack_by mid message.source c.in-Ping.news.checksum) (ap is_answered c.in-Ping.is)
          (subst (λ (given : List Sourced). TakeStep old given c.args.moment (Ok c.in-Ok-take.taken) mid) (c.as_slice-in-Ping.ensures.items ∙ sym (ap carried c.in-Ping.is)) c.in-Ok-take.ensures.step)
          c.ack.ensures.step
          (λ made e. subst (λ (content : Content). AnswerStep mid message.source content made (told mid message.source)) (sym c.in-Ping.is) (e, refl)));
    }
