use Rattle.std.proofs.lemmas.Result.{on_ok_weaker}
use Rattle.agent.specs.Texts.{agent_text}
use Rattle.agent.proofs.Written.{first_alone, prefix_first, prefix_last, said_both}
use Rattle.agent.proofs.runs.serve.Goals as goal

pub returns-in_err-say_serving-clause-prefix : goal.returns-in_err-say_serving-clause-prefix
returns-in_err-say_serving-clause-prefix g c =
    let new = g.W.Write.contents c.say_serving.new.writer in
    prefix_first c.args.own (g.W.Write.contents c.args.writer.now) new new c.in_err-say_serving.ensures.prefix

pub returns-in_err-wait_for_end-clause-prefix : goal.returns-in_err-wait_for_end-clause-prefix
returns-in_err-wait_for_end-clause-prefix g c =
    let new = g.W.Write.contents c.say_serving.new.writer in
    first_alone c.args.own (g.W.Write.contents c.args.writer.now) new new c.in_ok-say_serving.ensures.said

pub returns-clause-served : goal.returns-clause-served
returns-clause-served g c =
    on_ok_weaker c.say.result
    (said_both c.args.own (g.W.Write.contents c.args.writer.now) (g.W.Write.contents c.say_serving.new.writer) (g.W.Write.contents c.say.new.writer)
    c.in_ok-say_serving.ensures.said)
    c.say.ensures.said

pub returns-clause-prefix : goal.returns-clause-prefix
returns-clause-prefix g c =
    prefix_last c.args.own (g.W.Write.contents c.args.writer.now) (g.W.Write.contents c.say_serving.new.writer) (g.W.Write.contents c.say.new.writer)
    c.in_ok-say_serving.ensures.said c.say.ensures.prefix
