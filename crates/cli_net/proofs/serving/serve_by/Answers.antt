use Rattle.std.proofs.Common.{None, ap, refl}
use Rattle.cli_net.specs.declared.echoes.Echo.{Echo}
use Rattle.peer_core.specs.Links.{any_answer}
use Rattle.peer_core.proofs.Acts.{said_so}
use Rattle.cli_net.proofs.Entered.{MayFollow, cannot_begin, cannot_end, cannot_open, cannot_serve, had_hosts, kept_out_by, let_in_by, entered_by, served_by}
use Rattle.cli_net.proofs.Written.{said_both, unsaid_first, unsaid_last}
use Rattle.server.proofs.Starts.{healed_by}
use Rattle.cli_net.proofs.serving.serve_by.Goals as goal

pub returns-in_err-join_hosts-clause-named : goal.returns-in_err-join_hosts-clause-named
returns-in_err-join_hosts-clause-named g c = λ _.
    had_hosts g.H.PointHash.hash_of any_answer c.args.hash c.args.words.now c.in_ok-node.node c.in_ok-node.passes.items c.in_ok-node.timer c.join_hosts.new.pass
    c.as_slice-hosts.result.now c.moment-now.result c.in_ok-node.ensures.created c.in_ok-node.ensures.fresh c.as_slice-hosts.ensures.value (λ none. (c.in_err-join_hosts.ensures.alone none).1)
    c.in_err-join_hosts.field-0.0 c.in_err-join_hosts.ensures.alone

pub returns-in_err-join_hosts-clause-entered : goal.returns-in_err-join_hosts-clause-entered
returns-in_err-join_hosts-clause-entered g c =
    kept_out_by g.H.PointHash.hash_of any_answer c.args.hash c.args.words.now c.in_ok-node.node c.in_ok-node.passes.items c.in_ok-node.timer c.join_hosts.new.pass
    c.as_slice-hosts.result.now c.moment-now.result c.in_ok-node.ensures.created c.in_ok-node.ensures.fresh c.as_slice-hosts.ensures.value (λ none. (c.in_err-join_hosts.ensures.alone none).1)
    c.in_err-join_hosts.field-0.0 c.from_residual-in_err-join_hosts.result c.in_err-join_hosts.ensures.named c.in_err-join_hosts.ensures.joined
    c.from_residual-in_err-join_hosts.ensures.1

pub returns-in_err-port-clause-entered : goal.returns-in_err-port-clause-entered
returns-in_err-port-clause-entered g c =
    let out = c.from_residual-in_err-port in
    let fault = c.in_err-port.field-0.0 in
    let_in_by g.H.PointHash.hash_of any_answer c.args.hash c.args.words.now c.in_ok-node.node c.in_ok-node.passes.items c.in_ok-node.timer c.join_hosts.new.pass
    c.as_slice-hosts.result.now c.moment-now.result c.in_ok-node.ensures.created c.in_ok-node.ensures.fresh c.as_slice-hosts.ensures.value (λ none. (c.in_ok-join_hosts.ensures.alone none).1)
    out.result (said_so MayFollow out.result fault out.ensures.1 (cannot_open fault c.in_err-port.ensures))
    c.in_ok-join_hosts.ensures.joined

pub returns-in_err-say_serving-clause-entered : goal.returns-in_err-say_serving-clause-entered
returns-in_err-say_serving-clause-entered g c =
    let out = c.from_residual-in_err-say_serving in
    let fault = c.in_err-say_serving.field-0.0 in
    let_in_by g.H.PointHash.hash_of any_answer c.args.hash c.args.words.now c.in_ok-node.node c.in_ok-node.passes.items c.in_ok-node.timer c.join_hosts.new.pass
    c.as_slice-hosts.result.now c.moment-now.result c.in_ok-node.ensures.created c.in_ok-node.ensures.fresh c.as_slice-hosts.ensures.value (λ none. (c.in_ok-join_hosts.ensures.alone none).1)
    out.result (said_so MayFollow out.result fault out.ensures.1 (cannot_begin c.args.words.now.address fault (g.W.Write.contents c.args.writer.now) (g.W.Write.contents c.say_serving.new.writer) c.in_err-say_serving.ensures.left))
    c.in_ok-join_hosts.ensures.joined

pub returns-in_err-closed-clause-entered : goal.returns-in_err-closed-clause-entered
returns-in_err-closed-clause-entered g c =
    let out = c.from_residual-in_err-closed in
    let fault = c.in_err-closed.field-0.0 in
    let_in_by g.H.PointHash.hash_of any_answer c.args.hash c.args.words.now c.in_ok-node.node c.in_ok-node.passes.items c.in_ok-node.timer c.join_hosts.new.pass
    c.as_slice-hosts.result.now c.moment-now.result c.in_ok-node.ensures.created c.in_ok-node.ensures.fresh c.as_slice-hosts.ensures.value (λ none. (c.in_ok-join_hosts.ensures.alone none).1)
    out.result (said_so MayFollow out.result fault out.ensures.1 (cannot_serve fault c.in_err-closed.ensures.fault))
    c.in_ok-join_hosts.ensures.joined

pub returns-in_err-say_serving-clause-left : goal.returns-in_err-say_serving-clause-left
returns-in_err-say_serving-clause-left g c =
    let old = g.W.Write.contents c.args.writer.now in
    let new = g.W.Write.contents c.say_serving.new.writer in
    unsaid_first c.args.words.now.address old new new c.in_err-say_serving.field-0.0 c.from_residual-in_err-say_serving.result c.from_residual-in_err-say_serving.ensures.1
    c.in_err-say_serving.ensures.left

pub returns-in_err-say-clause-left : goal.returns-in_err-say-clause-left
returns-in_err-say-clause-left g c =
    unsaid_last c.args.words.now.address (g.W.Write.contents c.args.writer.now) (g.W.Write.contents c.say_serving.new.writer) (g.W.Write.contents c.say.new.writer)
    c.in_err-say.field-0.0 c.from_residual-in_err-say.result c.from_residual-in_err-say.ensures.1 c.in_ok-say_serving.ensures.said c.in_err-say.ensures.prefix
    c.in_err-say.ensures.fault

pub returns-in_err-say-clause-entered : goal.returns-in_err-say-clause-entered
returns-in_err-say-clause-entered g c =
    let out = c.from_residual-in_err-say in
    let fault = c.in_err-say.field-0.0 in
    let_in_by g.H.PointHash.hash_of any_answer c.args.hash c.args.words.now c.in_ok-node.node c.in_ok-node.passes.items c.in_ok-node.timer c.join_hosts.new.pass
    c.as_slice-hosts.result.now c.moment-now.result c.in_ok-node.ensures.created c.in_ok-node.ensures.fresh c.as_slice-hosts.ensures.value (λ none. (c.in_ok-join_hosts.ensures.alone none).1)
    out.result (said_so MayFollow out.result fault out.ensures.1 (cannot_end fault c.in_err-say.ensures.fault))
    c.in_ok-join_hosts.ensures.joined

pub returns-clause-served : goal.returns-clause-served
returns-clause-served g c =
    said_both c.args.words.now.address (g.W.Write.contents c.args.writer.now) (g.W.Write.contents c.say_serving.new.writer) (g.W.Write.contents c.say.new.writer)
    c.in_ok-say_serving.ensures.said c.in_ok-say.ensures.said

pub returns-clause-entered : goal.returns-clause-entered
returns-clause-entered g c =
    entered_by g.H.PointHash.hash_of any_answer c.args.hash c.args.words.now c.in_ok-node.node c.in_ok-node.passes.items c.in_ok-node.timer c.join_hosts.new.pass
    c.as_slice-hosts.result.now c.moment-now.result c.in_ok-node.ensures.created c.in_ok-node.ensures.fresh c.as_slice-hosts.ensures.value (λ none. (c.in_ok-join_hosts.ensures.alone none).1)
    None c.in_ok-join_hosts.ensures.joined

pub returns-clause-serves : goal.returns-clause-serves
returns-clause-serves g c =
    served_by g.H.PointHash.hash_of any_answer c.args.hash c.args.words.now c.in_ok-node.node c.in_ok-node.passes.items c.in_ok-node.timer c.join_hosts.new.pass
    c.as_slice-hosts.result.now c.moment-now.result c.in_ok-node.ensures.created c.in_ok-node.ensures.fresh c.as_slice-hosts.ensures.value (λ none. (c.in_ok-join_hosts.ensures.alone none).1)
    g.R.RoundClock.times c.args.timeouts _ c.in_ok-closed.closed c.new-server.ensures.node (ap (λ (e : Echo). e.address) c.new-server.ensures.handler)
    refl
    (healed_by c.args.words.now.heal c.args.words.now.address c.args.words.now.hosts.items c.in_ok-healing.healing c.new-server.result.healing c.new-server.ensures.healing c.in_ok-healing.ensures.heals)
    c.new-server.ensures.hosts c.new-server.ensures.connections c.in_ok-node.ensures.count c.in_ok-node.ensures.all c.in_ok-join_hosts.ensures.joined c.in_ok-closed.ensures.ended
