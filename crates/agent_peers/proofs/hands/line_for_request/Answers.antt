use Rattle.std.proofs.Common.{◌≡◌, ◌≢◌, Bool, true, false, rules, subst}
use Rattle.line_service.specs.declared.inputs.Input.{Input}
use Rattle.agent_node.specs.Noting.{handler_of}
use Rattle.agent_peers.specs.Relays.{IsRelayOf}
use Rattle.agent_peers.specs.Serving.{IsAnsweredHere, IsServed, asks}
use Rattle.agent_peers.specs.declared.relays.Relayed.{Relayed}
use Rattle.agent_peers.specs.declared.relays.Relayed.TheVariants.{NotDone}
use Rattle.agent_peers.proofs.hands.line_for_request.Goals as goal

pub returns-then-handler : goal.returns-then-handler
returns-then-handler g c =
    let asked : c.own_answer-line.new.handler.was_asked ≡ true = search rules in
    record {
      served = IsServed.here c.own_answer-line.new.caller
          (subst (λ (b : Bool). IsAnsweredHere (asks g.A.HandlerMut.handled b (handler_of c.args.handler.now) (handler_of c.own_answer-line.new.handler))
          c.args.job.now.input c.own_answer-line.result c.args.caller.now c.own_answer-line.new.caller) asked c.own_answer-line.ensures.answered);
    }

pub returns-in-Some : goal.returns-in-Some
returns-in-Some g c =
    let unasked : c.own_answer-line.new.handler.was_asked ≡ false = search rules in
    let done : c.relay-relayed.result ≢ NotDone = search rules in
    record {
      served = IsServed.there c.own_answer-line.result c.own_answer-line.new.caller c.renew.new.caller c.relay-relayed.new.caller c.relay-relayed.result
          (subst (λ (b : Bool). IsAnsweredHere (asks g.A.HandlerMut.handled b (handler_of c.args.handler.now) (handler_of c.own_answer-line.new.handler))
          c.args.job.now.input c.own_answer-line.result c.args.caller.now c.own_answer-line.new.caller) unasked c.own_answer-line.ensures.answered)
          c.relay-relayed.ensures.relayed done (search rules);
    }

pub returns : goal.returns
returns g c =
    let unasked : c.own_answer-line.new.handler.was_asked ≡ false = search rules in
    let kept : c.relay-relayed.result ≡ NotDone = search rules in
    record {
      served = IsServed.here_again (handler_of c.own_answer-line.new.handler) c.own_answer-line.result c.own_answer-line.new.caller c.renew.new.caller c.relay-relayed.new.caller
          c.renew-2.new.caller c.own_answer.new.caller c.own_answer.new.handler.was_asked
          (subst (λ (b : Bool). IsAnsweredHere (asks g.A.HandlerMut.handled b (handler_of c.args.handler.now) (handler_of c.own_answer-line.new.handler))
          c.args.job.now.input c.own_answer-line.result c.args.caller.now c.own_answer-line.new.caller) unasked c.own_answer-line.ensures.answered)
          (subst
          (λ (r : Relayed). IsRelayOf g.L.Link.may_answer g.L.Link.went c.args.job.now.input r c.args.relay_link.now c.relay-relayed.new.link c.renew.new.caller
          c.relay-relayed.new.caller) kept c.relay-relayed.ensures.relayed)
          (subst
          (λ (heard : Input). IsAnsweredHere (asks g.A.HandlerMut.handled c.own_answer.new.handler.was_asked (handler_of c.own_answer-line.new.handler)
          (handler_of c.own_answer.new.handler)) heard c.own_answer.result c.renew-2.new.caller c.own_answer.new.caller)
          c.relay-relayed.ensures.same c.own_answer.ensures.answered);
    }
