use Rattle.std.proofs.Common.{arith, []}
use Rattle.std.proofs.lemmas.Grind.{common_steps}
use Rattle.std.specs.Prelude.{◌≢◌}
use Rattle.node_core.specs.declared.events.Event.TheVariants as call
use Rattle.node_core.specs.declared.events.Reply.TheVariants as reply
use Rattle.peer_core.proofs.Parts.{barred_call, did_call, does_next, does_stop_locked}
use Rattle.peer_core.proofs.Served.{reaches_other}
use Rattle.peer_core.proofs.Exchanges.{sent_hushed, sent_still, sent_then}
use Rattle.peer_core.proofs.Hushed.{hushes_own}
use Rattle.peer_core.proofs.serving.is_reachable.Goals as goal

pub returns-in_err-own-clause-did : goal.returns-in_err-own-clause-did
returns-in_err-own-clause-did g c =
    does_stop_locked _ _ c.in_err-own.field-0.0 c.from_residual.result c.from_residual.ensures.1 (barred_call call.Own reply.Own c.in_err-own.field-0.0 c.in_err-own.ensures.refused)

pub returns-clause-did : goal.returns-clause-did
returns-clause-did g c =
    let differ : c.in_ok-own.own.address ≢ c.args.target = grind (arith, common_steps) in
    does_next _ _ _ _ (did_call call.Own reply.Own _ c.in_ok-own.ensures.called) (reaches_other g.L.Link.may_answer _ _ _ differ c.ping_target.ensures.did)

pub returns-in_err-own-clause-sent : goal.returns-in_err-own-clause-sent
returns-in_err-own-clause-sent g c = sent_still [] c.in_err-own.ensures.refused.0

pub returns-then-eq-clause-sent : goal.returns-then-eq-clause-sent
returns-then-eq-clause-sent g c = sent_hushed hushes_own (did_call call.Own reply.Own _ c.in_ok-own.ensures.called)

pub returns-clause-sent : goal.returns-clause-sent
returns-clause-sent g c = sent_then (sent_hushed hushes_own (did_call call.Own reply.Own _ c.in_ok-own.ensures.called)) c.ping_target.ensures.sent
