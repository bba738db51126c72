use Rattle.std.proofs.Common.{sym, ◌∙◌}
use Rattle.agent_peers.proofs.Relaying.{joins_nobody, joins_sender, met}
use Rattle.agent_peers.proofs.relays.meet_sender.Goals as goal

pub returns-then-not-has_time-clause-tried : goal.returns-then-not-has_time-clause-tried
returns-then-not-has_time-clause-tried g c = joins_nobody g.L.Link.may_answer g.L.Link.went c.args.request.now c.args.link.now c.args.caller.now

pub returns-clause-met : goal.returns-clause-met
returns-clause-met g c =
    λ came. met g.L.Link.may_answer g.L.Link.went c.args.request.now _ c.join-joined.result c.args.link.now _ c.args.caller.now _ (sym c.is_ok.ensures.value ∙ came)
    c.join-joined.ensures.node c.join-joined.ensures.did.makes c.join-joined.ensures.sent

pub returns-clause-tried : goal.returns-clause-tried
returns-clause-tried g c =
    joins_sender g.L.Link.may_answer g.L.Link.went c.args.request.now _ c.join-joined.result c.args.link.now _ c.args.caller.now _
    c.join-joined.ensures.node c.join-joined.ensures.did.makes c.join-joined.ensures.sent
