use Rattle.agent_peers.proofs.Relaying.{passes_on, withheld_after}
use Rattle.agent_peers.proofs.relays.ask_owner.Goals as goal

pub returns-in_default-own-clause-passed : goal.returns-in_default-own-clause-passed
returns-in_default-own-clause-passed g c =
    withheld_after g.L.Link.may_answer g.L.Link.went c.args.request.now c.in-Some.owner c.own.result c.args.link.now _ c.args.caller.now _ _
    c.in-Some.ensures.chosen c.own.ensures.node c.own.ensures.did

pub returns-then-not-has_time-clause-passed : goal.returns-then-not-has_time-clause-passed
returns-then-not-has_time-clause-passed g c =
    withheld_after g.L.Link.may_answer g.L.Link.went c.args.request.now c.in-Some.owner c.own.result c.args.link.now _ c.args.caller.now _ _
    c.in-Some.ensures.chosen c.own.ensures.node c.own.ensures.did

pub returns-clause-passed : goal.returns-clause-passed
returns-clause-passed g c =
    passes_on g.L.Link.may_answer g.L.Link.went c.args.request.now c.pass_on-relayed.result c.in-Some.owner c.in-Ok.own c.args.link.now _ _ c.args.caller.now _ _
    c.in-Some.ensures.chosen c.in-Ok.ensures.node c.in-Ok.ensures.did.makes c.pass_on-relayed.ensures.relayed
