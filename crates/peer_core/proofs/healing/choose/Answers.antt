use Rattle.std.proofs.Common.{Ok, ap}
use Rattle.peer_core.proofs.Healed.{choice_is}
use Rattle.peer_core.proofs.Parts.{does_as, does_give, does_next, does_stop_at}
use Rattle.peer_core.proofs.healing.choose.Goals as goal

pub returns-in_err-members-clause-did : goal.returns-in_err-members-clause-did
returns-in_err-members-clause-did g c =
    does_next _ _ _ _ c.in_ok-own.ensures.did
    (does_stop_at _ _ _ c.from_residual-in_err-members.result c.from_residual-in_err-members.ensures.1 c.in_err-members.ensures.did)

pub returns-clause-did : goal.returns-clause-did
returns-clause-did g c =
    does_next _ _ _ _ c.in_ok-own.ensures.did
    (does_next _ _ _ _ c.in_ok-members.ensures.did
    (does_as (ap Ok
    (choice_is c.in_ok-own.own.address c.in_ok-members.members c.as_slice.result.now c.as_slice-2.result.now c.args.hosts.now c.args.draws c.choose_member.result c.choose_host.result
    c.as_slice.ensures c.as_slice-2.ensures c.choose_member.ensures c.choose_host.ensures))
    (does_give _ _ _)))
