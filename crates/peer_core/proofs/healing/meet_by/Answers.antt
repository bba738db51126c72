use Rattle.peer_core.specs.Errors.{IsHealRefusal}
use Rattle.peer_core.proofs.Acts.{said_so}
use Rattle.peer_core.proofs.Healed.{named_choice}
use Rattle.peer_core.proofs.Parts.{does_next, does_stop_at}
use Rattle.std.proofs.Common.{Some}
use Rattle.peer_core.proofs.Exchanges.{sent_drawn, sent_drawn_none, sent_hushed}
use Rattle.peer_core.proofs.Hushed.{hushes_chooses}
use Rattle.peer_core.proofs.healing.meet_by.Goals as goal

pub returns-in_err-choice-clause-did : goal.returns-in_err-choice-clause-did
returns-in_err-choice-clause-did g c = does_stop_at _ _ _ c.from_residual.result c.from_residual.ensures.1 c.in_err-choice.ensures.did

pub returns-in_err-choice-clause-named : goal.returns-in_err-choice-clause-named
returns-in_err-choice-clause-named g c = said_so IsHealRefusal c.from_residual.result c.in_err-choice.field-0.0 c.from_residual.ensures.1 c.in_err-choice.ensures.named

pub returns-clause-did : goal.returns-clause-did
returns-clause-did g c = does_next _ _ _ _ c.in_ok-choice.ensures.did c.carry_out.ensures.did

pub returns-clause-named : goal.returns-clause-named
returns-clause-named g c = named_choice g.L.Link.may_answer c.args.now c.in_ok-choice.choice c.carry_out.result c.carry_out.ensures.did

pub returns-in_err-choice-clause-sent : goal.returns-in_err-choice-clause-sent
returns-in_err-choice-clause-sent g c =
    sent_drawn_none g.L.Link.went c.args.hosts.now (Some c.args.draws) (sent_hushed (hushes_chooses c.args.hosts.now c.args.draws) c.in_err-choice.ensures.did)

pub returns-clause-sent : goal.returns-clause-sent
returns-clause-sent g c = sent_drawn c.args.hosts.now c.args.draws c.in_ok-choice.choice c.in_ok-choice.ensures.did c.carry_out.ensures.sent
