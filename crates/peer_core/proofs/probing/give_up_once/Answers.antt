use Rattle.std.proofs.Common.{subst}
use Rattle.peer_core.specs.Parts.{Does}
use Rattle.peer_core.specs.Rounds.{AsksHelpers}
use Rattle.peer_core.proofs.Parts.{does_next_is}
use Rattle.peer_core.proofs.Exchanges.{sent_hushed, sent_then}
use Rattle.peer_core.proofs.Hushed.{hushes_loses}
use Rattle.peer_core.proofs.probing.give_up_once.Goals as goal

pub returns-in-Ask-clause-did : goal.returns-in-Ask-clause-did
returns-in-Ask-clause-did g c =
    does_next_is _ _ _ _ _ c.in_ok-lost.ensures.did c.in-Ask.is
    (subst (λ hs. Does c.args.node.now (AsksHelpers g.L.Link.may_answer c.args.now c.args.probe.now hs) c.ask_helpers.result c.lose.new.pass c.ask_helpers.new.pass)
    c.as_slice-helpers.ensures c.ask_helpers.ensures.did)

pub returns-in_err-lost-clause-sent : goal.returns-in_err-lost-clause-sent
returns-in_err-lost-clause-sent g c = sent_hushed (hushes_loses c.args.now c.args.probe.now.number) c.in_err-lost.ensures.did

pub returns-in-Ask-clause-sent : goal.returns-in-Ask-clause-sent
returns-in-Ask-clause-sent g c = sent_then (sent_hushed (hushes_loses c.args.now c.args.probe.now.number) c.in_ok-lost.ensures.did) c.ask_helpers.ensures.sent

pub returns-in-Suspect-clause-sent : goal.returns-in-Suspect-clause-sent
returns-in-Suspect-clause-sent g c = sent_hushed (hushes_loses c.args.now c.args.probe.now.number) c.in_ok-lost.ensures.did
