use Rattle.std.proofs.Common.{[]}
use Rattle.peer_core.proofs.Corrected.{target_as}
use Rattle.peer_core.proofs.Parts.{does_fail_memory}
use Rattle.peer_core.proofs.Exchanges.{sent_hushed, sent_none}
use Rattle.peer_core.proofs.Hushed.{hushes_acknowledges}
use Rattle.peer_core.proofs.probing.hear_target.Goals as goal

pub returns-in-Answer-clause-did : goal.returns-in-Answer-clause-did
returns-in-Answer-clause-did g c = target_as g.L.Link.may_answer c.args.now c.args.probe.now _ c.in-Answer.is c.acknowledge.ensures.did

pub returns-in-Other-clause-did : goal.returns-in-Other-clause-did
returns-in-Other-clause-did g c = target_as g.L.Link.may_answer c.args.now c.args.probe.now _ c.in-Other.is c.give_up.ensures.did

pub returns-in-OutOfMemory-clause-did : goal.returns-in-OutOfMemory-clause-did
returns-in-OutOfMemory-clause-did g c = target_as g.L.Link.may_answer c.args.now c.args.probe.now _ c.in-OutOfMemory.is (does_fail_memory _ _)

pub returns-in-Answer-clause-sent : goal.returns-in-Answer-clause-sent
returns-in-Answer-clause-sent g c = sent_hushed (hushes_acknowledges c.args.now c.args.probe.now c.in-Answer.ack) c.acknowledge.ensures.did

pub returns-in-OutOfMemory-clause-sent : goal.returns-in-OutOfMemory-clause-sent
returns-in-OutOfMemory-clause-sent g c = sent_none []
