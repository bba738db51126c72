use Rattle.peer_core.proofs.Parts.{does_fail_memory, does_next_is}
use Rattle.peer_core.proofs.Exchanges.{sent_hushed, sent_then}
use Rattle.peer_core.proofs.Hushed.{hushes_helper, hushes_tells}
use Rattle.detector_core.specs.declared.asked.Said.TheVariants as said
use Rattle.peer_core.specs.declared.hearing.Heard.TheVariants as heard
use Rattle.peer_core.proofs.probing.ask_helper.Goals as goal

pub returns-in-Answer-clause-did : goal.returns-in-Answer-clause-did
returns-in-Answer-clause-did g c = does_next_is _ _ _ _ _ c.in_ok-heard.ensures.did c.in-Answer.is c.take_word.ensures.did

pub returns-in-Other-clause-did : goal.returns-in-Other-clause-did
returns-in-Other-clause-did g c = does_next_is _ _ _ _ _ c.in_ok-heard.ensures.did c.in-Other.is c.tell_word.ensures.did

pub returns-in-OutOfMemory-clause-did : goal.returns-in-OutOfMemory-clause-did
returns-in-OutOfMemory-clause-did g c = does_next_is _ _ _ _ _ c.in_ok-heard.ensures.did c.in-OutOfMemory.is (does_fail_memory _ _)

pub returns-in-Answer-clause-sent : goal.returns-in-Answer-clause-sent
returns-in-Answer-clause-sent g c = sent_then c.in_ok-heard.ensures.sent (sent_hushed (hushes_helper c.args.now c.args.probe.now c.args.helper (heard.Answer c.in-Answer.message)) c.take_word.ensures.did)

pub returns-in-Other-clause-sent : goal.returns-in-Other-clause-sent
returns-in-Other-clause-sent g c = sent_then c.in_ok-heard.ensures.sent (sent_hushed (hushes_tells c.args.now c.args.probe.now.number c.args.helper said.Failed) c.tell_word.ensures.did)
