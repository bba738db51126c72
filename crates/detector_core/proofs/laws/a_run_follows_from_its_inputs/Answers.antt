use Rattle.detector_core.proofs.RunLaws.{picks_are_one, losses_are_one, words_are_one, acks_are_one}
use Rattle.detector_core.proofs.laws.a_run_follows_from_its_inputs.Goals as goal

pub returns-clause-picks : goal.returns-clause-picks
returns-clause-picks c = picks_are_one

pub returns-clause-losses : goal.returns-clause-losses
returns-clause-losses c = losses_are_one

pub returns-clause-words : goal.returns-clause-words
returns-clause-words c = words_are_one

pub returns-clause-acks : goal.returns-clause-acks
returns-clause-acks c = acks_are_one
