use Rattle.std.proofs.Common.{subst, ap, ◌∙◌}
use Rattle.peer_core.specs.Parts.{Does}
use Rattle.peer_core.specs.Rounds.{TellsWord, said_by}
use Rattle.peer_core.proofs.Parts.{does_next}
use Rattle.peer_core.proofs.probing.take_word.Goals as goal

pub returns-clause-did : goal.returns-clause-did
returns-clause-did g c =
    does_next _ _ _ _ c.in_ok-take.ensures.did
    (subst (λ s. Does c.args.node.now (TellsWord c.args.now c.args.probe.now.number c.args.helper s) c.tell_word.result c.take.new.pass c.tell_word.new.pass)
    (c.said_by-said.ensures ∙ ap said_by c.word_on_target-word.ensures)
    c.tell_word.ensures.did)
