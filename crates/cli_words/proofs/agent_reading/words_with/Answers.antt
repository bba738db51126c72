use Rattle.std.proofs.Common.{◌≡◌, None, Some}
use Rattle.cli_words.proofs.agent_reading.words_with.Goals as goal

pub returns-in_err-replicas-clause-taken : goal.returns-in_err-replicas-clause-taken
returns-in_err-replicas-clause-taken c = λ has.
    let n = has.replicas in
    let never : None ≡ Some n.0 = c.in_err-replicas.ensures.taken n.0 n.1 n.2 in cc
