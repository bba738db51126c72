use Rattle.std.proofs.Common.{◌≡◌, None, Some, arith}
use Rattle.cli_words.proofs.cluster_words.per_message.Goals as goal

pub returns-in_err-per_message-clause-taken : goal.returns-in_err-per_message-clause-taken
returns-in_err-per_message-clause-taken c = λ n.
    let never : None ≡ Some n.0 = c.in_err-per_message.ensures.taken n.0 n.1 (omega (arith, n.2.0)) (omega (arith, n.2.1)) in cc
