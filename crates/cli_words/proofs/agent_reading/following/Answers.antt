use Rattle.std.proofs.Common.{◌≡◌, ℕ, Option, None, Some, arith}
use Rattle.cli_words.proofs.agent_reading.following.Goals as goal

pub returns-in_err-leave_after-clause-taken : goal.returns-in_err-leave_after-clause-taken
returns-in_err-leave_after-clause-taken c = λ has.
    let never : None ≡ Some has.0 = c.in_err-leave_after.ensures.taken has.0 has.1 (omega arith) has.2 in cc
