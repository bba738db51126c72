use Rattle.std.proofs.Common.{◌≡◌, None, Some}
use Rattle.cli_words.proofs.Given.{absent_of}
use Rattle.cli_words.proofs.cluster_words.ask_any_words.Goals as goal

pub returns-in_default-clause-fault : goal.returns-in_default-clause-fault
returns-in_default-clause-fault c =
    absent_of _ _ (λ has. let never : None ≡ Some has.1.0 = c.in_default.ensures.taken has.1.0 has.1.1 has.1.2 in cc) c.absent.result c.absent.ensures
