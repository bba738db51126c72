use Rattle.detector_core.proofs.VerdictLaws.{decides_by_words}
use Rattle.detector_core.proofs.laws.helpers_decide.Goals as goal

pub returns : goal.returns
returns c = decides_by_words
