use Rattle.std.proofs.Common.{◌≡◌, take}
use Rattle.detector_core.specs.Helpers.{unanswered}
use Rattle.detector_core.proofs.helpers.unanswered.Given as goal

abbrev pub invariant-loop-helper : goal.invariant-loop-helper
invariant-loop-helper l = l.asked.items ≡ unanswered (take l.helper-index l.fn.helpers)
