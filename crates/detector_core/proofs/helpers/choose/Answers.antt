use Rattle.std.proofs.Common.{◌∙◌, take, subst, sym, IsPermutation}
use Rattle.detector_core.specs.Choices.{choices_of, sample}
use Rattle.detector_core.specs.Helpers.{others, IsSample}
use Rattle.detector_core.proofs.SampleLemmas.{IsSample-take}
use Rattle.detector_core.proofs.helpers.choose.Goals as goal

pub returns-clause-chosen : goal.returns-clause-chosen
returns-clause-chosen c =
    let permuted = subst (λ l. IsPermutation l c.shuffle.new.members.items) c.in_ok-chosen.ensures c.shuffle.ensures.permutation in
    subst (IsSample (others c.args.pingable.now c.args.target) _) (sym c.truncate.ensures.items)
    (IsSample-take c.args.pingable.now c.args.target c.args.count c.shuffle.new.members.items c.requires permuted)

pub returns-clause-drawn : goal.returns-clause-drawn
returns-clause-drawn c =
    let count = c.args.count in
    let choices = choices_of c.args.rng.now in
    (λ j. sample (sym c.in_ok-chosen.ensures j) count choices)
    ∙ (λ j. (take count (sym c.shuffle.ensures.drawn j).0, (sym c.shuffle.ensures.drawn j).1))
    ∙ (λ j. (sym c.truncate.ensures.items j, choices_of c.shuffle.new.rng))
