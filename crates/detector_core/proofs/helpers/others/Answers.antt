use Rattle.std.proofs.Common.{◌==◌, ◌∙◌, ap, not, rules}
use Rattle.std.proofs.lemmas.Fn.{filter_same}
use Rattle.detector_core.specs.Helpers.{others}
use Rattle.detector_core.proofs.helpers.others.Goals as goal

pub returns : goal.returns
returns c =
    filter_same _ (λ a. not (a == c.args.target)) _ (λ x b f' k. search rules) _ _ c.retain.ensures.filtered
    ∙ ap (λ l. others l c.args.target) c.in_ok-others.ensures.items
