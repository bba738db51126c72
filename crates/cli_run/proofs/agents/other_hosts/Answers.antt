use Rattle.std.proofs.Common.{◌==◌, ◌∙◌, ap, not, rules}
use Rattle.std.proofs.lemmas.Fn.{filter_same}
use Rattle.cli_run.specs.Agents.{other_hosts}
use Rattle.cli_run.proofs.agents.other_hosts.Goals as goal

pub returns : goal.returns
returns c =
    filter_same _ (λ a. not (a == c.args.own)) _ (λ x b f' k. search rules) _ _ c.retain.ensures.filtered
    ∙ ap (λ l. other_hosts l c.args.own) c.in_ok-others.ensures.items
