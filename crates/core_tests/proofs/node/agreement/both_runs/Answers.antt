use Rattle.std.proofs.Common.{◌∙◌, sym, ap}
use Rattle.node_core.specs.declared.configs.Config.{Config}
use Rattle.core_tests.proofs.node.agreement.both_runs.Goals as goal

pub returns-in-Ok-run : goal.returns-in-Ok-run
returns-in-Ok-run g c = λ same hash replicas.
    let first = c.in-Ok.ensures.itself in
    let second = c.in-Ok-run.ensures.itself in
    c.agreement.ensures.agree c.in-Ok.first.node c.in-Ok-run.second.node _ _ c.in-Ok.ensures.log c.in-Ok-run.ensures.log same
    (first.hash_stays ∙ (hash ∙ sym second.hash_stays))
    (ap (λ (k : Config). k.replicas) first.config_stays ∙ (replicas ∙ sym (ap (λ (k : Config). k.replicas) second.config_stays)))
