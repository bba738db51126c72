use Rattle.std.proofs.Common.{◌≡◌, ◌++◌, drop, ap, sym, ◌∙◌}
use Rattle.cluster_names.specs.Names.{opening}
use Rattle.cluster_names.proofs.names.ClusterName.take_off.Goals as goal

pub returns-in_default-clause-other : goal.returns-in_default-clause-other
returns-in_default-clause-other c =
    let begins : c.deref.result.now ≡ opening c.args.self.now = c.deref.ensures.value ∙ c.in_ok-opening.ensures in
    λ plain e. c.in_default.ensures.none (drop 1 plain) (e ∙ sym (ap (λ xs. xs ++ drop 1 plain) begins))
