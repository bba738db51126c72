use Rattle.std.proofs.Common.{◌∙◌}
use Rattle.core_tests.proofs.Told.{changes_told}
use Rattle.core_tests.proofs.node.reconciling.all_of.Goals as goal

pub returns : goal.returns
returns g c = changes_told c.own-own.result _ _ _ _ (c.in-Ok-from_vec.ensures.ok.0 ∙ c.in_ok-said.ensures) c.as_slice.ensures c.in-Ok.ensures
