use Rattle.std.proofs.Common.{◌≡◌, ◌≢◌, ◌++◌, ℕ, List}
use Rattle.std.proofs.lemmas.Bool.Decides.{Decides-eqb}
use Rattle.std.proofs.lemmas.Slice.Eq.{strip_prefix_is}
use Rattle.cluster_names.proofs.Openings.{if_none, if_some}
use Rattle.cluster_names.proofs.names.rest_after.Goals as goal

pub returns-clause-some : goal.returns-clause-some
returns-clause-some c =
    if_some ((rest : List ℕ) → c.args.bytes.now ≢ c.args.beginning.now ++ rest) (λ rest. c.args.bytes.now ≡ c.args.beginning.now ++ rest.now) c.strip_prefix.result
    (strip_prefix_is Decides-eqb c.args.bytes.now c.args.beginning.now c.strip_prefix.result c.strip_prefix.ensures.cases)

pub returns-clause-none : goal.returns-clause-none
returns-clause-none c =
    if_none ((rest : List ℕ) → c.args.bytes.now ≢ c.args.beginning.now ++ rest) (λ rest. c.args.bytes.now ≡ c.args.beginning.now ++ rest.now) c.strip_prefix.result
    (strip_prefix_is Decides-eqb c.args.bytes.now c.args.beginning.now c.strip_prefix.result c.strip_prefix.ensures.cases)
