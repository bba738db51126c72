use Rattle.std.proofs.Common.{◌==◌, rules, tests}
use Rattle.std.proofs.lemmas.Iterator.{cases_from_any}
use Rattle.std.proofs.lemmas.Iterator.Splits.{YieldsList-from_slice_split}
use Rattle.agent_http.specs.Lists.{IsName, IsOther}
use Rattle.agent_http.proofs.exchanges.has_name.Goals as goal

pub returns : goal.returns
returns c =
    cases_from_any _ _ _ (IsName c.args.name.now) (IsOther c.args.name.now) c.any.ensures.ran
    (YieldsList-from_slice_split _ (λ byte. byte == 44) c.args.list.now c.split.ensures.rest c.split.ensures.done c.split.ensures.closure (λ x b q k. search (rules, tests)))
    (λ x q k. search (rules, tests)) (λ x q k. search (rules, tests))
