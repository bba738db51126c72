use Rattle.std.proofs.Common.{◌==◌, rules, tests}
use Rattle.std.proofs.lemmas.Iterator.{cases_from_any}
use Rattle.std.proofs.lemmas.Iterator.Splits.{YieldsList-from_slice_split}
use Rattle.agent_http.specs.Lists.{IsJson, IsOtherType}
use Rattle.agent_http.proofs.requests.names_json.Goals as goal

pub returns : goal.returns
returns c =
    cases_from_any _ _ _ (IsJson) (IsOtherType) c.any.ensures.ran
    (YieldsList-from_slice_split _ (λ byte. byte == 44) c.args.list.now c.split.ensures.rest c.split.ensures.done c.split.ensures.closure (λ x b q k. search (rules, tests)))
    (λ x q k. search (rules, tests)) (λ x q k. search (rules, tests))
