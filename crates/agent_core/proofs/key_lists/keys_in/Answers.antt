use Rattle.std.proofs.Common.{◌∙◌, ap, sym}
use Rattle.std.specs.Str.Lines.{lines}
use Rattle.serde_json.specs.Read.{read}
use Rattle.agent_core.specs.Requests.{few_keys, line_at, keys_of_data}
use Rattle.agent_core.proofs.Listing.{err_as, keys_in-lines, keys_in-list, keys_in-none, ok_as}
use Rattle.agent_core.proofs.key_lists.keys_in.Goals as goal

pub returns-in_default-clause-refused : goal.returns-in_default-clause-refused
returns-in_default-clause-refused c = λ _. keys_in-none c.args.body.now c.in_default.ensures.cases.0

pub returns-then-is_list-clause-keys : goal.returns-then-is_list-clause-keys
returns-then-is_list-clause-keys c =
    let e = keys_in-list c.args.body.now c.in-Ok.ensures.cases.1 (sym c.is_list.ensures ∙ c.if-is_list.true) ∙ ap (λ t. keys_of_data (read t)) (sym c.in-Ok.ensures.cases.0) in
    ok_as c.keys_of_list.result _ _ e c.keys_of_list.ensures.keys

pub returns-then-is_list-clause-refused : goal.returns-then-is_list-clause-refused
returns-then-is_list-clause-refused c =
    let e = keys_in-list c.args.body.now c.in-Ok.ensures.cases.1 (sym c.is_list.ensures ∙ c.if-is_list.true) ∙ ap (λ t. keys_of_data (read t)) (sym c.in-Ok.ensures.cases.0) in
    err_as c.keys_of_list.result _ _ e c.keys_of_list.ensures.refused

pub returns-else-is_list-clause-keys : goal.returns-else-is_list-clause-keys
returns-else-is_list-clause-keys c =
    let e = keys_in-lines c.args.body.now c.in-Ok.ensures.cases.1 (sym c.is_list.ensures ∙ c.if-is_list.false) ∙ ap (λ t. few_keys line_at (lines t)) (sym c.in-Ok.ensures.cases.0) in
    ok_as c.keys_of_text.result _ _ e c.keys_of_text.ensures.keys

pub returns-else-is_list-clause-refused : goal.returns-else-is_list-clause-refused
returns-else-is_list-clause-refused c =
    let e = keys_in-lines c.args.body.now c.in-Ok.ensures.cases.1 (sym c.is_list.ensures ∙ c.if-is_list.false) ∙ ap (λ t. few_keys line_at (lines t)) (sym c.in-Ok.ensures.cases.0) in
    err_as c.keys_of_text.result _ _ e c.keys_of_text.ensures.refused
