use Rattle.std.proofs.Common.{◌∙◌, ◌≤◌, ap, arith, length, map, option_map, sym}
use Rattle.std.proofs.lemmas.List.{length-map}
use Rattle.serde_json.specs.View.{items_view, view}
use Rattle.agent_core.specs.Requests.{element_at, keys_from}
use Rattle.agent_core.proofs.Listing.{err_as, few_keys-few, few_keys-many, keys_of_data-list, ok_as}
use Rattle.agent_core.proofs.key_lists.keys_of_list.Goals as goal

pub returns-in-Some-clause-keys : goal.returns-in-Some-clause-keys
returns-in-Some-clause-keys c =
    let found = c.in-Some.elements.now.items in
    let size = length-map found view in
    let few : length (map view found) ≤ 4096 = omega arith in
    let list = sym c.as_array.ensures ∙ ap (option_map (λ v. items_view v.now.items)) c.in-Some.is in
    let e = keys_of_data-list c.args.text.now (view c.in-Ok.value) (map view found) c.in-Ok.ensures.ok list ∙ few_keys-few element_at (map view found) few
    ∙ ap (λ xs. keys_from element_at 1 (map view xs)) (sym c.as_slice.ensures.value) in
    ok_as c.keys_of_elements.result _ _ e c.keys_of_elements.ensures.keys

pub returns-in-Some-clause-refused : goal.returns-in-Some-clause-refused
returns-in-Some-clause-refused c =
    let found = c.in-Some.elements.now.items in
    let size = length-map found view in
    let few : length (map view found) ≤ 4096 = omega arith in
    let list = sym c.as_array.ensures ∙ ap (option_map (λ v. items_view v.now.items)) c.in-Some.is in
    let e = keys_of_data-list c.args.text.now (view c.in-Ok.value) (map view found) c.in-Ok.ensures.ok list ∙ few_keys-few element_at (map view found) few
    ∙ ap (λ xs. keys_from element_at 1 (map view xs)) (sym c.as_slice.ensures.value) in
    err_as c.keys_of_elements.result _ _ e c.keys_of_elements.ensures.refused

pub returns-in-Some-2-clause-refused : goal.returns-in-Some-2-clause-refused
returns-in-Some-2-clause-refused c = λ _.
    let found = c.in-Some.elements.now.items in
    let size = length-map found view in
    let list = sym c.as_array.ensures ∙ ap (option_map (λ v. items_view v.now.items)) c.in-Some.is in
    keys_of_data-list c.args.text.now (view c.in-Ok.value) (map view found) c.in-Ok.ensures.ok list ∙ few_keys-many element_at (map view found) (omega arith)
