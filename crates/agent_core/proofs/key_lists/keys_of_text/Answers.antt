use Rattle.std.proofs.Common.{◌≡◌, ◌∙◌, ◌≤◌, Bor, List, ℕ, ap, arith, length, map, sym}
use Rattle.std.proofs.lemmas.List.{length-map}
use Rattle.std.specs.Str.Lines.{lines}
use Rattle.agent_core.specs.Requests.{few_keys, line_at, keys_from}
use Rattle.agent_core.proofs.Listing.{all_of, err_as, few_keys-few, few_keys-many, more_of, ok_as}
use Rattle.agent_core.proofs.key_lists.keys_of_text.Goals as goal

-- the bytes of the lines
abbrev bytes_of : List (Bor (List ℕ)) → List (List ℕ)
bytes_of found = map (λ line. line.now) found

pub returns-then-len-gt-MAX_LISTED-clause-refused : goal.returns-then-len-gt-MAX_LISTED-clause-refused
returns-then-len-gt-MAX_LISTED-clause-refused c = λ _.
    let found = c.in_ok-lines.lines.items in
    let size = length-map found (λ (line : Bor (List ℕ)). line.now) in
    few_keys-many line_at (lines c.args.text.now) (more_of (lines c.args.text.now) (bytes_of found) c.in_ok-lines.ensures (omega arith))

pub returns-clause-keys : goal.returns-clause-keys
returns-clause-keys c =
    let found = c.in_ok-lines.lines.items in
    let size = length-map found (λ (line : Bor (List ℕ)). line.now) in
    let few : length (bytes_of found) ≤ 4096 = omega arith in
    let same : bytes_of found ≡ lines c.args.text.now = all_of (lines c.args.text.now) (bytes_of found) c.in_ok-lines.ensures few in
    let e = ap (few_keys line_at) (sym same) ∙ few_keys-few line_at (bytes_of found) few ∙ ap (λ xs. keys_from line_at 1 (bytes_of xs)) (sym c.as_slice.ensures.value) in
    ok_as c.keys_of_lines.result _ _ e c.keys_of_lines.ensures.keys

pub returns-clause-refused : goal.returns-clause-refused
returns-clause-refused c =
    let found = c.in_ok-lines.lines.items in
    let size = length-map found (λ (line : Bor (List ℕ)). line.now) in
    let few : length (bytes_of found) ≤ 4096 = omega arith in
    let same : bytes_of found ≡ lines c.args.text.now = all_of (lines c.args.text.now) (bytes_of found) c.in_ok-lines.ensures few in
    let e = ap (few_keys line_at) (sym same) ∙ few_keys-few line_at (bytes_of found) few ∙ ap (λ xs. keys_from line_at 1 (bytes_of xs)) (sym c.as_slice.ensures.value) in
    err_as c.keys_of_lines.result _ _ e c.keys_of_lines.ensures.refused
