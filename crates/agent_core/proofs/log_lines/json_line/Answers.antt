use Rattle.std.proofs.Common.{rules, ◌≡◌, ◌∙◌, ◌++◌, [], IsOk, ap, option_map, string_bytes, subst, sym}
use Rattle.std.specs.Str.{IsUtf8}
use Rattle.std.proofs.lemmas.Bool.{false≢true}
use Rattle.json.specs.Print.{print}
use Rattle.agent_core.specs.LogLines.{IsOneLine, line_tokens}
use Rattle.agent_core.proofs.OneLine.{one_line}
use Rattle.agent_core.proofs.log_lines.json_line.Goals as goal

pub unreachable-requires : goal.unreachable-requires
unreachable-requires c =
    let done = c.end_object.new.self in
    let before : done.before ≡ [] = search rules in
    let bytes : c.into_inner.result.items ≡ print done.tokens = c.into_inner.ensures.items ∙ ap (λ b. b ++ print done.tokens) before in
    false≢true (subst IsOk c.in_default-from_utf8.is (c.from_utf8.ensures.succeeds (subst IsUtf8 (sym bytes) c.into_inner.ensures.utf8)))

pub returns-clause-text : goal.returns-clause-text
returns-clause-text c =
    let done = c.end_object.new.self in
    let before : done.before ≡ [] = search rules in
    let same : done.tokens ≡ line_tokens (option_map (λ t. t.now) c.args.time) c.args.own c.args.level.now c.args.target.now c.args.message.now = search rules in
    let bytes : string_bytes c.in-Ok.line ≡ c.into_inner.result.items = search rules in
    bytes ∙ c.into_inner.ensures.items ∙ ap (λ b. b ++ print done.tokens) before ∙ ap print same

pub returns-clause-one_line : goal.returns-clause-one_line
returns-clause-one_line c =
    subst IsOneLine (sym (returns-clause-text c)) (one_line (option_map (λ t. t.now) c.args.time) c.args.own c.args.level.now c.args.target.now c.args.message.now)
