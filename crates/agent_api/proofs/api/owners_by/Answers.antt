use Rattle.std.proofs.Common.{◌≡◌, ℕ, List, rules, subst}
use Rattle.std.specs.Prelude.{IfOk}
use Rattle.agent_core.specs.Texts.{owners_text}
use Rattle.agent_core.specs.declared.answers.Kind.TheVariants as kind
use Rattle.agent_api.specs.Performing.{first_owners}
use Rattle.agent_http.specs.Replies.{IsText}
use Rattle.agent_api.proofs.Performed.{owners_shown, shows, some_owners}
use Rattle.agent_api.proofs.api.owners_by.Goals as goal

pub returns : goal.returns
returns g =
    let first = first_owners g.args.view.now g.args.key.now g.args.count in
    let seen : g.as_slice.result.now ≡ first = search rules in
    let same : g.as_slice-2.result.now ≡ first = search rules in
    let said = subst (λ (owners : List ℕ). IfOk g.owners-3.result (IsText kind.Json (owners_text owners))) same g.owners-3.ensures.reply in
    owners_shown g.args.view.now g.args.key.now g.args.count g.owners-3.result (some_owners g.as_slice.result.now first seen g.if-is_empty.ensures)
    (shows kind.Json (owners_text first) g.owners-3.result said g.owners-3.ensures.refused)
