use Rattle.std.proofs.Common.{◌≡◌, ◌∙◌, [], ◌∷◌, ◌++◌, Result, Ok, Err, ap, arith, sym, take, true≢false}
use Rattle.std.specs.Prelude.{IfOk, false, is_err}
use Rattle.change_core.specs.Members.{is_news, members}
use Rattle.change_core.proofs.Members.{members-append}
use Rattle.wire_json.proofs.Elements.{take_here}
use Rattle.agent_node.proofs.digests.digest_of.Goals as goal

-- what is said in addition, where a result is no error
kept_if_ok : {T E Q : Type 0} (result : Result T E) (P : T → Type 0) → is_err result ≡ false → IfOk result (λ value. P value × Q) → Q
kept_if_ok (Ok value) P none said = said.1
kept_if_ok (Err e) P none said = absurd (true≢false none)

pub loop-change-preserved : goal.loop-change-preserved
loop-change-preserved c =
    let held = c.args.members.now in
    let i = c.loop-change.change-index in
    let change = c.change-item.result in
    kept_if_ok c.take.result (λ altered. altered ≡ is_news c.loop-change.table.members change) (sym c.is_err.ensures.value ∙ c.if-is_err.false) c.take.ensures.ok
    ∙ ap (λ old. members (old ++ change ∷ [])) c.loop-change.invariant ∙ members-append (take i held) (change ∷ [])
    ∙ ap members (sym (take_here held i change (omega arith) c.change-item.is))
