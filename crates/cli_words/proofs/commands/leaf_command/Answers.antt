use Rattle.std.proofs.Common.{◌∙◌, ap}
use Rattle.std.proofs.lemmas.Result.{IfOk-weaker}
use Rattle.clap.specs.Simple.{app_of_fields}
use Rattle.cli_words.proofs.commands.leaf_command.Goals as goal

pub returns : goal.returns
returns c =
    let is = ap app_of_fields c.after_help.ensures ∙ ap app_of_fields c.about.ensures ∙ c.new.ensures.app in
    IfOk-weaker c.args-2.result _ _ (λ r added. (c.after_help.result, is, added)) c.args-2.ensures
