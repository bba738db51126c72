use Rattle.std.proofs.Common.{◌∙◌, Ok, ap, refl, true}
use Rattle.clap.specs.Simple.{app_of_fields}
use Rattle.clap.specs.Words.{App}
use Rattle.cli_words.specs.CommandLine as line
use Rattle.cli_words.proofs.Built.{subcommand_if_added}
use Rattle.cli_words.proofs.commands.ringpop_command.Goals as goal

pub returns : goal.returns
returns c =
    let named = ap app_of_fields c.in_ok-bin_name.ensures.0 ∙ c.new.ensures.app in
    let alone = ap app_of_fields c.after_help.ensures ∙ ap app_of_fields c.about.ensures ∙ ap app_of_fields c.version.ensures
    ∙ ap (λ (a : App). record a { top = record a.top { has_version = true } }) named in
    let with_1 = subcommand_if_added (Ok c.after_help.result) (Ok c.fold_command.result) _ _ (line.leaf line.fold_words) c.subcommand-command.ensures alone c.fold_command.ensures refl in
    let with_2 = subcommand_if_added _ _ _ _ (line.leaf line.hash_words) c.with_subcommand-command.ensures with_1 c.hash_command.ensures refl in
    let with_3 = subcommand_if_added _ _ _ _ (line.leaf line.owner_words) c.with_subcommand-command-2.ensures with_2 c.owner_command.ensures refl in
    let with_4 = subcommand_if_added _ _ _ _ (line.leaf line.sim_words) c.with_subcommand-command-3.ensures with_3 c.sim_command.ensures refl in
    let with_5 = subcommand_if_added _ _ _ _ (line.leaf line.serve_words) c.with_subcommand-command-4.ensures with_4 c.serve_command.ensures refl in
    let with_6 = subcommand_if_added _ _ _ _ (line.leaf line.agent_words) c.with_subcommand-command-5.ensures with_5 c.agent_command.ensures refl in
    let with_7 = subcommand_if_added _ _ _ _ (line.leaf line.ask_words) c.with_subcommand-command-6.ensures with_6 c.ask_command.ensures refl in
    let with_8 = subcommand_if_added _ _ _ _ (line.leaf line.members_words) c.with_subcommand-command-7.ensures with_7 c.members_command.ensures refl in
    subcommand_if_added _ _ _ _ (line.leaf line.tell_words) c.with_subcommand.ensures with_8 c.tell_command.ensures refl
