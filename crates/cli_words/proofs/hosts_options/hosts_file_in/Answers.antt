use Rattle.std.proofs.Common.{rules, ◌≡◌, ◌∙◌, Some, codes, sym}
use Rattle.clap.specs.Words.{first_of, found_of}
use Rattle.cli_words.specs.Words.{rows_in}
use Rattle.cli_words.proofs.Rows.{first_is}
use Rattle.cli_words.proofs.hosts_options.hosts_file_in.Goals as goal

pub returns-in_ok-from_str-in-Some : goal.returns-in_ok-from_str-in-Some
returns-in_ok-from_str-in-Some c =
    let first : first_of (codes "hosts-file") (rows_in c.args.matches.now) ≡ Some c.in-Some.path.now =
    first_is (found_of c.args.matches.now) (codes "hosts-file") ∙ sym c.in-Some.ensures in
    search rules

pub returns-in-None : goal.returns-in-None
returns-in-None c = first_is (found_of c.args.matches.now) (codes "hosts-file") ∙ sym c.in-None.ensures
