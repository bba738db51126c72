use Rattle.std.proofs.Common.{◌∙◌, sym}
use Rattle.clap.specs.Words.{found_of}
use Rattle.cli_words.proofs.Rows.{one_is}
use Rattle.cli_words.proofs.words.flag.Goals as goal

pub returns : goal.returns
returns c =
    let one = sym (one_is (found_of c.args.matches.now) c.args.id.now) in
    record {
      absent = λ e. c.get_flag.ensures.none (one ∙ e);
      set = λ e. c.get_flag.ensures.value (one ∙ e);
      unset = λ e. c.get_flag.ensures.other (one ∙ e);
    }
