use Rattle.std.proofs.Common.{◌≡◌, ◌≢◌, ◌∙◌, IfErr, IfOk, IsSomeAnd, List, Option, Result, ap, codes, map, subst, sym}
use Rattle.clap.specs.Words.{App, HasMatchesOf, Row, Text, is_simple, subcommand_of, subcommand_rows_of, takes}
use Rattle.clap.specs.declared.error.kind.ErrorKind.{ErrorKind}
use Rattle.clap.specs.declared.parser.matches.ArgMatches.{ArgMatches}
use Rattle.cli_words.specs.CommandLine.{ringpop_app}
use Rattle.cli_words.specs.Faults.{fault_of_kind, fault_of_words}
use Rattle.cli_words.specs.Whole.{HasBadAddress, IsBadArgument, IsRefusalBy}
use Rattle.cli_words.specs.Words.{AreAskedBy}
use Rattle.cli_words.specs.declared.faults.WordsError.{WordsError}
use Rattle.cli_words.specs.declared.words.Words.{Words}
use Rattle.cli_words.proofs.Built.{ringpop_is_simple}
use Rattle.cli_words.proofs.Given.{handed_on}
use Rattle.cli_words.proofs.words.read_words.Goals as goal

-- what a parse finds is what clap's definitions find by the table
found_by : (app : App) (words : List Text) (m : ArgMatches) → app ≡ ringpop_app → HasMatchesOf app words m
    → subcommand_rows_of m ≡ subcommand_of ringpop_app words
found_by app words m is has = (has (ap is_simple is ∙ ringpop_is_simple)).1 ∙ ap (λ (a : App). subcommand_of a words) is

pub returns-clause-asked : goal.returns-clause-asked
returns-clause-asked g c = λ two.
    let found = found_by _ (map g.S.AsStr.text c.args.words.now) c.in_ok-matches.matches c.in_ok-ringpop_command.ensures c.in_ok-matches.ensures.matches in
    subst (λ (o : Option (Text × List Row)). IfOk c.words_of.result (AreAskedBy o)) found c.words_of.ensures.asked

pub returns-clause-address : goal.returns-clause-address
returns-clause-address g c = λ is.
    let found = found_by _ (map g.S.AsStr.text c.args.words.now) c.in_ok-matches.matches c.in_ok-ringpop_command.ensures c.in_ok-matches.ensures.matches in
    subst (λ (o : Option (Text × List Row)). IsSomeAnd o (λ p. (p.0 ≢ codes "agent") × HasBadAddress p.1)) found
    (subst (λ (r : Result Words WordsError). IfErr r (IsRefusalBy (subcommand_rows_of c.in_ok-matches.matches))) is c.words_of.ensures.fault)

pub returns-clause-argument : goal.returns-clause-argument
returns-clause-argument g c = λ argument is.
    let found = found_by _ (map g.S.AsStr.text c.args.words.now) c.in_ok-matches.matches c.in_ok-ringpop_command.ensures c.in_ok-matches.ensures.matches in
    subst (λ (o : Option (Text × List Row)). IsSomeAnd o (λ p. (p.0 ≡ codes "agent") × IsBadArgument p.1 argument.now)) found
    (subst (λ (r : Result Words WordsError). IfErr r (IsRefusalBy (subcommand_rows_of c.in_ok-matches.matches))) is c.words_of.ensures.fault)

pub returns-clause-taken : goal.returns-clause-taken
returns-clause-taken g c = λ passes.
    let found = found_by _ (map g.S.AsStr.text c.args.words.now) c.in_ok-matches.matches c.in_ok-ringpop_command.ensures c.in_ok-matches.ensures.matches in
    subst (λ (o : Option (Text × List Row)). IfErr c.words_of.result (IsRefusalBy o)) found c.words_of.ensures.fault

pub returns-in_err-matches-clause-taken : goal.returns-in_err-matches-clause-taken
returns-in_err-matches-clause-taken g c = λ passes.
    let words = map g.S.AsStr.text c.args.words.now in
    let error = c.in_err-matches.field-0.0 in
    let out_of_memory = c.in_err-matches.ensures.passes (ap (λ (a : App). takes a words) c.in_ok-ringpop_command.ensures ∙ passes) in
    handed_on c.from_residual-in_err-matches.result (fault_of_words error) (IsRefusalBy (subcommand_of ringpop_app words)) c.from_residual-in_err-matches.ensures.1
    (subst (λ (k : ErrorKind). IsRefusalBy (subcommand_of ringpop_app words) (fault_of_kind k error)) (sym out_of_memory) tt)
