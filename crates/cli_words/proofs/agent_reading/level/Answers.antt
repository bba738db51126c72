use Rattle.std.proofs.Common.{◌≡◌, ◌∙◌, List, ℕ, Option, None, Some, IfSome, IsSome, ap, codes, refl, subst, sym}
use Rattle.clap.specs.Words.{Row, first_of, found_of}
use Rattle.cli_words.specs.Words.{level_name, rows_in}
use Rattle.cli_words.specs.declared.agent_words.LogLevel.{LogLevel}
use Rattle.cli_words.proofs.Rows.{first_is}
use Rattle.cli_words.proofs.agent_reading.level.Goals as goal

named : (rows : List Row) (name : List ℕ) (found : Option LogLevel) → first_of (codes "log") rows ≡ Some name → IfSome found (λ l. name ≡ level_name l)
    → IfSome found (λ l. first_of (codes "log") rows ≡ Some (level_name l))
named rows name None first is = tt
named rows name (Some l) first is = first ∙ ap Some is

pub returns-in_err-name-clause-taken : goal.returns-in_err-name-clause-taken
returns-in_err-name-clause-taken c = λ has.
    let none : first_of (codes "log") (rows_in c.args.matches.now) ≡ None = first_is (found_of c.args.matches.now) (codes "log") ∙ sym c.in_err-name.ensures in
    let never : None ≡ Some (level_name has.0) = sym none ∙ has.1 in cc

pub returns-clause-level : goal.returns-clause-level
returns-clause-level c =
    named (rows_in c.args.matches.now) c.in_ok-name.name.now c.level_of.result (first_is (found_of c.args.matches.now) (codes "log") ∙ sym c.in_ok-name.ensures)
    c.level_of.ensures.level

pub returns-clause-taken : goal.returns-clause-taken
returns-clause-taken c = λ has.
    let same : Some c.in_ok-name.name.now ≡ Some (level_name has.0) = c.in_ok-name.ensures ∙ sym (first_is (found_of c.args.matches.now) (codes "log")) ∙ has.1 in
    let name : c.in_ok-name.name.now ≡ level_name has.0 = cc in
    subst IsSome (sym (c.level_of.ensures.all has.0 name)) refl
