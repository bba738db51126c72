use Rattle.std.proofs.Common.{rules, ◌≡◌, ◌∙◌, Err, Option, None, Some, IsSomeAnd, ap, codes, subst, sym}
use Rattle.clap.specs.Words.{Text, first_of, found_of}
use Rattle.http_header.specs.FieldName.{IsFieldName}
use Rattle.http_header.specs.Token.{lowercase}
use Rattle.http_header.specs.declared.name.HeaderNameError.TheVariants.{Invalid}
use Rattle.cli_words.specs.Whole.{HasKeyField}
use Rattle.cli_words.specs.Words.{rows_in}
use Rattle.cli_words.proofs.Given.{absent_of_agent}
use Rattle.cli_words.proofs.Rows.{first_is}
use Rattle.cli_words.proofs.agent_reading.key_field_in.Goals as goal

pub returns-in_default-clause-fault : goal.returns-in_default-clause-fault
returns-in_default-clause-fault c =
    let rows = rows_in c.args.matches.now in
    let none : first_of (codes "key-field") rows ≡ None = first_is (found_of c.args.matches.now) (codes "key-field") ∙ sym c.in_default.ensures in
    absent_of_agent (HasKeyField rows) rows (λ has. subst (λ (o : Option Text). IsSomeAnd o IsFieldName) none has) c.absent.result c.absent.ensures

pub returns-in-Ok-clause-ok : goal.returns-in-Ok-clause-ok
returns-in-Ok-clause-ok c =
    let first : first_of (codes "key-field") (rows_in c.args.matches.now) ≡ Some c.in-Some.text.now =
    first_is (found_of c.args.matches.now) (codes "key-field") ∙ sym c.in-Some.ensures in
    subst (λ (o : Option Text). IsSomeAnd o (λ text. c.in-Ok.name ≡ lowercase text)) (sym first) (c.in-Ok.ensures.ok ∙ ap lowercase c.as_bytes.ensures.value)

pub returns-in-Err-Invalid-clause-fault : goal.returns-in-Err-Invalid-clause-fault
returns-in-Err-Invalid-clause-fault c =
    let rows = rows_in c.args.matches.now in
    let first : first_of (codes "key-field") rows ≡ Some c.in-Some.text.now = first_is (found_of c.args.matches.now) (codes "key-field") ∙ sym c.in-Some.ensures in
    let none : c.in-Err-Invalid.field-0 ≡ Invalid = search rules in
    absent_of_agent (HasKeyField rows) rows
    (λ has. c.in-Err-Invalid.ensures.invalid.0 (ap Err none)
    (subst IsFieldName (sym c.as_bytes.ensures.value) (subst (λ (o : Option Text). IsSomeAnd o IsFieldName) first has)))
    c.no_field.result c.no_field.ensures
