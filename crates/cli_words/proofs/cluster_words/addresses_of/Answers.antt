use Rattle.std.proofs.Common.{sym, subst, map}
use Rattle.std.specs.List.{Any}
use Rattle.cli_words.specs.Faults.{IsRefusalOf}
use Rattle.cli_words.specs.Whole.{IsNoAddress}
use Rattle.cli_words.specs.declared.faults.WordsError.{WordsError}
use Rattle.cli_words.proofs.Given.{bad_among, handed_on}
use Rattle.cli_words.proofs.cluster_words.addresses_of.Goals as goal

pub returns-in_err-address-clause-fault : goal.returns-in_err-address-clause-fault
returns-in_err-address-clause-fault c =
    let why = c.in_err-address.ensures.fault in
    let bad : Any IsNoAddress (map (λ s. s.now) c.args.texts.now) = bad_among c.args.texts.now c.loop-text.text-index _ c.loop-text-test.true why.1 in
    handed_on c.from_residual-in_err-address.result c.in_err-address.field-0.0 _ c.from_residual-in_err-address.ensures.1
    (subst (λ (f : WordsError). IsRefusalOf (Unit {0}) (Any IsNoAddress (map (λ s. s.now) c.args.texts.now)) f) (sym why.0) bad)
