use Rattle.std.proofs.Common.{◌≡◌, ◌∙◌, List, Option, Some, IsSomeAnd, ap, codes, inl, inr, map, subst, sym}
use Rattle.std.specs.List.{Any}
use Rattle.std.proofs.lemmas.Result.{IfOk-weaker}
use Rattle.clap.specs.Words.{Text, all_of, found_of}
use Rattle.cli_words.specs.Whole.{IsNoAddress}
use Rattle.cli_words.specs.Words.{rows_in}
use Rattle.cli_words.proofs.Given.{refused_of}
use Rattle.cli_words.proofs.Rows.{all_is}
use Rattle.cli_words.proofs.cluster_words.hosts_at.Goals as goal

pub returns-in-Some-clause-ok : goal.returns-in-Some-clause-ok
returns-in-Some-clause-ok c =
    IfOk-weaker c.addresses_of.result _ _ (λ hosts is. inl (all_is (found_of c.args.matches.now) (codes "host") ∙ sym c.in-Some.ensures ∙ ap Some is)) c.addresses_of.ensures.ok

pub returns-in-Some-clause-fault : goal.returns-in-Some-clause-fault
returns-in-Some-clause-fault c =
    let all : all_of (codes "host") (rows_in c.args.matches.now) ≡ Some (map (λ s. s.now) c.in-Some.texts.now) = all_is (found_of c.args.matches.now) (codes "host") ∙ sym c.in-Some.ensures in
    refused_of (Unit {0}) (Unit {0}) _ _ (λ x. x) (λ any. subst (λ (o : Option (List Text)). IsSomeAnd o (Any IsNoAddress)) (sym all) any) c.addresses_of.result c.addresses_of.ensures.fault

pub returns-in-None-clause-ok : goal.returns-in-None-clause-ok
returns-in-None-clause-ok c = inr (all_is (found_of c.args.matches.now) (codes "host") ∙ sym c.in-None.ensures, c.new.ensures.items)
