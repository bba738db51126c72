use Rattle.std.proofs.Common.{◌≡◌, ◌∙◌, IfNone, IfSome, List, Option, Some, ap, codes, subst, sym}
use Rattle.clap.specs.Words.{Row, Text, first_of, found_of}
use Rattle.cluster_names.specs.Names.{IsName}
use Rattle.cli_words.specs.Whole.{HasBadAddress, HasCluster}
use Rattle.cli_words.specs.Words.{rows_in}
use Rattle.cli_words.proofs.Given.{absent_of, absent_of_agent}
use Rattle.cli_words.proofs.Rows.{first_is}
use Rattle.cli_words.proofs.cluster_options.cluster_in.Goals as goal

pub returns-in_default-clause-ok : goal.returns-in_default-clause-ok
returns-in_default-clause-ok c = first_is (found_of c.args.matches.now) (codes "cluster") ∙ sym c.in_default.ensures

pub returns-in-Ok-Some-clause-ok : goal.returns-in-Ok-Some-clause-ok
returns-in-Ok-Some-clause-ok c =
    let first : first_of (codes "cluster") (rows_in c.args.matches.now) ≡ Some c.in-Some.text.now =
    first_is (found_of c.args.matches.now) (codes "cluster") ∙ sym c.in-Some.ensures in
    let same : c.in-Ok-Some.name ≡ c.in-Some.text.now =
    subst (λ (o : Option Text). IfSome o (λ name. name ≡ c.in-Some.text.now)) c.in-Ok-Some.field-0-is c.in-Ok-Some.ensures.name in
    first ∙ sym (ap Some same)

-- no name is given that is one
lacks_name : (rows : List Row) (text : Text) → first_of (codes "cluster") rows ≡ Some text → ¬ IsName text → HasCluster rows → ⊥
lacks_name rows text first none has = none (subst (λ (o : Option Text). IfSome o IsName) first has)

pub returns-in-Ok-None-clause-fault : goal.returns-in-Ok-None-clause-fault
returns-in-Ok-None-clause-fault c =
    let rows = rows_in c.args.matches.now in
    let first : first_of (codes "cluster") rows ≡ Some c.in-Some.text.now =
    first_is (found_of c.args.matches.now) (codes "cluster") ∙ sym c.in-Some.ensures in
    let none : ¬ IsName c.in-Some.text.now =
    subst (λ (o : Option Text). IfNone o (¬ IsName c.in-Some.text.now)) c.in-Ok-None.field-0-is c.in-Ok-None.ensures.none in
    absent_of (HasCluster rows) (HasBadAddress rows) (lacks_name rows c.in-Some.text.now first none) c.no_cluster.result c.no_cluster.ensures

pub returns-in-Ok-None-clause-agent : goal.returns-in-Ok-None-clause-agent
returns-in-Ok-None-clause-agent c =
    let rows = rows_in c.args.matches.now in
    let first : first_of (codes "cluster") rows ≡ Some c.in-Some.text.now =
    first_is (found_of c.args.matches.now) (codes "cluster") ∙ sym c.in-Some.ensures in
    let none : ¬ IsName c.in-Some.text.now =
    subst (λ (o : Option Text). IfNone o (¬ IsName c.in-Some.text.now)) c.in-Ok-None.field-0-is c.in-Ok-None.ensures.none in
    absent_of_agent (HasCluster rows) rows (lacks_name rows c.in-Some.text.now first none) c.no_cluster.result c.no_cluster.ensures
