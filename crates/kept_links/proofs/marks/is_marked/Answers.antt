use Rattle.kept_links.proofs.Endings.{marked_iff}
use Rattle.kept_links.proofs.marks.is_marked.Goals as goal

pub returns-in-Some : goal.returns-in-Some
returns-in-Some c =
    marked_iff c.args.bytes.now c.in-Some.line.now c.contains.result c.in-Some.ensures.cases.0 c.in-Some.ensures.cases.1 c.contains.ensures.cases
