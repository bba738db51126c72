use Rattle.std.proofs.Common.{◌≢◌, ℕ, List, Vec, Option, IfNone, sym, subst}
use Rattle.std.specs.Global.{Global}
use Rattle.cluster_names.specs.Lines.{IsSorted}
use Rattle.cluster_names.specs.Names.{named}
use Rattle.cluster_names.specs.declared.lines.Line.TheVariants as line
use Rattle.cluster_names.proofs.lines.sorted.Goals as goal

pub returns-in-None : goal.returns-in-None
returns-in-None c =
    let none : (plain : List ℕ) → c.deref.result.now ≢ named c.in-Some.name plain =
    subst (λ (o : Option (Vec ℕ Global)). IfNone o ((plain : List ℕ) → c.deref.result.now ≢ named c.in-Some.name plain)) c.in-None.is c.in_ok-plain.ensures.other in
    let other : (plain : List ℕ) → c.args.line.items ≢ named c.in-Some.name plain =
    subst (λ (xs : List ℕ). (plain : List ℕ) → xs ≢ named c.in-Some.name plain) c.deref.ensures.value none in
    subst (λ (o : Option (List ℕ)). IsSorted o c.args.line.items (line.Foreign c.args.line)) (sym c.in-Some.is) (search, other)
