use Rattle.std.proofs.Common.{◌≡◌, ap, subst, ◌∙◌, List}
use Rattle.std.specs.Prelude.{IfOk, IfErr}
use Rattle.change_core.specs.declared.changes.Change.{Change}
use Rattle.change_core.specs.Members.{members}
use Rattle.node_core.specs.Node.{Seen}
use Rattle.node_core.specs.Taking.{TakesAll, TakesFirst}
use Rattle.node_core.proofs.Following.{TakeStep-of, TakeStep_members}
use Rattle.node_core.proofs.node.NodeState.take.Goals as goal

pub returns-clause-members : goal.returns-clause-members
returns-clause-members g c =
    let old = c.args.self.now.node in
    let new = c.take_all-taken.new.self.node in
    let given = c.args.changes.now in
    let result = c.take_all-taken.result in
    ap (λ (s : Seen g.row.H.Denot). s.node.members) c.settle.ensures
    ∙ TakeStep_members old new given c.args.moment result
    (subst (λ (ms : List Change). members ms ≡ ms) (ap (λ (s : Seen g.row.H.Denot). s.node.members) c.advance.ensures) c.take_all-taken.ensures.settled)
    (TakeStep-of old new given c.args.moment result
    (subst (λ (s : Seen g.row.H.Denot). IfOk result (λ taken. TakesAll s.node given taken new)) c.advance.ensures c.take_all-taken.ensures.all)
    (subst (λ (s : Seen g.row.H.Denot). IfErr result (λ stopped. TakesFirst s.node given stopped new)) c.advance.ensures c.take_all-taken.ensures.first))
