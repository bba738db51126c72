use Rattle.std.proofs.Common.{◌≡◌, None, Some, ap, subst, sym, ◌∙◌}
use Rattle.std.specs.Prelude.{Option, option_map}
use Rattle.change_core.specs.declared.changes.Entry.{Entry}
use Rattle.change_core.specs.Change.{entry_of}
use Rattle.detector_core.specs.Timers.{due_at}
use Rattle.member_core.specs.declared.verdicts.Verdict.TheVariants.{Take}
use Rattle.member_core.specs.Membership.{judged}
use Rattle.node_core.specs.Edits.{membership_of}
use Rattle.node_core.specs.Expiring.{due, expired}
use Rattle.node_core.specs.Node.{Seen, at_moment}
use Rattle.node_core.specs.Parts.{Parts, node_of}
use Rattle.node_core.proofs.Expiry.{change_due, due-none, due-some, judged-due, some-due}
use Rattle.node_core.proofs.Invariant.{at_kept}
use Rattle.node_core.proofs.node.NodeState.due.Goals as goal

pub returns-in_default-clause-value : goal.returns-in_default-clause-value
returns-in_default-clause-value g c =
    let i = c.self.inside in
    let p : Parts g.row.H.Denot = record { config = i.config; members = i.members; ring = i.ring; gossip = i.gossip; timers = i.timers; probing = i.prober; moment = i.moment } in
    subst (λ (s : Seen g.row.H.Denot). None ≡ option_map expired (due (at_moment s.node c.args.moment))) c.self.view_is
    (ap (option_map expired) (sym (due-none (at_moment (node_of p) c.args.moment) (at_kept (node_of p) c.self.invariant.kept c.args.moment) c.self.invariant.rising
    (sym (c.due.ensures ∙ ap (due_at i.timers.timers) c.later.ensures) ∙ c.in_default.is))))

pub unreachable-requires : goal.unreachable-requires
unreachable-requires g c =
    let i = c.self.inside in
    let p : Parts g.row.H.Denot = record { config = i.config; members = i.members; ring = i.ring; gossip = i.gossip; timers = i.timers; probing = i.prober; moment = i.moment } in
    let d = due-some (at_moment (node_of p) c.args.moment) (at_kept (node_of p) c.self.invariant.kept c.args.moment) c.self.invariant.rising c.in-Some.due
    (sym (c.due.ensures ∙ ap (due_at i.timers.timers) c.later.ensures) ∙ c.in-Some.is) in
    let none : ◌≡◌ {A = Option Entry} (Some (entry_of d.entry)) None = ap (option_map entry_of) (sym d.held) ∙ sym c.get.ensures ∙ c.in_default-get.is in
    cc

pub returns-clause-value : goal.returns-clause-value
returns-clause-value g c =
    let i = c.self.inside in
    let p : Parts g.row.H.Denot = record { config = i.config; members = i.members; ring = i.ring; gossip = i.gossip; timers = i.timers; probing = i.prober; moment = i.moment } in
    let d = due-some (at_moment (node_of p) c.args.moment) (at_kept (node_of p) c.self.invariant.kept c.args.moment) c.self.invariant.rising c.in-Some.due
    (sym (c.due.ensures ∙ ap (due_at i.timers.timers) c.later.ensures) ∙ c.in-Some.is) in
    let held : Some c.in-Some-get.held ≡ Some (entry_of d.entry) = sym c.in-Some-get.is ∙ c.get.ensures ∙ ap (option_map entry_of) d.held in
    let same : c.in-Some-get.held ≡ entry_of d.entry = cc in
    subst (λ (s : Seen g.row.H.Denot). Some (change_due c.in-Some.due c.in-Some-get.held.weight) ≡ option_map expired (due (at_moment s.node c.args.moment))) c.self.view_is
    (some-due (at_moment (node_of p) c.args.moment) c.in-Some.due d c.in-Some-get.held.weight (ap (λ (e : Entry). e.weight) same))

pub returns-clause-taken : goal.returns-clause-taken
returns-clause-taken g c =
    let i = c.self.inside in
    let p : Parts g.row.H.Denot = record { config = i.config; members = i.members; ring = i.ring; gossip = i.gossip; timers = i.timers; probing = i.prober; moment = i.moment } in
    let d = due-some (at_moment (node_of p) c.args.moment) (at_kept (node_of p) c.self.invariant.kept c.args.moment) c.self.invariant.rising c.in-Some.due
    (sym (c.due.ensures ∙ ap (due_at i.timers.timers) c.later.ensures) ∙ c.in-Some.is) in
    let held : Some c.in-Some-get.held ≡ Some (entry_of d.entry) = sym c.in-Some-get.is ∙ c.get.ensures ∙ ap (option_map entry_of) d.held in
    let same : c.in-Some-get.held ≡ entry_of d.entry = cc in
    subst (λ (s : Seen g.row.H.Denot). judged (membership_of s.node) (change_due c.in-Some.due c.in-Some-get.held.weight) ≡ Take (change_due c.in-Some.due c.in-Some-get.held.weight)) c.self.view_is
    (judged-due g.H.PointHash.hash_of p c.self.invariant c.args.moment c.in-Some.due d c.in-Some-get.held.weight (ap (λ (e : Entry). e.weight) same))
