use Rattle.std.proofs.Common.{◌≡◌, Option, ap, subst, sym, ◌∙◌}
use Rattle.std.specs.Prelude.{IfSome}
use Rattle.change_core.specs.declared.changes.Sourced.{Sourced}
use Rattle.member_core.specs.declared.verdicts.Verdict.TheVariants.{Refute}
use Rattle.node_core.specs.declared.edits.Edit.TheVariants.{Judged}
use Rattle.node_core.specs.declared.events.StopCause.TheVariants as cause
use Rattle.node_core.specs.declared.taking.Effect.TheVariants.{Unaltered, Applied, Refuted}
use Rattle.node_core.specs.Edits.{membership_of, MayEdit}
use Rattle.node_core.specs.Node.{Seen, altered, asserted_by}
use Rattle.node_core.specs.Parts.{Parts, node_of}
use Rattle.node_core.specs.Room.{WantsRoom}
use Rattle.node_core.specs.Taking.{TakesOne, StopsOne, WantsRoomFor}
use Rattle.node_core.proofs.Judge.{alteration-refute, alteration-take, may-refute, may-take, refused_by, stops-exhausted, stops-full, stops-memory, takes-old, takes-refuted, takes-taken}
use Rattle.node_core.proofs.node.NodeState.take_one.Goals as goal

pub alter-requires-clause-may : goal.alter-requires-clause-may
alter-requires-clause-may g c =
    let i = c.self.inside in
    let p : Parts g.row.H.Denot = record { config = i.config; members = i.members; ring = i.ring; gossip = i.gossip; timers = i.timers; probing = i.prober; moment = i.moment } in
    subst (λ (s : Seen g.row.H.Denot). MayEdit (membership_of s.node) (Judged c.judge-verdict.result)) c.self.view_is
    (may-take g.H.PointHash.hash_of p c.self.invariant c.args.sourced.now c.judge-verdict.result c.in-Take.field-0 (sym c.judge-verdict.ensures) c.in-Take.is).0

pub alter-requires-clause-entry : goal.alter-requires-clause-entry
alter-requires-clause-entry g c =
    let i = c.self.inside in
    let p : Parts g.row.H.Denot = record { config = i.config; members = i.members; ring = i.ring; gossip = i.gossip; timers = i.timers; probing = i.prober; moment = i.moment } in
    (may-take g.H.PointHash.hash_of p c.self.invariant c.args.sourced.now c.judge-verdict.result c.in-Take.field-0 (sym c.judge-verdict.ensures) c.in-Take.is).1

pub alter-requires-in-Refute-clause-may : goal.alter-requires-in-Refute-clause-may
alter-requires-in-Refute-clause-may g c =
    let i = c.self.inside in
    let p : Parts g.row.H.Denot = record { config = i.config; members = i.members; ring = i.ring; gossip = i.gossip; timers = i.timers; probing = i.prober; moment = i.moment } in
    subst (λ (s : Seen g.row.H.Denot). MayEdit (membership_of s.node) (Judged (Refute c.in-Refute.given c.in-Refute.next))) c.self.view_is
    (may-refute g.H.PointHash.hash_of p c.self.invariant c.args.sourced.now c.in-Refute.given c.in-Refute.next (sym c.judge-verdict.ensures ∙ c.in-Refute.is))

pub returns-in-Old-clause-ok : goal.returns-in-Old-clause-ok
returns-in-Old-clause-ok g c =
    let i = c.self.inside in
    let p : Parts g.row.H.Denot = record { config = i.config; members = i.members; ring = i.ring; gossip = i.gossip; timers = i.timers; probing = i.prober; moment = i.moment } in
    subst (λ (s : Seen g.row.H.Denot). TakesOne s.node c.args.sourced.now Unaltered s.node) c.self.view_is
    (takes-old g.H.PointHash.hash_of p c.self.invariant c.args.sourced.now (sym c.judge-verdict.ensures ∙ c.in-Old.is))

pub returns-in-Exhausted-clause-err : goal.returns-in-Exhausted-clause-err
returns-in-Exhausted-clause-err g c =
    let i = c.self.inside in
    let p : Parts g.row.H.Denot = record { config = i.config; members = i.members; ring = i.ring; gossip = i.gossip; timers = i.timers; probing = i.prober; moment = i.moment } in
    subst (λ (s : Seen g.row.H.Denot). StopsOne s.node c.args.sourced.now cause.Exhausted s.node) c.self.view_is
    (stops-exhausted g.H.PointHash.hash_of p c.self.invariant c.args.sourced.now (sym c.judge-verdict.ensures ∙ c.in-Exhausted.is))

pub returns-in-Full-clause-err : goal.returns-in-Full-clause-err
returns-in-Full-clause-err g c =
    let i = c.self.inside in
    let p : Parts g.row.H.Denot = record { config = i.config; members = i.members; ring = i.ring; gossip = i.gossip; timers = i.timers; probing = i.prober; moment = i.moment } in
    subst (λ (s : Seen g.row.H.Denot). StopsOne s.node c.args.sourced.now cause.Full s.node) c.self.view_is
    (stops-full g.H.PointHash.hash_of p c.self.invariant c.args.sourced.now (sym c.judge-verdict.ensures ∙ c.in-Full.is))

pub returns-in-Ok-clause-ok : goal.returns-in-Ok-clause-ok
returns-in-Ok-clause-ok g c =
    let i = c.self.inside in
    let p : Parts g.row.H.Denot = record { config = i.config; members = i.members; ring = i.ring; gossip = i.gossip; timers = i.timers; probing = i.prober; moment = i.moment } in
    let new = c.alter.new.self.node in
    subst (λ (s : Seen g.row.H.Denot). TakesOne s.node c.args.sourced.now Applied new) c.self.view_is
    (takes-taken g.H.PointHash.hash_of p c.self.invariant c.args.sourced.now c.in-Take.field-0 new (sym c.judge-verdict.ensures ∙ c.in-Take.is)
    (subst (λ (s : Seen g.row.H.Denot). new ≡ altered s.node c.args.sourced.now) (sym c.self.view_is) c.in-Ok.ensures.ok))

pub returns-in-Err-clause-err : goal.returns-in-Err-clause-err
returns-in-Err-clause-err g c =
    let i = c.self.inside in
    let p : Parts g.row.H.Denot = record { config = i.config; members = i.members; ring = i.ring; gossip = i.gossip; timers = i.timers; probing = i.prober; moment = i.moment } in
    let new = c.alter.new.self in
    subst (λ (s : Seen g.row.H.Denot). StopsOne s.node c.args.sourced.now cause.Memory new.node) c.self.view_is
    (stops-memory g.H.PointHash.hash_of p c.self.invariant c.args.sourced.now c.args.sourced.now new.node (ap refused_by (sym c.judge-verdict.ensures ∙ c.in-Take.is)) (alteration-take g.H.PointHash.hash_of p c.self.invariant c.args.sourced.now c.in-Take.field-0 (sym c.judge-verdict.ensures ∙ c.in-Take.is))
    (ap (λ (s : Seen g.row.H.Denot). s.node) (c.in-Err.ensures.err ∙ sym c.self.view_is)))

pub returns-in-Ok-alter-clause-ok : goal.returns-in-Ok-alter-clause-ok
returns-in-Ok-alter-clause-ok g c =
    let i = c.self.inside in
    let p : Parts g.row.H.Denot = record { config = i.config; members = i.members; ring = i.ring; gossip = i.gossip; timers = i.timers; probing = i.prober; moment = i.moment } in
    let new = c.alter-in-Refute.new.self.node in
    subst (λ (s : Seen g.row.H.Denot). TakesOne s.node c.args.sourced.now Refuted new) c.self.view_is
    (takes-refuted g.H.PointHash.hash_of p c.self.invariant c.args.sourced.now c.in-Refute.given c.in-Refute.next new (sym c.judge-verdict.ensures ∙ c.in-Refute.is)
    (subst (λ (s : Seen g.row.H.Denot). new ≡ altered s.node (asserted_by c.in-Refute.next.address c.in-Refute.next)) (sym c.self.view_is)
    (subst (λ (t : Sourced). new ≡ altered c.args.self.now.node t) c.sourced_by_self-news.ensures c.in-Ok-alter.ensures.ok)))

pub returns-in-Err-alter-clause-err : goal.returns-in-Err-alter-clause-err
returns-in-Err-alter-clause-err g c =
    let i = c.self.inside in
    let p : Parts g.row.H.Denot = record { config = i.config; members = i.members; ring = i.ring; gossip = i.gossip; timers = i.timers; probing = i.prober; moment = i.moment } in
    let new = c.alter-in-Refute.new.self in
    subst (λ (s : Seen g.row.H.Denot). StopsOne s.node c.args.sourced.now cause.Memory new.node) c.self.view_is
    (stops-memory g.H.PointHash.hash_of p c.self.invariant c.args.sourced.now (asserted_by c.in-Refute.next.address c.in-Refute.next) new.node (ap refused_by (sym c.judge-verdict.ensures ∙ c.in-Refute.is))
    (alteration-refute g.H.PointHash.hash_of p c.self.invariant c.args.sourced.now c.in-Refute.given c.in-Refute.next (sym c.judge-verdict.ensures ∙ c.in-Refute.is))
    (ap (λ (s : Seen g.row.H.Denot). s.node) (c.in-Err-alter.ensures.err ∙ sym c.self.view_is)))

pub returns-in-Err-clause-out_of_memory : goal.returns-in-Err-clause-out_of_memory
returns-in-Err-clause-out_of_memory g c lack =
    let i = c.self.inside in
    let p : Parts g.row.H.Denot = record { config = i.config; members = i.members; ring = i.ring; gossip = i.gossip; timers = i.timers; probing = i.prober; moment = i.moment } in
    subst (λ (s : Seen g.row.H.Denot). WantsRoomFor s.node c.args.sourced.now) c.self.view_is
    (subst (λ (o : Option Sourced). IfSome o (λ s. WantsRoom (node_of p) s.change))
    (sym (alteration-take g.H.PointHash.hash_of p c.self.invariant c.args.sourced.now c.in-Take.field-0 (sym c.judge-verdict.ensures ∙ c.in-Take.is)))
    (subst (λ (s : Seen g.row.H.Denot). WantsRoom s.node c.args.sourced.now.change) (sym c.self.view_is) c.in-Err.ensures.out_of_memory))

pub returns-in-Err-alter-clause-out_of_memory : goal.returns-in-Err-alter-clause-out_of_memory
returns-in-Err-alter-clause-out_of_memory g c lack =
    let i = c.self.inside in
    let p : Parts g.row.H.Denot = record { config = i.config; members = i.members; ring = i.ring; gossip = i.gossip; timers = i.timers; probing = i.prober; moment = i.moment } in
    subst (λ (s : Seen g.row.H.Denot). WantsRoomFor s.node c.args.sourced.now) c.self.view_is
    (subst (λ (o : Option Sourced). IfSome o (λ s. WantsRoom (node_of p) s.change))
    (sym (alteration-refute g.H.PointHash.hash_of p c.self.invariant c.args.sourced.now c.in-Refute.given c.in-Refute.next (sym c.judge-verdict.ensures ∙ c.in-Refute.is)))
    (subst (λ (s : Seen g.row.H.Denot). WantsRoom s.node c.in-Refute.next) (sym c.self.view_is)
    (subst (λ (t : Sourced). WantsRoom c.args.self.now.node t.change) c.sourced_by_self-news.ensures c.in-Err-alter.ensures.out_of_memory)))
