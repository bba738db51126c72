use Rattle.std.proofs.Common.{◌≡◌, ◌+◌, ◌++◌, ◌∷◌, [], List, ap, sym, subst, ◌∙◌, take, arith}
use Rattle.std.proofs.lemmas.List.{take_all, take_more}
use Rattle.node_core.specs.declared.events.Event.{Event}
use Rattle.node_core.specs.declared.events.Reply.{Reply}
use Rattle.node_core.specs.Invariant.{IsSeen}
use Rattle.node_core.specs.Node.{Seen}
use Rattle.node_core.specs.Run.{IsRun}
use Rattle.node_core.proofs.Agreed.{IsSeen-parts}
use Rattle.node_core.proofs.Itself.{run_itself}
use Rattle.node_core.proofs.RunLoop.{IsNodeOf-run, Run-push}
use Rattle.node_core.proofs.runs.run.Goals as goal

pub loop-event-preserved : goal.loop-event-preserved
loop-event-preserved g c =
    let i = c.loop-event.event-index in
    let e = c.event-item.result in
    let prefix : take (i + 1) c.args.events.now ≡ take i c.args.events.now ++ e ∷ []
    = take_more c.args.events.now i e (omega (arith, c.loop-event-test.true)) ∙ ap (λ (x : Event). take i c.args.events.now ++ x ∷ []) (sym c.event-item.is) in
    let more = Run-push g.H.PointHash.hash_of c.args.node.node c.loop-event.node.node c.apply-reply.new.self.node
    (take i c.args.events.now) c.loop-event.replies.items e c.apply-reply.result c.loop-event.invariant.ran c.apply-reply.ensures.step in
    record {
      ran = subst (λ (es : List Event). IsRun g.H.PointHash.hash_of c.args.node.node es c.push_reserved.new.self.items c.apply-reply.new.self.node) (sym prefix)
          (subst (λ (rs : List Reply). IsRun g.H.PointHash.hash_of c.args.node.node (take i c.args.events.now ++ e ∷ []) rs c.apply-reply.new.self.node) (sym c.push_reserved.ensures.items) more);
      many = c.push_reserved.ensures.len ∙ ap (λ n. n + 1) c.loop-event.invariant.many;
      room = omega (arith, c.loop-event.invariant.room, c.push_reserved.ensures.capacity);
    }

pub returns-clause-itself : goal.returns-clause-itself
returns-clause-itself g c =
    run_itself g.H.PointHash.hash_of c.args.node.node (take c.loop-event.event-index c.args.events.now) c.loop-event.replies.items c.loop-event.node.node c.loop-event.invariant.ran

pub returns-clause-log : goal.returns-clause-log
returns-clause-log g c =
    let hash_of = g.H.PointHash.hash_of in
    let first = c.node.inside in
    let last = c.node-2.inside in
    let before : IsSeen hash_of c.args.node = subst (λ (s : Seen g.row.H.Denot). IsSeen hash_of s) c.node.view_is
    (IsSeen-parts hash_of (record { config = first.config; members = first.members; ring = first.ring; gossip = first.gossip; timers = first.timers; probing = first.prober; moment = first.moment }) c.node.invariant) in
    let after : IsSeen hash_of c.loop-event.node = subst (λ (s : Seen g.row.H.Denot). IsSeen hash_of s) c.node-2.view_is
    (IsSeen-parts hash_of (record { config = last.config; members = last.members; ring = last.ring; gossip = last.gossip; timers = last.timers; probing = last.prober; moment = last.moment }) c.node-2.invariant) in
    IsNodeOf-run hash_of c.args.node c.loop-event.node c.args.events.now c.from_vec.result before after
    (subst (λ (rs : List Reply). IsRun hash_of c.args.node.node c.args.events.now rs c.loop-event.node.node) (sym c.from_vec.ensures)
    (subst (λ (es : List Event). IsRun hash_of c.args.node.node es c.loop-event.replies.items c.loop-event.node.node) (take_all c.loop-event.event-index c.args.events.now c.loop-event-test.false) c.loop-event.invariant.ran))
