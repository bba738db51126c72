use Rattle.std.proofs.Common.{subst, sym}
use Rattle.node_core.specs.Edits.{membership_of, MayEdit}
use Rattle.node_core.specs.Node.{Seen, altered}
use Rattle.std.specs.Prelude.{◌≡◌, OnErr, OnOk}
use Rattle.node_core.specs.Parts.{Parts, node_of}
use Rattle.node_core.specs.Room.{WantsRoom}
use Rattle.node_core.proofs.Alter.{edited_is, edited_parts}
use Rattle.node_core.proofs.Editing.{IsGain-edit, IsTimed-kept, MayEdit-parts, asserts-own}
use Rattle.node_core.proofs.Room.{WantsRoom-parts}
use Rattle.node_core.proofs.node.NodeState.alter.Goals as goal

pub alter_parts-requires-clause-timed : goal.alter_parts-requires-clause-timed
alter_parts-requires-clause-timed g c =
    let i = c.self.inside in
    IsTimed-kept g.H.PointHash.hash_of (record { config = i.config; members = i.members; ring = i.ring; gossip = i.gossip; timers = i.timers; probing = i.prober; moment = i.moment })
    c.self.invariant c.args.news.now.change.address

pub invariant_of-self : goal.invariant_of-self
invariant_of-self g c =
    let i = c.self.inside in
    let n = c.alter_parts.new in
    let e = c.alter_parts.ensures in
    let p : Parts g.row.H.Denot = record { config = i.config; members = i.members; ring = i.ring; gossip = i.gossip; timers = i.timers; probing = i.prober; moment = i.moment } in
    let gain = IsGain-edit i.members c.self.invariant.membership c.args.edit (MayEdit-parts g.H.PointHash.hash_of p c.self.invariant c.args.edit (subst (λ (s : Seen g.row.H.Denot). MayEdit (membership_of s.node) c.args.edit) (sym c.self.view_is) c.requires.may)) c.args.news.now.change c.requires.entry in
    edited_parts g.H.PointHash.hash_of p c.self.invariant c.args.news.now gain.news (λ about. asserts-own c.args.news.now.change.status (gain.stays about))
    n.members n.ring n.gossip n.timers c.alter_parts.result
    (record {
      members_ok = e.ok_members;
      own_is = e.own;
      max_is = e.max;
      valid = e.valid;
      ring_ok = e.ok_ring;
      timers_ok = e.ok_timers;
      gossip_ok = e.ok_gossip;
      members_err = e.err_members;
      ring_err = e.err_ring;
      rest_err = e.err_rest;
    })

pub returns-clause-ok : goal.returns-clause-ok
returns-clause-ok g c =
    let i = c.self.inside in
    let n = c.alter_parts.new in
    let e = c.alter_parts.ensures in
    let p : Parts g.row.H.Denot = record { config = i.config; members = i.members; ring = i.ring; gossip = i.gossip; timers = i.timers; probing = i.prober; moment = i.moment } in
    let gain = IsGain-edit i.members c.self.invariant.membership c.args.edit (MayEdit-parts g.H.PointHash.hash_of p c.self.invariant c.args.edit (subst (λ (s : Seen g.row.H.Denot). MayEdit (membership_of s.node) c.args.edit) (sym c.self.view_is) c.requires.may)) c.args.news.now.change c.requires.entry in
    subst (λ (s : Seen g.row.H.Denot). OnOk c.alter_parts.result (node_of (record { config = i.config; members = n.members; ring = n.ring; gossip = n.gossip; timers = n.timers; probing = i.prober; moment = i.moment }) ≡ altered s.node c.args.news.now)) c.self.view_is
    (edited_is g.H.PointHash.hash_of p c.self.invariant c.args.news.now gain.news (λ about. asserts-own c.args.news.now.change.status (gain.stays about))
    n.members n.ring n.gossip n.timers c.alter_parts.result
    (record {
      members_ok = e.ok_members;
      own_is = e.own;
      max_is = e.max;
      valid = e.valid;
      ring_ok = e.ok_ring;
      timers_ok = e.ok_timers;
      gossip_ok = e.ok_gossip;
      members_err = e.err_members;
      ring_err = e.err_ring;
      rest_err = e.err_rest;
    }))

pub returns-clause-out_of_memory : goal.returns-clause-out_of_memory
returns-clause-out_of_memory g c =
    let i = c.self.inside in
    let p : Parts g.row.H.Denot = record { config = i.config; members = i.members; ring = i.ring; gossip = i.gossip; timers = i.timers; probing = i.prober; moment = i.moment } in
    subst (λ (s : Seen g.row.H.Denot). OnErr c.alter_parts.result (WantsRoom s.node c.args.news.now.change)) c.self.view_is
    (WantsRoom-parts g.H.PointHash.hash_of p c.self.invariant c.args.news.now.change c.alter_parts.result c.alter_parts.ensures.out_of_memory)
