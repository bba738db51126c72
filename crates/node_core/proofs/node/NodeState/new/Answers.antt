use Rattle.std.proofs.Common.{sym, ◌∙◌, ap}
use Rattle.change_core.specs.declared.changes.Change.{Change}
use Rattle.detector_core.specs.Choices.{seeded}
use Rattle.gossip_core.specs.Dissemination.{with_news}
use Rattle.node_core.specs.Node.{asserted_by}
use Rattle.node_core.proofs.Configured.{limits_within}
use Rattle.node_core.proofs.Beginning.{parts_begun, untold}
use Rattle.node_core.proofs.node.NodeState.new.Goals as goal

pub of_one-requires : goal.of_one-requires
of_one-requires g c = (limits_within c.args.config (sym c.bad_field.ensures ∙ c.in_default.is)).replicas

pub first_news-requires : goal.first_news-requires
first_news-requires g c = let limits = limits_within c.args.config (sym c.bad_field.ensures ∙ c.in_default.is) in (limits.piggyback, limits.often)

pub invariant_of-result : goal.invariant_of-result
invariant_of-result g c =
    parts_begun g.H.PointHash.hash_of c.args.hash c.args.config c.args.own c.args.incarnation c.args.moment (seeded c.args.seed)
    c.in_ok-members.members c.in_ok-ring.ring c.in_ok-gossip.gossip c.new-2.result c.new-3.result
    (record {
      own_is = c.in_ok-members.ensures.ok.0;
      members_are = c.in_ok-members.ensures.ok.1;
      max_is = c.in_ok-members.ensures.ok.2;
      membership = c.in_ok-members.ensures.valid;
      ring_is = c.in_ok-ring.ensures.ring;
      gossip_is = c.in_ok-gossip.ensures.news ∙ ap (λ (d : Change). with_news (untold c.args.config.piggyback) (asserted_by d.address d)) c.own.ensures.own;
      timers_are = c.new-2.ensures;
      probing_is = c.new-3.ensures;
    })
    (sym c.bad_field.ensures ∙ c.in_default.is)
