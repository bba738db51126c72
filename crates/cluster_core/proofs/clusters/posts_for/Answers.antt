use Rattle.std.proofs.Common.{◌≡◌, ◌+◌, ◌∙◌, ap, arith, length, length-append, map}
use Rattle.change_core.specs.declared.changes.Change.{Change}
use Rattle.cluster_core.specs.declared.channel_links.Mailbox.{Mailbox}
use Rattle.cluster_core.proofs.Crews.{posted_all, posted_more}
use Rattle.cluster_core.proofs.clusters.posts_for.Goals as goal

pub loop-node-init : goal.loop-node-init
loop-node-init g c = record {
  within = omega arith;
  posts = ap (map (λ (p : Mailbox). p.address)) c.in_ok-posts.ensures.items;
  outlets = ap length c.in_ok-outlets.ensures.items;
}

pub loop-node-preserved : goal.loop-node-preserved
loop-node-preserved g c = record {
  within = omega (arith, c.loop-node-test.true);
  posts = posted_more c.args.nodes.now c.loop-node.node-index c.node-item.result c.loop-node.posts.items _ _ c.loop-node-test.true c.node-item.is
      (ap (λ (x : Change). x.address) c.own-address.ensures) c.in_ok-push.ensures.items c.loop-node.invariant.posts;
  outlets = (let more : length c.push-in-loop-node.new.self.items ≡ length c.loop-node.outlets.items + 1 = ap length c.in_ok-push-2.ensures.items ∙ length-append c.loop-node.outlets.items _ in more ∙ ap (λ n. n + 1) c.loop-node.invariant.outlets);
}

pub returns-clause-posts : goal.returns-clause-posts
returns-clause-posts g c = posted_all c.args.nodes.now c.loop-node.node-index c.loop-node.posts.items c.loop-node-test.false c.loop-node.invariant.posts

pub returns-clause-outlets : goal.returns-clause-outlets
returns-clause-outlets g c = omega (arith, c.loop-node.invariant.outlets, c.loop-node.invariant.within, c.loop-node-test.false)
