use Rattle.std.proofs.Common.{◌≡◌, ◌≤◌, length, map, take}
use Rattle.cluster_core.specs.declared.channel_links.Mailbox.{Mailbox}
use Rattle.cluster_core.specs.Clusters.{address_in}
use Rattle.cluster_core.proofs.clusters.posts_for.Given as goal

-- each node so far has a post of its address and an outlet
abbrev pub invariant-loop-node : goal.invariant-loop-node
invariant-loop-node g l = record {
  within : l.node-index ≤ length l.nodes;
  posts : map (λ (p : Mailbox). p.address) l.posts.items ≡ map address_in (take l.node-index l.nodes);
  outlets : length l.outlets.items ≡ l.node-index;
}
