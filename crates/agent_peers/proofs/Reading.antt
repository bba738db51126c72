-- The node was asked whether its members changed.
use Rattle.std.proofs.Common.{◌≡◌, List, Result, inl, inr, refl}
use Rattle.change_core.specs.declared.changes.Change.{Change}
use Rattle.change_core.specs.declared.digests.Digest.{Digest}
use Rattle.node_core.specs.declared.events.Event.TheVariants as call
use Rattle.node_core.specs.declared.events.Reply.TheVariants as reply
use Rattle.peer_core.specs.Acts.{Then}
use Rattle.peer_core.specs.Parts.{Does, Tries}
use Rattle.peer_core.specs.declared.errors.ClusterError.{ClusterError}
use Rattle.peer_core.proofs.Acts.{makes_as}
use Rattle.agent_node.specs.Calling.{Calling, HasMade}
use Rattle.agent_node.proofs.Made.{made_as, made_none, made_then}
use Rattle.agent_peers.specs.Rounds.{AsksDigest, AsksMembers, AsksRing}

-- it was asked for nothing
pub asks_nothing : (a b : Calling) → b ≡ a → HasMade AsksRing a b
asks_nothing a b same = made_none AsksRing a b same (inl refl)

digest_made : (told : Result Digest ClusterError) (a b : Calling) → b.node ≡ a.node → Does a.node (Tries call.Digest reply.Digest) told a.pass b.pass → HasMade AsksDigest a b
digest_made told a b same does = record { node = same; makes = makes_as AsksDigest (λ acts t. (told, t)) does.makes }

members_made : (told : Result (List Change) ClusterError) (a b : Calling) → b.node ≡ a.node → Does a.node (Tries call.Members reply.Members) told a.pass b.pass → HasMade AsksMembers a b
members_made told a b same does = record { node = same; makes = makes_as AsksMembers (λ acts t. (told, t)) does.makes }

-- it was asked for the digest
pub asks_digest : (told : Result Digest ClusterError) (a b : Calling) → b.node ≡ a.node → Does a.node (Tries call.Digest reply.Digest) told a.pass b.pass → HasMade AsksRing a b
asks_digest told a b same does = made_as AsksRing AsksDigest a b (λ acts t. inr (inl t)) (digest_made told a b same does)

-- it was asked for the digest, and then for the members
pub asks_both : (told : Result Digest ClusterError) (held : Result (List Change) ClusterError) (a b c : Calling)
    → b.node ≡ a.node → Does a.node (Tries call.Digest reply.Digest) told a.pass b.pass
    → c.node ≡ b.node → Does b.node (Tries call.Members reply.Members) held b.pass c.pass → HasMade AsksRing a c
asks_both told held a b c same does then after =
    made_as AsksRing (Then AsksDigest AsksMembers) a c (λ acts t. inr (inr t))
    (made_then AsksDigest AsksMembers a b c (digest_made told a b same does) (members_made held b c then after))
