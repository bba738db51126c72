-- The messages that a node makes, and the changes that it reads from one.
use Rattle.std.specs.Prelude.{ℕ, Bool, List, [], ◌∷◌, map, nat_eq, cond}
use Rattle.std.specs.Cmp.Lexicographic.{pointwise}
use Rattle.sha2.specs.Sha256.{sha256}
use Rattle.change_core.specs.declared.changes.Change.{Change}
use Rattle.change_core.specs.declared.changes.Sourced.{Sourced}
use Rattle.change_core.specs.declared.digests.Digest.{Digest}
use Rattle.change_core.specs.Members.{digest_text}
use Rattle.gossip_core.specs.Dissemination.{after_issue}
use Rattle.gossip_core.specs.Pending.{issued}
use Rattle.message_core.specs.declared.messages.Message.{Message}
use Rattle.message_core.specs.declared.messages.News.{News}
use Rattle.message_core.specs.declared.messages.Content.{Content}
use Rattle.message_core.specs.declared.messages.Content.TheVariants.{Join, Joined, Ping, Ack, PingReq, PingReqAck, Forward, Reply, NotOwner, Refused}
use Rattle.node_core.specs.Node.{Node, own_change, said_by}

-- the digest of a member list
abbrev pub digest_of : List Change → Digest
digest_of members = record { bytes = sha256 (digest_text members) }

-- whether two digests are the same, byte by byte
abbrev pub is_same_digest : Digest → Digest → Bool
is_same_digest d e = pointwise nat_eq d.bytes e.bytes

-- a message of the node, at its incarnation
abbrev pub says : {H : Type 0} → Node H → Content → Message
says node content = record { source = node.own; source_incarnation = (own_change node).incarnation; content = content }

-- the digest of the node's members, and these changes
abbrev pub news_of : {H : Type 0} → Node H → List Sourced → News
news_of node changes = record { checksum = digest_of node.members; changes = changes }

-- the whole membership, each entry with the node as its source
abbrev pub full_sync : {H : Type 0} → Node H → List Sourced
full_sync node = map (said_by node) node.members

-- the changes that the node passes on in a message to the target
abbrev pub piggyback : {H : Type 0} → Node H → ℕ → List Sourced
piggyback node target = issued target node.config.per_message node.gossip.pending

-- the node once that message is made
abbrev pub told : {H : Type 0} → Node H → ℕ → Node H
told node target = record node { gossip = after_issue node.gossip target node.config.per_message }

-- the changes that a message carries
abbrev pub carried : Content → List Sourced
carried (Join news) = news.changes
carried (Joined news) = news.changes
carried (Ping news) = news.changes
carried (Ack news) = news.changes
carried (PingReq news target) = news.changes
carried (PingReqAck news target reached) = news.changes
carried (Forward keys body) = []
carried (Reply body) = []
carried NotOwner = []
carried (Refused reason) = []

-- the answer to a join: the whole membership
abbrev pub joined_by : {H : Type 0} → Node H → Message
joined_by node = says node (Joined (news_of node (full_sync node)))

-- the changes of an ack: those to pass on to the sender, or, if there are none and the digests differ, the whole membership
abbrev pub ack_changes : {H : Type 0} → Node H → Digest → List Sourced → List Sourced
ack_changes node checksum [] = cond (is_same_digest checksum (digest_of node.members)) [] (full_sync node)
ack_changes node checksum (s ∷ ss) = s ∷ ss

-- the answer to a ping of this source that carried this checksum
abbrev pub ack_by : {H : Type 0} → Node H → ℕ → Digest → Message
ack_by node source checksum = says node (Ack (news_of node (ack_changes node checksum (piggyback node source))))

-- the message to join, with the node's own entry
abbrev pub join_by : {H : Type 0} → Node H → Message
join_by node = says node (Join (news_of node (said_by node (own_change node) ∷ [])))

-- a ping of the target, with what the node passes on to it
abbrev pub ping_by : {H : Type 0} → Node H → ℕ → Message
ping_by node target = says node (Ping (news_of node (piggyback node target)))

-- a request to the helper to ping the target, with what the node passes on to the helper
abbrev pub ping_req_by : {H : Type 0} → Node H → ℕ → ℕ → Message
ping_req_by node helper target = says node (PingReq (news_of node (piggyback node helper)) target)

-- the node's word as a helper: whether the target was reached, with what it passes on to the requester
abbrev pub ping_req_ack_by : {H : Type 0} → Node H → ℕ → ℕ → Bool → Message
ping_req_ack_by node requester target reached = says node (PingReqAck (news_of node (piggyback node requester)) target reached)
