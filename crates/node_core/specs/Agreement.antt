-- Lists that hold the same changes give the same members, owners and points, and so do nodes whose logs hold them.
use Rattle.std.specs.Prelude.{◌≡◌, ℕ, List}
use Rattle.change_core.specs.declared.changes.Change.{Change}
use Rattle.change_core.specs.Members.{members, digest_text, HaveSameChanges}
use Rattle.hash_ring.specs.Points.{owners, points}
use Rattle.hash_ring.specs.Serving.{servers_of}
use Rattle.node_core.specs.Messages.{digest_of}
use Rattle.node_core.specs.Node.{Seen}

-- the same members, the same servers in order for every key, and the same points, for every hash and number of replicas
pub record AgreeOnAll (L K : List Change) : Type 0 where
  pub members_same : members L ≡ members K
  pub owners_same : (hash : List ℕ → ℕ) (replicas : ℕ) (key : List ℕ) → owners hash replicas (servers_of L) key ≡ owners hash replicas (servers_of K) key
  pub points_same : (hash : List ℕ → ℕ) (replicas : ℕ) → points hash replicas (servers_of L) ≡ points hash replicas (servers_of K)

-- a node holds the result of this log: its members, and the points of its ring
pub record IsNodeOf {H : Type 0} (hash_of : H → List ℕ → ℕ) (seen : Seen H) (log : List Change) : Type 0 where
  pub members_are : seen.node.members ≡ members log
  pub points_are : seen.points ≡ points (hash_of seen.node.hash) seen.node.config.replicas (servers_of log)

-- the same members with the same text and digest, the same servers for every view, the same owners of every key, and the same points
pub record Agree {H : Type 0} (hash_of : H → List ℕ → ℕ) (a b : Seen H) : Type 0 where
  pub members_same : a.node.members ≡ b.node.members
  pub text_same : digest_text a.node.members ≡ digest_text b.node.members
  pub digest_same : digest_of a.node.members ≡ digest_of b.node.members
  pub servers_same : servers_of a.node.members ≡ servers_of b.node.members
  pub owners_same : (key : List ℕ) → owners (hash_of a.node.hash) a.node.config.replicas (servers_of a.node.members) key
      ≡ owners (hash_of b.node.hash) b.node.config.replicas (servers_of b.node.members) key
  pub points_same : a.points ≡ b.points

-- nodes whose logs hold the same changes agree, if they have one hash and one number of replicas
abbrev pub NodesAgree : {H : Type 0} → (H → List ℕ → ℕ) → Type 0
NodesAgree {H} hash_of =
    (a b : Seen H) (L K : List Change) → IsNodeOf hash_of a L → IsNodeOf hash_of b K → HaveSameChanges L K
    → a.node.hash ≡ b.node.hash → a.node.config.replicas ≡ b.node.config.replicas → Agree hash_of a b

-- a node's answers are those that the definitions give for this log: the text, the digest, the servers of a view, the owners of every key
pub record AnswersByLog {H : Type 0} (hash_of : H → List ℕ → ℕ) (seen : Seen H) (log : List Change) : Type 0 where
  pub text_is : digest_text seen.node.members ≡ digest_text (members log)
  pub digest_is : digest_of seen.node.members ≡ digest_of (members log)
  pub servers_are : servers_of seen.node.members ≡ servers_of log
  pub owners_are : (key : List ℕ) → owners (hash_of seen.node.hash) seen.node.config.replicas (servers_of seen.node.members) key
      ≡ owners (hash_of seen.node.hash) seen.node.config.replicas (servers_of log) key

-- so it is of each node that holds the result of its log
abbrev pub NodesAnswerByLog : {H : Type 0} → (H → List ℕ → ℕ) → Type 0
NodesAnswerByLog {H} hash_of = (seen : Seen H) (log : List Change) → IsNodeOf hash_of seen log → AnswersByLog hash_of seen log
