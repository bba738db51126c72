-- Nodes whose logs hold the same changes agree.
use Rattle.std.proofs.Common.{◌≡◌, ℕ, List, sym, ◌∙◌, ap, map}
use Rattle.std.specs.Prelude.{filter}
use Rattle.change_core.specs.declared.changes.Change.{Change}
use Rattle.change_core.specs.Members.{members, digest_text, HaveSameChanges}
use Rattle.change_core.specs.Status.{is_serving}
use Rattle.change_core.proofs.Members.{members-same, members-members}
use Rattle.hash_ring.specs.declared.servers.Server.{Server}
use Rattle.hash_ring.specs.Points.{owners, points}
use Rattle.node_core.specs.Agreement.{AgreeOnAll, IsNodeOf, Agree, NodesAgree, NodesAnswerByLog}
use Rattle.hash_ring.specs.Serving.{server_of, servers_of}
use Rattle.node_core.specs.declared.configs.Config.{Config}
use Rattle.node_core.specs.Itself.{IsItself}
use Rattle.node_core.specs.Messages.{digest_of}
use Rattle.node_core.specs.Node.{Seen}

-- lists with the same members have the same servers
servers-same : (L K : List Change) → members L ≡ members K → servers_of L ≡ servers_of K
servers-same L K e = ap (λ (M : List Change). map server_of (filter (λ c. is_serving c.status) M)) e

pub agree_on_all : (L K : List Change) → HaveSameChanges L K → AgreeOnAll L K
agree_on_all L K h =
    let e : members L ≡ members K = members-same L K h in
    record {
      members_same = e;
      owners_same = λ hash replicas key. ap (λ (s : List Server). owners hash replicas s key) (servers-same L K e);
      points_same = λ hash replicas. ap (points hash replicas) (servers-same L K e);
    }

pub nodes_agree : {H : Type 0} (hash_of : H → List ℕ → ℕ) → NodesAgree hash_of
nodes_agree {H} hash_of a b L K of_a of_b same hash replicas =
    let on_all = agree_on_all L K same in
    let members_same : a.node.members ≡ b.node.members = of_a.members_are ∙ on_all.members_same ∙ sym of_b.members_are in
    let hashes : hash_of a.node.hash ≡ hash_of b.node.hash = ap hash_of hash in
    record {
      members_same = members_same;
      text_same = ap digest_text members_same;
      digest_same = ap digest_of members_same;
      servers_same = ap servers_of members_same;
      owners_same = λ key.
          ap (λ (f : List ℕ → ℕ). owners f a.node.config.replicas (servers_of a.node.members) key) hashes
          ∙ ap (λ (r : ℕ). owners (hash_of b.node.hash) r (servers_of a.node.members) key) replicas
          ∙ ap (λ (M : List Change). owners (hash_of b.node.hash) b.node.config.replicas (servers_of M) key) members_same;
      points_same = of_a.points_are ∙ on_all.points_same (hash_of a.node.hash) a.node.config.replicas
          ∙ ap (λ (f : List ℕ → ℕ). points f a.node.config.replicas (servers_of K)) hashes
          ∙ ap (λ (r : ℕ). points (hash_of b.node.hash) r (servers_of K)) replicas
          ∙ sym of_b.points_are;
    }

-- so do nodes that came from these two and are still themselves
pub agree_still : {H : Type 0} (hash_of : H → List ℕ → ℕ) (x y a b : Seen H) (L K : List Change) → IsNodeOf hash_of a L → IsNodeOf hash_of b K
    → IsItself x.node a.node → IsItself y.node b.node → HaveSameChanges L K
    → x.node.hash ≡ y.node.hash → x.node.config.replicas ≡ y.node.config.replicas → Agree hash_of a b
agree_still hash_of x y a b L K of_a of_b same_x same_y same hash replicas =
    nodes_agree hash_of a b L K of_a of_b same
    (same_x.hash_stays ∙ (hash ∙ sym same_y.hash_stays))
    (ap (λ (k : Config). k.replicas) same_x.config_stays ∙ (replicas ∙ sym (ap (λ (k : Config). k.replicas) same_y.config_stays)))

pub nodes_answer_by_log : {H : Type 0} (hash_of : H → List ℕ → ℕ) → NodesAnswerByLog hash_of
nodes_answer_by_log hash_of seen log of =
    let servers_are : servers_of seen.node.members ≡ servers_of log = ap servers_of of.members_are ∙ servers-same (members log) log (members-members log) in
    record {
      text_is = ap digest_text of.members_are;
      digest_is = ap digest_of of.members_are;
      servers_are = servers_are;
      owners_are = λ key. ap (λ (s : List Server). owners (hash_of seen.node.hash) seen.node.config.replicas s key) servers_are;
    }
