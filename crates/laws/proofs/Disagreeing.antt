-- Two views, or two nodes, that look up one key.
use Rattle.std.proofs.Common.{◌≡◌, ℕ, List, sym, ◌∙◌, ap, inl, inr}
use Rattle.std.specs.List.{filter}
use Rattle.std.specs.Option.{option_cmp}
use Rattle.std.specs.Ordering.{nat_cmp}
use Rattle.std.specs.declared.cmp.Ordering.TheVariants.{Less}
use Rattle.change_core.specs.declared.changes.Change.{Change}
use Rattle.change_core.specs.Members.{greatest}
use Rattle.hash_ring.specs.declared.servers.Server.{Server}
use Rattle.hash_ring.specs.Points.{owner, owners}
use Rattle.hash_ring.specs.Servers.{weight_of}
use Rattle.hash_ring.specs.Serving.{serving_weight, servers_of}
use Rattle.hash_ring.proofs.Consistency.{owners-alike}
use Rattle.hash_ring.proofs.Disagreement.{owners_differ, owners_agree}
use Rattle.hash_ring.proofs.ServingServers.{weight_of-servers_of}
use Rattle.node_core.specs.Viewing.{Viewed, view_of}
use Rattle.laws.specs.Disagreement.{ViewsDisagree, ViewsAgree, ViewsShareOrder, NodesDisagree, NodesAgreeOnOwner}

-- of one list of servers views with one hash and number of replicas name the same owners
module _ {H : Type 0} (hash_of : H → List ℕ → ℕ) where
  owners_same : (one other : Viewed H) → one.hash ≡ other.hash → one.replicas ≡ other.replicas → (servers : List Server) (key : List ℕ)
      → owners (hash_of one.hash) one.replicas servers key ≡ owners (hash_of other.hash) other.replicas servers key
  owners_same one other h r servers key i = owners (hash_of (h i)) (r i) servers key

  owner_same : (one other : Viewed H) → one.hash ≡ other.hash → one.replicas ≡ other.replicas → (servers : List Server) (key : List ℕ)
      → owner (hash_of one.hash) one.replicas servers key ≡ owner (hash_of other.hash) other.replicas servers key
  owner_same one other h r servers key i = owner (hash_of (h i)) (r i) servers key

  pub views_disagree : ViewsDisagree hash_of
  views_disagree one other key a b h r e f =
      owners_differ (hash_of one.hash) one.replicas one.servers other.servers key a b e (owner_same one other h r other.servers key ∙ f)

  pub views_agree : ViewsAgree hash_of
  views_agree one other key h r here there =
      let moved = owner_same one other h r other.servers key in
      owners_agree (hash_of one.hash) one.replicas one.servers other.servers key here (λ b e. there b (sym moved ∙ e)) ∙ moved

  pub views_share_order : ViewsShareOrder hash_of
  views_share_order one other key shared h r same =
      owners-alike (hash_of one.hash) one.replicas one.servers other.servers key shared same
      ∙ ap (filter shared) (owners_same one other h r other.servers key)

  -- a server's weight is that with which its entry serves
  less_held : (L K : List Change) (a : ℕ) → option_cmp nat_cmp (weight_of a (servers_of L)) (weight_of a (servers_of K)) ≡ Less
      → option_cmp nat_cmp (serving_weight (greatest L a)) (serving_weight (greatest K a)) ≡ Less
  less_held L K a less = (λ i. option_cmp nat_cmp (sym (weight_of-servers_of L a) i) (sym (weight_of-servers_of K a) i)) ∙ less

  same_weight : (L K : List Change) (a : ℕ) → serving_weight (greatest L a) ≡ serving_weight (greatest K a) → weight_of a (servers_of L) ≡ weight_of a (servers_of K)
  same_weight L K a same = weight_of-servers_of L a ∙ same ∙ sym (weight_of-servers_of K a)

  pub nodes_disagree : NodesDisagree hash_of
  nodes_disagree one other key a b h r e f apart =
      elim (views_disagree (view_of one) (view_of other) key a b h r e f apart) [
        | inl less ↦ inl (less_held other.members one.members a less)
        | inr less ↦ inr (less_held one.members other.members b less)
      ]

  pub nodes_agree_on_owner : NodesAgreeOnOwner hash_of
  nodes_agree_on_owner one other key h r here there =
      views_agree (view_of one) (view_of other) key h r
      (λ a e. same_weight one.members other.members a (here a e))
      (λ b e. same_weight one.members other.members b (there b e))
