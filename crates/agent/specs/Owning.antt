-- Which agents ask their applications for a request: of those whose views name owners alike, the one owner alone.
use Rattle.std.specs.Prelude.{◌≡◌, ◌≢◌, ◌⊎◌, ℕ, ◌<◌, Bool, true, length, List, [], Contains, Some, Result, Ok, get_or}
use Rattle.std.specs.Option.{option_cmp}
use Rattle.std.specs.Ordering.{nat_cmp}
use Rattle.std.specs.declared.cmp.Ordering.TheVariants.{Less}
use Rattle.change_core.specs.declared.addresses.Address.{Address}
use Rattle.hash_ring.specs.Points.{owner, hash_number, hash_of}
use Rattle.hash_ring.specs.Servers.{weight_of}
use Rattle.hash_ring.specs.declared.hash.Sha256Hash.{Sha256Hash}
use Rattle.hash_ring.specs.declared.servers.Server.{Server}
use Rattle.message_core.specs.declared.messages.Content.TheVariants as content
use Rattle.message_core.specs.declared.messages.Message.{Message}
use Rattle.node_core.specs.Viewing.{Viewed}
use Rattle.forward_core.specs.Routes.{AllOwnedBy}
use Rattle.peer_core.specs.Acts.{Act, OfActs, looked}
use Rattle.peer_core.specs.Handling.{Handled}
use Rattle.peer_core.specs.declared.errors.ClusterError.{ClusterError}
use Rattle.line_service.specs.declared.inputs.Input.TheVariants as input
use Rattle.agent_peers.specs.Serving.{AsksFor, asks}
use Rattle.agent_api.specs.Onces.{Noted}
use Rattle.agent_api.specs.Performing.{IsRequested}

-- each view among these acts is of the node at this address, and names owners by this number of points and these servers
abbrev pub LooksSo : Address → ℕ → List Server → OfActs Sha256Hash
LooksSo own replicas servers acts =
    (view : Viewed Sha256Hash) → Contains acts (looked (Ok view)) → (view.own ≡ own) × (view.replicas ≡ replicas) × (view.servers ≡ servers)

-- An agent was given a request of keys, by a client or by another node's Forward, and asked its application for it, with these acts.
pub data HasAsked {A : Type 0} (handled : Handled A) (keys : List (List ℕ)) (acts : List (Act Sha256Hash)) : Type 0 where
  by_client : (is_repeatable : Bool) (noted : Noted) (request : List ℕ) (r : Result (List ℕ) ClusterError)
      → IsRequested is_repeatable true noted keys request r acts → HasAsked handled keys acts
  by_node : (was is : A) (message : Message) (body : List ℕ) → message.content ≡ content.Forward keys body
      → AsksFor (asks handled true was is) (input.Message message) acts → HasAsked handled keys acts

-- what two views name differently where each has another owner: the first's node has less weight in the second than in the first, or the second's in the first
abbrev pub NamesDifferently : Viewed Sha256Hash → Viewed Sha256Hash → Type 0
NamesDifferently one other =
    (option_cmp nat_cmp (weight_of one.own other.servers) (weight_of one.own one.servers) ≡ Less)
    ⊎ (option_cmp nat_cmp (weight_of other.own one.servers) (weight_of other.own other.servers) ≡ Less)

-- a node was asked for this view, in which it owns all keys
abbrev pub Decides : Viewed Sha256Hash → List (List ℕ) → OfActs Sha256Hash
Decides view keys acts = Contains acts (looked (Ok view)) × AllOwnedBy hash_of view keys (Some view.own)

module _ {A : Type 0} (handled : Handled A) where
  -- an agent asks its application for no keys but those that it owns in one of the views by which it answers the request
  abbrev pub AskersOwn : Type 0
  AskersOwn = (keys : List (List ℕ)) (acts : List (Act Sha256Hash)) → HasAsked handled keys acts → (view : Viewed Sha256Hash) × Decides view keys acts

  -- two agents whose views name owners by the same servers, and which both ask their applications for the same keys, are one, the owner of the first key
  abbrev pub OneAsks : Type 0
  OneAsks =
      (keys : List (List ℕ)) → 0 < length keys → (a b : Address) (replicas : ℕ) (servers : List Server) (acts more : List (Act Sha256Hash))
      → HasAsked handled keys acts → LooksSo a replicas servers acts → HasAsked handled keys more → LooksSo b replicas servers more
      → (a ≡ b) × (owner hash_number replicas servers (get_or keys 0 []) ≡ Some a)

  -- the views by which two agents ask their applications for the same keys name something of one of the two differently
  abbrev pub AskersDiffer : Type 0
  AskersDiffer =
      (keys : List (List ℕ)) → 0 < length keys → (acts more : List (Act Sha256Hash)) → HasAsked handled keys acts → HasAsked handled keys more
      → (one : Viewed Sha256Hash) × (other : Viewed Sha256Hash) × Decides one keys acts × Decides other keys more
      × (one.replicas ≡ other.replicas → one.own ≢ other.own → NamesDifferently one other)
