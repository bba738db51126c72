-- Who handles a request: of all nodes whose views name owners alike, the one owner alone.
use Rattle.std.specs.Prelude.{◌≡◌, ◌≢◌, ◌⊎◌, ℕ, ◌<◌, length, List, Some, Result, Ok}
use Rattle.std.specs.List.{All, Contains}
use Rattle.std.specs.Option.{option_cmp}
use Rattle.std.specs.Ordering.{nat_cmp}
use Rattle.std.specs.declared.cmp.Ordering.TheVariants.{Less}
use Rattle.change_core.specs.declared.addresses.Address.{Address}
use Rattle.hash_ring.specs.Points.{owner}
use Rattle.hash_ring.specs.Servers.{weight_of}
use Rattle.hash_ring.specs.declared.servers.Server.{Server}
use Rattle.message_core.specs.declared.messages.Content.TheVariants.{Forward}
use Rattle.message_core.specs.declared.messages.Message.{Message}
use Rattle.node_core.specs.Viewing.{Viewed}
use Rattle.peer_core.specs.declared.errors.ClusterError.{ClusterError}
use Rattle.peer_core.specs.Acts.{Act, OfActs, looked}
use Rattle.peer_core.specs.Handling.{Handled, between}
use Rattle.peer_core.specs.Links.{MayAnswer, Went}
use Rattle.peer_core.specs.Resending.{SendsRequest}
use Rattle.peer_core.specs.Serving.{Serves}

module _ {H : Type 0} where
  -- each view among these acts is of the node at this address, and names owners by this hash, this number of points and these servers
  abbrev pub LooksSo : Address → H → ℕ → List Server → OfActs H
  LooksSo own hash replicas servers acts =
      (view : Viewed H) → Contains acts (looked (Ok view))
      → (view.own ≡ own) × (view.hash ≡ hash) × (view.replicas ≡ replicas) × (view.servers ≡ servers)

  -- each of the keys has this owner among the servers
  abbrev pub AreOwnedBy : (H → List ℕ → ℕ) → H → ℕ → List Server → List (List ℕ) → Address → Type 0
  AreOwnedBy hash_of hash replicas servers keys a = All (λ key. owner (hash_of hash) replicas servers key ≡ Some a) keys

-- how a node is given a request, and what became of it
pub data Given (L : Type 0) : Type 0 where
  -- another node sent this message, at this moment, and this is the answer to it
  by_message : Message → ℕ → Result Message ClusterError → Given L
  -- its own service gave it this body, and this is the result, and the link before and after
  by_service : List ℕ → Result (List ℕ) ClusterError → L → L → Given L

-- a handler of which no call can be shown
abbrev pub uncalled : {A : Type 0} → Handled A
uncalled keys body answer old new = ⊥

module _ {L H A : Type 0} (hash_of : H → List ℕ → ℕ) (Came : MayAnswer) (went : Went L) where
  -- a node was given a request of these keys so, with these acts, and its handler went from the one state to the other
  abbrev pub IsGiven : Handled A → Given L → List (List ℕ) → A → A → OfActs H
  IsGiven handled (by_message message now r) keys was is acts =
      ((body : List ℕ) × (message.content ≡ Forward keys body)) × Serves hash_of Came (between handled was is) message now message.content r acts
  IsGiven handled (by_service body r old new) keys was is acts = SendsRequest hash_of went handled keys body r was is old new acts

  -- the same without a call of the handler: it is unchanged, and so it could have been if the handler can't be called
  abbrev pub IsLeft : Given L → List (List ℕ) → A → A → OfActs H
  IsLeft given keys was is acts = (is ≡ was) × IsGiven uncalled given keys was is acts

module _ {L H A : Type 0} (hash_of : H → List ℕ → ℕ) (Came : MayAnswer) (went : Went L) (handled : Handled A) where
  -- a node that is not the owner of the keys among the servers that its views name does not call its handler
  abbrev pub OthersDoNot : Type 0
  OthersDoNot =
      (given : Given L) (keys : List (List ℕ)) (a : Address) (hash : H) (replicas : ℕ) (servers : List Server) (was is : A) (acts : List (Act H))
      → IsGiven hash_of Came went handled given keys was is acts → LooksSo a hash replicas servers acts → ¬ AreOwnedBy hash_of hash replicas servers keys a
      → IsLeft hash_of Came went given keys was is acts

  -- of two nodes whose views name owners by the same servers one does not call its handler
  abbrev pub OneHandles : Type 0
  OneHandles =
      (keys : List (List ℕ)) → 0 < length keys → (a b : Address) (hash : H) (replicas : ℕ) (servers : List Server)
      → (first second : Given L) (was is before after : A) (acts more : List (Act H))
      → IsGiven hash_of Came went handled first keys was is acts → LooksSo a hash replicas servers acts
      → IsGiven hash_of Came went handled second keys before after more → LooksSo b hash replicas servers more → a ≢ b
      → IsLeft hash_of Came went first keys was is acts ⊎ IsLeft hash_of Came went second keys before after more

  -- if both may, the two know different things of one of them: the first has less weight in the second's list than in its own, if any, or the second in the
  -- first's
  abbrev pub HandlersDiffer : Type 0
  HandlersDiffer =
      (keys : List (List ℕ)) → 0 < length keys → (a b : Address) (hash : H) (replicas : ℕ) (one other : List Server)
      → (first second : Given L) (was is before after : A) (acts more : List (Act H))
      → IsGiven hash_of Came went handled first keys was is acts → LooksSo a hash replicas one acts
      → IsGiven hash_of Came went handled second keys before after more → LooksSo b hash replicas other more → a ≢ b
      → (IsLeft hash_of Came went first keys was is acts ⊎ IsLeft hash_of Came went second keys before after more)
      ⊎ ((option_cmp nat_cmp (weight_of a other) (weight_of a one) ≡ Less) ⊎ (option_cmp nat_cmp (weight_of b one) (weight_of b other) ≡ Less))
