-- The provenance of the answer to a keyed request, and of its error. The parts are those of ringpop-go's package forward.
use Rattle.std.specs.Prelude.{◌≡◌, ◌≢◌, ◌⊎◌, ℕ, List, [], Contains, Some, Result, Ok, Err, IfOk, IfErr}
use Rattle.change_core.specs.declared.addresses.Address.{Address}
use Rattle.message_core.specs.declared.messages.Content.TheVariants as content
use Rattle.message_core.specs.declared.messages.Message.{Message}
use Rattle.node_core.specs.declared.errors.NodeError.TheVariants as node
use Rattle.node_core.specs.Viewing.{Viewed}
use Rattle.turn_lock.specs.declared.errors.LockError.{LockError}
use Rattle.forward_core.specs.Routes.{AllOwnedBy, HaveDiverged}
use Rattle.peer_core.specs.declared.errors.ClusterError.{ClusterError}
use Rattle.peer_core.specs.declared.errors.ClusterError.TheVariants as error
use Rattle.peer_core.specs.declared.errors.HandlerFault.{HandlerFault}
use Rattle.peer_core.specs.declared.errors.HandlerFault.TheVariants as fault
use Rattle.peer_core.specs.declared.errors.LinkError.{LinkError}
use Rattle.peer_core.specs.declared.errors.LinkError.TheVariants as link
use Rattle.peer_core.specs.Acts.{Act, OfActs, looked}
use Rattle.peer_core.specs.Errors.{error_of_lock}
use Rattle.peer_core.specs.Forwarding.{IsFailure, IsRequest, Times}
use Rattle.peer_core.specs.Handling.{MayHandle}
use Rattle.peer_core.specs.Links.{MayAnswer}
use Rattle.peer_core.specs.Serving.{message_from}

module _ {H : Type 0} (hash_of : H → List ℕ → ℕ) (Came : MayAnswer) (Handled : MayHandle) (keys : List (List ℕ)) (body : List ℕ) where
  -- the node gave this view, in which the address owns all keys
  abbrev pub Owns : Viewed H → Address → OfActs H
  Owns view owner acts = Contains acts (looked (Ok view)) × AllOwnedBy hash_of view keys (Some owner)

  -- the handler of the node had this result, in a view in which the node owns all keys
  abbrev pub IsOfHandler : Result (List ℕ) HandlerFault → OfActs H
  IsOfHandler answer acts = (view : Viewed H) × Owns view view.own acts × Handled keys body answer

  -- this came over the link from the owner of all keys in a view of the node, another than the node, for a Forward by the node of the keys and the body
  abbrev pub IsOfOwner : Result Message LinkError → OfActs H
  IsOfOwner answer acts =
      (view : Viewed H) × (owner : Address) × Owns view owner acts × (owner ≢ view.own) × Came owner (message_from view (content.Forward keys body)) answer

  -- the text is the handler's, or that of a Reply of the owner's
  abbrev pub IsAnswered : List ℕ → OfActs H
  IsAnswered text acts = IsOfHandler (Ok text) acts ⊎ ((message : Message) × (message.content ≡ content.Reply text) × IsOfOwner (Ok message) acts)

  -- the error of a request, each with its cause
  pub data IsUnanswered : ClusterError → List (Act H) → Type 0 where
    -- by the lock
    by_lock : {acts : List (Act H)} (l : LockError) → IsUnanswered (error_of_lock l) acts
    -- in a view of the node two keys have different owners
    diverged : {acts : List (Act H)} (view : Viewed H) → Contains acts (looked (Ok view)) → HaveDiverged hash_of view keys → IsUnanswered error.Diverged acts
    -- in a view of the node no member serves
    no_owner : {acts : List (Act H)} (view : Viewed H) → Contains acts (looked (Ok view)) → view.servers ≡ [] → IsUnanswered error.Nobody acts
    -- an answer that is a failure came from the owner
    no_reply : {acts : List (Act H)} (answer : Result Message LinkError) → IsFailure answer → IsOfOwner answer acts → IsUnanswered error.RetriesSpent acts
    -- the handler failed
    not_handled : {acts : List (Act H)} → IsOfHandler (Err fault.Failed) acts → IsUnanswered error.HandlerFault acts
    -- out of memory in the handler, in the link, or for a view
    handler_starved : {acts : List (Act H)} → IsOfHandler (Err fault.Memory) acts → IsUnanswered error.Memory acts
    link_starved : {acts : List (Act H)} → IsOfOwner (Err link.Memory) acts → IsUnanswered error.Memory acts
    no_view : {acts : List (Act H)} → Contains acts (looked (Err node.Memory)) → IsUnanswered error.Memory acts

-- a request is answered by the handler or by the owner of its keys, and the error of one has its cause
abbrev pub RequestsRest : {H : Type 0} → (H → List ℕ → ℕ) → MayAnswer → MayHandle → Times → Type 0
RequestsRest {H} hash_of Came Handled Time =
    (keys : List (List ℕ)) (body : List ℕ) (r : Result (List ℕ) ClusterError) (acts : List (Act H)) → IsRequest hash_of Came Handled Time keys body r acts
    → IfOk r (λ text. IsAnswered hash_of Came Handled keys body text acts) × IfErr r (λ e. IsUnanswered hash_of Came Handled keys body e acts)
