-- A request of another node, as it is served: by this node, or by the one to which it is passed on.
use Rattle.std.specs.Prelude.{◌≡◌, ◌≢◌, ℕ, Bool, true, false, Option, IfSome, List, Vec, Result}
use Rattle.std.specs.Global.{Global}
use Rattle.hash_ring.specs.declared.hash.Sha256Hash.{Sha256Hash}
use Rattle.peer_core.specs.Acts.{OfActs, Then}
use Rattle.peer_core.specs.Handling.{Handled, Handlings}
use Rattle.peer_core.specs.Links.{MayAnswer, Went, any_answer}
use Rattle.line_service.specs.Answering.{Responds}
use Rattle.line_service.specs.declared.inputs.Input.{Input}
use Rattle.line_service.specs.declared.inputs.Input.TheVariants as input
use Rattle.hash_ring.specs.Points.{hash_of}
use Rattle.kept_links.specs.Exchanges.{is_forward}
use Rattle.agent_node.specs.Calling.{Calling, HasMade}
use Rattle.agent_peers.specs.Relays.{IsRelayOf, sent_back}
use Rattle.agent_peers.specs.declared.relays.Relayed.{Relayed}
use Rattle.agent_peers.specs.declared.relays.Relayed.TheVariants.{NotDone}
use Rattle.message_core.specs.declared.messages.Message.{Message}
use Rattle.peer_core.specs.Serving.{Serves}
use Rattle.peer_core.specs.declared.errors.ClusterError.{ClusterError}

-- what was asked of an application: once, from this state of it to that; or never, and its state is the same
abbrev pub asks : {A : Type 0} → Handled A → Bool → A → A → Handlings
asks handled true was is = record { once = λ keys body answer. handled keys body answer was is; never = ⊥ }
asks handled false was is = record { once = λ keys body answer. ⊥; never = is ≡ was }

-- whether an input is a request of a key
abbrev pub is_request : Input → Bool
is_request (input.Message message) = is_forward message.content
is_request other = false

-- the node serves a message, and asks this of its application
abbrev pub ServesAsking : Handlings → Message → OfActs Sha256Hash
ServesAsking Handles message acts = (now : ℕ) × (r : Result Message ClusterError) × Serves hash_of any_answer Handles message now message.content r acts

-- What an input of another node asks of the application: what serving its message does, before the calls for the line that goes back; or nothing.
abbrev pub AsksFor : Handlings → Input → OfActs Sha256Hash
AsksFor Handles (input.Message message) = Then (ServesAsking Handles message) (λ later. Unit {0})
AsksFor Handles (input.Refused why) = λ acts. Handles.never
AsksFor Handles input.Nothing = λ acts. Handles.never

-- the node answers an input by this line, and asks this of its application
abbrev pub RespondsAsking : Handlings → Input → List ℕ → OfActs Sha256Hash
RespondsAsking Handles heard line acts = (now : ℕ) × Responds hash_of any_answer Handles now heard line acts

-- This node served an input by its calls: its application was asked as the node owns the keys or does not, and if there is a line, it is that of its answer.
abbrev pub IsAnsweredHere : Handlings → Input → Option (Vec ℕ Global) → Calling → Calling → Type 0
IsAnsweredHere Handles heard line old new =
    HasMade (AsksFor Handles heard) old new × IfSome line (λ it. HasMade (RespondsAsking Handles heard it.items) old new)

module _ {L A : Type 0} (Came : MayAnswer) (went : Went L) (handled : Handled A) (heard : Input) where
  -- A request was served, and this line goes back for it, from this state of the thread on, and from this state of the application to that. In between
  -- the thread may replace its pass.
  pub data IsServed : Option (Vec ℕ Global) → L → L → A → A → Calling → Type 0 where
    -- the application was asked, once; nothing went over the link
    here : {line : Option (Vec ℕ Global)} {still : L} {was is : A} {old : Calling} (new : Calling)
        → IsAnsweredHere (asks handled true was is) heard line old new → IsServed line still still was is old
    -- the application was not asked, and another node may have performed the request: what goes back is its Reply, or nothing
    there : {line : Option (Vec ℕ Global)} {before after : L} {was is : A} {old : Calling} (unsent : Option (Vec ℕ Global)) (new passing passed : Calling) (relayed : Relayed)
        → IsAnsweredHere (asks handled false was is) heard unsent old new → IsRelayOf Came went heard relayed before after passing passed → relayed ≢ NotDone
        → line ≡ sent_back relayed → IsServed line before after was is old
    -- the application was not asked, no other node performed the request, and this node answered again: the application was asked once then, or not
    here_again : {line : Option (Vec ℕ Global)} {before after : L} {was is : A} {old : Calling} (mid : A) (unsent : Option (Vec ℕ Global))
        (new passing passed again last : Calling) (asked : Bool)
        → IsAnsweredHere (asks handled false was mid) heard unsent old new → IsRelayOf Came went heard NotDone before after passing passed
        → IsAnsweredHere (asks handled asked mid is) heard line again last → IsServed line before after was is old
