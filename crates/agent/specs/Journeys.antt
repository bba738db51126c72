-- How often applications are asked for a request, by all agents to which it comes: by the one that it enters at, and along the journey of each Forward of it.
use Rattle.std.specs.Prelude.{◌≡◌, ◌≢◌, ◌⊎◌, ℕ, zero, suc, Bool, true, false, List, [], ◌∷◌, ◌++◌, Option, Some, IfOk, IfSome, Result, Ok, Err, is_err, Vec}
use Rattle.std.specs.Global.{Global}
use Rattle.change_core.specs.declared.addresses.Address.{Address}
use Rattle.hash_ring.specs.declared.hash.Sha256Hash.{Sha256Hash}
use Rattle.message_core.specs.declared.kinds.Reason.{Reason}
use Rattle.message_core.specs.declared.messages.Content.TheVariants as content
use Rattle.message_core.specs.declared.messages.Message.{Message}
use Rattle.node_core.specs.Viewing.{Viewed}
use Rattle.forward_core.specs.Routes.{AllOwnedBy}
use Rattle.peer_core.specs.Acts.{Act, OfActs, looked}
use Rattle.peer_core.specs.Exchanges.{Errand, stays, goes_to, joins, errand_of}
use Rattle.peer_core.specs.Handling.{Handled, Handlings}
use Rattle.peer_core.specs.Links.{MayAnswer, Went, any_answer}
use Rattle.peer_core.specs.Resending.{SendsRequest, result_of_handler}
use Rattle.peer_core.specs.Serving.{message_from}
use Rattle.peer_core.specs.declared.errors.ClusterError.{ClusterError}
use Rattle.peer_core.specs.declared.errors.ClusterError.TheVariants as error
use Rattle.peer_core.specs.declared.errors.HandlerFault.{HandlerFault}
use Rattle.peer_core.specs.declared.errors.LinkError.{LinkError}
use Rattle.peer_core.specs.declared.errors.LinkError.TheVariants as link
use Rattle.line_service.specs.Answering.{line_text}
use Rattle.line_service.specs.declared.inputs.Input.{Input}
use Rattle.line_service.specs.declared.inputs.Input.TheVariants as input
use Rattle.agent_core.specs.Packs.{packed}
use Rattle.agent_core.specs.Refusals.{line_of, status_of}
use Rattle.agent_core.specs.declared.refusals.Refusal.TheVariants as refusal
use Rattle.agent_api.specs.Asking.{notes_asking}
use Rattle.agent_http.specs.declared.replies.Reply.TheVariants as shown
use Rattle.hash_ring.specs.Points.{hash_of}
use Rattle.agent_node.specs.Calling.{Calling, HasMade}
use Rattle.agent_api.specs.Onces.{Noted, unnoted, was_made}
use Rattle.agent_api.specs.Performing.{Outcome, SettledBy, ending_of}
use Rattle.kept_links.specs.Exchanges.{is_forward}
use Rattle.agent_peers.specs.Serving.{IsServed, RespondsAsking}

-- the text of the Reply of an agent that has no place for a request
abbrev pub busy_text : List ℕ
busy_text = packed (status_of refusal.Busy) false (line_of refusal.Busy)

-- what an agent makes of a request without its application: an error, or that text
abbrev pub unasked : Handlings
unasked = record { once = λ keys body answer. IfOk answer (λ text. text ≡ busy_text); never = Unit {0} }

-- a line is that of a refusal
abbrev pub IsRefusal : List ℕ → Type 0
IsRefusal line = (message : Message) × (why : Reason) × (message.content ≡ content.Refused why) × (line ≡ line_text message)

-- The line that goes back for an input, if there is one, is that of some agent's answer without its application, or of a refusal, as of what could not be read.
abbrev pub IsTurnedAway : Input → Option (Vec ℕ Global) → Type 0
IsTurnedAway heard line =
    IfSome line (λ it. ((old : Calling) × (new : Calling) × HasMade (RespondsAsking unasked heard it.items) old new) ⊎ IsRefusal it.items)

-- a message that a node makes for another is no request
abbrev pub IsGossip : Errand → Type 0
IsGossip stays = Unit {0}
IsGossip (goes_to a message) = is_forward message.content ≡ false
IsGossip (joins message) = is_forward message.content ≡ false

-- nor is any that it makes by these calls
abbrev pub MakesGossip : OfActs Sha256Hash
MakesGossip [] = Unit {0}
MakesGossip (act ∷ acts) = IsGossip (errand_of act) × MakesGossip acts

module _ {L A : Type 0} {Came : MayAnswer} {went : Went L} {handled : Handled A} {heard : Input} where
  -- the calls of the application of an agent by which a request was served, each from its state before to that after
  abbrev pub askings : {line : Option (Vec ℕ Global)} {before after : L} {was is : A} {old : Calling}
      → IsServed Came went handled heard line before after was is old → List (A × A)
  askings (IsServed.here {was = was} {is = is} new answered) = (was, is) ∷ []
  askings (IsServed.there unsent new passing passed relayed answered relays done same) = []
  askings (IsServed.here_again {is = is} mid unsent new passing passed again last true answered relays once_more) = (mid, is) ∷ []
  askings (IsServed.here_again mid unsent new passing passed again last false answered relays once_more) = []

  -- while such a request was passed on, what the node made for another one was no request: a Join
  abbrev pub PassesOnAlone : {line : Option (Vec ℕ Global)} {before after : L} {was is : A} {old : Calling}
      → IsServed Came went handled heard line before after was is old → Type 0
  PassesOnAlone (IsServed.here new answered) = Unit {0}
  PassesOnAlone (IsServed.there unsent new passing passed relayed answered relays done same) = HasMade MakesGossip passing passed
  PassesOnAlone (IsServed.here_again mid unsent new passing passed again last asked answered relays once_more) = HasMade MakesGossip passing passed

-- What the network is taken to do. An answer is the message of the line that the agent which received a message sent back for it; and over a link that is
-- spent no agent receives one.
abbrev pub IsDelivered : Option (Vec ℕ Global) → Result Message LinkError → Type 0
IsDelivered line (Ok message) = (sent : Vec ℕ Global) × (line ≡ Some sent) × (sent.items ≡ line_text message)
IsDelivered line (Err e) = e ≢ link.Spent

-- The applications that were asked, in turn, each by its state before the call and that after it.
abbrev pub Asked : Type 0 → Type 0
Asked A = List (A × A)

-- an answer for which no application was asked: if it is a Reply, it says that an agent had no place
abbrev pub SaysBusy : Result Message LinkError → Type 0
SaysBusy (Ok message) = (text : List ℕ) → message.content ≡ content.Reply text → text ≡ busy_text
SaysBusy (Err e) = Unit {0}

module _ {A : Type 0} (handled : Handled A) where
  -- An agent received an input, and this line went back. It served it, over a link for passing it on: the applications that were asked are those to which the
  -- link led, and then its own, if it was. Or it turned it away, and asked none.
  abbrev pub Receives : Went (Asked A) → Input → Option (Vec ℕ Global) → Asked A → Asked A → Type 0
  Receives went heard line old new =
      ((mid : Asked A) × (was : A) × (is : A) × (calling : Calling) × (served : IsServed any_answer went handled heard line old mid was is calling)
      × PassesOnAlone served × (new ≡ mid ++ askings served))
      ⊎ (IsTurnedAway heard line × (new ≡ old))

  -- no agent received a message, and nothing came back
  abbrev pub is_lost : Went (Asked A)
  is_lost to message answer old new = (is_err answer ≡ true) × (new ≡ old)

  -- The journey of a message that goes over a link, through this number of agents at most: no agent receives it, or one, once.
  abbrev pub travels : ℕ → Went (Asked A)
  travels zero to message answer old new = is_lost to message answer old new
  travels (suc n) to message answer old new =
      is_lost to message answer old new
      ⊎ ((line : Option (Vec ℕ Global)) × IsDelivered line answer × Receives (travels n) (input.Message message) line old new)

  module _ (keys : List (List ℕ)) (body : List ℕ) where
    -- an answer for which an application was asked: it is not that the node owns no keys, and if it is a Reply, the application gave its text
    abbrev pub TellsOf : A × A → Result Message LinkError → Type 0
    TellsOf one (Ok message) =
        (message.content ≢ content.NotOwner) × ((text : List ℕ) → message.content ≡ content.Reply text → handled keys body (Ok text) one.0 one.1)
    TellsOf one (Err e) = Unit {0}

    -- one application more was asked, once, for these keys and this body
    abbrev pub AsksOne : A × A → Asked A → Asked A → Type 0
    AsksOne one old new = (new ≡ old ++ one ∷ []) × ((result : Result (List ℕ) HandlerFault) × handled keys body result one.0 one.1)

    -- For a Forward with this answer no application was asked, or one.
    abbrev pub AsksOneAtMost : Result Message LinkError → Asked A → Asked A → Type 0
    AsksOneAtMost answer old new = ((new ≡ old) × SaysBusy answer) ⊎ ((one : A × A) × AsksOne one old new × TellsOf one answer)

  -- so it is with each Forward, however often it is passed on
  abbrev pub ForwardsAskOne : Type 0
  ForwardsAskOne =
      (n : ℕ) (to : Address) (message : Message) (keys : List (List ℕ)) (body : List ℕ) (answer : Result Message LinkError) (old new : Asked A)
      → message.content ≡ content.Forward keys body → travels n to message answer old new → AsksOneAtMost keys body answer old new

module _ {L A : Type 0} (went : Went L) (noted_of : L → Noted) (handled : Handled A) (n : ℕ) where
  -- one call of the link of a request, and the journey of its message through n agents at most: without a connection it has none
  abbrev pub goes_on : Went (L × Asked A)
  goes_on to message answer old new =
      went to message answer old.0 new.0 × travels handled n to message answer old.1 new.1
      × (was_made (noted_of old.0).made (noted_of new.0).made ≡ false → new.1 ≡ old.1)

-- What was asked for a request in all, by its result: by its own handler, from this state to that, and by the agents to which its Forwards came, which may be the
-- one that it entered at.
pub data IsAskedOnce {L A B : Type 0} (noted_of : L → Noted) (handled : Handled A) (own : Handled B) (keys : List (List ℕ)) (request : List ℕ) : Result (List ℕ) ClusterError → B → B → L × Asked A → L × Asked A → Type 0 where
  -- its application alone, once: the result is what it gave
  here : {r : Result (List ℕ) ClusterError} {was is : B} {old new : L × Asked A} (answer : Result (List ℕ) HandlerFault)
      → own keys request answer was is → r ≡ result_of_handler answer → new.1 ≡ old.1 → IsAskedOnce noted_of handled own keys request r was is old new
  -- one application of an agent to which a Forward came, once: it gave the text
  there : {was is : B} {old new : L × Asked A} (text : List ℕ) (one : A × A)
      → is ≡ was → AsksOne handled keys request one old.1 new.1 → handled keys request (Ok text) one.0 one.1
      → IsAskedOnce noted_of handled own keys request (Ok text) was is old new
  -- none: a text says that an agent had no place
  nowhere : {r : Result (List ℕ) ClusterError} {was is : B} {old new : L × Asked A}
      → is ≡ was → new.1 ≡ old.1 → IfOk r (λ text. text ≡ busy_text) → IsAskedOnce noted_of handled own keys request r was is old new
  -- one of an agent to which a Forward came, once, whose answer was lost or neither a Reply nor NotOwner: the request ends by an error for memory, and the link
  -- notes the doubt
  unanswered : {was is : B} {old new : L × Asked A} (one : A × A)
      → is ≡ was → AsksOne handled keys request one old.1 new.1 → (noted_of new.0).is_unsure ≡ true
      → IsAskedOnce noted_of handled own keys request (Err error.Memory) was is old new

module _ {L A B : Type 0} (went : Went L) (noted_of : L → Noted) (handled : Handled A) (own : Handled B) where
  -- so it is of each request that may not be performed twice
  abbrev pub RequestsAskOne : Type 0
  RequestsAskOne =
      (n : ℕ) (keys : List (List ℕ)) (request : List ℕ) (r : Result (List ℕ) ClusterError) (was is : B) (old new : L × Asked A) (acts : List (Act Sha256Hash))
      → noted_of old.0 ≡ unnoted false → SendsRequest hash_of (goes_on went noted_of handled n) own keys request r was is old new acts
      → IsAskedOnce noted_of handled own keys request r was is old new

-- What an answer to a client tells of its request, by whether the application of the agent that it asked was asked, and by the others that were.
module _ {A : Type 0} (handled : Handled A) (keys : List (List ℕ)) (request : List ℕ) (owner : ℕ) where
  -- For a text one application was asked, of all agents', or it says that an agent had no place. A refusal says that no application was asked; unless the answer was
  -- lost, or the agent's own application failed.
  abbrev pub IsTold : Bool → Asked A → Asked A → Outcome → Type 0
  IsTold asked old new (Ok reply) =
      (text : List ℕ) × (reply ≡ shown.Handled owner text)
      × (((asked ≡ true) × (new ≡ old))
      ⊎ (((asked ≡ false) × ((one : A × A) × AsksOne handled keys request one old new × handled keys request (Ok text) one.0 one.1))
      ⊎ ((asked ≡ false) × (new ≡ old) × (text ≡ busy_text))))
  IsTold asked old new (Err why) =
      ((asked ≡ false) × (new ≡ old)) ⊎ ((why ≡ refusal.AnswerLost) ⊎ ((why ≡ refusal.ApplicationFailed) × (asked ≡ true) × (new ≡ old)))

module _ {L A : Type 0} (went : Went L) (noted_of : L → Noted) (handled : Handled A) where
  -- so is each client answered whose request may not be performed twice
  abbrev pub ClientsAreTold : Type 0
  ClientsAreTold =
      (n : ℕ) (limit : Option ℕ) (owner : ℕ) (keys : List (List ℕ)) (request : List ℕ) (r : Result (List ℕ) ClusterError) (asked : Bool)
      (old new : L × Asked A) (is_over : Bool) (outcome : Outcome) (acts : List (Act Sha256Hash))
      → noted_of old.0 ≡ unnoted false → SendsRequest hash_of (goes_on went noted_of handled n) notes_asking keys request r false asked old new acts
      → SettledBy owner (ending_of is_over false limit asked (noted_of new.0)) r outcome
      → IsTold handled keys request owner asked old.1 new.1 outcome

module _ {L A B : Type 0} (went : Went L) (noted_of : L → Noted) (handled : Handled A) (own : Handled B) where
  -- Where the two ends of a connection meet, what contracts ensure of each makes a journey. A node sent a Forward to the owner of the keys by its view, over a
  -- connection; an agent received it and served it, and its line is that of the Reply which came: so a request is made, with the text of that Reply.
  abbrev pub EndsMeet : Type 0
  EndsMeet =
      (n : ℕ) (keys : List (List ℕ)) (request text : List ℕ) (view : Viewed Sha256Hash) (to : Address) (reply : Message) (sent : Vec ℕ Global) (state : B)
      (old new : L × Asked A) (mid : Asked A) (was is : A) (calling : Calling)
      → AllOwnedBy hash_of view keys (Some to) → to ≢ view.own → was_made (noted_of old.0).made (noted_of new.0).made ≡ true
      → went to (message_from view (content.Forward keys request)) (Ok reply) old.0 new.0
      → (served : IsServed any_answer (travels handled n) handled (input.Message (message_from view (content.Forward keys request))) (Some sent) old.1 mid was is calling)
      → PassesOnAlone served → new.1 ≡ mid ++ askings served → sent.items ≡ line_text reply → reply.content ≡ content.Reply text
      → SendsRequest hash_of (goes_on went noted_of handled (suc n)) own keys request (Ok text) state state old new (looked (Ok view) ∷ [])
