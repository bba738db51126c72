-- A request, answered here or by the node that owns its keys, and its calls of the node: all of them, each of them once, up to the answer
-- or to the error, at the moments of a clock. The parts are those of ringpop-go's package forward.
use Rattle.std.specs.Prelude.{◌≡◌, ◌≢◌, ℕ, List, Result, Ok, Err}
use Rattle.change_core.specs.declared.addresses.Address.{Address}
use Rattle.message_core.specs.declared.kinds.Kind.TheVariants as kind
use Rattle.message_core.specs.declared.messages.Content.TheVariants as content
use Rattle.message_core.specs.declared.messages.Message.{Message}
use Rattle.message_core.specs.Messages.{kind_of}
use Rattle.node_core.specs.declared.errors.NodeError.{NodeError}
use Rattle.node_core.specs.Viewing.{Viewed}
use Rattle.forward_core.specs.declared.attempts.Stage.{Stage}
use Rattle.forward_core.specs.declared.attempts.Stage.TheVariants as stage
use Rattle.forward_core.specs.declared.attempts.Step.{Step}
use Rattle.forward_core.specs.declared.attempts.Step.TheVariants.{Wait, Here, Send}
use Rattle.forward_core.specs.declared.errors.ForwardError.{ForwardError}
use Rattle.forward_core.specs.Attempts.{AttemptState, IsOpen, started, ReadyStep, FailedStep}
use Rattle.peer_core.specs.declared.errors.ClusterError.{ClusterError}
use Rattle.peer_core.specs.declared.errors.ClusterError.TheVariants as error
use Rattle.peer_core.specs.declared.errors.HandlerFault.TheVariants as fault
use Rattle.peer_core.specs.declared.errors.LinkError.{LinkError}
use Rattle.peer_core.specs.declared.errors.LinkError.TheVariants as link
use Rattle.peer_core.specs.declared.forwarding.Request.{Request}
use Rattle.peer_core.specs.declared.forwarding.Tried.{Tried}
use Rattle.peer_core.specs.declared.forwarding.Tried.TheVariants.{Answered, Again}
use Rattle.peer_core.specs.Acts.{Nothing}
use Rattle.peer_core.specs.Errors.{error_of_forward}
use Rattle.peer_core.specs.Handling.{MayHandle}
use Rattle.peer_core.specs.Links.{MayAnswer}
use Rattle.peer_core.specs.Parts.{Part, Turn, onward, ended, Gives, Fails, Next, Until}
use Rattle.peer_core.specs.Serving.{Views, message_from}

-- the moments that a clock may report, and those until which it may have waited; only a call of it can show either
pub record Times : Type 1 where
  pub told : ℕ → Type 0
  pub waited : ℕ → Type 0

-- the errors of a request
abbrev pub IsRequestRefusal : ClusterError → Type 0
IsRequestRefusal error.Diverged = Unit {0}
IsRequestRefusal error.Nobody = Unit {0}
IsRequestRefusal error.RetriesSpent = Unit {0}
IsRequestRefusal error.HandlerFault = Unit {0}
IsRequestRefusal error.ForeignPass = Unit {0}
IsRequestRefusal error.PassSpent = Unit {0}
IsRequestRefusal error.Memory = Unit {0}
IsRequestRefusal other = ⊥

-- the errors of looking up the next step of a request, while it is neither spent nor in flight
abbrev pub IsLookupRefusal : ClusterError → Type 0
IsLookupRefusal error.Diverged = Unit {0}
IsLookupRefusal error.Nobody = Unit {0}
IsLookupRefusal error.ForeignPass = Unit {0}
IsLookupRefusal error.PassSpent = Unit {0}
IsLookupRefusal error.Memory = Unit {0}
IsLookupRefusal other = ⊥

-- an answer that is a failure of the send: any but a Reply and out of memory
abbrev pub IsFailure : Result Message LinkError → Type 0
IsFailure (Ok message) = kind_of message.content ≢ kind.Reply
IsFailure (Err error) = error ≢ link.Memory

-- the handler's text, or its error under the name that it has here
abbrev pub IsHandled : MayHandle → List (List ℕ) → List ℕ → Result (List ℕ) ClusterError → Type 0
IsHandled Handled keys body (Ok text) = Handled keys body (Ok text)
IsHandled Handled keys body (Err error.HandlerFault) = Handled keys body (Err fault.Failed)
IsHandled Handled keys body (Err error.Memory) = Handled keys body (Err fault.Memory)
IsHandled Handled keys body (Err other) = ⊥

-- the result of an answer that came at this moment: the text of a Reply; else, apart from out of memory, the attempt has failed again
abbrev pub IsJudged : ℕ → Request → Result Message LinkError → Result Tried ClusterError → Type 0
IsJudged now request answer (Ok (Answered text)) = (message : Message) × (answer ≡ Ok message) × (message.content ≡ content.Reply text)
IsJudged now request answer (Ok (Again back)) = IsFailure answer × FailedStep now request.attempt (Ok tt) back.attempt × (back.body ≡ request.body)
IsJudged now request answer (Err error.Memory) = answer ≡ Err link.Memory
IsJudged now request answer (Err e) =
    IsFailure answer × (f : ForwardError) × (e ≡ error_of_forward f) × ((new : AttemptState) × FailedStep now request.attempt (Err f) new)

-- the stage of an attempt that was neither spent nor in flight, once its next step is decided
abbrev pub StandsFor : Step → Stage → Type 0
StandsFor (Wait until) now = IsOpen now
StandsFor Here now = IsOpen now
StandsFor (Send owner) now = now ≡ stage.InFlight

-- the result of a try ends a request, or it is tried again
abbrev pub way_of_try : Tried → Turn Request (List ℕ)
way_of_try (Answered text) = ended text
way_of_try (Again back) = onward back

-- an attempt that is to be tried again is neither spent nor in flight
abbrev pub StaysOpen : Tried → Type 0
StaysOpen (Answered text) = Unit {0}
StaysOpen (Again back) = IsOpen back.attempt.stage

module _ {H : Type 0} where
  -- the next step of an attempt at this moment, by a view, and the attempt after that
  abbrev pub Plans : (H → List ℕ → ℕ) → ℕ → AttemptState → AttemptState → Result (Viewed H) NodeError → Part H (Viewed H × Step)
  Plans hash_of now old new (Ok view) (Ok plan) acts = Nothing acts × (plan.0 ≡ view) × ReadyStep hash_of view now old (Ok plan.1) new
  Plans hash_of now old new (Ok view) (Err e) acts =
      Nothing acts × ((f : ForwardError) × (e ≡ error_of_forward f) × ReadyStep hash_of view now old (Err f) new)
  Plans hash_of now old new (Err n) r acts = Fails error.Memory r acts

  -- the same by a view of the node; it may be out of memory for one
  abbrev pub LooksUp : (H → List ℕ → ℕ) → ℕ → AttemptState → AttemptState → Part H (Viewed H × Step)
  LooksUp hash_of now old new = Next Views (Plans hash_of now old new)

  -- the handler answers
  abbrev pub Handles : MayHandle → List (List ℕ) → List ℕ → Part H (List ℕ)
  Handles Handled keys body r acts = Nothing acts × IsHandled Handled keys body r

  -- a Forward of the keys and the body, by the node whose view this is, went to the owner, and this is made of what came, at a moment that the
  -- clock told
  abbrev pub IsForwarded : MayAnswer → Times → Viewed H → Address → Request → Result Tried ClusterError → Type 0
  IsForwarded Came Time view owner request r =
      (answer : Result Message LinkError) × Came owner (message_from view (content.Forward request.attempt.keys request.body)) answer
      × ((now : ℕ) × Time.told now × IsJudged now request answer r)

  -- the request is sent to the owner
  abbrev pub SendsToOwner : MayAnswer → Times → Viewed H → Address → Request → Part H Tried
  SendsToOwner Came Time view owner request r acts = Nothing acts × IsForwarded Came Time view owner request r

  -- the request rests: the clock has waited for that moment, and it is to be tried again
  abbrev pub Rests : Times → Request → ℕ → Part H Tried
  Rests Time request until r acts = Time.waited until × Gives (Again request) r acts

  -- the request rests, is handled here, or is sent
  abbrev pub CarriesOut : MayAnswer → MayHandle → Times → Request → Viewed H × Step → Part H Tried
  CarriesOut Came Handled Time request (view, Wait until) = Rests Time request until
  CarriesOut Came Handled Time request (view, Here) = Next (Handles Handled request.attempt.keys request.body) (λ text. Gives (Answered text))
  CarriesOut Came Handled Time request (view, Send owner) = SendsToOwner Came Time view owner request

  -- the next step is looked up at a moment that the clock reported, and made
  abbrev pub TriesOnce : (H → List ℕ → ℕ) → MayAnswer → MayHandle → Times → Request → Part H Tried
  TriesOnce hash_of Came Handled Time request r acts =
      (now : ℕ) × Time.told now
      × ((attempt : AttemptState)
      × Next (LooksUp hash_of now request.attempt attempt) (CarriesOut Came Handled Time (record { attempt = attempt; body = request.body })) r acts)

  -- a request is tried, and again from where the try before left its attempt, up to its answer or an error
  abbrev pub IsRequest : (H → List ℕ → ℕ) → MayAnswer → MayHandle → Times → List (List ℕ) → List ℕ → Part H (List ℕ)
  IsRequest hash_of Came Handled Time keys body =
      Until (TriesOnce hash_of Came Handled Time) way_of_try (record { attempt = started keys; body = body })
