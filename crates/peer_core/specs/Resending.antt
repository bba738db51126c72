-- What goes over a link for a request, and what its handler is asked: by a view of the node at most one Forward, to the owner of its keys in
-- that view, or one call of the handler, if that owner is the node. Four Forwards fail and the retries are spent; or fewer fail, and the request
-- ends by an error, by the handler's result, or by the answer to one more Forward.
use Rattle.std.specs.Prelude.{◌≡◌, ◌≢◌, ◌⊎◌, ℕ, suc, ◌+◌, ◌<◌, ◌≤◌, length, map, List, [], ◌∷◌, ◌++◌, Some, Result, Ok, Err}
use Rattle.std.specs.List.{All}
use Rattle.change_core.specs.declared.addresses.Address.{Address}
use Rattle.message_core.specs.declared.messages.Content.TheVariants as content
use Rattle.message_core.specs.declared.messages.Message.{Message}
use Rattle.node_core.specs.Calls.{OfView, WithView}
use Rattle.node_core.specs.Viewing.{Viewed}
use Rattle.forward_core.specs.Attempts.{most_sends}
use Rattle.forward_core.specs.Routes.{AllOwnedBy}
use Rattle.peer_core.specs.declared.errors.ClusterError.{ClusterError}
use Rattle.peer_core.specs.declared.errors.ClusterError.TheVariants as error
use Rattle.peer_core.specs.declared.errors.LinkError.{LinkError}
use Rattle.peer_core.specs.declared.forwarding.Request.{Request}
use Rattle.peer_core.specs.declared.forwarding.Tried.{Tried}
use Rattle.peer_core.specs.declared.forwarding.Tried.TheVariants.{Answered, Again}
use Rattle.peer_core.specs.Acts.{Act, OfActs, Just, Then, looked}
use Rattle.peer_core.specs.Exchanges.{IsPart}
use Rattle.peer_core.specs.declared.errors.HandlerFault.{HandlerFault}
use Rattle.peer_core.specs.declared.errors.HandlerFault.TheVariants as fault
use Rattle.peer_core.specs.declared.errors.LinkError.TheVariants as link
use Rattle.peer_core.specs.Forwarding.{IsFailure, IsJudged, IsLookupRefusal}
use Rattle.peer_core.specs.Handling.{Handled}
use Rattle.peer_core.specs.Links.{Went}
use Rattle.peer_core.specs.Serving.{message_from}

-- a request's result for the handler's
abbrev pub result_of_handler : Result (List ℕ) HandlerFault → Result (List ℕ) ClusterError
result_of_handler (Ok text) = Ok text
result_of_handler (Err fault.Failed) = Err error.HandlerFault
result_of_handler (Err fault.Memory) = Err error.Memory

-- a request's result for an answer that came over a link and ends it: the text of a Reply, or out of memory
abbrev pub IsResultOf : Result Message LinkError → Result (List ℕ) ClusterError → Type 0
IsResultOf answer (Ok text) = (message : Message) × (answer ≡ Ok message) × (message.content ≡ content.Reply text)
IsResultOf answer (Err error.Memory) = answer ≡ Err link.Memory
IsResultOf answer (Err other) = ⊥

module _ {L H : Type 0} (hash_of : H → List ℕ → ℕ) (went : Went L) (keys : List (List ℕ)) (body : List ℕ) where
  -- a Forward of the keys and the body, by the node whose view this is, went over the link to the owner of the keys in it, with this answer
  abbrev pub GoesToOwner : Viewed H → Result Message LinkError → L → L → Type 0
  GoesToOwner view answer old new =
      (owner : Address) × AllOwnedBy hash_of view keys (Some owner) × (owner ≢ view.own) × went owner (message_from view (content.Forward keys body)) answer old new

  -- This number of Forwards went over the link, each by a view that these tries asked for, and each failed.
  pub data Failed : ℕ → L → L → List (Act H) → Type 0 where
    is_over : {now : L} → Failed 0 now now []
    -- a try that sends nothing: the request rests, or ends
    stays : {n : ℕ} {old new : L} {acts : List (Act H)} (act : Act H) → Failed n old new acts → Failed n old new (act ∷ acts)
    sent : {n : ℕ} {old mid new : L} {acts : List (Act H)} (view : Viewed H) (answer : Result Message LinkError)
        → GoesToOwner view answer old mid → IsFailure answer → Failed n mid new acts → Failed (suc n) old new (looked (Ok view) ∷ acts)

module _ {L H A : Type 0} (hash_of : H → List ℕ → ℕ) (went : Went L) (handled : Handled A) (keys : List (List ℕ)) (body : List ℕ) where
  -- the handler was called, once, by a view in which the node owns all keys, and had this result
  abbrev pub HandlesHere : Result (List ℕ) HandlerFault → A → A → OfActs H
  HandlesHere answer was is acts =
      (view : Viewed H) × Just (looked (Ok view)) acts × AllOwnedBy hash_of view keys (Some view.own) × handled keys body answer was is

  -- The end of a request with this result, over the link and by the handler: an error of the look-up of its owner, without a call of either;
  -- the handler's result, without a Forward; or that of a Forward by the last view, without a call of the handler.
  pub data EndsBy : Result (List ℕ) ClusterError → A → A → L → L → List (Act H) → Type 0 where
    by_error : {was : A} {now : L} {acts : List (Act H)} (e : ClusterError) → IsLookupRefusal e → EndsBy (Err e) was was now now acts
    by_handler : {r : Result (List ℕ) ClusterError} {was is : A} {now : L} {acts : List (Act H)} (answer : Result (List ℕ) HandlerFault)
        → HandlesHere answer was is acts → r ≡ result_of_handler answer → EndsBy r was is now now acts
    by_owner : {r : Result (List ℕ) ClusterError} {was : A} {old new : L} {acts : List (Act H)} (view : Viewed H) (answer : Result Message LinkError)
        → Just (looked (Ok view)) acts → GoesToOwner hash_of went keys body view answer old new → IsResultOf answer r → EndsBy r was was old new acts

  -- what goes over a link for a request with this result, and what its handler is asked
  abbrev pub SendsRequest : Result (List ℕ) ClusterError → A → A → L → L → OfActs H
  SendsRequest (Err error.RetriesSpent) was is old new acts = (is ≡ was) × Failed hash_of went keys body most_sends old new acts
  SendsRequest r was is old new acts =
      (n : ℕ) × (n < most_sends) × ((mid : L) × Then (Failed hash_of went keys body n old mid) (EndsBy r was is mid new) acts)

module _ {L H A : Type 0} (hash_of : H → List ℕ → ℕ) (went : Went L) (handled : Handled A) where
  -- What one try sends, and what it asks of the handler. If the request is to be tried again, with the same keys and the same body, the handler was not
  -- called, and it was sent as often more as Forwards failed.
  abbrev pub TrySends : Request → A → A → L → L → Result Tried ClusterError → OfActs H
  TrySends request was is old new (Ok (Again back)) acts =
      (is ≡ was) × (back.attempt.keys ≡ request.attempt.keys) × (back.body ≡ request.body) × (back.attempt.sends < most_sends)
      × ((n : ℕ) × (request.attempt.sends + n ≡ back.attempt.sends) × Failed hash_of went request.attempt.keys request.body n old new acts)
  TrySends request was is old new (Err error.RetriesSpent) acts =
      (is ≡ was) × (request.attempt.sends + 1 ≡ most_sends) × Failed hash_of went request.attempt.keys request.body 1 old new acts
  TrySends request was is old new (Ok (Answered text)) acts = EndsBy hash_of went handled request.attempt.keys request.body (Ok text) was is old new acts
  TrySends request was is old new (Err e) acts = EndsBy hash_of went handled request.attempt.keys request.body (Err e) was is old new acts

-- a request went over the link to the owner, once, as a Forward by the node whose view this is, and its answer was judged
abbrev pub IsSentOnce : {L H : Type 0} → Went L → Viewed H → Address → Request → Result Tried ClusterError → L → L → Type 0
IsSentOnce went view owner request r old new =
    (answer : Result Message LinkError) × went owner (message_from view (content.Forward request.attempt.keys request.body)) answer old new
    × ((now : ℕ) × IsJudged now request answer r)

-- each of the answers but the last is a failure
abbrev pub AllButLastFailed : List (Result Message LinkError) → Type 0
AllButLastFailed [] = Unit {0}
AllButLastFailed (answer ∷ []) = Unit {0}
AllButLastFailed (answer ∷ next ∷ answers) = IsFailure answer × AllButLastFailed (next ∷ answers)

-- the view that an act shows, if the node gave one
abbrev pub viewed_by : {H : Type 0} → Act H → List (Viewed H)
viewed_by (OfView, WithView (Ok view)) = view ∷ []
viewed_by act = []

-- the views that the node gave among acts, in their order
abbrev pub viewed_in : {H : Type 0} → List (Act H) → List (Viewed H)
viewed_in [] = []
viewed_in (act ∷ acts) = viewed_by act ++ viewed_in acts

-- a Forward by a view, with its answer
abbrev pub Sending : Type 0 → Type 0
Sending H = Viewed H × Result Message LinkError

module _ {L H : Type 0} (hash_of : H → List ℕ → ℕ) (went : Went L) where
  -- these Forwards of the keys and the body went over the link, each to the owner of the keys in its view, and nothing else
  abbrev pub ForwardsOver : List (List ℕ) → List ℕ → List (Sending H) → L → L → Type 0
  ForwardsOver keys body [] old new = new ≡ old
  ForwardsOver keys body ((view, answer) ∷ sends) old new = (mid : L) × GoesToOwner hash_of went keys body view answer old mid × ForwardsOver keys body sends mid new

module _ {L H A : Type 0} (hash_of : H → List ℕ → ℕ) (went : Went L) (handled : Handled A) where
  -- For a request at most four Forwards go over the link, each by another of the views that the node gave, and each but the last failed. If its
  -- retries are spent there were four, and all failed.
  abbrev pub ResendingsCount : Type 0
  ResendingsCount =
      (keys : List (List ℕ)) (body : List ℕ) (r : Result (List ℕ) ClusterError) (was is : A) (old new : L) (acts : List (Act H))
      → SendsRequest hash_of went handled keys body r was is old new acts
      → (sends : List (Sending H)) × (length sends ≤ most_sends) × IsPart (map (λ (s : Sending H). s.0) sends) (viewed_in acts)
      × AllButLastFailed (map (λ (s : Sending H). s.1) sends) × ForwardsOver hash_of went keys body sends old new
      × (r ≡ Err error.RetriesSpent → (length sends ≡ most_sends) × All IsFailure (map (λ (s : Sending H). s.1) sends))
