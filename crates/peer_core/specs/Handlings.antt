-- How often a handler is called, once for a Forward whose keys the node owns by its view, once at most for a request, and else never; and how a request
-- ends, after which Forwards.
use Rattle.std.specs.Prelude.{◌≡◌, ◌⊎◌, ℕ, ◌<◌, length, map, List, Contains, Some, Result, Ok, Err}
use Rattle.std.specs.List.{All}
use Rattle.message_core.specs.declared.messages.Content.{Content}
use Rattle.message_core.specs.declared.messages.Content.TheVariants as content
use Rattle.message_core.specs.declared.messages.Message.{Message}
use Rattle.node_core.specs.Viewing.{Viewed}
use Rattle.forward_core.specs.Attempts.{most_sends}
use Rattle.forward_core.specs.Routes.{AllOwnedBy}
use Rattle.peer_core.specs.declared.errors.ClusterError.{ClusterError}
use Rattle.peer_core.specs.declared.errors.ClusterError.TheVariants as error
use Rattle.peer_core.specs.declared.errors.HandlerFault.{HandlerFault}
use Rattle.peer_core.specs.declared.errors.LinkError.{LinkError}
use Rattle.peer_core.specs.Acts.{Act, OfActs, Just, Then, looked}
use Rattle.peer_core.specs.Exchanges.{IsPart}
use Rattle.peer_core.specs.Forwarding.{IsFailure, IsLookupRefusal}
use Rattle.peer_core.specs.Handling.{Handled, between, handled_as}
use Rattle.peer_core.specs.Links.{MayAnswer, Went}
use Rattle.peer_core.specs.Resending.{ForwardsOver, GoesToOwner, IsResultOf, Sending, SendsRequest, result_of_handler, viewed_in}
use Rattle.peer_core.specs.Serving.{Serves}

-- the node gave a view in which it owns all keys
abbrev pub OwnsAll : {H : Type 0} → (H → List ℕ → ℕ) → List (List ℕ) → OfActs H
OwnsAll {H} hash_of keys acts = (view : Viewed H) × Contains acts (looked (Ok view)) × AllOwnedBy hash_of view keys (Some view.own)

module _ {H A : Type 0} (hash_of : H → List ℕ → ℕ) (handled : Handled A) where
  -- for a Forward the handler was called, once, if the node owns all keys, and the answer is its result; else, and for any other message, it was not
  abbrev pub IsHandledSo : Content → Result Message ClusterError → A → A → OfActs H
  IsHandledSo (content.Forward keys body) r was is acts =
      (OwnsAll hash_of keys acts × ((answer : Result (List ℕ) HandlerFault) × handled keys body answer was is × ((m : Message) × (r ≡ Ok m) × (m.content ≡ handled_as answer))))
      ⊎ ((is ≡ was) × (0 < length keys → ¬ OwnsAll hash_of keys acts))
  IsHandledSo other r was is acts = is ≡ was

  -- the answer to a message calls the handler so
  abbrev pub ServingsHandled : MayAnswer → Type 0
  ServingsHandled Came =
      (message : Message) (now : ℕ) (r : Result Message ClusterError) (was is : A) (acts : List (Act H))
      → Serves hash_of Came (between handled was is) message now message.content r acts → IsHandledSo message.content r was is acts

module _ {L H : Type 0} (hash_of : H → List ℕ → ℕ) (went : Went L) (keys : List (List ℕ)) (body : List ℕ) where
  -- these Forwards went over the link, each by another of the views among the acts, to the owner of the keys in it, and each failed; nothing else went
  abbrev pub FailsOver : List (Sending H) → L → L → OfActs H
  FailsOver failed old new acts =
      IsPart (map (λ (s : Sending H). s.0) failed) (viewed_in acts) × All IsFailure (map (λ (s : Sending H). s.1) failed)
      × ForwardsOver hash_of went keys body failed old new

module _ {L H A : Type 0} (hash_of : H → List ℕ → ℕ) (went : Went L) (handled : Handled A) (keys : List (List ℕ)) (body : List ℕ) where
  -- a request ends here: the node owns all keys by this view, and its handler is called, once, and has the result; nothing more is sent
  abbrev pub EndsHere : Viewed H → Result (List ℕ) ClusterError → A → A → L → L → Type 0
  EndsHere view r was is old new =
      AllOwnedBy hash_of view keys (Some view.own)
      × ((answer : Result (List ℕ) HandlerFault) × handled keys body answer was is × (r ≡ result_of_handler answer)) × (new ≡ old)

  -- it ends there: one Forward more goes to the owner of the keys by this view, and its Reply has the text, or memory runs out for it; the handler is not
  -- called
  abbrev pub EndsThere : Viewed H → Result (List ℕ) ClusterError → A → A → L → L → Type 0
  EndsThere view r was is old new = (is ≡ was) × ((answer : Result Message LinkError) × GoesToOwner hash_of went keys body view answer old new × IsResultOf answer r)

  -- After Forwards that failed, fewer than four, the last view of the node ends the request, here or there. Or the request ends by an error, nothing more is
  -- sent and the handler is not called: four failed, and the retries are spent; or fewer, and the look-up of the owner is refused.
  abbrev pub Ends : Result (List ℕ) ClusterError → A → A → L → L → OfActs H
  Ends r was is old new acts =
      (failed : List (Sending H)) × (mid : L)
      × (((length failed < most_sends) × Then (FailsOver hash_of went keys body failed old mid)
      (λ ends. (view : Viewed H) × Just (looked (Ok view)) ends × (EndsHere view r was is mid new ⊎ EndsThere view r was is mid new)) acts)
      ⊎ ((e : ClusterError) × (r ≡ Err e) × (is ≡ was) × (new ≡ mid) × FailsOver hash_of went keys body failed old mid acts
      × (((e ≡ error.RetriesSpent) × (length failed ≡ most_sends)) ⊎ (IsLookupRefusal e × (length failed < most_sends)))))

module _ {L H A : Type 0} (hash_of : H → List ℕ → ℕ) (went : Went L) (handled : Handled A) where
  -- so ends a request, whatever its result
  abbrev pub RequestsHandled : Type 0
  RequestsHandled =
      (keys : List (List ℕ)) (body : List ℕ) (r : Result (List ℕ) ClusterError) (was is : A) (old new : L) (acts : List (Act H))
      → SendsRequest hash_of went handled keys body r was is old new acts → Ends hash_of went handled keys body r was is old new acts
