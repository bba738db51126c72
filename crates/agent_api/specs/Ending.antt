-- How often a request was performed that may not be performed twice.
use Rattle.std.specs.Prelude.{◌≡◌, ◌≢◌, ◌⊎◌, ℕ, ◌<◌, Bool, false, length, List, Result, Ok, Err}
use Rattle.hash_ring.specs.declared.hash.Sha256Hash.{Sha256Hash}
use Rattle.message_core.specs.declared.messages.Content.TheVariants as content
use Rattle.message_core.specs.declared.messages.Message.{Message}
use Rattle.node_core.specs.Viewing.{Viewed}
use Rattle.forward_core.specs.Attempts.{most_sends}
use Rattle.peer_core.specs.Acts.{Act, OfActs, Just, Then, looked}
use Rattle.peer_core.specs.Handling.{Handled}
use Rattle.peer_core.specs.Handlings.{Ends, EndsHere, EndsThere, FailsOver}
use Rattle.peer_core.specs.Links.{Went}
use Rattle.peer_core.specs.Resending.{Sending, SendsRequest}
use Rattle.peer_core.specs.declared.errors.ClusterError.{ClusterError}
use Rattle.peer_core.specs.declared.errors.ClusterError.TheVariants as error
use Rattle.peer_core.specs.declared.errors.LinkError.{LinkError}
use Rattle.hash_ring.specs.Points.{hash_of}
use Rattle.agent_api.specs.Onces.{Noted, unnoted, was_made}

-- no node performed a request by this answer: the node called does not own the keys, or none came and no connection was made
abbrev pub IsUndone : Result Message LinkError → Bool → Type 0
IsUndone (Ok message) was_made = message.content ≡ content.NotOwner
IsUndone (Err e) was_made = was_made ≡ false

module _ {L : Type 0} (went : Went L) (noted_of : L → Noted) where
  -- one call of the link of a request, by which no node performed it
  abbrev pub undone_send : Went L
  undone_send to message answer old new = went to message answer old new × IsUndone answer (was_made (noted_of old).made (noted_of new).made)

  -- these Forwards failed, no node performed any of them, and no doubt of it is noted
  abbrev pub FailsUndone : List (List ℕ) → List ℕ → List (Sending Sha256Hash) → L → L → OfActs Sha256Hash
  FailsUndone keys request failed old mid acts = FailsOver hash_of undone_send keys request failed old mid acts × ((noted_of mid).is_unsure ≡ false)

module _ {L A : Type 0} (went : Went L) (handled : Handled A) where
  -- By the last view the request ended, at this node or at one more: this node owns the keys, its handler was called, once, and its link no more; or it was
  -- not called, and its link was given one Forward more, to the owner.
  abbrev pub EndsAtOne : List (List ℕ) → List ℕ → Result (List ℕ) ClusterError → A → A → L → L → OfActs Sha256Hash
  EndsAtOne keys request r was is mid new acts =
      (view : Viewed Sha256Hash) × Just (looked (Ok view)) acts
      × (EndsHere hash_of went handled keys request view r was is mid new ⊎ EndsThere hash_of went handled keys request view r was is mid new)

-- A request that may not be performed twice: a link by which it goes notes its sends, and a handler is asked for it.
module _ {L A : Type 0} (went : Went L) (handled : Handled A) (noted_of : L → Noted) where
  -- fewer than four Forwards failed and no node performed them, and then the request ended at one node, this or another; or it ended by an error, its link was
  -- given no more, and its handler was not called
  abbrev pub EndsOnce : List (List ℕ) → List ℕ → Result (List ℕ) ClusterError → A → A → L → L → OfActs Sha256Hash
  EndsOnce keys request r was is old new acts =
      (failed : List (Sending Sha256Hash)) × (mid : L)
      × (((length failed < most_sends) × Then (FailsUndone went noted_of keys request failed old mid) (EndsAtOne went handled keys request r was is mid new) acts)
      ⊎ ((e : ClusterError) × (r ≡ Err e) × (is ≡ was) × (new ≡ mid) × FailsUndone went noted_of keys request failed old mid acts))

  -- so ends each such request
  abbrev pub RequestsEndOnce : Type 0
  RequestsEndOnce =
      (keys : List (List ℕ)) (request : List ℕ) (r : Result (List ℕ) ClusterError) (was is : A) (old new : L) (acts : List (Act Sha256Hash))
      → noted_of old ≡ unnoted false → SendsRequest hash_of went handled keys request r was is old new acts → EndsOnce keys request r was is old new acts

  -- One with a text ended so: after Forwards that no node performed, at one node, which gave the text, at this one by its handler, or at the one that answered
  -- the one Forward more by a Reply.
  abbrev pub AnswersAreDoneOnce : Type 0
  AnswersAreDoneOnce =
      (keys : List (List ℕ)) (request text : List ℕ) (was is : A) (old new : L) (acts : List (Act Sha256Hash))
      → noted_of old ≡ unnoted false → SendsRequest hash_of went handled keys request (Ok text) was is old new acts
      → (failed : List (Sending Sha256Hash)) × (mid : L) × (length failed < most_sends)
      × Then (FailsUndone went noted_of keys request failed old mid) (EndsAtOne went handled keys request (Ok text) was is mid new) acts

  -- One with an error of which its link notes no doubt was not performed by any Forward, the last included.
  abbrev pub ErrorsAreUndone : Type 0
  ErrorsAreUndone =
      (keys : List (List ℕ)) (request : List ℕ) (e : ClusterError) (was is : A) (old new : L) (acts : List (Act Sha256Hash))
      → noted_of old ≡ unnoted false → (noted_of new).is_unsure ≡ false → SendsRequest hash_of went handled keys request (Err e) was is old new acts
      → Ends hash_of (undone_send went noted_of) handled keys request (Err e) was is old new acts

  -- no doubt is left but by an error for memory, by which a request also ends early, and its handler was not called but by that or its own
  abbrev pub OthersAreSure : Type 0
  OthersAreSure =
      (keys : List (List ℕ)) (request : List ℕ) (e : ClusterError) (was is : A) (old new : L) (acts : List (Act Sha256Hash))
      → e ≢ error.Memory → noted_of old ≡ unnoted false → SendsRequest hash_of went handled keys request (Err e) was is old new acts
      → ((noted_of new).is_unsure ≡ false) × (e ≢ error.HandlerFault → is ≡ was)
