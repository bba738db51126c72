-- What goes over the link for a request of a client, and whether the application is asked.
use Rattle.std.proofs.Common.{◌≡◌, ℕ, ◌<◌, Bool, false, ap, subst, inr, Option, Result, Err, List, [], ◌∷◌}
use Rattle.change_core.specs.declared.addresses.Address.{Address}
use Rattle.forward_core.specs.Attempts.{most_sends}
use Rattle.hash_ring.specs.declared.hash.Sha256Hash.{Sha256Hash}
use Rattle.locked_node.specs.declared.node.LockedNode.{LockedNode}
use Rattle.locked_node.specs.Passes.{NodePass}
use Rattle.message_core.specs.declared.messages.Content.TheVariants as content
use Rattle.message_core.specs.declared.messages.Message.{Message}
use Rattle.peer_core.specs.Acts.{Act, Makes, Then}
use Rattle.peer_core.specs.Forwarding.{IsRequest}
use Rattle.peer_core.specs.Handling.{Handled, MayHandle}
use Rattle.peer_core.specs.Links.{Went, any_answer}
use Rattle.peer_core.specs.Parts.{Does}
use Rattle.peer_core.specs.Resending.{EndsBy, Failed, SendsRequest}
use Rattle.peer_core.specs.Serving.{message_from}
use Rattle.peer_core.specs.declared.errors.ClusterError.{ClusterError}
use Rattle.peer_core.specs.declared.errors.ClusterError.TheVariants as error
use Rattle.peer_core.specs.declared.errors.HandlerFault.{HandlerFault}
use Rattle.peer_core.specs.declared.errors.LinkError.{LinkError}
use Rattle.peer_core.proofs.Acts.{makes_as}
use Rattle.peer_core.proofs.Requesting.{requested_as}
use Rattle.agent_api.specs.Asking.{answerer, notes_asking, AnyTimes}
use Rattle.agent_application.specs.Applications.{AnyHandling}
use Rattle.hash_ring.specs.Points.{hash_of}
use Rattle.agent_node.specs.Calling.{Calling, HasMade}
use Rattle.agent_api.specs.Onces.{Noted, notes_send, unnoted}
use Rattle.agent_api.specs.Performing.{AsksOwner, IsRequested, Outcome, SettledBy, ending_of}
use Rattle.agent_node.proofs.Made.{made_as, made_both}

-- a handler that notes each of its calls, as far as a request says
module _ {A : Type 0} (handled : Handled A) (asked_of : A → Bool)
    (notes : (keys : List (List ℕ)) (body : List ℕ) (answer : Result (List ℕ) HandlerFault) (was is : A) → handled keys body answer was is
    → notes_asking keys body answer (asked_of was) (asked_of is)) where
  -- and a link that notes its sends
  module _ {L : Type 0} (went : Went L) (noted_of : L → Noted)
      (marks : (to : Address) (message : Message) (answer : Result Message LinkError) (old new : L) → went to message answer old new
      → notes_send to message answer (noted_of old) (noted_of new))
      (keys : List (List ℕ)) (body : List ℕ) where
    failed_as : (n : ℕ) (old new : L) (acts : List (Act Sha256Hash)) → Failed hash_of went keys body n old new acts
        → Failed hash_of notes_send keys body n (noted_of old) (noted_of new) acts
    failed_as n old new acts Failed.is_over = Failed.is_over
    failed_as n old new acts (Failed.stays {acts = rest} act h) = Failed.stays act (failed_as n old new rest h)
    failed_as n old new acts (Failed.sent {n = k} {mid = mid} {acts = rest} view answer (owner, owned, other, goes) fails h) =
        Failed.sent view answer (owner, owned, other, marks owner (message_from view (content.Forward keys body)) answer old mid goes) fails (failed_as k mid new rest h)

    ends_as : (r : Result (List ℕ) ClusterError) (was is : A) (old new : L) (acts : List (Act Sha256Hash)) → EndsBy hash_of went handled keys body r was is old new acts
        → EndsBy hash_of notes_send notes_asking keys body r (asked_of was) (asked_of is) (noted_of old) (noted_of new) acts
    ends_as r was is old new acts (EndsBy.by_error e refused) = EndsBy.by_error e refused
    ends_as r was is old new acts (EndsBy.by_handler answer (view, just, owned, called) same) =
        EndsBy.by_handler answer (view, just, owned, notes keys body answer was is called) same
    ends_as r was is old new acts (EndsBy.by_owner view answer just (owner, owned, other, goes) says) =
        EndsBy.by_owner view answer just (owner, owned, other, marks owner (message_from view (content.Forward keys body)) answer old new goes) says

    few_as : (r : Result (List ℕ) ClusterError) (was is : A) (old new : L) (acts : List (Act Sha256Hash))
        → (n : ℕ) × (n < most_sends) × ((mid : L) × Then (Failed hash_of went keys body n old mid) (EndsBy hash_of went handled keys body r was is mid new) acts)
        → (n : ℕ) × (n < most_sends) × ((mid : Noted) × Then (Failed hash_of notes_send keys body n (noted_of old) mid)
        (EndsBy hash_of notes_send notes_asking keys body r (asked_of was) (asked_of is) mid (noted_of new)) acts)
    few_as r was is old new acts (n, few, (mid, (first, last, e, failed, ends))) =
        (n, few, (noted_of mid, (first, last, e, failed_as n old mid first failed, ends_as r was is mid new last ends)))

    -- what goes over the link for a request
    sends_as : (r : Result (List ℕ) ClusterError) (was is : A) (old new : L) (acts : List (Act Sha256Hash))
        → SendsRequest hash_of went handled keys body r was is old new acts
        → SendsRequest hash_of notes_send notes_asking keys body r (asked_of was) (asked_of is) (noted_of old) (noted_of new) acts
    sends_as (Err error.RetriesSpent) was is old new acts (same, failed) = (ap asked_of same, failed_as most_sends old new acts failed)
    sends_as r was is old new acts h = few_as r was is old new acts h

    -- the same of a handler that was not called before, and of a link that had noted nothing
    pub makes_noted : (r : Result (List ℕ) ClusterError) (was is : A) (old new : L) (is_repeatable : Bool) → asked_of was ≡ false
        → noted_of old ≡ unnoted is_repeatable
        → (node : LockedNode Sha256Hash) (before after : NodePass Sha256Hash) → Makes node (SendsRequest hash_of went handled keys body r was is old new) before after
        → Makes node (SendsRequest hash_of notes_send notes_asking keys body r false (asked_of is) (unnoted is_repeatable) (noted_of new)) before after
    makes_noted r was is old new is_repeatable unasked fresh node before after makes =
        makes_as (SendsRequest hash_of notes_send notes_asking keys body r false (asked_of is) (unnoted is_repeatable) (noted_of new))
        (λ acts h. subst (λ (b : Bool). SendsRequest hash_of notes_send notes_asking keys body r b (asked_of is) (unnoted is_repeatable) (noted_of new) acts) unasked
        (subst (λ (start : Noted). SendsRequest hash_of notes_send notes_asking keys body r (asked_of was) (asked_of is) start (noted_of new) acts) fresh
        (sends_as r was is old new acts h))) makes

-- a request of keys, and what went over the link for it
module _ (keys : List (List ℕ)) (request : List ℕ) (r : Result (List ℕ) ClusterError) (is_repeatable asked : Bool) (noted : Noted)
    (old new : Calling) where
  -- what was requested of a handler that notes its calls was requested of one that may answer anything
  pub made_requested : (Answers : MayHandle) → new.node ≡ old.node → Does old.node (IsRequest hash_of any_answer Answers AnyTimes keys request) r old.pass new.pass
      → Makes old.node (SendsRequest hash_of notes_send notes_asking keys request r false asked (unnoted is_repeatable) noted) old.pass new.pass
      → HasMade (IsRequested is_repeatable asked noted keys request r) old new
  made_requested Answers same does sent =
      made_both (IsRequest hash_of any_answer AnyHandling AnyTimes keys request r) (SendsRequest hash_of notes_send notes_asking keys request r false asked (unnoted is_repeatable) noted)
      old new
      (record {
        node = same;
        makes = makes_as (IsRequest hash_of any_answer AnyHandling AnyTimes keys request r)
            (λ acts h. requested_as hash_of any_answer Answers AnyHandling AnyTimes (λ ks body answer one. tt) keys request r acts h) does.makes;
      })
      (record { node = same; makes = sent })

  -- so the owner of a key was asked, and this came of it
  pub made_asked : (limit : Option ℕ) (own : Address) (key : List ℕ) (is_over : Bool) (outcome : Outcome) → keys ≡ key ∷ []
      → HasMade (IsRequested is_repeatable asked noted keys request r) old new → SettledBy (answerer own asked noted.last) (ending_of is_over is_repeatable limit asked noted) r outcome
      → HasMade (AsksOwner limit own key request is_repeatable outcome) old new
  made_asked limit own key is_over outcome one made comes =
      made_as (AsksOwner limit own key request is_repeatable outcome) (IsRequested is_repeatable asked noted keys request r) old new
      (λ acts both. inr (asked, noted, is_over, (r, subst (λ (ks : List (List ℕ)). IsRequested is_repeatable asked noted ks request r acts) one both, comes))) made
