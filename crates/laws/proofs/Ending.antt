-- How a request was done that has a text.
use Rattle.std.proofs.Common.{◌≡◌, ◌∙◌, ℕ, sym, ap, subst, inl, inr, Some, Result, Ok, Err, List}
use Rattle.std.specs.Prelude.{Contains}
use Rattle.change_core.specs.declared.addresses.Address.{Address}
use Rattle.message_core.specs.declared.kinds.Reason.{Reason}
use Rattle.message_core.specs.declared.kinds.Reason.TheVariants as reason
use Rattle.message_core.specs.declared.messages.Content.{Content}
use Rattle.message_core.specs.declared.messages.Content.TheVariants as content
use Rattle.message_core.specs.declared.messages.Message.{Message}
use Rattle.node_core.specs.Viewing.{Viewed}
use Rattle.forward_core.specs.declared.errors.ForwardError.{ForwardError}
use Rattle.forward_core.specs.declared.errors.ForwardError.TheVariants as refusal
use Rattle.forward_core.specs.declared.routes.Route.{Route}
use Rattle.forward_core.specs.declared.routes.Route.TheVariants as route
use Rattle.forward_core.specs.Routes.{AllOwnedBy, IsRouteOf}
use Rattle.peer_core.specs.declared.errors.HandlerFault.{HandlerFault}
use Rattle.peer_core.specs.declared.errors.HandlerFault.TheVariants as fault
use Rattle.peer_core.specs.declared.errors.LinkError.{LinkError}
use Rattle.peer_core.specs.Acts.{Act, looked}
use Rattle.peer_core.specs.Handling.{Handled, between, handled_as}
use Rattle.peer_core.specs.Handlings.{Ends, OwnsAll}
use Rattle.peer_core.specs.Links.{MayAnswer, Went}
use Rattle.peer_core.specs.Resending.{GoesToOwner, result_of_handler}
use Rattle.peer_core.specs.Serving.{Forwards, IsRouted, Says, Serves, message_by, message_from}
use Rattle.peer_core.proofs.HandlingCounts.{here_owns, requests_handled}
use Rattle.peer_core.proofs.Servings.{has_first}
use Rattle.laws.specs.Ending.{IsDone, RepliesAreDone, TextsAreDone}

-- a Reply is the handler's text
replied_by : (answer : Result (List ℕ) HandlerFault) (text : List ℕ) → handled_as answer ≡ content.Reply text → answer ≡ Ok text
replied_by (Ok given) text e = cc
replied_by (Err fault.Failed) text e = absurd cc
replied_by (Err fault.Memory) text e = absurd cc

given_by : (answer : Result (List ℕ) HandlerFault) (text : List ℕ) → Ok text ≡ result_of_handler answer → answer ≡ Ok text
given_by (Ok given) text e = cc
given_by (Err fault.Failed) text e = absurd cc
given_by (Err fault.Memory) text e = absurd cc

module _ {H A : Type 0} (hash_of : H → List ℕ → ℕ) (handled : Handled A) (keys : List (List ℕ)) (body text : List ℕ) (was is : A) where
  routed_so : (view : Viewed H) (way : Result Route ForwardError) (told : Content) (acts : List (Act H)) → Contains acts (looked (Ok view))
      → IsRouteOf hash_of view keys way → told ≡ content.Reply text → IsRouted (between handled was is) keys body way told
      → OwnsAll hash_of keys acts × handled keys body (Ok text) was is
  routed_so view (Ok route.Here) told acts has leads e (answer, called, same) =
      ((view, has, here_owns hash_of keys view leads), subst (λ (x : Result (List ℕ) HandlerFault). handled keys body x was is) (replied_by answer text (sym same ∙ e)) called)
  routed_so view (Ok (route.To owner)) told acts has leads e h = absurd (let no : content.NotOwner ≡ content.Reply text = sym h.1 ∙ e in cc)
  routed_so view (Ok route.Nobody) told acts has leads e h = absurd (let no : content.Refused reason.Nobody ≡ content.Reply text = sym h.1 ∙ e in cc)
  routed_so view (Err refusal.Diverged) told acts has leads e h = absurd (let no : content.Refused reason.Diverged ≡ content.Reply text = sym h.1 ∙ e in cc)
  routed_so view (Err refusal.Nobody) told acts has leads e h = absurd h
  routed_so view (Err refusal.RetriesSpent) told acts has leads e h = absurd h
  routed_so view (Err refusal.InFlight) told acts has leads e h = absurd h
  routed_so view (Err refusal.NotInFlight) told acts has leads e h = absurd h

  -- a refusal is no Reply
  not_refused : (why : Reason) (answer : Message) (acts : List (Act H)) → answer.content ≡ content.Reply text → Says (content.Refused why) (Ok answer) acts → ⊥
  not_refused why answer acts e (inl h) = h
  not_refused why answer acts e (inr (own, (xs, ys, eq, just, gives))) =
      let made : answer ≡ message_by own (content.Refused why) = (let same : Ok answer ≡ Ok (message_by own (content.Refused why)) = gives.1 in cc) in
      let no : content.Reply text ≡ content.Refused why = sym e ∙ ap (λ (m : Message). m.content) made in cc

  forwards_so : (answer : Message) (acts : List (Act H)) → answer.content ≡ content.Reply text → Forwards hash_of (between handled was is) keys body (Ok answer) acts
      → OwnsAll hash_of keys acts × handled keys body (Ok text) was is
  forwards_so answer acts e (inl h) = absurd h
  forwards_so answer acts e (inr (Ok view, (first, next, eq, seen, (told, decided, gives)))) =
      let made : answer ≡ message_from view told = (let same : Ok answer ≡ Ok (message_from view told) = gives.1 in cc) in
      routed_so view decided.0 told acts (has_first (looked (Ok view)) acts first next eq seen) decided.1 (sym (ap (λ (m : Message). m.content) made) ∙ e) decided.2
  forwards_so answer acts e (inr (Err n, (first, next, eq, seen, (never, says)))) = absurd (not_refused reason.Memory answer next e says)

pub replies_are_done : {H B : Type 0} (hash_of : H → List ℕ → ℕ) (Came : MayAnswer) (handled : Handled B) → RepliesAreDone hash_of Came handled
replies_are_done hash_of Came handled a keys body text answer before after acts told (is_at, (message, now, asked, served)) =
    let ((view, has, owned), called) =
    forwards_so hash_of handled keys body text before after answer acts told
    (subst (λ (c : Content). Serves hash_of Came (between handled before after) message now c (Ok answer) acts) asked served) in
    ((view, has, subst (λ (b : Address). AllOwnedBy hash_of view keys (Some b)) (is_at view has) owned), called)

pub texts_are_done : {L H A B : Type 0} (hash_of : H → List ℕ → ℕ) (Came : MayAnswer) (went : Went L) (here : Handled A) (there : Handled B)
    → TextsAreDone hash_of Came went here there
texts_are_done hash_of Came went here there keys body text was is old new acts sent =
    go (requests_handled hash_of went here keys body (Ok text) was is old new acts sent)
  where
    go : Ends hash_of went here keys body (Ok text) was is old new acts → IsDone hash_of Came went here there keys body text was is old new acts
    go (failed, mid, inl (few, (xs, ys, e, over, (view, just, inl (owned, (answer, called, same), stays))))) =
        (failed, mid, few, (xs, ys, e, over, (view, just, inl (owned, subst (λ (x : Result (List ℕ) HandlerFault). here keys body x was is) (given_by answer text same) called, stays))))
    go (failed, mid, inl (few, (xs, ys, e, over, (view, just, inr (unmoved, (answer, gone, (reply, is, told))))))) = (
      failed,
      mid,
      few,
      (
        xs,
        ys,
        e,
        over,
        (
          view,
          just,
          inr (
            unmoved,
            (
              reply,
              told,
              subst (λ (x : Result Message LinkError). GoesToOwner hash_of went keys body view x mid new) is gone,
              λ a before after its made. replies_are_done hash_of Came there a keys body text reply before after its told made,
            ),
          ),
        ),
      ),
    )
    go (failed, mid, inr (why, is, same, stays, over, how)) = absurd (let no : Ok text ≡ Err why = is in cc)
