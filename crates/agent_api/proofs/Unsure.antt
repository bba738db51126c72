-- A link over which a request is sent that may end early.
use Rattle.std.proofs.Common.{◌≡◌, ◌≢◌, ◌-◌, ℕ, Bool, true, false, Result, Ok, Err, refl, sym, ap, inr, ◌∙◌, subst, eq-eqb, true≢false}
use Rattle.std.specs.Prelude.{◌&&◌, ◌||◌, not, is_err, None}
use Rattle.std.proofs.Math.Bool.{or-false}
use Rattle.change_core.specs.declared.addresses.Address.{Address}
use Rattle.transport.specs.Sockets.{Dialled}
use Rattle.message_core.specs.declared.messages.Content.TheVariants as content
use Rattle.message_core.specs.declared.messages.Message.{Message}
use Rattle.peer_core.specs.Forwarding.{IsFailure}
use Rattle.peer_core.specs.declared.errors.LinkError.{LinkError}
use Rattle.peer_core.specs.declared.errors.LinkError.TheVariants.{Memory, Spent}
use Rattle.agent_node.specs.Noting.{source_of}
use Rattle.agent_api.specs.Onces.{MayConnect, Noted, NotesDoubt, ends_request, is_last, is_other, is_unsure, net_of, noted_by, sends_once, was_made}
use Rattle.agent_api.specs.declared.onces.CountedNet.{CountedNet}
use Rattle.agent_api.specs.declared.onces.OnceLink.{OnceLink}

-- a count does not differ from itself
unmade : (n : ℕ) → was_made n n ≡ false
unmade n = ap not (eq-eqb n n refl)

-- nothing came over the link, and this is the answer: it is spent, or the request ended
pub noted_unsent : (answer : Result Message LinkError) (old new : Noted) → new.made ≡ old.made → new.is_unsure ≡ old.is_unsure → is_err answer ≡ true
    → is_unsure answer false ≡ false → NotesDoubt answer old new
noted_unsent answer old new same sure failed never = (
  sure ∙ (sym (or-false old.is_unsure) ∙ ap (λ (b : Bool). old.is_unsure || b) (sym (ap (is_unsure answer) still ∙ never))),
  (λ none. failed),
  λ fails was. sure ∙ was,
)
  where
    still : was_made old.made new.made ≡ false
    still = subst (λ (n : ℕ). was_made old.made n ≡ false) (sym same) (unmade old.made)

and_right : (x y : Bool) → (x && y) ≡ true → y ≡ true
and_right true y is = is
and_right false y is = absurd (true≢false (sym is))

-- what ends a request leaves as much doubt as no answer
same_doubt : (heard : Result Message LinkError) (made unsure is_repeatable late : Bool) → (made ≡ false → is_err heard ≡ true)
    → ends_request heard unsure is_repeatable late ≡ true → is_unsure heard made ≡ made
same_doubt (Err e) made unsure is_repeatable late comes last = refl
same_doubt (Ok message) false unsure is_repeatable late comes last = absurd (true≢false (sym (comes refl)))
same_doubt (Ok message) true unsure is_repeatable late comes last = and_right (is_last unsure is_repeatable late) (is_other message.content) last

-- what came ended the request
pub noted_ended : (heard answer : Result Message LinkError) (old new : Noted) (is_repeatable late : Bool) → answer ≡ Err Memory
    → new.is_unsure ≡ (old.is_unsure || is_unsure heard (was_made old.made new.made)) → (was_made old.made new.made ≡ false → is_err heard ≡ true)
    → ends_request heard new.is_unsure is_repeatable late ≡ true → NotesDoubt answer old new
noted_ended heard answer old new is_repeatable late ended noted comes last = (
  noted
      ∙ (ap (λ (b : Bool). old.is_unsure || b) (same_doubt heard (was_made old.made new.made) new.is_unsure is_repeatable late comes last)
      ∙ sym (ap (λ (it : Result Message LinkError). old.is_unsure || is_unsure it (was_made old.made new.made)) ended)),
  (λ none. ap is_err ended),
  λ fails. absurd (subst IsFailure ended fails refl),
)

-- one call of the link of a request
module _ {R N S : Type 0} (dialled : Dialled N S) (to : Address) (message : Message) where
  -- which is spent
  pub went_spent : (answer : Result Message LinkError) (old new : OnceLink R N) → answer ≡ Err Spent → new.is_over ≡ false → new.last ≡ None
      → new.is_unsure ≡ old.is_unsure → new.is_repeatable ≡ old.is_repeatable → net_of new ≡ net_of old → sends_once dialled to message answer old new
  went_spent answer old new spent goes_on_so gone sure kept still = (
    (λ over. absurd (true≢false (sym over ∙ goes_on_so))),
    inr still,
    (
      gone ∙ sym (ap source_of spent),
      (
        kept,
        λ once. noted_unsent answer (noted_by old) (noted_by new) (ap (λ (net : CountedNet N). net.made) still) sure
            (ap is_err spent) (ap (λ (it : Result Message LinkError). is_unsure it false) spent),
      ),
    ),
  )

  -- which sent, noted what came, and ended the request
  pub went_ended : (heard answer : Result Message LinkError) (old sent noted new : OnceLink R N) (late : Bool) → answer ≡ Err Memory → new.last ≡ None
      → new.is_unsure ≡ noted.is_unsure → new.is_repeatable ≡ noted.is_repeatable → net_of new ≡ net_of noted
      → noted_by noted ≡ noted_by sent → net_of noted ≡ net_of sent
      → MayConnect dialled to (net_of old) (net_of sent) → (was_made (net_of old).made (net_of sent).made ≡ false → is_err heard ≡ true)
      → sent.is_unsure ≡ (old.is_unsure || is_unsure heard (was_made (net_of old).made (net_of sent).made)) → sent.is_repeatable ≡ old.is_repeatable
      → ends_request heard noted.is_unsure noted.is_repeatable late ≡ true → sends_once dialled to message answer old new
  went_ended heard answer old sent noted new late ended gone sure kept still same stays connects comes doubt once last = (
    (λ over. ended),
    subst (MayConnect dialled to (net_of old)) (sym (still ∙ stays)) connects,
    (
      gone ∙ sym (ap source_of ended),
      (
        kept ∙ (ap (λ (n : Noted). n.is_repeatable) same ∙ once),
        λ unrepeated.
            noted_ended heard answer (noted_by old) (noted_by new) noted.is_repeatable late ended
            (subst (λ (net : CountedNet N). new.is_unsure ≡ (old.is_unsure || is_unsure heard (was_made (net_of old).made net.made))) (sym (still ∙ stays))
            (sure ∙ (ap (λ (n : Noted). n.is_unsure) same ∙ doubt)))
            (subst (λ (net : CountedNet N). was_made (net_of old).made net.made ≡ false → is_err heard ≡ true) (sym (still ∙ stays)) comes)
            (subst (λ (b : Bool). ends_request heard b noted.is_repeatable late ≡ true) (sym sure) last),
      ),
    ),
  )
