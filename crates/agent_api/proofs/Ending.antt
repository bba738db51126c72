-- A request that may not be performed twice ends once.
use Rattle.std.proofs.Common.{◌≡◌, ◌≢◌, ◌∙◌, ℕ, ◌<◌, Bool, true, false, refl, sym, ap, inl, inr, arith, Result, Ok, Err, List, [], ◌∷◌, length, map, true≢false}
use Rattle.std.specs.List.{All}
use Rattle.std.proofs.lemmas.Bool.{or_parts}
use Rattle.std.proofs.lemmas.List.Elements.{All-tail}
use Rattle.change_core.specs.declared.addresses.Address.{Address}
use Rattle.hash_ring.specs.Points.{owner, hash_of}
use Rattle.hash_ring.specs.declared.hash.Sha256Hash.{Sha256Hash}
use Rattle.message_core.specs.Messages.{kind_of}
use Rattle.message_core.specs.declared.kinds.Kind.TheVariants as kind
use Rattle.message_core.specs.declared.messages.Content.{Content}
use Rattle.message_core.specs.declared.messages.Content.TheVariants as content
use Rattle.message_core.specs.declared.messages.Message.{Message}
use Rattle.forward_core.specs.Attempts.{most_sends}
use Rattle.peer_core.specs.Acts.{Act, Then}
use Rattle.peer_core.specs.Forwarding.{IsFailure}
use Rattle.peer_core.specs.Handling.{Handled}
use Rattle.peer_core.specs.Handlings.{Ends, FailsOver}
use Rattle.peer_core.specs.Links.{Went}
use Rattle.peer_core.specs.Resending.{ForwardsOver, IsResultOf, Sending, result_of_handler}
use Rattle.peer_core.specs.Serving.{message_from}
use Rattle.peer_core.specs.declared.errors.ClusterError.{ClusterError}
use Rattle.peer_core.specs.declared.errors.ClusterError.TheVariants as error
use Rattle.peer_core.specs.declared.errors.HandlerFault.{HandlerFault}
use Rattle.peer_core.specs.declared.errors.HandlerFault.TheVariants as fault
use Rattle.peer_core.specs.declared.errors.LinkError.{LinkError}
use Rattle.peer_core.proofs.HandlingCounts.{requests_handled}
use Rattle.agent_api.specs.Onces.{Noted, is_other, is_unsure, notes_send, unnoted, was_made}
use Rattle.agent_api.specs.Ending.{AnswersAreDoneOnce, EndsAtOne, EndsOnce, ErrorsAreUndone, FailsUndone, IsUndone, OthersAreSure, RequestsEndOnce, undone_send}

-- no Reply came
abbrev NoReply : Result Message LinkError → Type 0
NoReply (Ok message) = kind_of message.content ≢ kind.Reply
NoReply (Err e) = Unit {0}

-- an answer of which no doubt is noted shows that no node performed the request
undone_content : (told : Content) → kind_of told ≢ kind.Reply → is_other told ≡ false → told ≡ content.NotOwner
undone_content (content.Join news) none sure = absurd (true≢false sure)
undone_content (content.Ping news) none sure = absurd (true≢false sure)
undone_content (content.PingReq news target) none sure = absurd (true≢false sure)
undone_content (content.Forward keys body) none sure = absurd (true≢false sure)
undone_content (content.Joined news) none sure = absurd (true≢false sure)
undone_content (content.Ack news) none sure = absurd (true≢false sure)
undone_content (content.PingReqAck news target reached) none sure = absurd (true≢false sure)
undone_content (content.Reply body) none sure = absurd (none refl)
undone_content content.NotOwner none sure = refl
undone_content (content.Refused why) none sure = absurd (true≢false sure)

undone_by : (answer : Result Message LinkError) (made : Bool) → NoReply answer → is_unsure answer made ≡ false → IsUndone answer made
undone_by (Ok message) made none sure = undone_content message.content none sure
undone_by (Err e) made none sure = sure

failed_unanswered : (answer : Result Message LinkError) → IsFailure answer → NoReply answer
failed_unanswered (Ok message) fails = fails
failed_unanswered (Err e) fails = tt

refused_unanswered : (e : ClusterError) (it : Result Message LinkError) → IsResultOf it (Err e) → NoReply it
refused_unanswered e (Err x) is = tt
refused_unanswered error.Memory (Ok m) is = absurd cc
refused_unanswered e (Ok m) is = absurd is

-- the errors by which a request ends that a node may have performed
handler_doubt : (e : ClusterError) (it : Result (List ℕ) HandlerFault) → e ≢ error.Memory → e ≢ error.HandlerFault → Err e ≡ result_of_handler it → ⊥
handler_doubt e (Ok text) other own same = cc
handler_doubt e (Err fault.Failed) other own same = own cc
handler_doubt e (Err fault.Memory) other own same = other cc

owner_doubt : (e : ClusterError) (it : Result Message LinkError) → e ≢ error.Memory → IsResultOf it (Err e) → ⊥
owner_doubt error.Memory it other is = other refl
owner_doubt e it other is = is

module _ {L : Type 0} (went : Went L) (noted_of : L → Noted)
    (marks : (to : Address) (message : Message) (answer : Result Message LinkError) (old new : L) → went to message answer old new
    → notes_send to message answer (noted_of old) (noted_of new)) where
  -- no node performed the request by one call, after which no doubt is noted
  undone_call : (to : Address) (message : Message) (answer : Result Message LinkError) (old new : L) → (noted_of old).is_repeatable ≡ false → NoReply answer
      → (noted_of new).is_unsure ≡ false → went to message answer old new → undone_send went noted_of to message answer old new
  undone_call to message answer old new once none sure goes =
      let (source, (stays, doubts)) = marks to message answer old new goes in (
        goes,
        undone_by answer (was_made (noted_of old).made (noted_of new).made) none
            (or_parts (noted_of old).is_unsure (is_unsure answer (was_made (noted_of old).made (noted_of new).made)) (sym (doubts once).0 ∙ sure)).1,
      )

  module _ (keys : List (List ℕ)) (request : List ℕ) where
    -- nor by one of the Forwards that failed, if it may not be performed twice
    undone : (failed : List (Sending Sha256Hash)) (old new : L) → (noted_of old).is_repeatable ≡ false → (noted_of old).is_unsure ≡ false
        → All IsFailure (map (λ (s : Sending Sha256Hash). s.1) failed) → ForwardsOver hash_of went keys request failed old new
        → ForwardsOver hash_of (undone_send went noted_of) keys request failed old new × ((noted_of new).is_unsure ≡ false) × ((noted_of new).is_repeatable ≡ false)
    undone [] old new once sure fails same =
        (same, (ap (λ (l : L). (noted_of l).is_unsure) same ∙ sure), (ap (λ (l : L). (noted_of l).is_repeatable) same ∙ once))
    undone ((view, answer) ∷ sends) old new once sure fails (mid, (owner, owned, other, goes), rest) =
        let failed : IsFailure answer = fails 0 answer (omega arith) in
        let (source, (stays, doubts)) = marks owner (message_from view (content.Forward keys request)) answer old mid goes in
        let still : (noted_of mid).is_unsure ≡ false = (doubts once).2 failed sure in
        let (others, last, kept) = undone sends mid new (stays ∙ once) still (All-tail IsFailure answer (map (λ (s : Sending Sha256Hash). s.1) sends) fails) rest in (
          (
            mid,
            (owner, owned, other, undone_call owner (message_from view (content.Forward keys request)) answer old mid once (failed_unanswered answer failed) still goes),
            others,
          ),
          last,
          kept,
        )

    fails_undone : (failed : List (Sending Sha256Hash)) (old mid : L) (acts : List (Act Sha256Hash)) → noted_of old ≡ unnoted false
        → FailsOver hash_of went keys request failed old mid acts
        → FailsUndone went noted_of keys request failed old mid acts × ((noted_of mid).is_repeatable ≡ false)
    fails_undone failed old mid acts fresh (part, fails, over) =
        let (so, sure, once) = undone failed old mid (ap (λ (n : Noted). n.is_repeatable) fresh) (ap (λ (n : Noted). n.is_unsure) fresh) fails over in
        (((part, fails, so), sure), once)

    module _ {A : Type 0} (handled : Handled A) where
      ends_once : (r : Result (List ℕ) ClusterError) (was is : A) (old new : L) (acts : List (Act Sha256Hash)) → noted_of old ≡ unnoted false
          → Ends hash_of went handled keys request r was is old new acts → EndsOnce went handled noted_of keys request r was is old new acts
      ends_once r was is old new acts fresh (failed, mid, inl (few, (xs, ys, e, over, ends))) =
          (failed, mid, inl (few, (xs, ys, e, (fails_undone failed old mid xs fresh over).0, ends)))
      ends_once r was is old new acts fresh (failed, mid, inr (why, refused, unmoved, stays, over, how)) =
          (failed, mid, inr (why, refused, unmoved, stays, (fails_undone failed old mid acts fresh over).0))

      done_once : (text : List ℕ) (was is : A) (old new : L) (acts : List (Act Sha256Hash))
          → EndsOnce went handled noted_of keys request (Ok text) was is old new acts
          → (failed : List (Sending Sha256Hash)) × (mid : L) × (length failed < most_sends)
          × Then (FailsUndone went noted_of keys request failed old mid) (EndsAtOne went handled keys request (Ok text) was is mid new) acts
      done_once text was is old new acts (failed, mid, inl (few, ends)) = (failed, mid, few, ends)
      done_once text was is old new acts (failed, mid, inr (why, refused, unmoved, stays, over)) = absurd cc

      -- one that ended by an error, of which no doubt is left, was not performed
      not_done : (e : ClusterError) (was is : A) (old new : L) (acts : List (Act Sha256Hash)) → noted_of old ≡ unnoted false → (noted_of new).is_unsure ≡ false
          → Ends hash_of went handled keys request (Err e) was is old new acts
          → Ends hash_of (undone_send went noted_of) handled keys request (Err e) was is old new acts
      not_done e was is old new acts fresh sure (failed, mid, inl (few, (xs, ys, parts, over, (view, just, inl here)))) =
          (failed, mid, inl (few, (xs, ys, parts, (fails_undone failed old mid xs fresh over).0.0, (view, just, inl here))))
      not_done e was is old new acts fresh sure
          (failed, mid, inl (few, (xs, ys, parts, over, (view, just, inr (unmoved, (answer, (owner, owned, other, goes), ends)))))) =
          let (so, once) = fails_undone failed old mid xs fresh over in (
            failed,
            mid,
            inl (
              few,
              (
                xs,
                ys,
                parts,
                so.0,
                (
                  view,
                  just,
                  inr (
                    unmoved,
                    (
                      answer,
                      (
                        owner,
                        owned,
                        other,
                        undone_call owner (message_from view (content.Forward keys request)) answer mid new once (refused_unanswered e answer ends) sure goes,
                      ),
                      ends,
                    ),
                  ),
                ),
              ),
            ),
          )
      not_done e was is old new acts fresh sure (failed, mid, inr (why, refused, unmoved, stays, over, how)) =
          (failed, mid, inr (why, refused, unmoved, stays, (fails_undone failed old mid acts fresh over).0.0, how))

      refused_sure : (e : ClusterError) (was is : A) (old new : L) (acts : List (Act Sha256Hash)) → e ≢ error.Memory
          → EndsOnce went handled noted_of keys request (Err e) was is old new acts → ((noted_of new).is_unsure ≡ false) × (e ≢ error.HandlerFault → is ≡ was)
      refused_sure e was is old new acts other (failed, mid, inl (few, (xs, ys, parts, over, (view, just, inl (owned, (answer, called, same), stays))))) =
          (ap (λ (l : L). (noted_of l).is_unsure) stays ∙ over.1, λ own. absurd (handler_doubt e answer other own same))
      refused_sure e was is old new acts other (failed, mid, inl (few, (xs, ys, parts, over, (view, just, inr (unmoved, (answer, goes, ends)))))) =
          absurd (owner_doubt e answer other ends)
      refused_sure e was is old new acts other (failed, mid, inr (why, refused, unmoved, stays, over)) =
          (ap (λ (l : L). (noted_of l).is_unsure) stays ∙ over.1, λ own. unmoved)

-- so ends each request over such a link
module _ {L A : Type 0} (went : Went L) (handled : Handled A) (noted_of : L → Noted)
    (marks : (to : Address) (message : Message) (answer : Result Message LinkError) (old new : L) → went to message answer old new
    → notes_send to message answer (noted_of old) (noted_of new)) where
  pub requests_end_once : RequestsEndOnce went handled noted_of
  requests_end_once keys request r was is old new acts fresh sent =
      ends_once went noted_of marks keys request handled r was is old new acts fresh (requests_handled hash_of went handled keys request r was is old new acts sent)

  pub answers_are_done_once : AnswersAreDoneOnce went handled noted_of
  answers_are_done_once keys request text was is old new acts fresh sent =
      done_once went noted_of marks keys request handled text was is old new acts (requests_end_once keys request (Ok text) was is old new acts fresh sent)

  pub errors_are_undone : ErrorsAreUndone went handled noted_of
  errors_are_undone keys request e was is old new acts fresh sure sent =
      not_done went noted_of marks keys request handled e was is old new acts fresh sure
      (requests_handled hash_of went handled keys request (Err e) was is old new acts sent)

  pub others_are_sure : OthersAreSure went handled noted_of
  others_are_sure keys request e was is old new acts other fresh sent =
      refused_sure went noted_of marks keys request handled e was is old new acts other (requests_end_once keys request (Err e) was is old new acts fresh sent)
