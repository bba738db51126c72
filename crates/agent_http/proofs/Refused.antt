-- The refusals that fit what a request asks for.
use Rattle.std.proofs.Common.{◌≡◌, Result, Ok, Err, IfErr, inl, inr, refl, subst, sym}
use Rattle.std.specs.Prelude.{◌≢◌}
use Rattle.agent_core.specs.declared.actions.Action.{Action}
use Rattle.agent_core.specs.declared.refusals.Refusal.{Refusal}
use Rattle.agent_core.specs.declared.refusals.Refusal.TheVariants as refusal
use Rattle.agent_http.specs.Requests.{Refuses}

-- the refusal of what was asked for
asked_for : (asks : Result Action Refusal) (why : Refusal) → asks ≡ Err why → Refuses asks why
asked_for asks why is = subst (λ (asked : Result Action Refusal). Refuses asked why) (sym is) (inl refl)

-- that, or out of memory
fits : (asks : Result Action Refusal) (why : Refusal) → (why ≢ refusal.Memory → asks ≡ Err why) → Refuses asks why
fits (Ok action) refusal.Memory is = refl
fits (Err wrong) refusal.Memory is = inr refl
fits asks (refusal.Malformed part) is = asked_for asks (refusal.Malformed part) (is (λ same. absurd cc))
fits asks (refusal.BadKey place fault) is = asked_for asks (refusal.BadKey place fault) (is (λ same. absurd cc))
fits asks (refusal.BadMethod verb) is = asked_for asks (refusal.BadMethod verb) (is (λ same. absurd cc))
fits asks (refusal.Unanswered failure) is = asked_for asks (refusal.Unanswered failure) (is (λ same. absurd cc))
fits asks (refusal.OwnerBusy owner) is = asked_for asks (refusal.OwnerBusy owner) (is (λ same. absurd cc))
fits asks (refusal.JoinRefused why) is = asked_for asks (refusal.JoinRefused why) (is (λ same. absurd cc))
fits asks refusal.CrossSite is = asked_for asks refusal.CrossSite (is (λ same. absurd cc))
fits asks refusal.NotFound is = asked_for asks refusal.NotFound (is (λ same. absurd cc))
fits asks refusal.AlreadyLeft is = asked_for asks refusal.AlreadyLeft (is (λ same. absurd cc))
fits asks refusal.NotLeft is = asked_for asks refusal.NotLeft (is (λ same. absurd cc))
fits asks refusal.Exhausted is = asked_for asks refusal.Exhausted (is (λ same. absurd cc))
fits asks refusal.LongBody is = asked_for asks refusal.LongBody (is (λ same. absurd cc))
fits asks refusal.ManyKeys is = asked_for asks refusal.ManyKeys (is (λ same. absurd cc))
fits asks refusal.LongRequest is = asked_for asks refusal.LongRequest (is (λ same. absurd cc))
fits asks refusal.NotPassed is = asked_for asks refusal.NotPassed (is (λ same. absurd cc))
fits asks refusal.ApplicationFailed is = asked_for asks refusal.ApplicationFailed (is (λ same. absurd cc))
fits asks refusal.ApplicationDown is = asked_for asks refusal.ApplicationDown (is (λ same. absurd cc))
fits asks refusal.NotJoined is = asked_for asks refusal.NotJoined (is (λ same. absurd cc))
fits asks refusal.HasLeft is = asked_for asks refusal.HasLeft (is (λ same. absurd cc))
fits asks refusal.ApplicationAwaited is = asked_for asks refusal.ApplicationAwaited (is (λ same. absurd cc))
fits asks refusal.CannotAccept is = asked_for asks refusal.CannotAccept (is (λ same. absurd cc))
fits asks refusal.NoRounds is = asked_for asks refusal.NoRounds (is (λ same. absurd cc))
fits asks refusal.Nobody is = asked_for asks refusal.Nobody (is (λ same. absurd cc))
fits asks refusal.Busy is = asked_for asks refusal.Busy (is (λ same. absurd cc))
fits asks refusal.ManyQuestions is = asked_for asks refusal.ManyQuestions (is (λ same. absurd cc))
fits asks refusal.Spent is = asked_for asks refusal.Spent (is (λ same. absurd cc))
fits asks refusal.OwnerSilent is = asked_for asks refusal.OwnerSilent (is (λ same. absurd cc))
fits asks refusal.AnswerLost is = asked_for asks refusal.AnswerLost (is (λ same. absurd cc))

pub refuses : (asks result : Result Action Refusal) → IfErr result (λ why. why ≢ refusal.Memory → asks ≡ Err why) → IfErr result (Refuses asks)
refuses asks (Ok action) said = tt
refuses asks (Err why) said = fits asks why said
