-- The words of refusals as values of a field.
use Rattle.std.proofs.Common.{◌≡◌, true, refl}
use Rattle.http_header.specs.FieldValue.{is_visible_text}
use Rattle.agent_core.specs.declared.refusals.Failure.TheVariants as failure
use Rattle.agent_core.specs.declared.refusals.Part.TheVariants.{Key, Count, Body, Keys, NotMine, After, Wait, Level, OwnerQuery, OwnersQuery, RingQuery, KeyField, WaitField}
use Rattle.agent_core.specs.declared.refusals.Refusal.{Refusal}
use Rattle.agent_core.specs.declared.refusals.Refusal.TheVariants as refusal
use Rattle.agent_core.specs.Refusals.{word_of}

pub word_visible : (r : Refusal) → is_visible_text (word_of r) ≡ true
word_visible (refusal.Malformed Key) = refl
word_visible (refusal.Malformed Count) = refl
word_visible (refusal.Malformed Body) = refl
word_visible (refusal.Malformed Keys) = refl
word_visible (refusal.Malformed NotMine) = refl
word_visible (refusal.Malformed After) = refl
word_visible (refusal.Malformed Wait) = refl
word_visible (refusal.Malformed Level) = refl
word_visible (refusal.Malformed OwnerQuery) = refl
word_visible (refusal.Malformed OwnersQuery) = refl
word_visible (refusal.Malformed RingQuery) = refl
word_visible (refusal.Malformed KeyField) = refl
word_visible (refusal.Malformed WaitField) = refl
word_visible (refusal.BadKey place why) = refl
word_visible refusal.CrossSite = refl
word_visible refusal.NotFound = refl
word_visible (refusal.BadMethod verb) = refl
word_visible refusal.AlreadyLeft = refl
word_visible refusal.NotLeft = refl
word_visible refusal.Exhausted = refl
word_visible refusal.LongBody = refl
word_visible refusal.ManyKeys = refl
word_visible refusal.LongRequest = refl
word_visible refusal.NotPassed = refl
word_visible refusal.ApplicationFailed = refl
word_visible (refusal.Unanswered failure.NotAccepted) = refl
word_visible (refusal.Unanswered failure.HungUp) = refl
word_visible (refusal.Unanswered failure.NoAnswer) = refl
word_visible (refusal.Unanswered failure.BadAnswer) = refl
word_visible refusal.ApplicationDown = refl
word_visible refusal.NotJoined = refl
word_visible (refusal.JoinRefused why) = refl
word_visible refusal.HasLeft = refl
word_visible refusal.ApplicationAwaited = refl
word_visible refusal.CannotAccept = refl
word_visible refusal.NoRounds = refl
word_visible refusal.Nobody = refl
word_visible refusal.Busy = refl
word_visible refusal.ManyQuestions = refl
word_visible (refusal.OwnerBusy owner) = refl
word_visible refusal.Spent = refl
word_visible refusal.Memory = refl
word_visible refusal.OwnerSilent = refl
word_visible refusal.AnswerLost = refl
