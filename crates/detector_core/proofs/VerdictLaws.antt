-- The verdict on a probe, in the words of its helpers.
use Rattle.std.proofs.Common.{◌≡◌, ◌≢◌, ℕ, ◌==◌, ◌&&◌, ◌||◌, ◌⊎◌, inl, inr, Bool, true, false, cond, List, [], ◌∷◌, map, Option, Some, None, is_none, refl, sym, ap, ◌∙◌, Contains, true≢false, ne_eqb}
use Rattle.std.proofs.lemmas.Bool.{eqb-false}
use Rattle.std.proofs.lemmas.List.Folds.{Any-from_list_any, list_any-from_Any}
use Rattle.std.specs.List.{list_any}
use Rattle.detector_core.specs.declared.asked.AskedHelper.{AskedHelper}
use Rattle.detector_core.specs.declared.asked.Said.{Said}
use Rattle.detector_core.specs.declared.asked.Said.TheVariants as said
use Rattle.detector_core.specs.declared.asked.Outcome.TheVariants as outcomes
use Rattle.detector_core.specs.Helpers.{noted, waits, missed, is_not_reached, AnotherIsSilent, AnotherMissed, IsVerdict, DecidesByWords}

-- another helper, whose word passes a test
record Another (t : Option Said → Bool) (asked : List AskedHelper) (helper : ℕ) : Type 0 where
  pub other : AskedHelper
  pub listed : Contains asked other
  pub another : other.helper ≢ helper
  pub passes : t other.said ≡ true

list_any-noted : (t : Option Said → Bool) (helper : ℕ) (s : Said) (asked : List AskedHelper)
    → list_any (λ q. t q.said) (map (noted helper s) asked) ≡ list_any (λ q. t (noted helper s q).said) asked
list_any-noted t helper s [] = refl
list_any-noted t helper s (q ∷ asked) = ap (λ b. t (noted helper s q).said || b) (list_any-noted t helper s asked)

-- where a word passes, it is this helper's or another's
word_of : (t : Option Said → Bool) (helper : ℕ) (s : Said) (asked : List AskedHelper)
    → list_any (λ q. t q.said) (map (noted helper s) asked) ≡ true → (t (Some s) ≡ true) ⊎ Another t asked helper
word_of t helper s asked h =
    let some = Any-from_list_any (λ q. t (noted helper s q).said) asked (sym (list_any-noted t helper s asked) ∙ h) in
    by some.1 (some.0, some.2, some.3) (some.1.helper == helper) refl some.4
  where
    by : (q : AskedHelper) → Contains asked q → (b : Bool) → (q.helper == helper) ≡ b
        → t (cond b (record { helper = helper; said = Some s }) q).said ≡ true → (t (Some s) ≡ true) ⊎ Another t asked helper
    by q listed true same passes = inl passes
    by q listed false apart passes = inr (record { other = q; listed = listed; another = eqb-false q.helper helper apart; passes = passes })

word_of-another : (t : Option Said → Bool) (helper : ℕ) (s : Said) (asked : List AskedHelper)
    → Another t asked helper → list_any (λ q. t q.said) (map (noted helper s) asked) ≡ true
word_of-another t helper s asked a =
    list_any-noted t helper s asked
    ∙ list_any-from_Any (λ q. t (noted helper s q).said) asked (
      a.listed.0,
      a.other,
      a.listed.1,
      a.listed.2,
      ap (λ b. t (cond b (record { helper = helper; said = Some s }) a.other).said) (ne_eqb a.other.helper helper a.another) ∙ a.passes,
    )

word_of-own : (t : Option Said → Bool) (helper : ℕ) (s : Said) (asked : List AskedHelper)
    → waits asked helper ≡ true → t (Some s) ≡ true → list_any (λ q. t q.said) (map (noted helper s) asked) ≡ true
word_of-own t helper s asked waiting passes =
    let some = Any-from_list_any (λ q. (q.helper == helper) && is_none q.said) asked waiting in
    let own : (some.1.helper == helper) ≡ true = first (some.1.helper == helper) (is_none some.1.said) some.4 in
    list_any-noted t helper s asked
    ∙ list_any-from_Any (λ q. t (noted helper s q).said) asked
    (some.0, some.1, some.2, some.3, ap (λ b. t (cond b (record { helper = helper; said = Some s }) some.1).said) own ∙ passes)
  where
    first : (a b : Bool) → (a && b) ≡ true → a ≡ true
    first true b h = refl
    first false b h = h

none_is : (o : Option Said) → is_none o ≡ true → o ≡ None
none_is None h = refl
none_is (Some s) h = absurd (true≢false (sym h))

not_reached_is : (o : Option Said) → is_not_reached o ≡ true → o ≡ Some said.NotReached
not_reached_is None h = absurd (true≢false (sym h))
not_reached_is (Some said.Reached) h = absurd (true≢false (sym h))
not_reached_is (Some said.NotReached) h = refl
not_reached_is (Some said.Failed) h = absurd (true≢false (sym h))

said_not_reached : (s : Said) → is_not_reached (Some s) ≡ true → s ≡ said.NotReached
said_not_reached said.Reached h = absurd (true≢false (sym h))
said_not_reached said.NotReached h = refl
said_not_reached said.Failed h = absurd (true≢false (sym h))

silent_is : (asked : List AskedHelper) (helper : ℕ) (s : Said) → list_any (λ q. is_none q.said) (map (noted helper s) asked) ≡ true → AnotherIsSilent asked helper
silent_is asked helper s h = by (word_of is_none helper s asked h)
  where
    by : (false ≡ true) ⊎ Another is_none asked helper → AnotherIsSilent asked helper
    by (inl none) = absurd (true≢false (sym none))
    by (inr a) = record { other = a.other; listed = a.listed; another = a.another; silent = none_is a.other.said a.passes }

is-silent : (asked : List AskedHelper) (helper : ℕ) (s : Said) → AnotherIsSilent asked helper → list_any (λ q. is_none q.said) (map (noted helper s) asked) ≡ true
is-silent asked helper s a =
    word_of-another is_none helper s asked (record { other = a.other; listed = a.listed; another = a.another; passes = ap is_none a.silent })

missed_is : (asked : List AskedHelper) (helper : ℕ) (s : Said) → list_any missed (map (noted helper s) asked) ≡ true → (s ≡ said.NotReached) ⊎ AnotherMissed asked helper
missed_is asked helper s h = by (word_of is_not_reached helper s asked h)
  where
    by : (is_not_reached (Some s) ≡ true) ⊎ Another is_not_reached asked helper → (s ≡ said.NotReached) ⊎ AnotherMissed asked helper
    by (inl own) = inl (said_not_reached s own)
    by (inr a) = inr (record { other = a.other; listed = a.listed; another = a.another; missed = not_reached_is a.other.said a.passes })

is-missed : (asked : List AskedHelper) (helper : ℕ) (s : Said) → waits asked helper ≡ true → (s ≡ said.NotReached) ⊎ AnotherMissed asked helper
    → list_any missed (map (noted helper s) asked) ≡ true
is-missed asked helper s waiting (inl own) = word_of-own is_not_reached helper s asked waiting (ap (λ w. is_not_reached (Some w)) own)
is-missed asked helper s waiting (inr a) =
    word_of-another is_not_reached helper s asked (record { other = a.other; listed = a.listed; another = a.another; passes = ap is_not_reached a.missed })

reached_case : (asked : List AskedHelper) (helper : ℕ) → IsVerdict asked helper said.Reached outcomes.Reached
reached_case asked helper = record {
  reached = (λ h. refl, λ h. refl);
  waiting = (λ h. cc, λ h. absurd (h.0 refl));
  suspect = (λ h. cc, λ h. absurd (h.0 refl));
  inconclusive = (λ h. cc, λ h. absurd (h.0 refl));
}

by_words : (asked : List AskedHelper) (helper : ℕ) (s : Said) (silent missed : Bool) → s ≢ said.Reached
    → (silent ≡ true → AnotherIsSilent asked helper) → (AnotherIsSilent asked helper → silent ≡ true)
    → (missed ≡ true → (s ≡ said.NotReached) ⊎ AnotherMissed asked helper) → ((s ≡ said.NotReached) ⊎ AnotherMissed asked helper → missed ≡ true)
    → IsVerdict asked helper s (cond silent outcomes.Waiting (cond missed outcomes.Suspect outcomes.Inconclusive))
by_words asked helper s true missed not_reached silent_is is_silent missed_is is_missed = record {
  reached = (λ h. cc, λ h. absurd (not_reached h));
  waiting = (λ h. (not_reached, silent_is refl), λ h. refl);
  suspect = (λ h. cc, λ h. absurd (h.1 (silent_is refl)));
  inconclusive = (λ h. cc, λ h. absurd (h.1 (silent_is refl)));
}
by_words asked helper s false true not_reached silent_is is_silent missed_is is_missed = record {
  reached = (λ h. cc, λ h. absurd (not_reached h));
  waiting = (λ h. cc, λ h. absurd (true≢false (sym (is_silent h.1))));
  suspect = (λ h. (not_reached, (λ a. true≢false (sym (is_silent a))), missed_is refl), λ h. refl);
  inconclusive = (λ h. cc, λ h. absurd (neither (missed_is refl) h.2 h.3));
}
  where
    neither : (s ≡ said.NotReached) ⊎ AnotherMissed asked helper → s ≢ said.NotReached → (AnotherMissed asked helper → ⊥) → ⊥
    neither (inl own) not none = not own
    neither (inr a) not none = none a
by_words asked helper s false false not_reached silent_is is_silent missed_is is_missed = record {
  reached = (λ h. cc, λ h. absurd (not_reached h));
  waiting = (λ h. cc, λ h. absurd (true≢false (sym (is_silent h.1))));
  suspect = (λ h. cc, λ h. absurd (true≢false (sym (is_missed h.2))));
  inconclusive = (λ h. (not_reached, (λ a. true≢false (sym (is_silent a))), (λ own. true≢false (sym (is_missed (inl own)))), (λ a. true≢false (sym (is_missed (inr a))))), λ h. refl);
}

pub decides_by_words : DecidesByWords
decides_by_words asked helper said.Reached waiting = reached_case asked helper
decides_by_words asked helper said.NotReached waiting =
    by_words asked helper said.NotReached _ _ (λ h. cc) (silent_is asked helper said.NotReached) (is-silent asked helper said.NotReached) (missed_is asked helper said.NotReached) (is-missed asked helper said.NotReached waiting)
decides_by_words asked helper said.Failed waiting =
    by_words asked helper said.Failed _ _ (λ h. cc) (silent_is asked helper said.Failed) (is-silent asked helper said.Failed) (missed_is asked helper said.Failed) (is-missed asked helper said.Failed waiting)
