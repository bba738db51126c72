-- From the same no two answers differ.
use Rattle.std.proofs.Common.{◌≡◌, ◌≢◌, ◌==◌, ℕ, ◌+◌, ◌<◌, Bool, true, false, cond, nat_lt, List, [], length, slice_index_or, All, Contains, Option, Some, None, Result, Ok, Err, refl, sym, ap, ◌∙◌, subst, rules, tests, ne_eqb}
use Rattle.change_core.specs.declared.addresses.Address.{Address}
use Rattle.node_core.specs.Viewing.{Viewed}
use Rattle.forward_core.specs.declared.attempts.Stage.{Stage}
use Rattle.forward_core.specs.declared.attempts.Stage.TheVariants as stage
use Rattle.forward_core.specs.declared.attempts.Step.{Step}
use Rattle.forward_core.specs.declared.attempts.Step.TheVariants.{Wait, Here, Send}
use Rattle.forward_core.specs.declared.errors.ForwardError.{ForwardError}
use Rattle.forward_core.specs.declared.errors.ForwardError.TheVariants as error
use Rattle.forward_core.specs.declared.routes.Route.{Route}
use Rattle.forward_core.specs.Attempts.{AttemptState, sent, most_sends, pause_after, IsOpen, IsDue, ReadyStep, FailedStep}
use Rattle.forward_core.specs.Decided.{RoutesAreOne, StepsAreOne, FailuresAreOne}
use Rattle.forward_core.specs.Routes.{owner_in, route_to, AllOwnedBy, HaveDiverged, IsRouteOf}
use Rattle.forward_core.proofs.RouteLemmas.{owner_in-no_servers}

-- the owner of all keys, or none where there are several
abbrev Owner : Type 0
Owner = Option (Option Address)

all_at : {X : Type 0} (P : X → Type 0) (xs : List X) (x : X) → All P xs → Contains xs x → P x
all_at P xs x all listed = subst P listed.2 (all listed.0 x listed.1)

-- the route of an owner
abbrev routed : Address → Owner → Result Route ForwardError
routed own None = Err error.Diverged
routed own (Some o) = Ok (route_to o own)

-- what is to be done with an attempt that is due
abbrev once_due : Address → Address → Step
once_due own a = cond (a == own) Here (Send a)

-- and with any
abbrev reply : Stage → ℕ → Address → Owner → Result Step ForwardError
reply stage.Spent now own w = Err error.RetriesSpent
reply stage.InFlight now own w = Err error.InFlight
reply stage.New now own None = Err error.Diverged
reply stage.New now own (Some None) = Err error.Nobody
reply stage.New now own (Some (Some a)) = Ok (once_due own a)
reply (stage.Resting until) now own None = Err error.Diverged
reply (stage.Resting until) now own (Some None) = Err error.Nobody
reply (stage.Resting until) now own (Some (Some a)) = Ok (cond (nat_lt now until) (Wait until) (once_due own a))

-- the attempt after an answer
abbrev left_by : Result Step ForwardError → AttemptState → AttemptState
left_by (Ok (Send a)) old = sent old
left_by (Ok (Wait until)) old = old
left_by (Ok Here) old = old
left_by (Err e) old = old

reply-diverged : (st : Stage) (now : ℕ) (own : Address) → IsOpen st → reply st now own None ≡ Err error.Diverged
reply-diverged stage.New now own o = refl
reply-diverged (stage.Resting until) now own o = refl
reply-diverged stage.InFlight now own o = absurd o
reply-diverged stage.Spent now own o = absurd o

reply-nobody : (st : Stage) (now : ℕ) (own : Address) → IsOpen st → reply st now own (Some None) ≡ Err error.Nobody
reply-nobody stage.New now own o = refl
reply-nobody (stage.Resting until) now own o = refl
reply-nobody stage.InFlight now own o = absurd o
reply-nobody stage.Spent now own o = absurd o

reply-due : (st : Stage) (now : ℕ) (own a : Address) → IsDue st now → reply st now own (Some (Some a)) ≡ Ok (once_due own a)
reply-due stage.New now own a due = refl
reply-due (stage.Resting until) now own a due =
    let late : nat_lt now until ≡ false = search (due, tests, rules) in
    ap (λ b. Ok (cond b (Wait until) (once_due own a))) late
reply-due stage.InFlight now own a due = absurd due
reply-due stage.Spent now own a due = absurd due

reply-early : (st : Stage) (now until : ℕ) (own a : Address) → st ≡ stage.Resting until → now < until → reply st now own (Some (Some a)) ≡ Ok (Wait until)
reply-early st now until own a e early =
    let soon : nat_lt now until ≡ true = search (early, tests, rules) in
    subst (λ s. reply s now own (Some (Some a)) ≡ Ok (Wait until)) (sym e) (ap (λ b. Ok (cond b (Wait until) (once_due own a))) soon)

-- only an open attempt asks for the owner
reply-same : (st : Stage) (now : ℕ) (own : Address) (v w : Owner) → (IsOpen st → v ≡ w) → reply st now own v ≡ reply st now own w
reply-same stage.New now own v w e = ap (reply stage.New now own) (e tt)
reply-same (stage.Resting until) now own v w e = ap (reply (stage.Resting until) now own) (e tt)
reply-same stage.InFlight now own v w e = refl
reply-same stage.Spent now own v w e = refl

once_due-here : (own : Address) → once_due own own ≡ Here
once_due-here own = let same : (own == own) ≡ true = search rules in ap (λ b. cond b Here (Send own)) same

once_due-there : (own a : Address) → a ≢ own → once_due own a ≡ Send a
once_due-there own a apart = ap (λ b. cond b Here (Send a)) (ne_eqb a own apart)

module _ {H : Type 0} (hash_of : H → List ℕ → ℕ) (view : Viewed H) where
  -- this is the owner of all keys
  abbrev Owned : List (List ℕ) → Owner → Type 0
  Owned keys None = HaveDiverged hash_of view keys
  Owned keys (Some o) = AllOwnedBy hash_of view keys o

  not_both : (keys : List (List ℕ)) (o : Option Address) → HaveDiverged hash_of view keys → AllOwnedBy hash_of view keys o → ⊥
  not_both keys o d all =
      let P : List ℕ → Type 0 = λ key. owner_in hash_of view key ≡ o in
      d.differ (all_at P keys d.one all d.one_listed ∙ sym (all_at P keys d.other all d.other_listed))

  owner_one : (keys : List (List ℕ)) (v w : Owner) → 0 < length keys → Owned keys v → Owned keys w → v ≡ w
  owner_one keys None None some of_v of_w = refl
  owner_one keys None (Some o) some of_v of_w = absurd (not_both keys o of_v of_w)
  owner_one keys (Some o) None some of_v of_w = absurd (not_both keys o of_w of_v)
  owner_one keys (Some o) (Some p) some of_v of_w = ap Some (sym (of_v 0 [] some) ∙ of_w 0 [] some)

  record IsRouted (keys : List (List ℕ)) (r : Result Route ForwardError) : Type 0 where
    pub owner : Owner
    pub owned : Owned keys owner
    pub is : r ≡ routed view.own owner

  is_routed : (keys : List (List ℕ)) (r : Result Route ForwardError) → IsRouteOf hash_of view keys r → IsRouted keys r
  is_routed keys (Ok route) h = record { owner = Some h.0; owned = h.1; is = ap Ok h.2 }
  is_routed keys (Err error.Diverged) h = record { owner = None; owned = h; is = refl }
  is_routed keys (Err error.Nobody) h = absurd h
  is_routed keys (Err error.RetriesSpent) h = absurd h
  is_routed keys (Err error.InFlight) h = absurd h
  is_routed keys (Err error.NotInFlight) h = absurd h

  record IsReply (now : ℕ) (old : AttemptState) (r : Result Step ForwardError) (new : AttemptState) : Type 0 where
    pub owner : Owner
    pub owned : IsOpen old.stage → Owned old.keys owner
    pub is : r ≡ reply old.stage now view.own owner
    pub left : new ≡ left_by r old

  is_reply : (now : ℕ) (old new : AttemptState) (r : Result Step ForwardError) → ReadyStep hash_of view now old r new → IsReply now old r new
  is_reply now old new (Err error.RetriesSpent) h = record {
    owner = None;
    owned = λ o. absurd (subst IsOpen h.0 o);
    is = subst (λ s. Err error.RetriesSpent ≡ reply s now view.own None) (sym h.0) refl;
    left = h.1;
  }
  is_reply now old new (Err error.InFlight) h = record {
    owner = None;
    owned = λ o. absurd (subst IsOpen h.0 o);
    is = subst (λ s. Err error.InFlight ≡ reply s now view.own None) (sym h.0) refl;
    left = h.1;
  }
  is_reply now old new (Err error.Diverged) h = record { owner = None; owned = λ o. h.1; is = sym (reply-diverged old.stage now view.own h.0); left = h.2 }
  is_reply now old new (Err error.Nobody) h = record {
    owner = Some None;
    owned = λ o k d within. owner_in-no_servers hash_of view (slice_index_or old.keys k d) h.1;
    is = sym (reply-nobody old.stage now view.own h.0);
    left = h.2;
  }
  is_reply now old new (Err error.NotInFlight) h = absurd h
  is_reply now old new (Ok (Wait until)) h = record {
    owner = Some (Some h.2.0);
    owned = λ o. h.2.1;
    is = sym (reply-early old.stage now until view.own h.2.0 h.0 h.1);
    left = h.3;
  }
  is_reply now old new (Ok Here) h = record {
    owner = Some (Some view.own);
    owned = λ o. h.1;
    is = sym (reply-due old.stage now view.own view.own h.0 ∙ ap Ok (once_due-here view.own));
    left = h.2;
  }
  is_reply now old new (Ok (Send a)) h = record {
    owner = Some (Some a);
    owned = λ o. h.1;
    is = sym (reply-due old.stage now view.own a h.0 ∙ ap Ok (once_due-there view.own a h.2));
    left = h.3;
  }

pub routes_are_one : {H : Type 0} (hash_of : H → List ℕ → ℕ) → RoutesAreOne hash_of
routes_are_one hash_of view keys r s some to_r to_s =
    let p = is_routed hash_of view keys r to_r in
    let q = is_routed hash_of view keys s to_s in
    p.is ∙ ap (routed view.own) (owner_one hash_of view keys p.owner q.owner some p.owned q.owned) ∙ sym q.is

pub steps_are_one : {H : Type 0} (hash_of : H → List ℕ → ℕ) → StepsAreOne hash_of
steps_are_one hash_of view now old m n r s some to_r to_s =
    let p = is_reply hash_of view now old m r to_r in
    let q = is_reply hash_of view now old n s to_s in
    let same : r ≡ s = p.is ∙ reply-same old.stage now view.own p.owner q.owner (λ o. owner_one hash_of view old.keys p.owner q.owner some (p.owned o) (q.owned o)) ∙ sym q.is in
    (same, p.left ∙ ap (λ x. left_by x old) same ∙ sym q.left)

abbrev fail_reply : Stage → Bool → Result (Unit {0}) ForwardError
fail_reply stage.InFlight true = Ok tt
fail_reply stage.InFlight false = Err error.RetriesSpent
fail_reply stage.New few = Err error.NotInFlight
fail_reply (stage.Resting until) few = Err error.NotInFlight
fail_reply stage.Spent few = Err error.NotInFlight

abbrev left_failed : ℕ → Result (Unit {0}) ForwardError → AttemptState → AttemptState
left_failed now (Ok done) old = record old { stage = stage.Resting (now + pause_after old.sends) }
left_failed now (Err error.RetriesSpent) old = record old { stage = stage.Spent }
left_failed now (Err e) old = old

fail_reply-elsewhere : (st : Stage) (few : Bool) → st ≢ stage.InFlight → fail_reply st few ≡ Err error.NotInFlight
fail_reply-elsewhere stage.InFlight few apart = absurd (apart refl)
fail_reply-elsewhere stage.New few apart = refl
fail_reply-elsewhere (stage.Resting until) few apart = refl
fail_reply-elsewhere stage.Spent few apart = refl

fail_reply-flying : (st : Stage) (few less : Bool) → st ≡ stage.InFlight → few ≡ less → fail_reply st few ≡ fail_reply stage.InFlight less
fail_reply-flying st few less flying e = subst (λ s. fail_reply s few ≡ fail_reply stage.InFlight less) (sym flying) (ap (fail_reply stage.InFlight) e)

record IsFailReply (now : ℕ) (old : AttemptState) (r : Result (Unit {0}) ForwardError) (new : AttemptState) : Type 0 where
  pub is : r ≡ fail_reply old.stage (nat_lt old.sends most_sends)
  pub left : new ≡ left_failed now r old

is_fail_reply : (now : ℕ) (old new : AttemptState) (r : Result (Unit {0}) ForwardError) → FailedStep now old r new → IsFailReply now old r new
is_fail_reply now old new (Ok done) h =
    let few : nat_lt old.sends most_sends ≡ true = search (h.1, tests, rules) in
    record { is = sym (fail_reply-flying old.stage (nat_lt old.sends most_sends) true h.0 few); left = h.2 }
is_fail_reply now old new (Err error.RetriesSpent) h =
    let all : nat_lt old.sends most_sends ≡ false = ap (λ n. nat_lt n most_sends) h.1 in
    record { is = sym (fail_reply-flying old.stage (nat_lt old.sends most_sends) false h.0 all); left = h.2 }
is_fail_reply now old new (Err error.NotInFlight) h = record { is = sym (fail_reply-elsewhere old.stage (nat_lt old.sends most_sends) h.0); left = h.1 }
is_fail_reply now old new (Err error.InFlight) h = absurd h
is_fail_reply now old new (Err error.Diverged) h = absurd h
is_fail_reply now old new (Err error.Nobody) h = absurd h

pub failures_are_one : FailuresAreOne
failures_are_one now old m n r s failed_r failed_s =
    let p = is_fail_reply now old m r failed_r in
    let q = is_fail_reply now old n s failed_s in
    let same : r ≡ s = p.is ∙ sym q.is in
    (same, p.left ∙ ap (λ x. left_failed now x old) same ∙ sym q.left)
