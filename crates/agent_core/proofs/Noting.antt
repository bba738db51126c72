-- What the application is told, over any events.
use Rattle.std.proofs.Common.{◌≡◌, ◌∙◌, ◌≤◌, ◌*◌, ℕ, Bool, true, false, nat_lt, cond, List, [], ◌∷◌, Option, Some, None, refl, sym, ap, arith, true≢false}
use Rattle.std.proofs.lemmas.Bool.{ltb-true}
use Rattle.std.proofs.lemmas.Slice.Eq.{bytes_eq-Decides}
use Rattle.change_core.specs.declared.digests.Digest.{Digest}
use Rattle.agent_core.specs.declared.tellings.Ring.{Ring}
use Rattle.agent_core.specs.declared.tellings.Telling.{Telling}
use Rattle.agent_core.specs.Tellings.{Event, Noted, Taken, Failed, Hurried, after_all, digest_in, failed, hurried, is_latest, is_of, last_noted, last_taken, latest, longer, noted, taken}

-- a ring with this digest has these bytes
bytes_of : (ring : Option Ring) (digest : Digest) → is_of ring digest ≡ true → digest_in ring ≡ Some digest.bytes
bytes_of None digest e = absurd (true≢false (sym e))
bytes_of (Some ring) digest e = ap (λ (bytes : List ℕ). Some bytes) ((bytes_eq-Decides ring.digest.bytes digest.bytes).0 e)

module _ (t : Telling) (ring : Ring) where
  latest_if : (b : Bool) → is_latest t ring.digest ≡ b → digest_in (latest (cond b t (record t { next = Some ring }))) ≡ Some ring.digest.bytes
  latest_if true e = bytes_of (latest t) ring.digest e
  latest_if false e = refl

  told_if : (b : Bool) → digest_in (cond b t (record t { next = Some ring })).told ≡ digest_in t.told
  told_if true = refl
  told_if false = refl

  pause_if : (b : Bool) → t.pause ≤ 8000 → (cond b t (record t { next = Some ring })).pause ≤ 8000
  pause_if true low = low
  pause_if false low = low

  noted_latest : digest_in (latest (noted t ring)) ≡ Some ring.digest.bytes
  noted_latest = latest_if (is_latest t ring.digest) refl

  noted_told : digest_in (noted t ring).told ≡ digest_in t.told
  noted_told = told_if (is_latest t ring.digest)

  noted_pause : t.pause ≤ 8000 → (noted t ring).pause ≤ 8000
  noted_pause = pause_if (is_latest t ring.digest)

longer_if : (pause : ℕ) (b : Bool) → nat_lt pause 4000 ≡ b → cond b (pause * 2) 8000 ≤ 8000
longer_if pause true e = let low = ltb-true pause 4000 e in omega (arith, low)
longer_if pause false e = omega arith

longer_low : (pause : ℕ) → longer pause ≤ 8000
longer_low pause = longer_if pause (nat_lt pause 4000) refl

pub latest_is : (t : Telling) (events : List Event) → digest_in (latest (after_all t events)) ≡ last_noted (digest_in (latest t)) events
latest_is t [] = refl
latest_is t (Noted ring ∷ events) = latest_is (noted t ring) events ∙ ap (λ known. last_noted known events) (noted_latest t ring)
latest_is t (Taken ∷ events) = latest_is (taken t) events
latest_is t (Failed now ∷ events) = latest_is (failed t now) events
latest_is t (Hurried ∷ events) = latest_is (hurried t) events

pub told_is : (t : Telling) (events : List Event) → digest_in (after_all t events).told ≡ last_taken (digest_in (latest t)) (digest_in t.told) events
told_is t [] = refl
told_is t (Noted ring ∷ events) =
    told_is (noted t ring) events
    ∙ ap (λ known. last_taken known (digest_in (noted t ring).told) events) (noted_latest t ring)
    ∙ ap (λ told. last_taken (Some ring.digest.bytes) told events) (noted_told t ring)
told_is t (Taken ∷ events) = told_is (taken t) events
told_is t (Failed now ∷ events) = told_is (failed t now) events
told_is t (Hurried ∷ events) = told_is (hurried t) events

pub pause_is : (t : Telling) (events : List Event) → t.pause ≤ 8000 → (after_all t events).pause ≤ 8000
pause_is t [] low = low
pause_is t (Noted ring ∷ events) low = pause_is (noted t ring) events (noted_pause t ring low)
pause_is t (Taken ∷ events) low = pause_is (taken t) events (omega arith)
pause_is t (Failed now ∷ events) low = pause_is (failed t now) events (longer_low t.pause)
pause_is t (Hurried ∷ events) low = pause_is (hurried t) events (omega arith)
