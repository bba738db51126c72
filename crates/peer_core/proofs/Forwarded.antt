-- What a request comes to, put together from the calls of its tries.
use Rattle.std.proofs.Common.{◌≡◌, ◌∙◌, ℕ, false, is_ok, refl, sym, ap, subst, inl, inr, Result, Ok, Err, List}
use Rattle.std.specs.Prelude.{IfErr}
use Rattle.node_core.specs.declared.errors.NodeError.{NodeError}
use Rattle.node_core.specs.Viewing.{Viewed}
use Rattle.forward_core.specs.declared.attempts.Stage.TheVariants as stage
use Rattle.forward_core.specs.declared.attempts.Step.{Step}
use Rattle.forward_core.specs.declared.attempts.Step.TheVariants.{Wait, Here, Send}
use Rattle.forward_core.specs.declared.errors.ForwardError.{ForwardError}
use Rattle.forward_core.specs.declared.errors.ForwardError.TheVariants as forward
use Rattle.forward_core.specs.Attempts.{AttemptState, LentState, IsOpen, started, with_keys, ReadyStep, FailedStep}
use Rattle.turn_lock.specs.declared.errors.LockError.{LockError}
use Rattle.turn_lock.specs.declared.errors.LockError.TheVariants as lock
use Rattle.locked_node.specs.declared.node.LockedNode.{LockedNode}
use Rattle.locked_node.specs.Passes.{NodePass}
use Rattle.message_core.specs.declared.messages.Content.TheVariants as content
use Rattle.message_core.specs.declared.messages.Message.{Message}
use Rattle.change_core.specs.declared.addresses.Address.{Address}
use Rattle.peer_core.specs.declared.errors.ClusterError.{ClusterError}
use Rattle.peer_core.specs.declared.errors.ClusterError.TheVariants as error
use Rattle.peer_core.specs.declared.errors.LinkError.{LinkError}
use Rattle.peer_core.specs.declared.forwarding.Request.{Request}
use Rattle.peer_core.specs.declared.forwarding.Tried.{Tried}
use Rattle.peer_core.specs.declared.forwarding.Tried.TheVariants.{Answered, Again}
use Rattle.peer_core.specs.Acts.{Act}
use Rattle.peer_core.specs.Errors.{error_of_forward, error_of_lock}
use Rattle.peer_core.specs.Forwarding.{Plans, CarriesOut, Handles, IsForwarded, IsHandled, IsJudged, IsRequest, IsRequestRefusal, Times, LooksUp, Rests, SendsToOwner, StandsFor, TriesOnce, way_of_try}
use Rattle.peer_core.specs.Handling.{Handled, MayHandle, between}
use Rattle.peer_core.specs.Links.{MayAnswer}
use Rattle.peer_core.specs.Parts.{Bars, Does, Next, Until}
use Rattle.peer_core.specs.Serving.{message_from}
use Rattle.peer_core.proofs.Parts.{Leads, bars_none, does_fail_memory, does_give, does_part, does_quiet, leads_none}

pub lock_in_request : (l : LockError) → IsRequestRefusal (error_of_lock l)
lock_in_request lock.ForeignPass = tt
lock_in_request lock.PassSpent = tt

-- how an attempt that is neither spent nor in flight may be refused
pub ready_names : {H : Type 0} (hash_of : H → List ℕ → ℕ) (view : Viewed H) (now : ℕ) (old new : AttemptState) (f : ForwardError)
    → IsOpen old.stage → ReadyStep hash_of view now old (Err f) new → IsRequestRefusal (error_of_forward f)
ready_names hash_of view now old new forward.Diverged o h = tt
ready_names hash_of view now old new forward.Nobody o h = tt
ready_names hash_of view now old new forward.RetriesSpent o h = tt
ready_names hash_of view now old new forward.InFlight o h = absurd (subst IsOpen h.0 o)
ready_names hash_of view now old new forward.NotInFlight o h = absurd h

-- and how it stands after it was not
pub ready_stands : {H : Type 0} (hash_of : H → List ℕ → ℕ) (view : Viewed H) (now : ℕ) (old new : AttemptState) (step : Step)
    → IsOpen old.stage → ReadyStep hash_of view now old (Ok step) new → StandsFor step new.stage
ready_stands hash_of view now old new (Wait until) o h = subst (λ (a : AttemptState). IsOpen a.stage) (sym h.3) o
ready_stands hash_of view now old new Here o h = subst (λ (a : AttemptState). IsOpen a.stage) (sym h.2) o
ready_stands hash_of view now old new (Send owner) o h = ap (λ (a : AttemptState). a.stage) h.3

-- and how the failure of one that is in flight
pub failed_names : (now : ℕ) (old new : AttemptState) (f : ForwardError) → old.stage ≡ stage.InFlight → FailedStep now old (Err f) new → IsRequestRefusal (error_of_forward f)
failed_names now old new forward.RetriesSpent o h = tt
failed_names now old new forward.NotInFlight o h = absurd (h.0 o)
failed_names now old new forward.Diverged o h = absurd h
failed_names now old new forward.Nobody o h = absurd h
failed_names now old new forward.InFlight o h = absurd h

-- the keys that were lent out and the body come back in the message that they were sent by
pub same_request : (request : Request) (keys back : List (List ℕ)) (body : List ℕ) (lent : LentState) (attempt : AttemptState)
    → request.attempt ≡ with_keys keys lent → content.Forward keys request.body ≡ content.Forward back body → attempt ≡ with_keys back lent
    → record { attempt = attempt; body = body } ≡ request
same_request request keys back body lent attempt a e t =
    let k : keys ≡ back = cc in
    let b : request.body ≡ body = cc in
    let same : attempt ≡ request.attempt = t ∙ ap (λ (ks : List (List ℕ)). with_keys ks lent) (sym k) ∙ sym a in
    ap (λ (x : AttemptState). record { attempt = x; body = body }) same ∙ ap (λ (x : List ℕ). record { attempt = request.attempt; body = x }) (sym b)

-- so what was sent with the keys that were lent out was sent with the request's
pub sent_lent : {H : Type 0} (Came : MayAnswer) (Time : Times) (view : Viewed H) (owner : Address) (request : Request) (keys : List (List ℕ)) (lent : LentState)
    (message : Message) (answer : Result Message LinkError) (now : ℕ) (r : Result Tried ClusterError) → request.attempt ≡ with_keys keys lent
    → message ≡ message_from view (content.Forward keys request.body) → Came owner message answer → Time.told now → IsJudged now request answer r
    → IsForwarded Came Time view owner request r
sent_lent Came Time view owner request keys lent message answer now r e made came told h =
    let same : keys ≡ request.attempt.keys = sym (ap (λ (a : AttemptState). a.keys) e) in
    let is : message ≡ message_from view (content.Forward request.attempt.keys request.body) =
    made ∙ ap (λ (ks : List (List ℕ)). message_from view (content.Forward ks request.body)) same in
    (answer, subst (λ (m : Message). Came owner m answer) is came, (now, told, h))

pub judged_as : (now : ℕ) (one other : Request) (answer : Result Message LinkError) (r : Result Tried ClusterError)
    → one ≡ other → IsJudged now one answer r → IsJudged now other answer r
judged_as now one other answer r e h = subst (λ (x : Request). IsJudged now x answer r) e h

-- no refusal of an attempt is one of the lock's
not_forward : (f : ForwardError) (l : LockError) → error_of_lock l ≡ error_of_forward f → ⊥
not_forward forward.Diverged lock.ForeignPass e = cc
not_forward forward.Diverged lock.PassSpent e = cc
not_forward forward.Nobody lock.ForeignPass e = cc
not_forward forward.Nobody lock.PassSpent e = cc
not_forward forward.RetriesSpent lock.ForeignPass e = cc
not_forward forward.RetriesSpent lock.PassSpent e = cc
not_forward forward.InFlight lock.ForeignPass e = cc
not_forward forward.InFlight lock.PassSpent e = cc
not_forward forward.NotInFlight lock.ForeignPass e = cc
not_forward forward.NotInFlight lock.PassSpent e = cc

no_judgement : (now : ℕ) (request : Request) (answer : Result Message LinkError) (l : LockError) → IsJudged now request answer (Err (error_of_lock l)) → ⊥
no_judgement now request answer lock.ForeignPass h = not_forward h.1 lock.ForeignPass h.2
no_judgement now request answer lock.PassSpent h = not_forward h.1 lock.PassSpent h.2

no_handler : (Handled : MayHandle) (keys : List (List ℕ)) (body : List ℕ) (l : LockError) → IsHandled Handled keys body (Err (error_of_lock l)) → ⊥
no_handler Handled keys body lock.ForeignPass h = h
no_handler Handled keys body lock.PassSpent h = h

module _ {H : Type 0} (locked : LockedNode H) (p : NodePass H) where
  judged_bars : (now : ℕ) (request : Request) (answer : Result Message LinkError) (r : Result Tried ClusterError) → IsJudged now request answer r → IfErr r (Bars locked p)
  judged_bars now request answer (Ok t) h = tt
  judged_bars now request answer (Err e) h =
      bars_none (λ (x : ClusterError). IsJudged now request answer (Err x)) locked p e (no_judgement now request answer) h

  -- what came over the link was judged
  pub sends_so : (Came : MayAnswer) (Time : Times) (view : Viewed H) (owner : Address) (request : Request) (r : Result Tried ClusterError)
      → IsForwarded Came Time view owner request r → Does locked (SendsToOwner Came Time view owner request) r p p
  sends_so Came Time view owner request r (answer, came, (now, told, h)) =
      does_quiet (SendsToOwner Came Time view owner request) locked p r (refl, (answer, came, (now, told, h))) (judged_bars now request answer r h)

  handled_bars : (Handled : MayHandle) (keys : List (List ℕ)) (body : List ℕ) (r : Result (List ℕ) ClusterError) → IsHandled Handled keys body r → IfErr r (Bars locked p)
  handled_bars Handled keys body (Ok text) h = tt
  handled_bars Handled keys body (Err e) h = bars_none (λ (x : ClusterError). IsHandled Handled keys body (Err x)) locked p e (no_handler Handled keys body) h

  -- the handler answered
  pub handles_so : (Handled : MayHandle) (keys : List (List ℕ)) (body : List ℕ) (r : Result (List ℕ) ClusterError)
      → IsHandled Handled keys body r → Does locked (Handles Handled keys body) r p p
  handles_so Handled keys body r h = does_quiet (Handles Handled keys body) locked p r (refl, h) (handled_bars Handled keys body r h)

  -- a view says what is to be done, or turns the attempt away; or there is none
  pub decides_step : (hash_of : H → List ℕ → ℕ) (now : ℕ) (old new : AttemptState) (v : Result (Viewed H) NodeError) (view : Viewed H) (step : Step)
      → v ≡ Ok view → ReadyStep hash_of view now old (Ok step) new → Does locked (Plans hash_of now old new v) (Ok (view, step)) p p
  decides_step hash_of now old new v view step is h =
      subst (λ (x : Result (Viewed H) NodeError). Does locked (Plans hash_of now old new x) (Ok (view, step)) p p) (sym is)
      (does_quiet (Plans hash_of now old new (Ok view)) locked p (Ok (view, step)) (refl, refl, h) tt)

  pub decides_refusal : (hash_of : H → List ℕ → ℕ) (now : ℕ) (old new : AttemptState) (v : Result (Viewed H) NodeError) (view : Viewed H) (f : ForwardError)
      → v ≡ Ok view → ReadyStep hash_of view now old (Err f) new → Does locked (Plans hash_of now old new v) (Err (error_of_forward f)) p p
  decides_refusal hash_of now old new v view f is h =
      subst (λ (x : Result (Viewed H) NodeError). Does locked (Plans hash_of now old new x) (Err (error_of_forward f)) p p) (sym is)
      (does_quiet (Plans hash_of now old new (Ok view)) locked p (Err (error_of_forward f)) (refl, (f, refl, h)) (λ l e. absurd (not_forward f l (sym e))))

  pub decides_nothing : (hash_of : H → List ℕ → ℕ) (now : ℕ) (old new : AttemptState) (v : Result (Viewed H) NodeError)
      → is_ok v ≡ false → Does locked (Plans hash_of now old new v) (Err error.Memory) p p
  decides_nothing hash_of now old new (Ok view) e = cc
  decides_nothing hash_of now old new (Err n) e = does_part (Plans hash_of now old new (Err n)) (λ acts h. h) (does_fail_memory locked p)

pub handled_for : (Handled : MayHandle) (keys known : List (List ℕ)) (body : List ℕ) (r : Result (List ℕ) ClusterError)
    → keys ≡ known → IsHandled Handled keys body r → IsHandled Handled known body r
handled_for Handled keys known body r e h = subst (λ (ks : List (List ℕ)). IsHandled Handled ks body r) e h

-- a request rests once the clock has waited
pub does_rest : {H : Type 0} (Time : Times) (locked : LockedNode H) (p : NodePass H) (request : Request) (until : ℕ) → Time.waited until
    → Does locked (Rests Time request until) (Ok (Again request)) p p
does_rest Time locked p request until waited = does_part (Rests Time request until) (λ acts h. (waited, h)) (does_give locked p (Again request))

-- an attempt that begins is neither spent nor in flight
pub begins_open : (keys : List (List ℕ)) (attempt : AttemptState) → attempt ≡ started keys → IsOpen attempt.stage
begins_open keys attempt e = subst (λ (a : AttemptState). IsOpen a.stage) (sym e) tt

module _ {H : Type 0} (hash_of : H → List ℕ → ℕ) (Came : MayAnswer) (Handled : MayHandle) (Time : Times) where
  -- a try at a moment that was told
  pub tries_at : {locked : LockedNode H} {p q : NodePass H} {r : Result Tried ClusterError} (request : Request) (now : ℕ) (attempt : AttemptState) → Time.told now
      → Does locked (Next (LooksUp hash_of now request.attempt attempt) (CarriesOut Came Handled Time (record { attempt = attempt; body = request.body }))) r p q
      → Does locked (TriesOnce hash_of Came Handled Time request) r p q
  tries_at request now attempt told d = does_part (TriesOnce hash_of Came Handled Time request) (λ acts h. (now, told, (attempt, h))) d

  -- all is left of a request that begins
  pub begins : (locked : LockedNode H) (p : NodePass H) (keys : List (List ℕ)) (body : List ℕ) (attempt : AttemptState) → attempt ≡ started keys
      → Leads locked (IsRequest hash_of Came Handled Time keys body)
      (Until (TriesOnce hash_of Came Handled Time) way_of_try (record { attempt = attempt; body = body })) p p
  begins locked p keys body attempt e =
      subst
      (λ (a : AttemptState).
      Leads locked (IsRequest hash_of Came Handled Time keys body)
      (Until (TriesOnce hash_of Came Handled Time) way_of_try (record { attempt = a; body = body })) p p)
      (sym e) (leads_none locked p (IsRequest hash_of Came Handled Time keys body))

module _ {H : Type 0} (hash_of : H → List ℕ → ℕ) (Came : MayAnswer) (Time : Times) where
  -- a try after which the request is to be tried again is one by any handler, since it called none
  again_by : (One Other : MayHandle) (request back : Request) (acts : List (Act H)) → TriesOnce hash_of Came One Time request (Ok (Again back)) acts
      → TriesOnce hash_of Came Other Time request (Ok (Again back)) acts
  again_by One Other request back acts (now, told, (attempt, inl h)) = absurd h
  again_by One Other request back acts (now, told, (attempt, inr ((view, Wait until), t))) = (now, told, (attempt, inr ((view, Wait until), t)))
  again_by One Other request back acts (now, told, (attempt, inr ((view, Here), (first, next, eq, looks, inl h)))) = absurd h
  again_by One Other request back acts (now, told, (attempt, inr ((view, Here), (first, next, eq, looks, inr (text, (xs, ys, e, h, gives)))))) =
      absurd (let no : Ok (Again back) ≡ Ok (Answered text) = gives.1 in cc)
  again_by One Other request back acts (now, told, (attempt, inr ((view, Send owner), t))) = (now, told, (attempt, inr ((view, Send owner), t)))

  module _ {A : Type 0} (handled : Handled A) {locked : LockedNode H} {p q : NodePass H} (request : Request) where
    pub did_again : (was is start final : A) (back : Request) (tried : Tried) → tried ≡ Again back
        → Does locked (TriesOnce hash_of Came (between handled was is).once Time request) (Ok tried) p q
        → Does locked (TriesOnce hash_of Came (between handled start final).once Time request) (Ok tried) p q
    did_again was is start final back tried e d =
        subst (λ (x : Tried). Does locked (TriesOnce hash_of Came (between handled start final).once Time request) (Ok x) p q) (sym e)
        (does_part (TriesOnce hash_of Came (between handled start final).once Time request) (again_by (between handled was is).once (between handled start final).once request back)
        (subst (λ (x : Tried). Does locked (TriesOnce hash_of Came (between handled was is).once Time request) (Ok x) p q) e d))

    -- a try by a handler that is as at the start
    pub did_from : (was is start : A) (r : Result Tried ClusterError) → was ≡ start
        → Does locked (TriesOnce hash_of Came (between handled was is).once Time request) r p q
        → Does locked (TriesOnce hash_of Came (between handled start is).once Time request) r p q
    did_from was is start r e d = subst (λ (x : A). Does locked (TriesOnce hash_of Came (between handled x is).once Time request) r p q) e d
