-- What goes over a link for a request, try after try.
use Rattle.std.proofs.Common.{◌≡◌, ◌≢◌, ℕ, ◌+◌, ◌<◌, ◌≤◌, refl, sym, ap, ◌∙◌, subst, inl, inr, arith, Result, Ok, Err, Some, List, [], ◌∷◌, ◌++◌, length, map, append-nil}
use Rattle.std.proofs.lemmas.List.Elements.{All-cons, All-nil}
use Rattle.std.specs.List.{All}
use Rattle.std.specs.Prelude.{IsErrAnd}
use Rattle.change_core.specs.declared.addresses.Address.{Address}
use Rattle.message_core.specs.declared.messages.Content.TheVariants as content
use Rattle.message_core.specs.declared.messages.Message.{Message}
use Rattle.node_core.specs.Viewing.{Viewed}
use Rattle.turn_lock.specs.declared.errors.LockError.{LockError}
use Rattle.turn_lock.specs.declared.errors.LockError.TheVariants as lock
use Rattle.forward_core.specs.declared.attempts.Stage.TheVariants as stage
use Rattle.forward_core.specs.declared.attempts.Step.{Step}
use Rattle.forward_core.specs.declared.attempts.Step.TheVariants.{Here, Wait, Send}
use Rattle.forward_core.specs.declared.errors.ForwardError.{ForwardError}
use Rattle.forward_core.specs.declared.errors.ForwardError.TheVariants as forward
use Rattle.forward_core.specs.Attempts.{AttemptState, FailedStep, LentState, IsOpen, most_sends, sent, started, with_keys, ReadyStep}
use Rattle.forward_core.specs.Routes.{AllOwnedBy}
use Rattle.locked_node.specs.declared.node.LockedNode.{LockedNode}
use Rattle.locked_node.specs.Passes.{NodePass}
use Rattle.peer_core.specs.declared.errors.ClusterError.{ClusterError}
use Rattle.peer_core.specs.declared.errors.ClusterError.TheVariants as error
use Rattle.peer_core.specs.declared.errors.HandlerFault.{HandlerFault}
use Rattle.peer_core.specs.declared.errors.HandlerFault.TheVariants as fault
use Rattle.peer_core.specs.declared.errors.LinkError.{LinkError}
use Rattle.peer_core.specs.declared.errors.LinkError.TheVariants as link
use Rattle.peer_core.specs.declared.forwarding.Request.{Request}
use Rattle.peer_core.specs.declared.forwarding.Tried.{Tried}
use Rattle.peer_core.specs.declared.forwarding.Tried.TheVariants.{Answered, Again}
use Rattle.peer_core.specs.Acts.{Act, OfActs, Then, looked, Makes}
use Rattle.peer_core.specs.Errors.{error_of_forward, error_of_lock}
use Rattle.peer_core.specs.Exchanges.{IsPart}
use Rattle.peer_core.specs.Forwarding.{IsFailure, IsHandled, IsJudged, IsLookupRefusal, LooksUp}
use Rattle.peer_core.specs.Handling.{Handled, MayHandle, between}
use Rattle.peer_core.specs.Links.{Went}
use Rattle.peer_core.specs.Parts.{Does}
use Rattle.peer_core.specs.Resending.{AllButLastFailed, EndsBy, Failed, ForwardsOver, GoesToOwner, IsSentOnce, ResendingsCount, Sending, SendsRequest, TrySends, result_of_handler, viewed_by, viewed_in}
use Rattle.peer_core.specs.Serving.{message_from}
use Rattle.peer_core.proofs.Acts.{makes_as, makes_none, makes_then}
use Rattle.peer_core.proofs.Exchanges.{part_later}

-- the message of a request whose keys are lent out is that of the request
pub once_lent : {L H : Type 0} (went : Went L) (view : Viewed H) (owner : Address) (request : Request) (keys : List (List ℕ)) (lent : LentState)
    (message : Message) (answer : Result Message LinkError) (now : ℕ) (r : Result Tried ClusterError) (a b : L) → request.attempt ≡ with_keys keys lent
    → message ≡ message_from view (content.Forward keys request.body) → went owner message answer a b → IsJudged now request answer r
    → IsSentOnce went view owner request r a b
once_lent went view owner request keys lent message answer now r a b e made gone h =
    let same : keys ≡ request.attempt.keys = sym (ap (λ (x : AttemptState). x.keys) e) in
    let is : message ≡ message_from view (content.Forward request.attempt.keys request.body) =
    made ∙ ap (λ (ks : List (List ℕ)). message_from view (content.Forward ks request.body)) same in
    (answer, subst (λ (m : Message). went owner m answer a b) is gone, (now, h))

-- looking up the next step of a request that is neither spent nor in flight is refused so
of_lock : (l : LockError) → IsLookupRefusal (error_of_lock l)
of_lock lock.ForeignPass = tt
of_lock lock.PassSpent = tt

of_ready : {H : Type 0} (hash_of : H → List ℕ → ℕ) (view : Viewed H) (now : ℕ) (old new : AttemptState) (f : ForwardError) → IsOpen old.stage
    → ReadyStep hash_of view now old (Err f) new → IsLookupRefusal (error_of_forward f)
of_ready hash_of view now old new forward.RetriesSpent is_open h = absurd (subst IsOpen h.0 is_open)
of_ready hash_of view now old new forward.InFlight is_open h = absurd (subst IsOpen h.0 is_open)
of_ready hash_of view now old new forward.NotInFlight is_open h = absurd h
of_ready hash_of view now old new forward.Diverged is_open h = tt
of_ready hash_of view now old new forward.Nobody is_open h = tt

pub refused_step : {H : Type 0} (hash_of : H → List ℕ → ℕ) (now : ℕ) (old new : AttemptState) (e : ClusterError) (acts : List (Act H)) → IsOpen old.stage
    → LooksUp hash_of now old new (Err e) acts → IsLookupRefusal e
refused_step hash_of now old new e acts is_open (inl (none, (l, of))) = subst IsLookupRefusal (sym of) (of_lock l)
refused_step hash_of now old new e acts is_open (inr (Ok view, t)) = subst IsLookupRefusal (sym t.4.1.1) (of_ready hash_of view now old new t.4.1.0 is_open t.4.1.2)
refused_step hash_of now old new e acts is_open (inr (Err n, t)) =
    subst IsLookupRefusal (let out : Err error.Memory ≡ Err e = sym t.4.1 in (let same : error.Memory ≡ e = cc in same)) tt

-- the retries of a request are not spent by a handler
pub unspent_handled : (Handled : MayHandle) (keys : List (List ℕ)) (body : List ℕ) (e : ClusterError) → IsHandled Handled keys body (Err e) → e ≢ error.RetriesSpent
unspent_handled Handled keys body error.RetriesSpent h is = absurd h
unspent_handled Handled keys body e h is = absurd cc

-- but by an answer that is a failure of the last send
spent_judged : (now : ℕ) (request : Request) (answer : Result Message LinkError) → IsJudged now request answer (Err error.RetriesSpent)
    → IsFailure answer × (request.attempt.sends ≡ most_sends)
spent_judged now request answer (fails, forward.RetriesSpent, is, (new, step)) = (fails, step.1)
spent_judged now request answer (fails, f, is, rest) = absurd cc

-- and else only if memory ran out in the link
of_failed : (now : ℕ) (old new : AttemptState) (f : ForwardError) → old.stage ≡ stage.InFlight → FailedStep now old (Err f) new → f ≡ forward.RetriesSpent
of_failed now old new forward.RetriesSpent flies h = refl
of_failed now old new forward.NotInFlight flies h = absurd (h.0 flies)
of_failed now old new f flies h = absurd h

starved_judged : (now : ℕ) (request : Request) (answer : Result Message LinkError) (e : ClusterError) → request.attempt.stage ≡ stage.InFlight
    → e ≢ error.RetriesSpent → IsJudged now request answer (Err e) → (e ≡ error.Memory) × (answer ≡ Err link.Memory)
starved_judged now request answer error.Memory flies unspent h = (refl, h)
starved_judged now request answer e flies unspent (fails, f, is, (new, step)) =
    absurd (unspent (is ∙ ap error_of_forward (of_failed now request.attempt new f flies step)))

-- what a handler's result is to the request
result_handled : (Handled : MayHandle) (keys : List (List ℕ)) (body : List ℕ) (r : Result (List ℕ) ClusterError) → IsHandled Handled keys body r
    → (answer : Result (List ℕ) HandlerFault) × Handled keys body answer × (r ≡ result_of_handler answer)
result_handled Handled keys body (Ok text) h = (Ok text, h, refl)
result_handled Handled keys body (Err error.HandlerFault) h = (Err fault.Failed, h, refl)
result_handled Handled keys body (Err error.Memory) h = (Err fault.Memory, h, refl)
result_handled Handled keys body (Err e) h = absurd h

module _ {L H : Type 0} (hash_of : H → List ℕ → ℕ) (went : Went L) where
  module _ (keys : List (List ℕ)) (body : List ℕ) where
    -- nothing is sent
    none_sent : (a : L) (acts : List (Act H)) → Failed hash_of went keys body 0 a a acts
    none_sent a [] = Failed.is_over
    none_sent a (act ∷ acts) = Failed.stays act (none_sent a acts)

    -- one Forward, which failed
    one_failed : (view : Viewed H) (answer : Result Message LinkError) (a b : L) (acts : List (Act H)) → acts ≡ looked (Ok view) ∷ []
        → GoesToOwner hash_of went keys body view answer a b → IsFailure answer → Failed hash_of went keys body 1 a b acts
    one_failed view answer a b acts e gone fails =
        subst (λ (xs : List (Act H)). Failed hash_of went keys body 1 a b xs) (sym e) (Failed.sent view answer gone fails Failed.is_over)

    failed_then : (m n : ℕ) (a b c : L) (xs ys : List (Act H)) → Failed hash_of went keys body m a b xs → Failed hash_of went keys body n b c ys
        → Failed hash_of went keys body (m + n) a c (xs ++ ys)
    failed_then m n a b c xs ys Failed.is_over g = subst (λ (i : ℕ). Failed hash_of went keys body i a c ys) (omega arith) g
    failed_then m n a b c xs ys (Failed.stays {acts = rest} act h) g = Failed.stays act (failed_then m n a b c rest ys h g)
    failed_then m n a b c xs ys (Failed.sent {n = k} {mid = mid} {acts = rest} view answer gone fails h) g =
        subst (λ (i : ℕ). Failed hash_of went keys body i a c (looked (Ok view) ∷ (rest ++ ys))) (omega arith)
        (Failed.sent view answer gone fails (failed_then k n mid b c rest ys h g))

  module _ {locked : LockedNode H} where
    -- Forwards that failed, and then others
    failed_on : {keys : List (List ℕ)} {body : List ℕ} {m n k : ℕ} {p q s : NodePass H} {a b c : L} → m + n ≡ k
        → Makes locked (Failed hash_of went keys body m a b) p q → Makes locked (Failed hash_of went keys body n b c) q s
        → Makes locked (Failed hash_of went keys body k a c) p s
    failed_on {keys} {body} {m} {n} {k} {a = a} {b = b} {c = c} e x y =
        makes_as (Failed hash_of went keys body k a c)
        (λ acts t. subst (λ (i : ℕ). Failed hash_of went keys body i a c acts) e
        (subst (λ (zs : List (Act H)). Failed hash_of went keys body (m + n) a c zs) (sym t.2) (failed_then keys body m n a b c t.0 t.1 t.3 t.4))) (makes_then x y)

  -- the one view by which a step is decided
  looked_up : (now : ℕ) (old new : AttemptState) (view : Viewed H) (step : Step) (acts : List (Act H)) → LooksUp hash_of now old new (Ok (view, step)) acts
      → (acts ≡ looked (Ok view) ∷ []) × ReadyStep hash_of view now old (Ok step) new
  looked_up now old new view step acts (inl h) = absurd h
  looked_up now old new view step acts (inr (Err n, t)) = absurd (let e : Ok (view, step) ≡ Err _ = t.4.1 in cc)
  looked_up now old new view step acts (inr (Ok v, t)) =
      let all : acts ≡ looked (Ok v) ∷ [] = t.2 ∙ ap (λ (xs : List (Act H)). xs ++ t.1) t.3 ∙ ap (λ (ys : List (Act H)). (looked (Ok v) ∷ []) ++ ys) t.4.0 in (
        all ∙ ap (λ (x : Viewed H). looked (Ok x) ∷ []) (sym t.4.1),
        subst (λ (x : Viewed H). ReadyStep hash_of x now old (Ok step) new) (sym t.4.1) t.4.2,
      )

  -- So much of a request was sent, with its keys and its body: as many Forwards failed as its attempt says.
  pub record Resent (keys : List (List ℕ)) (body : List ℕ) (request : Request) (locked : LockedNode H) (p q : NodePass H) (a b : L) : Type 0 where
    pub keys_are : request.attempt.keys ≡ keys
    pub body_is : request.body ≡ body
    pub few : request.attempt.sends < most_sends
    pub sent : Makes locked (Failed hash_of went keys body request.attempt.sends a b) p q

  module _ {locked : LockedNode H} where
    pub resent_begins : {p : NodePass H} {a : L} (keys : List (List ℕ)) (body : List ℕ) (attempt : AttemptState) → attempt ≡ started keys
        → Resent keys body (record { attempt = attempt; body = body }) locked p p a a
    resent_begins {p} {a} keys body attempt e =
        subst (λ (x : AttemptState). Resent keys body (record { attempt = x; body = body }) locked p p a a) (sym e)
        (record {
          keys_are = refl;
          body_is = refl;
          few = omega arith;
          sent = makes_as (Failed hash_of went keys body 0 a a) (λ acts none. none_sent keys body a acts) (makes_none locked p);
        })

    -- Forwards of the keys and the body of a request
    failed_as : {q s : NodePass H} {b c : L} (keys : List (List ℕ)) (body : List ℕ) (request : Request) (n : ℕ) → request.attempt.keys ≡ keys → request.body ≡ body
        → Makes locked (Failed hash_of went request.attempt.keys request.body n b c) q s → Makes locked (Failed hash_of went keys body n b c) q s
    failed_as {q} {s} {b} {c} keys body request n e f m =
        subst (λ (ks : List (List ℕ)). Makes locked (Failed hash_of went ks body n b c) q s) e
        (subst (λ (t : List ℕ). Makes locked (Failed hash_of went request.attempt.keys t n b c) q s) f m)

module _ {L H A : Type 0} (hash_of : H → List ℕ → ℕ) (went : Went L) (handled : Handled A) where
  again_still : (request : Request) (attempt : AttemptState) (w : A) (a : L) (acts : List (Act H)) → attempt ≡ request.attempt → request.attempt.sends < most_sends
      → TrySends hash_of went handled request w w a a (Ok (Again (record { attempt = attempt; body = request.body }))) acts
  again_still request attempt w a acts e lt =
      subst (λ (x : AttemptState). TrySends hash_of went handled request w w a a (Ok (Again (record { attempt = x; body = request.body }))) acts) (sym e)
      (refl, refl, refl, lt, (0, omega arith, none_sent hash_of went request.attempt.keys request.body a acts))

  -- a try that ends the request by an error, but for one that finds its retries spent
  ends_try : (request : Request) (e : ClusterError) (w x : A) (a b : L) (acts : List (Act H)) → e ≢ error.RetriesSpent
      → EndsBy hash_of went handled request.attempt.keys request.body (Err e) w x a b acts → TrySends hash_of went handled request w x a b (Err e) acts
  ends_try request error.RetriesSpent w x a b acts unspent h = absurd (unspent refl)
  ends_try request e w x a b acts unspent h = h

  ends_sent : (request : Request) (view : Viewed H) (answer : Result Message LinkError) (now : ℕ) (e : ClusterError) (w : A) (a b : L) (acts : List (Act H))
      → e ≢ error.RetriesSpent → acts ≡ looked (Ok view) ∷ [] → GoesToOwner hash_of went request.attempt.keys request.body view answer a b
      → IsJudged now (record { attempt = sent request.attempt; body = request.body }) answer (Err e)
      → TrySends hash_of went handled request w w a b (Err e) acts
  ends_sent request view answer now e w a b acts unspent just gone judged =
      let starved : (e ≡ error.Memory) × (answer ≡ Err link.Memory) =
      starved_judged now (record { attempt = sent request.attempt; body = request.body }) answer e refl unspent judged in
      ends_try request e w w a b acts unspent
      (subst (λ (y : ClusterError). EndsBy hash_of went handled request.attempt.keys request.body (Err y) w w a b acts) (sym starved.0)
      (EndsBy.by_owner view answer just gone starved.1))

  try_sent : (request : Request) (view : Viewed H) (owner : Address) (r : Result Tried ClusterError) (w : A) (a b : L) (acts : List (Act H))
      → acts ≡ looked (Ok view) ∷ [] → AllOwnedBy hash_of view request.attempt.keys (Some owner) → owner ≢ view.own
      → IsSentOnce went view owner (record { attempt = sent request.attempt; body = request.body }) r a b → TrySends hash_of went handled request w w a b r acts
  try_sent request view owner (Ok (Answered text)) w a b acts e owned other (answer, gone, judged) = EndsBy.by_owner view answer e (owner, owned, other, gone) judged.1
  try_sent request view owner (Ok (Again back)) w a b acts e owned other (answer, gone, (now, (fails, step, same))) = (
    refl,
    ap (λ (x : AttemptState). x.keys) step.2,
    same,
    subst (λ (x : AttemptState). x.sends < most_sends) (sym step.2) step.1,
    (
      1,
      sym (ap (λ (x : AttemptState). x.sends) step.2),
      one_failed hash_of went request.attempt.keys request.body view answer a b acts e (owner, owned, other, gone) fails,
    ),
  )
  try_sent request view owner (Err error.RetriesSpent) w a b acts e owned other (answer, gone, (now, judged)) =
      let spent = spent_judged now (record { attempt = sent request.attempt; body = request.body }) answer judged in
      (refl, spent.1, one_failed hash_of went request.attempt.keys request.body view answer a b acts e (owner, owned, other, gone) spent.0)
  try_sent request view owner (Err x) w a b acts e owned other (answer, gone, (now, judged)) =
      ends_sent request view answer now x w a b acts (λ is. absurd cc) e (owner, owned, other, gone) judged

  -- the handler's result is that of the request, by a view in which the node owns its keys
  ends_handled : (now : ℕ) (request : Request) (attempt : AttemptState) (view : Viewed H) (r : Result (List ℕ) ClusterError) (w x : A) (a : L) (acts : List (Act H))
      → LooksUp hash_of now request.attempt attempt (Ok (view, Here)) acts → IsHandled (between handled w x).once attempt.keys request.body r
      → EndsBy hash_of went handled request.attempt.keys request.body r w x a a acts
  ends_handled now request attempt view r w x a acts looks h =
      let l : (acts ≡ looked (Ok view) ∷ []) × ReadyStep hash_of view now request.attempt (Ok Here) attempt =
      looked_up hash_of went now request.attempt attempt view Here acts looks in
      let (answer, called, is) = result_handled (between handled w x).once request.attempt.keys request.body r
      (subst (λ (y : AttemptState). IsHandled (between handled w x).once y.keys request.body r) l.1.2 h) in
      EndsBy.by_handler answer (view, l.0, l.1.1, called) is

  module _ {locked : LockedNode H} {p q : NodePass H} where
    -- a try that ended the request by the handler's text
    pub try_answers : (now : ℕ) (request : Request) (attempt : AttemptState) (view : Viewed H) (step : Step) (text : List ℕ) (w x : A) (a : L)
        → Does locked (LooksUp hash_of now request.attempt attempt) (Ok (view, step)) p q → step ≡ Here
        → IsHandled (between handled w x).once attempt.keys request.body (Ok text) → Makes locked (TrySends hash_of went handled request w x a a (Ok (Answered text))) p q
    try_answers now request attempt view step text w x a d e h =
        makes_as (TrySends hash_of went handled request w x a a (Ok (Answered text)))
        (λ acts l. ends_handled now request attempt view (Ok text) w x a acts
        (subst (λ (s : Step). LooksUp hash_of now request.attempt attempt (Ok (view, s)) acts) e l) h) d.makes

    -- or by its error
    pub try_refuses : (now : ℕ) (request : Request) (attempt : AttemptState) (view : Viewed H) (step : Step) (known : Result Tried ClusterError) (e : ClusterError) (w x : A) (a : L)
        → Does locked (LooksUp hash_of now request.attempt attempt) (Ok (view, step)) p q → step ≡ Here → IsErrAnd known (λ y. y ≡ e)
        → IsHandled (between handled w x).once attempt.keys request.body (Err e) → Makes locked (TrySends hash_of went handled request w x a a known) p q
    try_refuses now request attempt view step (Ok t) e w x a d here is h = absurd is
    try_refuses now request attempt view step (Err y) e w x a d here is h =
        makes_as (TrySends hash_of went handled request w x a a (Err y))
        (λ acts l.
        ends_try request y w x a a acts (λ spent. unspent_handled (between handled w x).once attempt.keys request.body e h (sym is ∙ spent))
        (ends_handled now request attempt view (Err y) w x a acts
        (subst (λ (s : Step). LooksUp hash_of now request.attempt attempt (Ok (view, s)) acts) here l)
        (subst (λ (z : ClusterError). IsHandled (between handled w x).once attempt.keys request.body (Err z)) (sym is) h))) d.makes

    -- or by an error, with no call of the handler
    pub try_fails : {B : Type 0} {P : Result B ClusterError → OfActs H} (request : Request) (r : Result B ClusterError) (known : Result Tried ClusterError) (e : ClusterError) (w : A) (a : L)
        → IsErrAnd known (λ x. x ≡ e) → IsLookupRefusal e → Does locked P r p q → Makes locked (TrySends hash_of went handled request w w a a known) p q
    try_fails request r (Ok t) e w a is refused d = absurd is
    try_fails request r (Err x) e w a is refused d =
        makes_as (TrySends hash_of went handled request w w a a (Err x))
        (λ acts h. ends_try request x w w a a acts (λ spent. subst IsLookupRefusal (sym is ∙ spent) refused) (EndsBy.by_error x (subst IsLookupRefusal (sym is) refused))) d.makes

    -- one that lets the request rest
    pub try_rests : (now : ℕ) (request : Request) (attempt : AttemptState) (view : Viewed H) (step : Step) (until : ℕ) (w : A) (a : L) → request.attempt.sends < most_sends
        → Does locked (LooksUp hash_of now request.attempt attempt) (Ok (view, step)) p q → step ≡ Wait until
        → Makes locked (TrySends hash_of went handled request w w a a (Ok (Again (record { attempt = attempt; body = request.body })))) p q
    try_rests now request attempt view step until w a lt d e =
        makes_as (TrySends hash_of went handled request w w a a (Ok (Again (record { attempt = attempt; body = request.body }))))
        (λ acts h.
        again_still request attempt w a acts
        (subst (λ (s : Step). ReadyStep hash_of view now request.attempt (Ok s) attempt) e (looked_up hash_of went now request.attempt attempt view step acts h).1).3 lt)
        d.makes

    -- and one that sends it
    pub try_sends : (now : ℕ) (request : Request) (attempt : AttemptState) (view : Viewed H) (step : Step) (owner : Address) (r : Result Tried ClusterError) (w : A) (a b : L)
        → request.attempt.sends < most_sends → Does locked (LooksUp hash_of now request.attempt attempt) (Ok (view, step)) p q → step ≡ Send owner
        → IsSentOnce went view owner (record { attempt = attempt; body = request.body }) r a b → Makes locked (TrySends hash_of went handled request w w a b r) p q
    try_sends now request attempt view step owner r w a b lt d e once = makes_as (TrySends hash_of went handled request w w a b r) go d.makes
      where
        go : (acts : List (Act H)) → LooksUp hash_of now request.attempt attempt (Ok (view, step)) acts → TrySends hash_of went handled request w w a b r acts
        go acts h =
            let l : (acts ≡ looked (Ok view) ∷ []) × ReadyStep hash_of view now request.attempt (Ok step) attempt =
            looked_up hash_of went now request.attempt attempt view step acts h in
            let s : ReadyStep hash_of view now request.attempt (Ok (Send owner)) attempt = subst (λ (x : Step). ReadyStep hash_of view now request.attempt (Ok x) attempt) e l.1 in
            try_sent request view owner r w a b acts l.0 s.1 s.2 (subst (λ (x : AttemptState). IsSentOnce went view owner (record { attempt = x; body = request.body }) r a b) s.3 once)

  module _ {locked : LockedNode H} where
    -- after Forwards that failed, the end
    ends_on : {keys : List (List ℕ)} {body : List ℕ} {n : ℕ} {p q s : NodePass H} {r : Result (List ℕ) ClusterError} {w x : A} {a b c : L} → n < most_sends
        → Makes locked (Failed hash_of went keys body n a b) p q → Makes locked (EndsBy hash_of went handled keys body r w x b c) q s
        → Makes locked (λ acts. (m : ℕ) × (m < most_sends) × ((mid : L) × Then (Failed hash_of went keys body m a mid) (EndsBy hash_of went handled keys body r w x mid c) acts)) p s
    ends_on {keys} {body} {n} {r = r} {w = w} {x = x} {a = a} {b = b} {c = c} lt f e =
        makes_as (λ acts. (m : ℕ) × (m < most_sends) × ((mid : L) × Then (Failed hash_of went keys body m a mid) (EndsBy hash_of went handled keys body r w x mid c) acts))
        (λ acts t. (n, lt, (b, t))) (makes_then f e)

    ended_as : {q s : NodePass H} {r : Result (List ℕ) ClusterError} {w x : A} {b c : L} (keys : List (List ℕ)) (body : List ℕ) (request : Request)
        → request.attempt.keys ≡ keys → request.body ≡ body
        → Makes locked (EndsBy hash_of went handled request.attempt.keys request.body r w x b c) q s → Makes locked (EndsBy hash_of went handled keys body r w x b c) q s
    ended_as {q} {s} {r} {w} {x} {b} {c} keys body request e f m =
        subst (λ (ks : List (List ℕ)). Makes locked (EndsBy hash_of went handled ks body r w x b c) q s) e
        (subst (λ (t : List ℕ). Makes locked (EndsBy hash_of went handled request.attempt.keys t r w x b c) q s) f m)

    pub resent_again : {keys : List (List ℕ)} {body : List ℕ} {p q s : NodePass H} {a b c : L} (w x : A) (request back : Request) (tried : Tried) → tried ≡ Again back
        → Resent hash_of went keys body request locked p q a b → Makes locked (TrySends hash_of went handled request w x b c (Ok tried)) q s
        → Resent hash_of went keys body back locked p s a c
    resent_again {keys} {body} {p} {q} {s} {a} {b} {c} w x request back tried e before m =
        let y : Makes locked (TrySends hash_of went handled request w x b c (Ok (Again back))) q s =
        subst (λ (t : Tried). Makes locked (TrySends hash_of went handled request w x b c (Ok t)) q s) e m in record {
          keys_are = y.so.1 ∙ before.keys_are;
          body_is = y.so.2 ∙ before.body_is;
          few = y.so.3;
          sent = failed_on hash_of went y.so.4.1 before.sent (failed_as hash_of went keys body request y.so.4.0 before.keys_are before.body_is
              (record { entries = y.entries; made = y.made; so = y.so.4.2 }));
        }

    -- and the handler was not called
    pub unhandled_again : {q s : NodePass H} (w x : A) (b c : L) (request back : Request) (tried : Tried) → tried ≡ Again back
        → Makes locked (TrySends hash_of went handled request w x b c (Ok tried)) q s → x ≡ w
    unhandled_again {q} {s} w x b c request back tried e m =
        let y : Makes locked (TrySends hash_of went handled request w x b c (Ok (Again back))) q s =
        subst (λ (t : Tried). Makes locked (TrySends hash_of went handled request w x b c (Ok t)) q s) e m in y.so.0

    -- a try by a handler that is as at the start
    pub tries_from : {q s : NodePass H} {w : A} (x : A) (b c : L) (start : A) (request : Request) (r : Result Tried ClusterError) → w ≡ start
        → Makes locked (TrySends hash_of went handled request w x b c r) q s → Makes locked (TrySends hash_of went handled request start x b c r) q s
    tries_from {q} {s} {w} x b c start request r e m = subst (λ (y : A). Makes locked (TrySends hash_of went handled request y x b c r) q s) e m

    pub resent_answered : {keys : List (List ℕ)} {body : List ℕ} {p q s : NodePass H} {a b c : L} (w x : A) (request : Request) (tried : Tried) (text : List ℕ) → tried ≡ Answered text
        → Resent hash_of went keys body request locked p q a b → Makes locked (TrySends hash_of went handled request w x b c (Ok tried)) q s
        → Makes locked (SendsRequest hash_of went handled keys body (Ok text) w x a c) p s
    resent_answered {keys} {body} {q = q} {s = s} {b = b} {c = c} w x request tried text e before m =
        ends_on before.few before.sent
        (ended_as keys body request before.keys_are before.body_is (subst (λ (t : Tried). Makes locked (TrySends hash_of went handled request w x b c (Ok t)) q s) e m))

    failed_or_ended : {keys : List (List ℕ)} {body : List ℕ} {p q s : NodePass H} {a b : L} (w x : A) (c : L) (request : Request) (e : ClusterError)
        → Resent hash_of went keys body request locked p q a b → Makes locked (TrySends hash_of went handled request w x b c (Err e)) q s
        → Makes locked (SendsRequest hash_of went handled keys body (Err e) w x a c) p s
    failed_or_ended {keys} {body} {a = a} {b = b} w x c request error.RetriesSpent before m =
        makes_as (SendsRequest hash_of went handled keys body (Err error.RetriesSpent) w x a c) (λ acts h. (m.so.0, h))
        (failed_on hash_of went m.so.1 before.sent (failed_as hash_of went keys body request 1 before.keys_are before.body_is
        (makes_as (Failed hash_of went request.attempt.keys request.body 1 b c) (λ acts h. h.2) m)))
    failed_or_ended {keys} {body} w x c request e before m = ends_on before.few before.sent (ended_as keys body request before.keys_are before.body_is m)

    pub resent_failed : {keys : List (List ℕ)} {body : List ℕ} {p q s : NodePass H} {a b : L} (w x : A) (c : L) (request : Request) (e : ClusterError)
        (known : Result (List ℕ) ClusterError) → IsErrAnd known (λ y. y ≡ e)
        → Resent hash_of went keys body request locked p q a b → Makes locked (TrySends hash_of went handled request w x b c (Err e)) q s
        → Makes locked (SendsRequest hash_of went handled keys body known w x a c) p s
    resent_failed w x c request e (Ok text) is before m = absurd is
    resent_failed {keys} {body} {p} {q} {s} {a} {b} w x c request e (Err y) is before m =
        subst (λ (z : ClusterError). Makes locked (SendsRequest hash_of went handled keys body (Err z) w x a c) p s) (sym is) (failed_or_ended w x c request e before m)

all_but_more : (answer : Result Message LinkError) (answers : List (Result Message LinkError)) → IsFailure answer → AllButLastFailed answers → AllButLastFailed (answer ∷ answers)
all_but_more answer [] h k = tt
all_but_more answer (next ∷ answers) h k = (h, k)

module _ {L H : Type 0} (hash_of : H → List ℕ → ℕ) (went : Went L) (keys : List (List ℕ)) (body : List ℕ) where
  -- These Forwards were made by some of the views among acts, and each but the last failed.
  pub record Counted (old new : L) (acts : List (Act H)) (sends : List (Sending H)) : Type 0 where
    pub part : IsPart (map (λ (s : Sending H). s.0) sends) (viewed_in acts)
    pub failed : AllButLastFailed (map (λ (s : Sending H). s.1) sends)
    pub over : ForwardsOver hash_of went keys body sends old new

  -- this number of Forwards failed, and then come others
  pub failed_count : (n : ℕ) (old mid new : L) (acts ends : List (Act H)) (last : List (Sending H)) → Failed hash_of went keys body n old mid acts → Counted mid new ends last
      → (sends : List (Sending H)) × (length sends ≡ n + length last) × Counted old new (acts ++ ends) sends
      × (All IsFailure (map (λ (s : Sending H). s.1) last) → All IsFailure (map (λ (s : Sending H). s.1) sends))
  failed_count n old mid new acts ends last Failed.is_over done = (last, omega arith, done, λ h. h)
  failed_count n old mid new acts ends last (Failed.stays {acts = rest} act h) done =
      let (sends, many, counted, all) = failed_count n old mid new rest ends last h done in (
        sends,
        many,
        record {
          part = part_later (viewed_by act) (map (λ (s : Sending H). s.0) sends) (viewed_in (rest ++ ends)) counted.part;
          failed = counted.failed;
          over = counted.over;
        },
        all,
      )
  failed_count n old mid new acts ends last (Failed.sent {n = k} {mid = next} {acts = rest} view answer gone fails h) done =
      let (sends, many, counted, all) = failed_count k next mid new rest ends last h done in (
        (view, answer) ∷ sends,
        omega (arith, many),
        record {
          part = inl (refl, counted.part);
          failed = all_but_more answer (map (λ (s : Sending H). s.1) sends) fails counted.failed;
          over = (next, gone, counted.over);
        },
        λ failed. All-cons IsFailure answer (map (λ (s : Sending H). s.1) sends) fails (all failed),
      )

  -- the last, if there is one
  ends_count : {A : Type 0} (handled : Handled A) (r : Result (List ℕ) ClusterError) (was is : A) (old new : L) (acts : List (Act H))
      → EndsBy hash_of went handled keys body r was is old new acts → (last : List (Sending H)) × (length last ≤ 1) × Counted old new acts last
  ends_count handled r was is old new acts (EndsBy.by_error e refused) = ([], omega arith, record { part = tt; failed = tt; over = refl })
  ends_count handled r was is old new acts (EndsBy.by_handler answer here same) = ([], omega arith, record { part = tt; failed = tt; over = refl })
  ends_count handled r was is old new acts (EndsBy.by_owner view answer e gone ends) = (
    (view, answer) ∷ [],
    omega arith,
    record {
      part = subst (λ (xs : List (Act H)). IsPart (view ∷ []) (viewed_in xs)) (sym e) (inl (refl, tt));
      failed = tt;
      over = (new, gone, refl);
    },
  )

  -- all of them, if the retries are not spent
  few_count : {A : Type 0} (handled : Handled A) (r : Result (List ℕ) ClusterError) (was is : A) (old new : L) (acts : List (Act H))
      → (n : ℕ) × (n < most_sends) × ((mid : L) × Then (Failed hash_of went keys body n old mid) (EndsBy hash_of went handled keys body r was is mid new) acts)
      → (sends : List (Sending H)) × (length sends ≤ most_sends) × Counted old new acts sends
  few_count handled r was is old new acts (n, lt, (mid, (xs, ys, e, failed, ends))) =
      let (last, one, done) = ends_count handled r was is mid new ys ends in
      let (sends, many, counted, all) = failed_count n old mid new xs ys last failed done in
      (sends, omega (arith, lt, one, many), subst (λ (zs : List (Act H)). Counted old new zs sends) (sym e) counted)

pub resendings_count : {L H A : Type 0} (hash_of : H → List ℕ → ℕ) (went : Went L) (handled : Handled A) → ResendingsCount hash_of went handled
resendings_count hash_of went handled keys body (Err error.RetriesSpent) was is old new acts h =
    let (sends, many, counted, all) = failed_count hash_of went keys body most_sends old new new acts [] [] h.1 (record { part = tt; failed = tt; over = refl }) in (
      sends,
      omega (arith, many),
      subst (λ (zs : List (Act _)). IsPart (map (λ (s : Sending _). s.0) sends) (viewed_in zs)) (append-nil acts) counted.part,
      counted.failed,
      counted.over,
      λ is. (omega (arith, many), all (All-nil IsFailure)),
    )
resendings_count hash_of went handled keys body r was is old new acts h =
    let (sends, few, counted) = few_count hash_of went keys body handled r was is old new acts h in
    (sends, few, counted.part, counted.failed, counted.over, λ is. absurd cc)
