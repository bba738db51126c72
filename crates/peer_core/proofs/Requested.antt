-- What the answer to a keyed request rests on.
use Rattle.std.proofs.Common.{◌≡◌, ◌≢◌, ◌∙◌, ℕ, refl, sym, ap, subst, inl, inr, Some, Result, Ok, Err, List, ◌++◌}
use Rattle.std.specs.Prelude.{◌⊎◌, Contains}
use Rattle.std.proofs.lemmas.List.Elements.{Contains-append_left}
use Rattle.change_core.specs.declared.addresses.Address.{Address}
use Rattle.message_core.specs.declared.messages.Content.TheVariants as content
use Rattle.message_core.specs.declared.messages.Message.{Message}
use Rattle.node_core.specs.declared.errors.NodeError.{NodeError}
use Rattle.node_core.specs.declared.errors.NodeError.TheVariants as node
use Rattle.node_core.specs.Viewing.{Viewed}
use Rattle.forward_core.specs.declared.attempts.Stage.TheVariants as stage
use Rattle.forward_core.specs.declared.attempts.Step.{Step}
use Rattle.forward_core.specs.declared.attempts.Step.TheVariants.{Wait, Here, Send}
use Rattle.forward_core.specs.declared.errors.ForwardError.{ForwardError}
use Rattle.forward_core.specs.declared.errors.ForwardError.TheVariants as forward
use Rattle.forward_core.specs.Attempts.{AttemptState, IsOpen, ReadyStep, FailedStep}
use Rattle.forward_core.specs.Routes.{AllOwnedBy, HaveDiverged}
use Rattle.peer_core.specs.declared.errors.ClusterError.{ClusterError}
use Rattle.peer_core.specs.declared.errors.ClusterError.TheVariants as error
use Rattle.peer_core.specs.declared.errors.HandlerFault.{HandlerFault}
use Rattle.peer_core.specs.declared.errors.LinkError.{LinkError}
use Rattle.peer_core.specs.declared.errors.LinkError.TheVariants as link
use Rattle.peer_core.specs.declared.forwarding.Request.{Request}
use Rattle.peer_core.specs.declared.forwarding.Tried.{Tried}
use Rattle.peer_core.specs.declared.forwarding.Tried.TheVariants.{Answered, Again}
use Rattle.peer_core.specs.Acts.{Act, OfActs, looked}
use Rattle.peer_core.specs.Errors.{error_of_forward}
use Rattle.peer_core.specs.Forwarding.{CarriesOut, IsFailure, IsHandled, IsJudged, LooksUp, Times, TriesOnce, way_of_try}
use Rattle.peer_core.specs.Handling.{MayHandle}
use Rattle.peer_core.specs.Links.{MayAnswer}
use Rattle.peer_core.specs.Parts.{IsOfLock, onward, ended, Until}
use Rattle.peer_core.specs.Requests.{Owns, IsOfHandler, IsOfOwner, IsAnswered, IsUnanswered, RequestsRest}
use Rattle.peer_core.specs.Serving.{message_from}
use Rattle.peer_core.proofs.Servings.{has_first, has_later}

-- how an answer that came from the owner refuses a request
judged_refusal : (now : ℕ) (request : Request) (answer : Result Message LinkError) (e : ClusterError) → IsJudged now request answer (Err e)
    → ((e ≡ error.Memory) × (answer ≡ Err link.Memory))
    ⊎ (IsFailure answer × (f : ForwardError) × (e ≡ error_of_forward f) × ((new : AttemptState) × FailedStep now request.attempt (Err f) new))
judged_refusal now request answer error.Memory h = inl (refl, h)
judged_refusal now request answer e h = inr h

module _ {H : Type 0} (hash_of : H → List ℕ → ℕ) (Came : MayAnswer) (Handled : MayHandle) (keys : List (List ℕ)) (body : List ℕ) where
  abbrev OfHandler : Result (List ℕ) HandlerFault → OfActs H
  OfHandler = IsOfHandler hash_of Came Handled keys body

  abbrev OfOwner : Result Message LinkError → OfActs H
  OfOwner = IsOfOwner hash_of Came Handled keys body

  abbrev Unanswered : ClusterError → OfActs H
  Unanswered = IsUnanswered hash_of Came Handled keys body

  -- the same of more acts
  handler_later : (answer : Result (List ℕ) HandlerFault) (xs ys : List (Act H)) → OfHandler answer ys → OfHandler answer (xs ++ ys)
  handler_later answer xs ys w = (w.0, (has_later (looked (Ok w.0)) (xs ++ ys) xs ys refl w.1.0, w.1.1), w.2)

  owner_later : (answer : Result Message LinkError) (xs ys : List (Act H)) → OfOwner answer ys → OfOwner answer (xs ++ ys)
  owner_later answer xs ys w = (
    w.0,
    w.1,
    (has_later (looked (Ok w.0)) (xs ++ ys) xs ys refl w.2.0, w.2.1),
    w.3,
    w.4,
  )

  answered_later : (text : List ℕ) (xs ys : List (Act H)) → IsAnswered hash_of Came Handled keys body text ys → IsAnswered hash_of Came Handled keys body text (xs ++ ys)
  answered_later text xs ys (inl w) = inl (handler_later (Ok text) xs ys w)
  answered_later text xs ys (inr w) = inr (w.0, w.1, owner_later (Ok w.0) xs ys w.2)

  unanswered_later : (e : ClusterError) (xs ys : List (Act H)) → Unanswered e ys → Unanswered e (xs ++ ys)
  unanswered_later e xs ys (IsUnanswered.by_lock l) = IsUnanswered.by_lock l
  unanswered_later e xs ys (IsUnanswered.diverged view c h) = IsUnanswered.diverged view (has_later (looked (Ok view)) (xs ++ ys) xs ys refl c) h
  unanswered_later e xs ys (IsUnanswered.no_owner view c h) = IsUnanswered.no_owner view (has_later (looked (Ok view)) (xs ++ ys) xs ys refl c) h
  unanswered_later e xs ys (IsUnanswered.no_reply answer f w) = IsUnanswered.no_reply answer f (owner_later answer xs ys w)
  unanswered_later e xs ys (IsUnanswered.not_handled w) = IsUnanswered.not_handled (handler_later _ xs ys w)
  unanswered_later e xs ys (IsUnanswered.handler_starved w) = IsUnanswered.handler_starved (handler_later _ xs ys w)
  unanswered_later e xs ys (IsUnanswered.link_starved w) = IsUnanswered.link_starved (owner_later _ xs ys w)
  unanswered_later e xs ys (IsUnanswered.no_view c) = IsUnanswered.no_view (has_later (looked (Err node.Memory)) (xs ++ ys) xs ys refl c)

  of_lock : (e : ClusterError) (acts : List (Act H)) → IsOfLock e → Unanswered e acts
  of_lock e acts l = subst (λ (x : ClusterError). Unanswered x acts) (sym l.1) (IsUnanswered.by_lock l.0)

  -- what a try comes to: an answer, the request again, or a refusal
  abbrev TrySo : Result Tried ClusterError → OfActs H
  TrySo (Ok (Answered text)) acts = IsAnswered hash_of Came Handled keys body text acts
  TrySo (Ok (Again back)) acts = (back.attempt.keys ≡ keys) × (back.body ≡ body) × IsOpen back.attempt.stage
  TrySo (Err e) acts = Unanswered e acts

  failed_refusal : (now : ℕ) (old new : AttemptState) (f : ForwardError) (answer : Result Message LinkError) (acts : List (Act H)) → old.stage ≡ stage.InFlight
      → IsFailure answer → OfOwner answer acts → FailedStep now old (Err f) new → Unanswered (error_of_forward f) acts
  failed_refusal now old new forward.RetriesSpent answer acts flies fails came h = IsUnanswered.no_reply answer fails came
  failed_refusal now old new forward.NotInFlight answer acts flies fails came h = absurd (h.0 flies)
  failed_refusal now old new forward.Diverged answer acts flies fails came h = absurd h
  failed_refusal now old new forward.Nobody answer acts flies fails came h = absurd h
  failed_refusal now old new forward.InFlight answer acts flies fails came h = absurd h

  refused_so : (now : ℕ) (request : Request) (answer : Result Message LinkError) (e : ClusterError) (acts : List (Act H)) → request.attempt.stage ≡ stage.InFlight → OfOwner answer acts
      → ((e ≡ error.Memory) × (answer ≡ Err link.Memory))
      ⊎ (IsFailure answer × (f : ForwardError) × (e ≡ error_of_forward f) × ((new : AttemptState) × FailedStep now request.attempt (Err f) new))
      → Unanswered e acts
  refused_so now request answer e acts flies came (inl m) =
      subst (λ (x : ClusterError). Unanswered x acts) (sym m.0) (IsUnanswered.link_starved (subst (λ (x : Result Message LinkError). OfOwner x acts) m.1 came))
  refused_so now request answer e acts flies came (inr (fails, f, is, (new, h))) =
      subst (λ (x : ClusterError). Unanswered x acts) (sym is) (failed_refusal now request.attempt new f answer acts flies fails came h)

  judged_so : (now : ℕ) (request : Request) (answer : Result Message LinkError) (r : Result Tried ClusterError) (acts : List (Act H)) → request.attempt.keys ≡ keys → request.body ≡ body
      → request.attempt.stage ≡ stage.InFlight → OfOwner answer acts → IsJudged now request answer r → TrySo r acts
  judged_so now request answer (Ok (Answered text)) acts k b flies came h = inr (h.0, h.2, subst (λ (x : Result Message LinkError). OfOwner x acts) h.1 came)
  judged_so now request answer (Ok (Again back)) acts k b flies came (fails, step, same) =
      (ap (λ (a : AttemptState). a.keys) step.2 ∙ k, same ∙ b, subst (λ (a : AttemptState). IsOpen a.stage) (sym step.2) tt)
  judged_so now request answer (Err e) acts k b flies came h = refused_so now request answer e acts flies came (judged_refusal now request answer e h)

  handler_refusal : (e : ClusterError) (view : Viewed H) (acts : List (Act H)) → Owns hash_of Came Handled keys body view view.own acts → IsHandled Handled keys body (Err e) → Unanswered e acts
  handler_refusal error.HandlerFault view acts o h = IsUnanswered.not_handled (view, o, h)
  handler_refusal error.Memory view acts o h = IsUnanswered.handler_starved (view, o, h)
  handler_refusal e view acts o h = absurd h

  -- an attempt that a view turns away
  forward_refusal : (now : ℕ) (old new : AttemptState) (f : ForwardError) (view : Viewed H) (acts : List (Act H)) → Contains acts (looked (Ok view)) → old.keys ≡ keys → IsOpen old.stage
      → ReadyStep hash_of view now old (Err f) new → Unanswered (error_of_forward f) acts
  forward_refusal now old new forward.RetriesSpent view acts c k o h = absurd (subst IsOpen h.0 o)
  forward_refusal now old new forward.InFlight view acts c k o h = absurd (subst IsOpen h.0 o)
  forward_refusal now old new forward.Diverged view acts c k o h = IsUnanswered.diverged view c (subst (λ (ks : List (List ℕ)). HaveDiverged hash_of view ks) k h.1)
  forward_refusal now old new forward.Nobody view acts c k o h = IsUnanswered.no_owner view c h.1
  forward_refusal now old new forward.NotInFlight view acts c k o h = absurd h

  look_refused : (now : ℕ) (old new : AttemptState) (e : ClusterError) (acts : List (Act H)) → old.keys ≡ keys → IsOpen old.stage
      → LooksUp hash_of now old new (Err e) acts → Unanswered e acts
  look_refused now old new e acts k o (inl h) = of_lock e acts h.1
  look_refused now old new e acts k o (inr (Ok view, (first, next, eq, v, (none, (f, is, h))))) =
      subst (λ (x : ClusterError). Unanswered x acts) (sym is) (forward_refusal now old new f view acts (has_first (looked (Ok view)) acts first next eq v) k o h)
  look_refused now old new e acts k o (inr (Err n, (first, next, eq, v, p))) =
      let is : e ≡ error.Memory = (let same : Err e ≡ Err error.Memory = p.1 in cc) in
      let seen : Contains acts (looked (Err n)) = has_first (looked (Err n)) acts first next eq v.0 in
      subst (λ (x : ClusterError). Unanswered x acts) (sym is) (IsUnanswered.no_view (subst (λ (x : NodeError). Contains acts (looked (Err x))) v.1 seen))

  looked_up : (now : ℕ) (old new : AttemptState) (plan : Viewed H × Step) (acts : List (Act H)) → LooksUp hash_of now old new (Ok plan) acts
      → Contains acts (looked (Ok plan.0)) × ReadyStep hash_of plan.0 now old (Ok plan.1) new
  looked_up now old new plan acts (inl h) = absurd h
  looked_up now old new plan acts (inr (Ok view, (first, next, eq, v, (none, is, h)))) =
      subst (λ (x : Viewed H). Contains acts (looked (Ok x)) × ReadyStep hash_of x now old (Ok plan.1) new) (sym is)
      (has_first (looked (Ok view)) acts first next eq v, h)
  looked_up now old new plan acts (inr (Err n, (first, next, eq, v, p))) = absurd (let no : Ok plan ≡ Err error.Memory = p.1 in cc)

  handled_as_asked : (ks : List (List ℕ)) (b : List ℕ) (r : Result (List ℕ) ClusterError) → ks ≡ keys → b ≡ body → IsHandled Handled ks b r → IsHandled Handled keys body r
  handled_as_asked ks b r k e h =
      subst (λ (x : List ℕ). IsHandled Handled keys x r) e (subst (λ (x : List (List ℕ)). IsHandled Handled x b r) k h)

module _ {H : Type 0} (hash_of : H → List ℕ → ℕ) (Came : MayAnswer) (Handled : MayHandle) (Time : Times) (keys : List (List ℕ)) (body : List ℕ) where
  abbrev Tried_so : Result Tried ClusterError → OfActs H
  Tried_so = TrySo hash_of Came Handled keys body

  here_so : (request : Request) (view : Viewed H) (r : Result Tried ClusterError) (acts xs ys : List (Act H)) → acts ≡ xs ++ ys
      → Owns hash_of Came Handled keys body view view.own acts → request.attempt.keys ≡ keys → request.body ≡ body
      → CarriesOut Came Handled Time request (view, Here) r ys → Tried_so r acts
  here_so request view (Ok t) acts xs ys e o k b (inl h) = absurd h
  here_so request view (Err x) acts xs ys e o k b (inl h) =
      handler_refusal hash_of Came Handled keys body x view acts o (handled_as_asked hash_of Came Handled keys body request.attempt.keys request.body (Err x) k b h.1)
  here_so request view r acts xs ys e o k b (inr (text, (first, next, eq, h, g))) =
      subst (λ (x : Result Tried ClusterError). Tried_so x acts) (sym g.1)
      (inl (view, o, handled_as_asked hash_of Came Handled keys body request.attempt.keys request.body (Ok text) k b h.1))

  asked_for : (view : Viewed H) (owner : Address) (ks : List (List ℕ)) (b : List ℕ) (answer : Result Message LinkError)
      → ks ≡ keys → b ≡ body → Came owner (message_from view (content.Forward ks b)) answer → Came owner (message_from view (content.Forward keys body)) answer
  asked_for view owner ks b answer k e c =
      subst (λ (m : Message). Came owner m answer)
      (ap (λ (x : List (List ℕ)). message_from view (content.Forward x b)) k ∙ ap (λ (x : List ℕ). message_from view (content.Forward keys x)) e) c

  send_so : (request : Request) (view : Viewed H) (owner : Address) (r : Result Tried ClusterError) (acts xs ys : List (Act H)) → acts ≡ xs ++ ys
      → Owns hash_of Came Handled keys body view owner acts → owner ≢ view.own → request.attempt.keys ≡ keys → request.body ≡ body → request.attempt.stage ≡ stage.InFlight
      → CarriesOut Came Handled Time request (view, Send owner) r ys → Tried_so r acts
  send_so request view owner r acts xs ys e o ne k b flies (none, (answer, came, (now, told, h))) =
      judged_so hash_of Came Handled keys body now request answer r acts k b flies
      (view, owner, o, ne, asked_for view owner request.attempt.keys request.body answer k b came) h

  carried : (now : ℕ) (old : AttemptState) (request : Request) (view : Viewed H) (step : Step) (r : Result Tried ClusterError) (acts xs ys : List (Act H)) → acts ≡ xs ++ ys
      → Contains acts (looked (Ok view)) → old.keys ≡ keys → IsOpen old.stage → request.body ≡ body → ReadyStep hash_of view now old (Ok step) request.attempt
      → CarriesOut Came Handled Time request (view, step) r ys → Tried_so r acts
  carried now old request view (Wait until) r acts xs ys e c k o b h p =
      subst (λ (x : Result Tried ClusterError). Tried_so x acts) (sym p.1.1)
      (ap (λ (a : AttemptState). a.keys) h.3 ∙ k, b, subst (λ (a : AttemptState). IsOpen a.stage) (sym h.3) o)
  carried now old request view Here r acts xs ys e c k o b h p =
      here_so request view r acts xs ys e (c, subst (λ (ks : List (List ℕ)). AllOwnedBy hash_of view ks (Some view.own)) k h.1)
      (ap (λ (a : AttemptState). a.keys) h.2 ∙ k) b p
  carried now old request view (Send owner) r acts xs ys e c k o b h p =
      send_so request view owner r acts xs ys e (c, subst (λ (ks : List (List ℕ)). AllOwnedBy hash_of view ks (Some owner)) k h.1) h.2
      (ap (λ (a : AttemptState). a.keys) h.3 ∙ k) b (ap (λ (a : AttemptState). a.stage) h.3) p

  try_so : (request : Request) (r : Result Tried ClusterError) (acts : List (Act H)) → request.attempt.keys ≡ keys → request.body ≡ body → IsOpen request.attempt.stage
      → TriesOnce hash_of Came Handled Time request r acts → Tried_so r acts
  try_so request (Ok t) acts k b o (now, told, (attempt, inl h)) = absurd h
  try_so request (Err e) acts k b o (now, told, (attempt, inl h)) = look_refused hash_of Came Handled keys body now request.attempt attempt e acts k o h
  try_so request r acts k b o (now, told, (attempt, inr ((view, step), (first, next, eq, l, p)))) =
      let seen : Contains first (looked (Ok view)) × ReadyStep hash_of view now request.attempt (Ok step) attempt =
      looked_up hash_of Came Handled keys body now request.attempt attempt (view, step) first l in
      let among : Contains acts (looked (Ok view)) =
      subst (λ (zs : List (Act H)). Contains zs (looked (Ok view))) (sym eq) (Contains-append_left first next (looked (Ok view)) seen.0) in
      carried now request.attempt (record { attempt = attempt; body = request.body }) view step r acts first next eq among k o b seen.1 p

  ended_so : (x : Tried) (text : List ℕ) (acts : List (Act H)) → way_of_try x ≡ ended text → Tried_so (Ok x) acts → IsAnswered hash_of Came Handled keys body text acts
  ended_so (Answered t) text acts e w = let same : t ≡ text = cc in subst (λ (y : List ℕ). IsAnswered hash_of Came Handled keys body y acts) same w
  ended_so (Again back) text acts e w = cc

  goes_so : (x : Tried) (t : Request) (acts : List (Act H)) → way_of_try x ≡ onward t → Tried_so (Ok x) acts
      → (t.attempt.keys ≡ keys) × (t.body ≡ body) × IsOpen t.attempt.stage
  goes_so (Answered text) t acts e w = cc
  goes_so (Again back) t acts e w =
      let same : back ≡ t = cc in subst (λ (y : Request). (y.attempt.keys ≡ keys) × (y.body ≡ body) × IsOpen y.attempt.stage) same w

  -- what the whole comes to
  abbrev CameTo : Result (List ℕ) ClusterError → OfActs H
  CameTo (Ok text) acts = IsAnswered hash_of Came Handled keys body text acts
  CameTo (Err e) acts = IsUnanswered hash_of Came Handled keys body e acts

  came_later : (r : Result (List ℕ) ClusterError) (xs ys : List (Act H)) → CameTo r ys → CameTo r (xs ++ ys)
  came_later (Ok text) xs ys w = answered_later hash_of Came Handled keys body text xs ys w
  came_later (Err e) xs ys w = unanswered_later hash_of Came Handled keys body e xs ys w

  tries_so : (u : Request) (r : Result (List ℕ) ClusterError) (acts : List (Act H)) → Until (TriesOnce hash_of Came Handled Time) way_of_try u r acts
      → u.attempt.keys ≡ keys → u.body ≡ body → IsOpen u.attempt.stage → CameTo r acts
  tries_so u r acts (Until.ends {acts = xs} x text p e) k b o = ended_so x text xs e (try_so u (Ok x) xs k b o p)
  tries_so u r acts (Until.stops {acts = xs} e p) k b o = try_so u (Err e) xs k b o p
  tries_so u r acts (Until.goes_on {r = q} {first = xs} {rest = ys} x t p e more) k b o =
      let next : (t.attempt.keys ≡ keys) × (t.body ≡ body) × IsOpen t.attempt.stage = goes_so x t xs e (try_so u (Ok x) xs k b o p) in
      came_later q xs ys (tries_so t q ys more next.0 next.1 next.2)

pub requests_rest : {H : Type 0} (hash_of : H → List ℕ → ℕ) (Came : MayAnswer) (Handled : MayHandle) (Time : Times) → RequestsRest hash_of Came Handled Time
requests_rest hash_of Came Handled Time keys body (Ok text) acts p = (tries_so hash_of Came Handled Time keys body _ (Ok text) acts p refl refl tt, tt)
requests_rest hash_of Came Handled Time keys body (Err e) acts p = (tt, tries_so hash_of Came Handled Time keys body _ (Err e) acts p refl refl tt)
