-- How often a handler is called for a message and for a request.
use Rattle.std.proofs.Common.{◌≡◌, ◌≢◌, ◌∙◌, ℕ, ◌<◌, Bool, true, false, cond, refl, sym, ap, subst, inl, inr, arith, rules, Some, None, Result, Ok, Err, List, [], ◌∷◌, ◌++◌, length, append-nil}
use Rattle.std.specs.Prelude.{◌⊎◌, ◌==◌, Contains}
use Rattle.std.proofs.lemmas.Bool.{eqb-true}
use Rattle.std.proofs.lemmas.List.Elements.{All-nil, Contains-append_cases, Contains-push_cases}
use Rattle.change_core.specs.declared.addresses.Address.{Address}
use Rattle.message_core.specs.declared.kinds.Reason.TheVariants as reason
use Rattle.message_core.specs.declared.messages.Content.{Content}
use Rattle.message_core.specs.declared.messages.Content.TheVariants as content
use Rattle.message_core.specs.declared.messages.Message.{Message}
use Rattle.node_core.specs.declared.events.Event.TheVariants as call
use Rattle.node_core.specs.declared.events.Reply.TheVariants as reply
use Rattle.node_core.specs.Calls.{OfEvent, OfView, WithView}
use Rattle.node_core.specs.Viewing.{Viewed}
use Rattle.forward_core.specs.declared.errors.ForwardError.{ForwardError}
use Rattle.forward_core.specs.declared.errors.ForwardError.TheVariants as refusal
use Rattle.forward_core.specs.declared.routes.Route.{Route}
use Rattle.forward_core.specs.declared.routes.Route.TheVariants as route
use Rattle.forward_core.specs.Attempts.{most_sends}
use Rattle.forward_core.specs.Routes.{AllOwnedBy, IsRouteOf, route_to}
use Rattle.forward_core.proofs.DecidedLaws.{routes_are_one}
use Rattle.peer_core.specs.declared.errors.ClusterError.{ClusterError}
use Rattle.peer_core.specs.declared.errors.ClusterError.TheVariants as error
use Rattle.peer_core.specs.Acts.{Act, did, looked}
use Rattle.peer_core.specs.Forwarding.{IsFailure}
use Rattle.peer_core.specs.Handling.{Handled, MayHandle, between, handled_shared, shared}
use Rattle.peer_core.specs.Handlings.{Ends, FailsOver, IsHandledSo, OwnsAll, RequestsHandled, ServingsHandled}
use Rattle.peer_core.specs.Links.{MayAnswer, Went}
use Rattle.peer_core.specs.Resending.{EndsBy, Failed, Sending}
use Rattle.peer_core.specs.Serving.{Forwards, IsRouted, Says, Serves, message_from}
use Rattle.peer_core.proofs.Resent.{failed_count}
use Rattle.peer_core.proofs.Served.{serves_as}
use Rattle.peer_core.proofs.Servings.{has_first}

-- an act that is another than the only one, or that is in neither part, is not among them
not_one : {H : Type 0} (act other : Act H) (acts : List (Act H)) → acts ≡ act ∷ [] → (act ≡ other → ⊥) → Contains acts other → ⊥
not_one act other acts just differ has = go (Contains-push_cases [] act other (subst (λ (xs : List (Act _)). Contains xs other) just has))
  where
    go : Contains [] other ⊎ (act ≡ other) → ⊥
    go (inl (k, lt, is)) = absurd (omega arith)
    go (inr e) = differ e

not_none : {H : Type 0} (other : Act H) (acts : List (Act H)) → acts ≡ [] → Contains acts other → ⊥
not_none other acts none has = go (subst (λ (xs : List (Act _)). Contains xs other) none has)
  where
    go : Contains [] other → ⊥
    go (k, lt, is) = absurd (omega arith)

not_both : {H : Type 0} (other : Act H) (acts xs ys : List (Act H)) → acts ≡ xs ++ ys → (Contains xs other → ⊥) → (Contains ys other → ⊥) → Contains acts other → ⊥
not_both other acts xs ys e in_xs in_ys has = go (Contains-append_cases xs ys other (subst (λ (zs : List (Act _)). Contains zs other) e has))
  where
    go : Contains xs other ⊎ Contains ys other → ⊥
    go (inl h) = in_xs h
    go (inr h) = in_ys h

-- the route of a node's own keys
is_own : (a own : Address) → route.Here ≡ route_to (Some a) own → a ≡ own
is_own a own e = eqb-true a own (go (a == own) refl e)
  where
    go : (b : Bool) → (a == own) ≡ b → route.Here ≡ cond b route.Here (route.To a) → (a == own) ≡ true
    go true is h = is
    go false is h = cc

module _ {H : Type 0} (hash_of : H → List ℕ → ℕ) (keys : List (List ℕ)) where
  leads_here : (view : Viewed H) → AllOwnedBy hash_of view keys (Some view.own) → IsRouteOf hash_of view keys (Ok route.Here)
  leads_here view owned =
      let same : (view.own == view.own) ≡ true = search rules in (Some view.own, owned, sym (ap (λ (b : Bool). cond b route.Here (route.To view.own)) same))

  pub here_owns : (view : Viewed H) → IsRouteOf hash_of view keys (Ok route.Here) → AllOwnedBy hash_of view keys (Some view.own)
  here_owns view (None, owned, is) = absurd cc
  here_owns view (Some a, owned, is) = subst (λ (o : Address). AllOwnedBy hash_of view keys (Some o)) (is_own a view.own is) owned

  -- by the only view the keys are not the node's
  not_owned : (view : Viewed H) (way : Result Route ForwardError) (acts : List (Act H)) → acts ≡ looked (Ok view) ∷ [] → IsRouteOf hash_of view keys way
      → (way ≡ Ok route.Here → ⊥) → 0 < length keys → OwnsAll hash_of keys acts → ⊥
  not_owned view way acts just leads away some (other, has, owned) = go (Contains-push_cases [] (looked (Ok view)) (looked (Ok other))
      (subst (λ (xs : List (Act H)). Contains xs (looked (Ok other))) just has))
    where
      here : other ≡ view → ⊥
      here e = away (routes_are_one hash_of view keys way (Ok route.Here) some leads
          (leads_here view (subst (λ (v : Viewed H). AllOwnedBy hash_of v keys (Some v.own)) e owned)))

      go : Contains [] (looked (Ok other)) ⊎ (looked (Ok view) ≡ looked (Ok other)) → ⊥
      go (inl (k, lt, is)) = absurd (omega arith)
      go (inr e) = let inner : WithView (Ok view) ≡ WithView (Ok other) = ap (λ (a : Act H). a.1) e in here cc

module _ {H A : Type 0} (hash_of : H → List ℕ → ℕ) (handled : Handled A) (keys : List (List ℕ)) (body : List ℕ) (was is : A) where
  routed_so : (view : Viewed H) (way : Result Route ForwardError) (r : Result Message ClusterError) (told : Content) (acts : List (Act H))
      → acts ≡ looked (Ok view) ∷ [] → Contains acts (looked (Ok view)) → IsRouteOf hash_of view keys way → r ≡ Ok (message_from view told)
      → IsRouted (between handled was is) keys body way told → IsHandledSo hash_of handled (content.Forward keys body) r was is acts
  routed_so view (Ok route.Here) r told acts just has leads made (answer, called, same) =
      inl ((view, has, here_owns hash_of keys view leads), (answer, called, (message_from view told, made, same)))
  routed_so view (Ok (route.To owner)) r told acts just has leads made h =
      inr (h.0, λ some owns. not_owned hash_of keys view (Ok (route.To owner)) acts just leads (λ e. absurd cc) some owns)
  routed_so view (Ok route.Nobody) r told acts just has leads made h =
      inr (h.0, λ some owns. not_owned hash_of keys view (Ok route.Nobody) acts just leads (λ e. absurd cc) some owns)
  routed_so view (Err refusal.Diverged) r told acts just has leads made h =
      inr (h.0, λ some owns. not_owned hash_of keys view (Err refusal.Diverged) acts just leads (λ e. absurd cc) some owns)
  routed_so view (Err refusal.Nobody) r told acts just has leads made h = absurd h
  routed_so view (Err refusal.RetriesSpent) r told acts just has leads made h = absurd h
  routed_so view (Err refusal.InFlight) r told acts just has leads made h = absurd h
  routed_so view (Err refusal.NotInFlight) r told acts just has leads made h = absurd h

  -- nor are they without a view
  says_unseen : (told : Content) (r : Result Message ClusterError) (acts : List (Act H)) (view : Viewed H) → Says told r acts → Contains acts (looked (Ok view)) → ⊥
  says_unseen told (Ok m) acts view (inl h) has = absurd h
  says_unseen told (Err e) acts view (inl h) has = not_none (looked (Ok view)) acts h.0 has
  says_unseen told r acts view (inr (own, (xs, ys, e, just, gives))) has =
      not_both (looked (Ok view)) acts xs ys e (not_one (did call.Own (reply.Own own)) (looked (Ok view)) xs just
      (λ same. let inner : OfEvent call.Own ≡ OfView = ap (λ (a : Act H). a.0) same in absurd cc)) (not_none (looked (Ok view)) ys gives.0) has

  forwards_so : (r : Result Message ClusterError) (acts : List (Act H)) → Forwards hash_of (between handled was is) keys body r acts
      → IsHandledSo hash_of handled (content.Forward keys body) r was is acts
  forwards_so (Ok m) acts (inl h) = absurd h
  forwards_so (Err e) acts (inl (never, (none, lock))) = inr (never, λ some owns. not_none (looked (Ok owns.0)) acts none owns.1)
  forwards_so r acts (inr (Ok view, (first, next, e, seen, (told, decided, gives)))) =
      let just : acts ≡ looked (Ok view) ∷ [] = e ∙ ap (λ (xs : List (Act H)). xs ++ next) seen ∙ ap (λ (ys : List (Act H)). (looked (Ok view) ∷ []) ++ ys) gives.0 in
      routed_so view decided.0 r told acts just (has_first (looked (Ok view)) acts first next e seen) decided.1 gives.1 decided.2
  forwards_so r acts (inr (Err n, (first, next, e, seen, (never, says)))) =
      inr (
        never,
        λ some owns. not_both (looked (Ok owns.0)) acts first next e (not_one (looked (Err n)) (looked (Ok owns.0)) first seen.0
            (λ same. let inner : WithView (Err n) ≡ WithView (Ok owns.0) = ap (λ (a : Act H). a.1) same in absurd cc))
            (says_unseen (content.Refused reason.Memory) r next owns.0 says) owns.1,
      )

pub servings_handled : {H A : Type 0} (hash_of : H → List ℕ → ℕ) (Came : MayAnswer) (handled : Handled A) → ServingsHandled hash_of handled Came
servings_handled {H} {A} hash_of Came handled message now r was is acts p = by_content message.content p
  where
    by_content : (c : Content) → Serves hash_of Came (between handled was is) message now c r acts → IsHandledSo hash_of handled c r was is acts
    by_content (content.Join news) h = h.0
    by_content (content.Ping news) h = h.0
    by_content (content.PingReq news target) h = h.0
    by_content (content.Forward keys body) h = forwards_so hash_of handled keys body was is r acts h
    by_content (content.Joined news) h = h.0
    by_content (content.Ack news) h = h.0
    by_content (content.PingReqAck news target reached) h = h.0
    by_content (content.Reply body) h = h.0
    by_content content.NotOwner h = h.0
    by_content (content.Refused why) h = h.0

-- a shared handler is unchanged
pub serves_shared : {H A : Type 0} (hash_of : H → List ℕ → ℕ) (Came : MayAnswer) (Handles : A → MayHandle) (start is : A) (message : Message) (now : ℕ)
    (r : Result Message ClusterError) (acts : List (Act H)) → Serves hash_of Came (between (handled_shared Handles) start is) message now message.content r acts
    → (is ≡ start) × Serves hash_of Came (shared (Handles start)) message now message.content r acts
serves_shared hash_of Came Handles start is message now r acts h = (
  unmoved message.content (servings_handled hash_of Came (handled_shared Handles) message now r start is acts h),
  serves_as hash_of (between (handled_shared Handles) start is) (shared (Handles start)) (λ keys body answer called. called.1) (λ never. tt) Came message now message.content r acts h,
)
  where
    unmoved : (c : Content) → IsHandledSo hash_of (handled_shared Handles) c r start is acts → is ≡ start
    unmoved (content.Join news) e = e
    unmoved (content.Ping news) e = e
    unmoved (content.PingReq news target) e = e
    unmoved (content.Forward keys body) (inl (owns, (answer, called, made))) = called.0
    unmoved (content.Forward keys body) (inr (e, away)) = e
    unmoved (content.Joined news) e = e
    unmoved (content.Ack news) e = e
    unmoved (content.PingReqAck news target reached) e = e
    unmoved (content.Reply body) e = e
    unmoved content.NotOwner e = e
    unmoved (content.Refused why) e = e

module _ {L H A : Type 0} (hash_of : H → List ℕ → ℕ) (went : Went L) (handled : Handled A) (keys : List (List ℕ)) (body : List ℕ) where
  -- the Forwards that failed, by views among these acts, and so among more
  failures : (n : ℕ) (old new : L) (acts more : List (Act H)) → Failed hash_of went keys body n old new acts
      → (failed : List (Sending H)) × (length failed ≡ n) × FailsOver hash_of went keys body failed old new (acts ++ more)
  failures n old new acts more h =
      let (failed, many, counted, all) = failed_count hash_of went keys body n old new new acts more [] h (record { part = tt; failed = tt; over = refl }) in
      (failed, omega (arith, many), (counted.part, all (All-nil IsFailure), counted.over))

  failures_alone : (n : ℕ) (old new : L) (acts : List (Act H)) → Failed hash_of went keys body n old new acts
      → (failed : List (Sending H)) × (length failed ≡ n) × FailsOver hash_of went keys body failed old new acts
  failures_alone n old new acts h =
      let (failed, many, over) = failures n old new acts [] h in
      (failed, many, subst (λ (zs : List (Act H)). FailsOver hash_of went keys body failed old new zs) (append-nil acts) over)

  ends_so : (r : Result (List ℕ) ClusterError) (was is : A) (n : ℕ) (old mid new : L) (acts xs ys : List (Act H)) → acts ≡ xs ++ ys → n < most_sends
      → Failed hash_of went keys body n old mid xs → EndsBy hash_of went handled keys body r was is mid new ys
      → Ends hash_of went handled keys body r was is old new acts
  ends_so r was is n old mid new acts xs ys e few h (EndsBy.by_error why refused) =
      let (failed, many, over) = failures n old mid xs ys h in (
        failed,
        mid,
        inr (
          why,
          refl,
          refl,
          refl,
          subst (λ (zs : List (Act H)). FailsOver hash_of went keys body failed old mid zs) (sym e) over,
          inr (refused, omega (arith, few, many)),
        ),
      )
  ends_so r was is n old mid new acts xs ys e few h (EndsBy.by_handler answer (view, just, owned, called) same) =
      let (failed, many, over) = failures_alone n old mid xs h in
      (failed, mid, inl (omega (arith, few, many), (xs, ys, e, over, (view, just, inl (owned, (answer, called, same), refl)))))
  ends_so r was is n old mid new acts xs ys e few h (EndsBy.by_owner view answer just gone is_so) =
      let (failed, many, over) = failures_alone n old mid xs h in
      (failed, mid, inl (omega (arith, few, many), (xs, ys, e, over, (view, just, inr (refl, (answer, gone, is_so))))))

pub requests_handled : {L H A : Type 0} (hash_of : H → List ℕ → ℕ) (went : Went L) (handled : Handled A) → RequestsHandled hash_of went handled
requests_handled hash_of went handled keys body (Err error.RetriesSpent) was is old new acts h =
    let (failed, many, over) = failures_alone hash_of went handled keys body most_sends old new acts h.1 in
    (failed, new, inr (error.RetriesSpent, refl, h.0, refl, over, inl (refl, many)))
requests_handled hash_of went handled keys body r was is old new acts (n, lt, (mid, (xs, ys, e, failed, ends))) =
    ends_so hash_of went handled keys body r was is n old mid new acts xs ys e lt failed ends
