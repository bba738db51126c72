-- A request of one handler is one of another that admits the same results and more.
use Rattle.std.proofs.Common.{ℕ, List, Result, Ok, Err, inl, inr}
use Rattle.node_core.specs.Viewing.{Viewed}
use Rattle.forward_core.specs.declared.attempts.Step.{Step}
use Rattle.forward_core.specs.declared.attempts.Step.TheVariants.{Here, Send, Wait}
use Rattle.peer_core.specs.declared.errors.ClusterError.{ClusterError}
use Rattle.peer_core.specs.declared.errors.ClusterError.TheVariants as error
use Rattle.peer_core.specs.declared.errors.HandlerFault.{HandlerFault}
use Rattle.peer_core.specs.declared.errors.HandlerFault.TheVariants as fault
use Rattle.peer_core.specs.Acts.{Act}
use Rattle.peer_core.specs.Forwarding.{CarriesOut, IsHandled, IsRequest, Times, TriesOnce, way_of_try}
use Rattle.peer_core.specs.Handling.{MayHandle}
use Rattle.peer_core.specs.Links.{MayAnswer}
use Rattle.peer_core.specs.Parts.{Until}

module _ {H : Type 0} (hash_of : H → List ℕ → ℕ) (Came : MayAnswer) (One Other : MayHandle) (Time : Times) (says : (keys : List (List ℕ)) (body : List ℕ) (answer : Result (List ℕ) HandlerFault) → One keys body answer → Other keys body answer) where
  handled_as : (keys : List (List ℕ)) (body : List ℕ) (r : Result (List ℕ) ClusterError) → IsHandled One keys body r → IsHandled Other keys body r
  handled_as keys body (Ok text) h = says keys body (Ok text) h
  handled_as keys body (Err error.HandlerFault) h = says keys body (Err fault.Failed) h
  handled_as keys body (Err error.Memory) h = says keys body (Err fault.Memory) h
  handled_as keys body (Err e) h = absurd h

  carried_as : (request : _) (view : Viewed H) (step : Step) (r : Result _ ClusterError) (acts : List (Act H))
      → CarriesOut Came One Time request (view, step) r acts → CarriesOut Came Other Time request (view, step) r acts
  carried_as request view (Wait until) r acts h = h
  carried_as request view (Send owner) r acts h = h
  carried_as request view Here (Ok tried) acts (inl h) = absurd h
  carried_as request view Here (Err e) acts (inl h) = inl (h.0, handled_as request.attempt.keys request.body (Err e) h.1)
  carried_as request view Here r acts (inr (text, (first, next, all, h, gives))) =
      inr (text, (first, next, all, (h.0, handled_as request.attempt.keys request.body (Ok text) h.1), gives))

  tried_as : (request : _) (r : Result _ ClusterError) (acts : List (Act H)) → TriesOnce hash_of Came One Time request r acts → TriesOnce hash_of Came Other Time request r acts
  tried_as request r acts (now, told, (attempt, inl h)) = (now, told, (attempt, inl h))
  tried_as request r acts (now, told, (attempt, inr ((view, step), (first, next, all, looked, h)))) =
      (now, told, (attempt, inr ((view, step), (first, next, all, looked, carried_as (record { attempt = attempt; body = request.body }) view step r next h))))

  requested_from : (request : _) (r : Result (List ℕ) ClusterError) (acts : List (Act H)) → Until (TriesOnce hash_of Came One Time) way_of_try request r acts
      → Until (TriesOnce hash_of Came Other Time) way_of_try request r acts
  requested_from request r acts (Until.ends {acts = xs} x text h is) = Until.ends x text (tried_as request (Ok x) xs h) is
  requested_from request r acts (Until.stops {acts = xs} e h) = Until.stops e (tried_as request (Err e) xs h)
  requested_from request r acts (Until.goes_on {r = q} {first = xs} {rest = ys} x next h is more) =
      Until.goes_on x next (tried_as request (Ok x) xs h) is (requested_from next q ys more)

  -- what is requested of one handler is requested as of the other
  pub requested_as : (keys : List (List ℕ)) (body : List ℕ) (r : Result (List ℕ) ClusterError) (acts : List (Act H)) → IsRequest hash_of Came One Time keys body r acts
      → IsRequest hash_of Came Other Time keys body r acts
  requested_as keys body r acts h = requested_from _ r acts h
