-- What is served, put together from its calls.
use Rattle.std.proofs.Common.{◌≡◌, ◌≢◌, ℕ, Bool, false, is_ok, refl, sym, subst, inl, inr, List, Option, Result, Ok, Err}
use Rattle.change_core.specs.declared.addresses.Address.{Address}
use Rattle.node_core.specs.declared.errors.NodeError.{NodeError}
use Rattle.node_core.specs.declared.errors.NodeError.TheVariants as node
use Rattle.node_core.specs.declared.events.Event.TheVariants as call
use Rattle.node_core.specs.declared.events.Reply.TheVariants as reply
use Rattle.turn_lock.specs.declared.errors.LockError.{LockError}
use Rattle.message_core.specs.declared.kinds.Reason.{Reason}
use Rattle.message_core.specs.declared.kinds.Reason.TheVariants as reason
use Rattle.message_core.specs.declared.messages.Content.{Content}
use Rattle.message_core.specs.declared.messages.Content.TheVariants as content
use Rattle.message_core.specs.declared.messages.Content.TheVariants.{Refused}
use Rattle.message_core.specs.declared.messages.Message.{Message}
use Rattle.message_core.specs.declared.messages.News.{News}
use Rattle.node_core.specs.Calls.{CallStep, OfEvent, OfView, WithReply, WithView}
use Rattle.node_core.specs.Node.{Node}
use Rattle.node_core.specs.Viewing.{Viewed}
use Rattle.locked_node.specs.declared.node.LockedNode.{LockedNode}
use Rattle.locked_node.specs.Passes.{NodePass, IsCalled, Refuses}
use Rattle.forward_core.specs.declared.errors.ForwardError.{ForwardError}
use Rattle.forward_core.specs.declared.errors.ForwardError.TheVariants as refusal
use Rattle.forward_core.specs.declared.routes.Route.{Route}
use Rattle.forward_core.specs.declared.routes.Route.TheVariants as route
use Rattle.peer_core.specs.declared.errors.ClusterError.{ClusterError}
use Rattle.peer_core.specs.declared.errors.HandlerFault.{HandlerFault}
use Rattle.peer_core.specs.declared.hearing.Heard.{Heard}
use Rattle.peer_core.specs.Acts.{Act}
use Rattle.peer_core.specs.Asking.{Pinged}
use Rattle.peer_core.specs.Errors.{error_of_lock}
use Rattle.peer_core.specs.Handling.{Handlings}
use Rattle.peer_core.specs.Links.{MayAnswer}
use Rattle.peer_core.specs.Parts.{Part, Asks, Does, Next}
use Rattle.peer_core.specs.Serving.{message_from, Decides, FailsUnhandled, Forwards, IsDecided, IsRouted, PassesOn, Reaches, Says, Seeks, GivesMade, Serves, TellsRequester, Unhandled, Views}
use Rattle.peer_core.proofs.Acts.{makes_as, makes_one}
use Rattle.peer_core.proofs.Parts.{does_give, does_part, locked_out}

module _ {H : Type 0} where
  -- the node refuses a view and an answer only if memory ran out
  no_view : (hash_of : H → List ℕ → ℕ) (old new : Node H) (n : NodeError) → CallStep hash_of old OfView (WithView (Err n)) new → n ≡ node.Memory
  no_view hash_of old new node.Memory s = refl
  no_view hash_of old new (node.BadConfig field) s = absurd s.0
  no_view hash_of old new node.Exhausted s = absurd s.0
  no_view hash_of old new node.Full s = absurd s.0
  no_view hash_of old new node.AlreadyLeft s = absurd s.0
  no_view hash_of old new node.NotLeft s = absurd s.0
  no_view hash_of old new node.Busy s = absurd s.0
  no_view hash_of old new node.Spent s = absurd s.0
  no_view hash_of old new node.StaleProbe s = absurd s.0
  no_view hash_of old new node.NotAsked s = absurd s.0

  no_answer : (hash_of : H → List ℕ → ℕ) (old new : Node H) (requester target : Address) (reached : Bool) (n : NodeError)
      → CallStep hash_of old (OfEvent (call.PingReqAckTo requester target reached)) (WithReply (reply.PingReqAckTo (Err n))) new → n ≡ node.Memory
  no_answer hash_of old new requester target reached node.Memory s = refl
  no_answer hash_of old new requester target reached (node.BadConfig field) s = absurd s
  no_answer hash_of old new requester target reached node.Exhausted s = absurd s
  no_answer hash_of old new requester target reached node.Full s = absurd s
  no_answer hash_of old new requester target reached node.AlreadyLeft s = absurd s
  no_answer hash_of old new requester target reached node.NotLeft s = absurd s
  no_answer hash_of old new requester target reached node.Busy s = absurd s
  no_answer hash_of old new requester target reached node.Spent s = absurd s
  no_answer hash_of old new requester target reached node.StaleProbe s = absurd s
  no_answer hash_of old new requester target reached node.NotAsked s = absurd s

  pub sends_nothing : {hash_of : H → List ℕ → ℕ} {locked : LockedNode H} {p q s : NodePass H} {r : Result Message ClusterError}
      (requester target : Address) (reached : Bool) (made : Result Message NodeError) (n : NodeError) → made ≡ Err n
      → IsCalled hash_of locked p q (OfEvent (call.PingReqAckTo requester target reached)) (WithReply (reply.PingReqAckTo made))
      → Does locked (Says (Refused reason.Memory)) r q s → Does locked (GivesMade (Err n)) r q s
  sends_nothing {hash_of = hash_of} {locked = locked} {q = q} {s = s} {r = r} requester target reached made n is c d =
      let step : CallStep hash_of c.before (OfEvent (call.PingReqAckTo requester target reached)) (WithReply (reply.PingReqAckTo (Err n))) c.after =
      subst
      (λ (x : Result Message NodeError).
      CallStep hash_of c.before (OfEvent (call.PingReqAckTo requester target reached)) (WithReply (reply.PingReqAckTo x)) c.after)
      is c.step in
      subst (λ (x : NodeError). Does locked (GivesMade (Err x)) r q s) (sym (no_answer hash_of c.before c.after requester target reached n step)) d

  -- a view was asked for; the same where the lock refused it
  pub did_view : {hash_of : H → List ℕ → ℕ} {locked : LockedNode H} {p q : NodePass H} (view : Result (Viewed H) NodeError)
      → IsCalled hash_of locked p q OfView (WithView view) → Does locked Views (Ok view) p q
  did_view (Ok view) c = record { makes = makes_one c; barred = tt }
  did_view {hash_of = hash_of} (Err n) c = record {
    makes = makes_as (Views (Ok (Err n))) (λ acts j. (j, no_view hash_of c.before c.after n c.step)) (makes_one c);
    barred = tt;
  }

  pub barred_view : {locked : LockedNode H} {p q : NodePass H} (l : LockError)
      → (q ≡ p) × Refuses locked p l → Does locked Views (Err (error_of_lock l)) p q
  barred_view l h = locked_out Views l h (λ acts n. n)

  -- the handler was not called meanwhile
  pub does_unhandled : {A : Type 0} {locked : LockedNode H} {p q : NodePass H} {r : Result A ClusterError} (Handled : Handlings) (P : Part H A) → Handled.never
      → Does locked P r p q → Does locked (Unhandled Handled P) r p q
  does_unhandled Handled P never d = does_part (Unhandled Handled P) (λ acts h. (never, h)) d

  pub fails_unhandled : {A : Type 0} {locked : LockedNode H} {p q : NodePass H} (Handled : Handlings) (P : Part H A) (e : ClusterError) → Handled.never
      → Does locked P (Err e) p q → Does locked (FailsUnhandled Handled P) (Err e) p q
  fails_unhandled Handled P e never d = record { makes = makes_as (FailsUnhandled Handled P (Err e)) (λ acts h. (never, h)) d.makes; barred = d.barred }

  -- or what it came to is not known yet
  pub may_be_handled : {A : Type 0} {locked : LockedNode H} {p q : NodePass H} (Handled : Handlings) (P : Part H A) (a : A)
      → Does locked P (Ok a) p q → Does locked (FailsUnhandled Handled P) (Ok a) p q
  may_be_handled Handled P a d = record { makes = d.makes; barred = tt }

  -- what is refused for a reason is refused for the one that it is known by
  pub refuses_as : {locked : LockedNode H} {p q : NodePass H} {r : Result Message ClusterError} (why known : Reason)
      → why ≡ known → Does locked (Says (Refused why)) r p q → Does locked (Says (Refused known)) r p q
  refuses_as {locked = locked} {p = p} {q = q} {r = r} why known e d = subst (λ (x : Reason). Does locked (Says (Refused x)) r p q) e d

  -- what is known of the heard, and of the found
  pub seeks_as : (now : ℕ) (heard known : Heard) {locked : LockedNode H} {p q : NodePass H} {r : Result (Option Bool) ClusterError}
      → heard ≡ known → Does locked (Seeks now known) r p q → Does locked (Seeks now heard) r p q
  seeks_as now heard known {locked = locked} {p = p} {q = q} {r = r} e d = subst (λ (x : Heard). Does locked (Seeks now x) r p q) (sym e) d

  pub tells_as : (requester target : Address) (found known : Option Bool) {locked : LockedNode H} {p q : NodePass H} {r : Result Message ClusterError}
      → found ≡ known → Does locked (TellsRequester requester target known) r p q → Does locked (TellsRequester requester target found) r p q
  tells_as requester target found known {locked = locked} {p = p} {q = q} {r = r} e d =
      subst (λ (x : Option Bool). Does locked (TellsRequester requester target x) r p q) (sym e) d

  -- or another
  pub reaches_other : (Came : MayAnswer) (now : ℕ) (target own : Address) {locked : LockedNode H} {p q : NodePass H} {r : Result (Option Bool) ClusterError}
      → own ≢ target → Does locked (Next (Asks (Pinged Came target)) (Seeks now)) r p q → Does locked (Reaches Came now target own) r p q
  reaches_other Came now target own e d = does_part (Reaches Came now target own) (λ acts h. inr (e, h)) d

  -- what a view decides is answered
  pub decides_so : (hash_of : H → List ℕ → ℕ) (Handled : Handlings) (keys : List (List ℕ)) (body : List ℕ) (known : Result (Viewed H) NodeError)
      (view : Viewed H) (locked : LockedNode H) (p : NodePass H) (told : Content) (answer : Message) → known ≡ Ok view
      → IsDecided hash_of Handled keys body view told → answer ≡ message_from view told
      → Does locked (Decides hash_of Handled keys body known) (Ok answer) p p
  decides_so hash_of Handled keys body known view locked p told answer is h made =
      let from : Does locked (Decides hash_of Handled keys body (Ok view)) (Ok (message_from view told)) p p =
      does_part (Decides hash_of Handled keys body (Ok view)) (λ acts s. (told, h, s)) (does_give locked p (message_from view told)) in
      subst (λ (x : Result (Viewed H) NodeError). Does locked (Decides hash_of Handled keys body x) (Ok answer) p p) (sym is)
      (subst (λ (m : Message). Does locked (Decides hash_of Handled keys body (Ok view)) (Ok m) p p) (sym made) from)

  -- where there was none, that is said
  pub decides_none : (hash_of : H → List ℕ → ℕ) (Handled : Handlings) (keys : List (List ℕ)) (body : List ℕ) (known : Result (Viewed H) NodeError)
      {locked : LockedNode H} {p q : NodePass H} {r : Result Message ClusterError} → is_ok known ≡ false → Handled.never
      → Does locked (Says (Refused reason.Memory)) r p q → Does locked (Decides hash_of Handled keys body known) r p q
  decides_none hash_of Handled keys body (Ok view) e never d = cc
  decides_none hash_of Handled keys body (Err n) e never d = does_part (Decides hash_of Handled keys body (Err n)) (λ acts h. (never, h)) d

  -- a message that is no Forward was served, without a call of the handler
  pub serves_unhandled : (hash_of : H → List ℕ → ℕ) (Came : MayAnswer) (Handled : Handlings) (message : Message) (now : ℕ) (told : Content) (P : Part H Message)
      {locked : LockedNode H} {p q : NodePass H} {r : Result Message ClusterError} → message.content ≡ told
      → ((acts : List (Act H)) → Unhandled Handled P r acts → Serves hash_of Came Handled message now told r acts) → Handled.never
      → Does locked P r p q → Does locked (Serves hash_of Came Handled message now message.content) r p q
  serves_unhandled hash_of Came Handled message now told P {locked = locked} {p = p} {q = q} {r = r} e as_served never d =
      subst (λ (x : Content). Does locked (Serves hash_of Came Handled message now x) r p q) (sym e)
      (does_part (Serves hash_of Came Handled message now told) as_served (does_unhandled Handled P never d))

-- what is known of the calls of a handler is passed on
module _ {H : Type 0} (hash_of : H → List ℕ → ℕ) (One Other : Handlings)
    (calls : (keys : List (List ℕ)) (body : List ℕ) (answer : Result (List ℕ) HandlerFault) → One.once keys body answer → Other.once keys body answer)
    (rests : One.never → Other.never) where
  routed_as : (keys : List (List ℕ)) (body : List ℕ) (way : Result Route ForwardError) (told : Content) → IsRouted One keys body way told → IsRouted Other keys body way told
  routed_as keys body (Ok route.Here) told h = (h.0, calls keys body h.0 h.1, h.2)
  routed_as keys body (Ok (route.To owner)) told h = (rests h.0, h.1)
  routed_as keys body (Ok route.Nobody) told h = (rests h.0, h.1)
  routed_as keys body (Err refusal.Diverged) told h = (rests h.0, h.1)
  routed_as keys body (Err refusal.Nobody) told h = absurd h
  routed_as keys body (Err refusal.RetriesSpent) told h = absurd h
  routed_as keys body (Err refusal.InFlight) told h = absurd h
  routed_as keys body (Err refusal.NotInFlight) told h = absurd h

  forwards_as : (keys : List (List ℕ)) (body : List ℕ) (r : Result Message ClusterError) (acts : List (Act H))
      → Forwards hash_of One keys body r acts → Forwards hash_of Other keys body r acts
  forwards_as keys body (Ok m) acts (inl h) = absurd h
  forwards_as keys body (Err e) acts (inl h) = inl (rests h.0, h.1)
  forwards_as keys body r acts (inr (Ok view, (first, next, all, looks, (told, (way, leads, routed), gives)))) =
      inr (Ok view, (first, next, all, looks, (told, (way, leads, routed_as keys body way told routed), gives)))
  forwards_as keys body r acts (inr (Err n, (first, next, all, looks, refuses))) = inr (Err n, (first, next, all, looks, (rests refuses.0, refuses.1)))

  pub serves_as : (Came : MayAnswer) (message : Message) (now : ℕ) (told : Content) (r : Result Message ClusterError) (acts : List (Act H))
      → Serves hash_of Came One message now told r acts → Serves hash_of Came Other message now told r acts
  serves_as Came message now (content.Join news) r acts h = (rests h.0, h.1)
  serves_as Came message now (content.Ping news) r acts h = (rests h.0, h.1)
  serves_as Came message now (content.PingReq news target) r acts h = (rests h.0, h.1)
  serves_as Came message now (content.Forward keys body) r acts h = forwards_as keys body r acts h
  serves_as Came message now (content.Joined news) r acts h = (rests h.0, h.1)
  serves_as Came message now (content.Ack news) r acts h = (rests h.0, h.1)
  serves_as Came message now (content.PingReqAck news target reached) r acts h = (rests h.0, h.1)
  serves_as Came message now (content.Reply body) r acts h = (rests h.0, h.1)
  serves_as Came message now content.NotOwner r acts h = (rests h.0, h.1)
  serves_as Came message now (content.Refused why) r acts h = (rests h.0, h.1)
