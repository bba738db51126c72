-- Parts whose acts have no errand: nothing goes over the link for them.
use Rattle.std.proofs.Common.{ℕ, ◌≤◌, Bool, true, false, refl, inl, inr, arith, Option, Some, None, Result, Ok, Err, List, [], ◌++◌, length}
use Rattle.change_core.specs.declared.addresses.Address.{Address}
use Rattle.detector_core.specs.declared.asked.Said.{Said}
use Rattle.detector_core.specs.declared.asked.Said.TheVariants as said
use Rattle.detector_core.specs.declared.prober.Probe.{Probe}
use Rattle.message_core.specs.declared.kinds.Reason.TheVariants as reason
use Rattle.message_core.specs.declared.messages.Content.{Content}
use Rattle.message_core.specs.declared.messages.Content.TheVariants.{Refused}
use Rattle.message_core.specs.declared.messages.Message.{Message}
use Rattle.node_core.specs.declared.errors.NodeError.{NodeError}
use Rattle.node_core.specs.declared.errors.NodeError.TheVariants as node
use Rattle.node_core.specs.declared.events.Event.TheVariants as call
use Rattle.node_core.specs.declared.events.NodeOutcome.{NodeOutcome}
use Rattle.node_core.specs.declared.events.NodeOutcome.TheVariants as outcome
use Rattle.node_core.specs.declared.events.Reply.TheVariants as reply
use Rattle.node_core.specs.Viewing.{Viewed}
use Rattle.peer_core.specs.declared.errors.ClusterError.{ClusterError}
use Rattle.peer_core.specs.declared.errors.ClusterError.TheVariants as error
use Rattle.peer_core.specs.declared.healing.Draws.{Draws}
use Rattle.peer_core.specs.declared.hearing.Heard.{Heard}
use Rattle.peer_core.specs.declared.hearing.Heard.TheVariants as heard
use Rattle.peer_core.specs.declared.rounds.Round.TheVariants.{Reached}
use Rattle.peer_core.specs.Acts.{Act, looked}
use Rattle.peer_core.specs.Exchanges.{HealingsCount, SendsTo, chosen_hosts, listed}
use Rattle.peer_core.specs.Handling.{Handlings}
use Rattle.peer_core.specs.Healing.{Chooses, choice_of}
use Rattle.peer_core.specs.Joining.{HearsHost}
use Rattle.peer_core.specs.Links.{Went, word_on}
use Rattle.peer_core.specs.Parts.{Part, Calls, Tries}
use Rattle.peer_core.specs.Rounds.{Acknowledges, Expires, FailsFrom, FailsOne, HearsHelper, LooksOn, Takes, TellsWord, said_by, waited_for}
use Rattle.peer_core.specs.Serving.{Decides, FailsUnhandled, Forwards, GivesMade, Receives, Says, Seeks, TellsRequester, Views, message_by}
use Rattle.peer_core.proofs.Exchanges.{Hushes, Silent, hushes_calls, hushes_fails, hushes_gives, hushes_next, hushes_tries, hushes_until, sendings_count, sends_silent, sends_then, silent_none, silent_one}

module _ {H : Type 0} where
  pub hushes_takes : (now : ℕ) (message : Message) → Hushes {H = H} (Takes now message)
  hushes_takes now message = hushes_next (hushes_calls (call.Receive message now) reply.Receive (λ a. refl)) (λ a. hushes_gives tt)

  pub hushes_tells : (now k : ℕ) (h : Address) (s : Said) → Hushes {H = H} (TellsWord now k h s)
  hushes_tells now k h s = hushes_tries (call.HelperSaid k h s now) reply.HelperSaid (λ a. refl)

  pub hushes_helper : (now : ℕ) (probe : Probe) (h : Address) (what : Heard) → Hushes {H = H} (HearsHelper now probe h what)
  hushes_helper now probe h (heard.Answer message) =
      hushes_next (hushes_takes now message) (λ u. hushes_tells now probe.number h (said_by (word_on probe.target message.content)))
  hushes_helper now probe h heard.Other = hushes_tells now probe.number h said.Failed
  hushes_helper now probe h heard.OutOfMemory = hushes_fails error.Memory

  hushes_acked : (k : ℕ) → Hushes {H = H} (Tries (call.Acked k) reply.Acked)
  hushes_acked k = hushes_tries (call.Acked k) reply.Acked (λ a. refl)

  pub hushes_acknowledges : (now : ℕ) (probe : Probe) (ack : Message) → Hushes {H = H} (Acknowledges now probe ack)
  hushes_acknowledges now probe ack = hushes_next (hushes_takes now ack) (λ u. hushes_next (hushes_acked probe.number) (λ u. hushes_gives (Reached probe.target)))

  pub hushes_expires : (now : ℕ) → Hushes {H = H} (Expires now)
  hushes_expires now = hushes_until (λ u. hushes_tries (call.Expire now) reply.Expire (λ a. refl)) tt

  pub hushes_running : Hushes {H = H} (Calls call.Running reply.Running)
  hushes_running = hushes_calls call.Running reply.Running (λ a. refl)

  hushes_on : (k : ℕ) (o : NodeOutcome) → Hushes {H = H} (LooksOn k o)
  hushes_on k outcome.Waiting = hushes_next hushes_running (λ a. hushes_gives (waited_for k a))
  hushes_on k outcome.Reached = hushes_gives None
  hushes_on k (outcome.Suspect change) = hushes_gives None
  hushes_on k outcome.Inconclusive = hushes_gives None

  hushes_one : (now k : ℕ) (h : Address) → Hushes {H = H} (FailsOne now k h)
  hushes_one now k h = hushes_next (hushes_tells now k h said.Failed) (hushes_on k)

  pub hushes_fails_from : (now k : ℕ) (h : Address) → Hushes {H = H} (FailsFrom now k h)
  hushes_fails_from now k h = hushes_until (hushes_one now k) h

  pub hushes_loses : (now k : ℕ) → Hushes {H = H} (Tries (call.Lost k now) reply.Lost)
  hushes_loses now k = hushes_tries (call.Lost k now) reply.Lost (λ a. refl)

  pub hushes_asks : Hushes {H = H} (Calls call.Probe reply.Probe)
  hushes_asks = hushes_calls call.Probe reply.Probe (λ a. refl)

  pub hushes_begins : Hushes {H = H} (Tries call.Probe reply.Probe)
  hushes_begins = hushes_tries call.Probe reply.Probe (λ a. refl)

  pub hushes_own : Hushes {H = H} (Calls call.Own reply.Own)
  hushes_own = hushes_calls call.Own reply.Own (λ a. refl)

  pub hushes_host : (now : ℕ) (what : Heard) → Hushes {H = H} (HearsHost now what)
  hushes_host now (heard.Answer message) = hushes_next (hushes_takes now message) (λ u. hushes_gives true)
  hushes_host now heard.Other = hushes_gives false
  hushes_host now heard.OutOfMemory = hushes_fails error.Memory

  pub hushes_chooses : (hosts : List Address) (draws : Draws) → Hushes {H = H} (Chooses hosts draws)
  hushes_chooses hosts draws =
      hushes_next hushes_own (λ own. hushes_next (hushes_tries call.Members reply.Members (λ a. refl)) (λ held. hushes_gives (choice_of own.address held hosts draws)))

  pub hushes_says : (told : Content) → Hushes {H = H} (Says told)
  hushes_says told = hushes_next hushes_own (λ own. hushes_gives (message_by own told))

  pub hushes_receives : (message : Message) (now : ℕ) → Hushes {H = H} (Receives message now)
  hushes_receives message now = hushes_calls (call.Receive message now) reply.Receive (λ a. refl)

  pub hushes_seeks : (now : ℕ) (what : Heard) → Hushes {H = H} (Seeks now what)
  hushes_seeks now (heard.Answer ack) = hushes_next (hushes_receives ack now) (λ r. hushes_gives (Some true))
  hushes_seeks now heard.Other = hushes_gives (Some false)
  hushes_seeks now heard.OutOfMemory = hushes_gives None

  hushes_made : (made : Result Message NodeError) → Hushes {H = H} (GivesMade made)
  hushes_made (Ok made) = hushes_gives made
  hushes_made (Err node.Memory) = hushes_says (Refused reason.Memory)
  hushes_made (Err (node.BadConfig field)) = record { silent = λ r acts h. absurd h }
  hushes_made (Err node.Exhausted) = record { silent = λ r acts h. absurd h }
  hushes_made (Err node.Full) = record { silent = λ r acts h. absurd h }
  hushes_made (Err node.AlreadyLeft) = record { silent = λ r acts h. absurd h }
  hushes_made (Err node.NotLeft) = record { silent = λ r acts h. absurd h }
  hushes_made (Err node.Busy) = record { silent = λ r acts h. absurd h }
  hushes_made (Err node.Spent) = record { silent = λ r acts h. absurd h }
  hushes_made (Err node.StaleProbe) = record { silent = λ r acts h. absurd h }
  hushes_made (Err node.NotAsked) = record { silent = λ r acts h. absurd h }

  pub hushes_requester : (requester target : Address) (found : Option Bool) → Hushes {H = H} (TellsRequester requester target found)
  hushes_requester requester target (Some reached) =
      hushes_next (hushes_calls (call.PingReqAckTo requester target reached) reply.PingReqAckTo (λ a. refl)) hushes_made
  hushes_requester requester target None = hushes_says (Refused reason.Memory)

  hushes_views : Hushes {H = H} Views
  hushes_views = record { silent = go }
    where
      go : (r : Result (Result (Viewed H) NodeError) ClusterError) (acts : List (Act H)) → Views r acts → Silent acts
      go (Ok (Ok view)) acts h = silent_one acts (looked (Ok view)) h refl
      go (Ok (Err n)) acts h = silent_one acts (looked (Err n)) h.0 refl
      go (Err e) acts h = silent_none acts h.0

  hushes_fails_unhandled : {A : Type 0} (Handled : Handlings) (P : Part H A) → Hushes P → Hushes (FailsUnhandled Handled P)
  hushes_fails_unhandled {A} Handled P h = record { silent = go }
    where
      go : (r : Result A ClusterError) (acts : List (Act H)) → FailsUnhandled Handled P r acts → Silent acts
      go (Ok a) acts k = h.silent (Ok a) acts k
      go (Err e) acts k = h.silent (Err e) acts k.1

  hushes_decides : (hash_of : H → List ℕ → ℕ) (Handled : Handlings) (keys : List (List ℕ)) (body : List ℕ) (view : Result (Viewed H) NodeError) → Hushes (Decides hash_of Handled keys body view)
  hushes_decides hash_of Handled keys body (Ok view) = record { silent = λ r acts h. silent_none acts h.2.0 }
  hushes_decides hash_of Handled keys body (Err n) = record { silent = λ r acts h. (hushes_says (Refused reason.Memory)).silent r acts h.1 }

  pub hushes_forwards : (hash_of : H → List ℕ → ℕ) (Handled : Handlings) (keys : List (List ℕ)) (body : List ℕ) → Hushes (Forwards hash_of Handled keys body)
  hushes_forwards hash_of Handled keys body = hushes_next (hushes_fails_unhandled Handled Views hushes_views) (hushes_decides hash_of Handled keys body)

chosen_few : (member host : Option Address) → length (listed member ++ listed host) ≤ 2
chosen_few None None = omega arith
chosen_few None (Some host) = omega arith
chosen_few (Some member) None = omega arith
chosen_few (Some member) (Some host) = omega arith

pub healings_count : {H L : Type 0} (went : Went L) → HealingsCount H went
healings_count went hosts None old new acts s = let (times, count) = sendings_count went [] old new acts s in (times, omega (arith, count))
healings_count went hosts (Some draws) old new acts (inl s) = let (times, count) = sendings_count went [] old new acts s in (times, omega (arith, count))
healings_count went hosts (Some draws) old new acts (inr (choice, t)) =
    let first : SendsTo went [] old old t.0 = ([], tt, sends_silent went old t.0 ((hushes_chooses hosts draws).silent (Ok choice) t.0 t.3)) in
    let (times, count) = sendings_count went (chosen_hosts choice) old new acts (sends_then went [] (chosen_hosts choice) old old new acts (t.0, t.1, t.2, first, t.4)) in
    (times, omega (arith, count, chosen_few choice.member choice.host))
