-- The provenance of the calls of a round and of a join, each from the answers that came before it, and of an answer. Probes and helpers are
-- those of SWIM, section 3.1.
use Rattle.std.specs.Prelude.{◌≡◌, ◌⊎◌, ℕ, ◌<◌, Bool, true, false, List, [], ◌∷◌, ◌++◌, Contains, count_by, Option, Some, None, Result, Ok, Err, IfOk, IfErr}
use Rattle.change_core.specs.declared.addresses.Address.{Address}
use Rattle.detector_core.specs.declared.asked.Said.{Said}
use Rattle.detector_core.specs.declared.asked.Said.TheVariants as said
use Rattle.detector_core.specs.declared.prober.Probe.{Probe}
use Rattle.detector_core.specs.declared.prober.Running.{Running}
use Rattle.change_core.specs.declared.changes.Change.{Change}
use Rattle.message_core.specs.declared.kinds.Kind.TheVariants as kind
use Rattle.message_core.specs.declared.kinds.Reason.TheVariants as reason
use Rattle.message_core.specs.declared.messages.Content.{Content}
use Rattle.message_core.specs.declared.messages.Content.TheVariants as content
use Rattle.message_core.specs.declared.messages.Message.{Message}
use Rattle.message_core.specs.Messages.{kind_of}
use Rattle.node_core.specs.declared.errors.NodeError.{NodeError}
use Rattle.node_core.specs.declared.errors.NodeError.TheVariants as refusal
use Rattle.node_core.specs.declared.events.Event.{Event}
use Rattle.node_core.specs.declared.events.Event.TheVariants as call
use Rattle.node_core.specs.declared.events.NodeLost.TheVariants as lost
use Rattle.node_core.specs.declared.events.NodeOutcome.TheVariants as outcome
use Rattle.node_core.specs.declared.events.Received.{Received}
use Rattle.node_core.specs.declared.events.Received.TheVariants as received
use Rattle.node_core.specs.declared.events.Taken.{Taken}
use Rattle.node_core.specs.declared.events.Reply.{Reply}
use Rattle.node_core.specs.declared.events.Reply.TheVariants as reply
use Rattle.node_core.specs.Calls.{OfEvent, WithReply}
use Rattle.node_core.specs.Viewing.{Viewed}
use Rattle.peer_core.specs.declared.errors.ClusterError.{ClusterError}
use Rattle.peer_core.specs.declared.errors.ClusterError.TheVariants as error
use Rattle.peer_core.specs.declared.errors.LinkError.{LinkError}
use Rattle.peer_core.specs.declared.errors.LinkError.TheVariants as fault
use Rattle.peer_core.specs.declared.rounds.Round.{Round}
use Rattle.peer_core.specs.declared.rounds.Round.TheVariants.{Idle, Reached, Suspected, Inconclusive}
use Rattle.peer_core.specs.Acts.{Act, OfActs, did, looked}
use Rattle.peer_core.specs.Errors.{error_of_node}
use Rattle.peer_core.specs.Handling.{Handlings}
use Rattle.peer_core.specs.Joining.{IsJoin}
use Rattle.peer_core.specs.Links.{MayAnswer, IsAckOf, IsJoined, IsOther, TellsOf, word_on}
use Rattle.peer_core.specs.Parts.{IsOfLock}
use Rattle.peer_core.specs.Rounds.{IsRound}
use Rattle.peer_core.specs.Serving.{IsDecided, Serves}

-- the answer is a refusal
abbrev pub IsRefusal : Message → Type 0
IsRefusal answer = kind_of answer.content ≡ kind.Refused

-- the later of two, if there is one
abbrev pub later_of : {A : Type 0} → Option A → Option A → Option A
later_of None earlier = earlier
later_of (Some x) earlier = Some x

-- a probe about which no helper was asked
abbrev pub unasked : ℕ → Address → Running
unasked k a = record { number = k; target = a; waiting = None }

-- the error in a reply, of the calls of a round or of a join
abbrev pub refusal_in : Reply → Option NodeError
refusal_in (reply.Expire (Err n)) = Some n
refusal_in (reply.Probe (Err n)) = Some n
refusal_in (reply.PingTo (Err n)) = Some n
refusal_in (reply.PingReqTo (Err n)) = Some n
refusal_in (reply.Acked (Err n)) = Some n
refusal_in (reply.Lost (Err n)) = Some n
refusal_in (reply.HelperSaid (Err n)) = Some n
refusal_in (reply.JoinMessage (Err n)) = Some n
refusal_in other = None

module _ {H : Type 0} where
  -- the last of what is found in acts
  abbrev pub last_of : {A : Type 0} → (Act H → Option A) → List (Act H) → Option A
  last_of f [] = None
  last_of f (act ∷ acts) = later_of (last_of f acts) (f act)

  -- the probe that a call starts
  abbrev pub begun_by : Act H → Option Probe
  begun_by (OfEvent call.Probe, WithReply (reply.Probe (Ok probe))) = probe
  begun_by other = None

  -- the probe that a call starts or finds running, and the helper for which it waits
  abbrev pub shown_by : Act H → Option Running
  shown_by (OfEvent call.Probe, WithReply (reply.Probe (Ok (Some probe)))) = Some (unasked probe.number probe.target)
  shown_by (OfEvent call.Running, WithReply (reply.Running found)) = found
  shown_by other = None

  -- the helpers that the node names to be asked about the target of a probe, at the call that reports the probe of this number as lost
  abbrev pub named_by : Act H → Option (ℕ × List Address)
  named_by (OfEvent (call.Lost k t), WithReply (reply.Lost (Ok (lost.Ask helpers)))) = Some (k, helpers)
  named_by other = None

  -- the helper is among those that were named last, which was for the probe of this number
  abbrev pub WasNamed : ℕ → Address → OfActs H
  WasNamed k h before = (helpers : List Address) × (last_of named_by before ≡ Some (k, helpers)) × Contains helpers h

  -- the probe in hand: the last that was started or was found running
  abbrev pub InHand : Running → OfActs H
  InHand running before = last_of shown_by before ≡ Some running

  -- no probe was started by these acts
  abbrev pub NoneBegun : OfActs H
  NoneBegun before = last_of begun_by before ≡ None

  -- the node made this message to ping the address
  abbrev pub pinged : Address → Message → Act H
  pinged a q = did (call.PingTo a) (reply.PingTo (Ok q))

  -- the node made this message to ask the helper about the target
  abbrev pub asked : Address → Address → Message → Act H
  asked h a q = did (call.PingReqTo h a) (reply.PingReqTo (Ok q))

  -- the message came over the link from the target of a ping, or from a helper that was asked
  abbrev pub CameIn : MayAnswer → Message → OfActs H
  CameIn Came message before =
      (a : Address) × (q : Message) × (Contains before (pinged a q) ⊎ ((target : Address) × Contains before (asked a target q))) × Came a q (Ok message)

  -- directly before, an Ack of the target was processed, which came from it for a ping
  abbrev pub IsReached : MayAnswer → ℕ → Address → OfActs H
  IsReached Came now a before =
      (q ack : Message) × (r : Received) × (prefix : List (Act H))
      × (before ≡ prefix ++ did (call.Receive ack now) (reply.Receive r) ∷ [])
      × Contains prefix (pinged a q)
      × Came a q (Ok ack)
      × IsAckOf a ack

  -- another answer than an Ack, and not out of memory, came from the target for a ping
  abbrev pub IsLost : MayAnswer → Address → OfActs H
  IsLost Came a before = (q : Message) × (answer : Result Message LinkError) × Contains before (pinged a q) × Came a q answer × IsOther (IsAckOf a) answer

  -- the report for a helper on the target is the one that came from it
  abbrev pub SaidBy : MayAnswer → Address → Address → Said → OfActs H
  SaidBy Came h a said.Reached before =
      (q m : Message) × Contains before (asked h a q) × Came h q (Ok m) × (word_on a m.content ≡ Some true)
  SaidBy Came h a said.NotReached before =
      (q m : Message) × Contains before (asked h a q) × Came h q (Ok m) × (word_on a m.content ≡ Some false)
  SaidBy Came h a said.Failed before =
      (q : Message) × (answer : Result Message LinkError) × Contains before (asked h a q) × Came h q answer × IsOther (TellsOf a) answer

  -- the provenance of a call of a round at this moment, among the acts before it
  abbrev pub RestsOn : MayAnswer → ℕ → List (Act H) → Act H → Type 0
  RestsOn Came now before (OfEvent (call.Expire t), WithReply (reply.Expire r)) = t ≡ now
  -- once a probe is started, no other is started or looked for
  RestsOn Came now before (OfEvent call.Probe, WithReply (reply.Probe r)) = NoneBegun before
  RestsOn Came now before (OfEvent call.Running, WithReply (reply.Running r)) = NoneBegun before
  -- the target of a ping or of a question is that of the probe in hand; a helper that is asked was named by the last call that reported the
  -- probe as lost
  RestsOn Came now before (OfEvent (call.PingTo a), WithReply (reply.PingTo r)) = (k : ℕ) × InHand (unasked k a) before
  RestsOn Came now before (OfEvent (call.PingReqTo h a), WithReply (reply.PingReqTo r)) = (k : ℕ) × InHand (unasked k a) before × WasNamed k h before
  RestsOn Came now before (OfEvent (call.Receive m t), WithReply (reply.Receive r)) = (t ≡ now) × CameIn Came m before
  RestsOn Came now before (OfEvent (call.Acked k), WithReply (reply.Acked r)) = (a : Address) × InHand (unasked k a) before × IsReached Came now a before
  RestsOn Came now before (OfEvent (call.Lost k t), WithReply (reply.Lost r)) =
      (t ≡ now) × (a : Address) × InHand (unasked k a) before × IsLost Came a before
  -- the report of a helper is the one that came from it; or it was found waited for, and failed
  RestsOn Came now before (OfEvent (call.HelperSaid k h s t), WithReply (reply.HelperSaid r)) =
      (t ≡ now) × (a : Address)
      × ((InHand (unasked k a) before × SaidBy Came h a s before)
      ⊎ (InHand (record { number = k; target = a; waiting = Some h }) before × (s ≡ said.Failed)))
  -- a round makes no other call
  RestsOn Came now before other = ⊥

  -- each act rests so on those before it
  abbrev pub EachRests : (List (Act H) → Act H → Type 0) → List (Act H) → OfActs H
  EachRests On before [] = Unit {0}
  EachRests On before (act ∷ acts) = On before act × EachRests On (before ++ act ∷ []) acts

  -- each act of a round rests on those before it
  abbrev pub AllRest : MayAnswer → ℕ → List (Act H) → OfActs H
  AllRest Came now before acts = EachRests (RestsOn Came now) before acts

  -- a call ended the probe of this number, about this target, in that way
  abbrev pub EndedBy : ℕ → ℕ → Address → Round → Act H → Type 0
  EndedBy now k a round (OfEvent (call.Acked j), WithReply (reply.Acked (Ok u))) = (j ≡ k) × (round ≡ Reached a)
  EndedBy now k a round (OfEvent (call.Lost j t), WithReply (reply.Lost (Ok (lost.Suspect c)))) = (j ≡ k) × (t ≡ now) × (round ≡ Suspected a)
  EndedBy now k a round (OfEvent (call.HelperSaid j h s t), WithReply (reply.HelperSaid (Ok outcome.Reached))) = (j ≡ k) × (t ≡ now) × (round ≡ Reached a)
  EndedBy now k a round (OfEvent (call.HelperSaid j h s t), WithReply (reply.HelperSaid (Ok (outcome.Suspect c)))) =
      (j ≡ k) × (t ≡ now) × (round ≡ Suspected a)
  EndedBy now k a round (OfEvent (call.HelperSaid j h s t), WithReply (reply.HelperSaid (Ok outcome.Inconclusive))) =
      (j ≡ k) × (t ≡ now) × (round ≡ Inconclusive a)
  EndedBy now k a round other = ⊥

  -- How a round ended: its last call returned that no member can be probed; or it ended the probe that was started last, in that way.
  abbrev pub Ended : ℕ → Round → OfActs H
  Ended now round acts =
      ((round ≡ Idle) × (prefix : List (Act H)) × (acts ≡ prefix ++ did call.Probe (reply.Probe (Ok None)) ∷ []))
      ⊎ ((k : ℕ) × (a : Address) × (prefix : List (Act H)) × (act : Act H) × (acts ≡ prefix ++ act ∷ [])
      × (last_of begun_by prefix ≡ Some (record { number = k; target = a }))
      × EndedBy now k a round act)

  -- the last call of the node has this error
  abbrev pub LastRefused : NodeError → OfActs H
  LastRefused n acts = (event : Event) × (r : Reply) × (prefix : List (Act H)) × (acts ≡ prefix ++ did event r ∷ []) × (refusal_in r ≡ Some n)

  -- the last call made a message for this address, and the link ran out of memory for it
  abbrev pub LastStarved : MayAnswer → OfActs H
  LastStarved Came acts =
      (a : Address) × (q : Message) × (act : Act H) × (prefix : List (Act H)) × (acts ≡ prefix ++ act ∷ [])
      × ((act ≡ pinged a q) ⊎ ((target : Address) × (act ≡ asked a target q)))
      × Came a q (Err fault.Memory)

  -- the error of a round: of the lock, of the node in its last reply, or out of memory in the link
  abbrev pub IsWhy : MayAnswer → ClusterError → OfActs H
  IsWhy Came e acts =
      IsOfLock e ⊎ (((n : NodeError) × (e ≡ error_of_node n) × LastRefused n acts) ⊎ ((e ≡ error.Memory) × LastStarved Came acts))

  -- the node made this message to ask a host to admit it
  abbrev pub applied : Message → Act H
  applied q = did call.JoinMessage (reply.JoinMessage (Ok q))

  -- a host's answer to a join message of the node: a Joined, which was processed at that moment, or another answer
  abbrev pub HostAnswered : MayAnswer → ℕ → Address → Bool → OfActs H
  HostAnswered Came now h true acts =
      (q m : Message) × (r : Received) × Contains acts (applied q) × Came h q (Ok m) × IsJoined m × Contains acts (did (call.Receive m now) (reply.Receive r))
  HostAnswered Came now h false acts =
      (q : Message) × (answer : Result Message LinkError) × Contains acts (applied q) × Came h q answer × IsOther IsJoined answer

  -- the hosts answered so, one after the other
  abbrev pub AllAnswered : MayAnswer → ℕ → List Address → List Bool → OfActs H
  AllAnswered Came now [] [] acts = Unit {0}
  AllAnswered Came now (h ∷ hs) (joined ∷ rest) acts = HostAnswered Came now h joined acts × AllAnswered Came now hs rest acts
  AllAnswered Came now hs rest acts = ⊥

  -- whether an act is the receipt of a message
  abbrev pub is_taking : Act H → Bool
  is_taking (OfEvent (call.Receive m t), answer) = true
  is_taking other = false

  -- n hosts answered by a Joined, and n messages were processed
  abbrev pub CountedSo : MayAnswer → ℕ → List Address → ℕ → OfActs H
  CountedSo Came now hosts n acts =
      (joined : List Bool) × AllAnswered Came now hosts joined acts × (n ≡ count_by (λ j. j) joined) × (n ≡ count_by is_taking acts)

  -- the last call made a message for one of the hosts, and the link ran out of memory for it
  abbrev pub LastHostStarved : MayAnswer → List Address → OfActs H
  LastHostStarved Came hosts acts =
      (h : Address) × (q : Message) × (prefix : List (Act H)) × (acts ≡ prefix ++ applied q ∷ []) × Contains hosts h × Came h q (Err fault.Memory)

  -- the error of a join: none joined, the lock refused it, or out of memory: in the node's last reply, or in the link
  abbrev pub IsWhyNot : MayAnswer → ℕ → List Address → ClusterError → OfActs H
  IsWhyNot Came now hosts e acts =
      ((e ≡ error.NoneJoined) × CountedSo Came now hosts 0 acts)
      ⊎ (IsOfLock e ⊎ ((e ≡ error.Memory) × (LastRefused refusal.Memory acts ⊎ LastHostStarved Came hosts acts)))

  -- the answer is the node's to the message, which it received at that moment
  abbrev pub IsMadeOf : Message → ℕ → Message → OfActs H
  IsMadeOf message now answer acts = (taken : Taken) × (acts ≡ did (call.Receive message now) (reply.Receive (received.Answer taken answer)) ∷ [])

  -- a target is reached if it is the node itself, or its Ack came for a ping and was processed; it is not reached if another answer came
  abbrev pub IsFound : MayAnswer → ℕ → Address → Bool → OfActs H
  IsFound Came now target true acts =
      ((own : Change) × Contains acts (did call.Own (reply.Own own)) × (own.address ≡ target))
      ⊎ ((q ack : Message) × (r : Received) × Contains acts (pinged target q) × Came target q (Ok ack) × IsAckOf target ack
      × Contains acts (did (call.Receive ack now) (reply.Receive r)))
  IsFound Came now target false acts = IsLost Came target acts

  -- the answer is the node's last reply, which reports to the requester what was found of the target before
  abbrev pub IsReport : MayAnswer → Address → ℕ → Address → Message → OfActs H
  IsReport Came requester now target answer acts =
      (reached : Bool) × (prefix : List (Act H))
      × (acts ≡ prefix ++ did (call.PingReqAckTo requester target reached) (reply.PingReqAckTo (Ok answer)) ∷ [])
      × IsFound Came now target reached prefix

  -- a view of the node decides this answer to a request; or out of memory for a view
  abbrev pub IsDecidedSo : (H → List ℕ → ℕ) → Handlings → List (List ℕ) → List ℕ → Content → OfActs H
  IsDecidedSo hash_of Handled keys body told acts =
      ((view : Viewed H) × Contains acts (looked (Ok view)) × IsDecided hash_of Handled keys body view told)
      ⊎ (Contains acts (looked (Err refusal.Memory)) × (told ≡ content.Refused reason.Memory))

  -- the provenance of an answer, by the content of the message
  abbrev pub AnswersSo : (H → List ℕ → ℕ) → MayAnswer → Handlings → Message → ℕ → Content → Message → OfActs H
  AnswersSo hash_of Came Handled message now (content.Join news) answer acts = IsRefusal answer ⊎ IsMadeOf message now answer acts
  AnswersSo hash_of Came Handled message now (content.Ping news) answer acts = IsRefusal answer ⊎ IsMadeOf message now answer acts
  AnswersSo hash_of Came Handled message now (content.PingReq news target) answer acts =
      IsRefusal answer ⊎ IsReport Came message.source now target answer acts
  AnswersSo hash_of Came Handled message now (content.Forward keys body) answer acts = IsDecidedSo hash_of Handled keys body answer.content acts
  AnswersSo hash_of Came Handled message now other answer acts = answer.content ≡ content.Refused reason.Unexpected

-- each call of a round has its provenance in those before it, also if the round fails; a round that succeeds ended as its calls show, and
-- the error of one that fails has its cause
abbrev pub RoundsRest : Type 0 → MayAnswer → Type 0
RoundsRest H Came =
    (now : ℕ) (r : Result Round ClusterError) (acts : List (Act H)) → IsRound Came now r acts
    → AllRest Came now [] acts × IfOk r (λ round. Ended now round acts) × IfErr r (λ e. IsWhy Came e acts)

-- a join returns how many of its hosts answered by a Joined, which is the number of messages that it processed, and more than none; and the
-- error of one has its cause
abbrev pub JoinsRest : Type 0 → MayAnswer → Type 0
JoinsRest H Came =
    (now : ℕ) (hosts : List Address) (r : Result ℕ ClusterError) (acts : List (Act H)) → IsJoin Came now hosts r acts
    → IfOk r (λ n. (0 < n) × CountedSo Came now hosts n acts) × IfErr r (λ e. IsWhyNot Came now hosts e acts)

-- each answer to a message has the provenance of its kind
abbrev pub ServingsRest : {H : Type 0} → (H → List ℕ → ℕ) → MayAnswer → Handlings → Type 0
ServingsRest {H} hash_of Came Handled =
    (message answer : Message) (now : ℕ) (acts : List (Act H)) → Serves hash_of Came Handled message now message.content (Ok answer) acts
    → AnswersSo hash_of Came Handled message now message.content answer acts
