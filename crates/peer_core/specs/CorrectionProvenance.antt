-- The provenance of a round that corrects its target: that of a round, and of each call of the correction from the answers that came before it.
use Rattle.std.specs.Prelude.{◌≡◌, ◌⊎◌, ℕ, Bool, List, [], ◌∷◌, ◌++◌, Contains, Option, Some, None, Result, Ok, Err, IfOk, IfErr, IfSome}
use Rattle.change_core.specs.declared.addresses.Address.{Address}
use Rattle.change_core.specs.declared.changes.Change.{Change}
use Rattle.message_core.specs.declared.messages.Message.{Message}
use Rattle.node_core.specs.declared.errors.NodeError.TheVariants as refusal
use Rattle.node_core.specs.declared.events.Event.TheVariants as call
use Rattle.node_core.specs.declared.events.Reply.TheVariants as reply
use Rattle.node_core.specs.Calls.{OfEvent, WithReply}
use Rattle.peer_core.specs.declared.errors.ClusterError.{ClusterError}
use Rattle.peer_core.specs.declared.errors.ClusterError.TheVariants as error
use Rattle.peer_core.specs.declared.rounds.Round.{Round}
use Rattle.peer_core.specs.declared.rounds.Round.TheVariants.{Idle, Reached, Suspected, Inconclusive}
use Rattle.peer_core.specs.Acts.{Act, OfActs, did}
use Rattle.peer_core.specs.Correcting.{IsCorrectingRound}
use Rattle.peer_core.specs.Links.{MayAnswer, IsJoined}
use Rattle.peer_core.specs.Parts.{IsOfLock}
use Rattle.peer_core.specs.Provenance.{applied, EachRests, HostAnswered, LastRefused, LastHostStarved}
use Rattle.peer_core.specs.Rounds.{IsRound}

-- the member that a round probed, by how it ended
abbrev pub target_of : Round → Option Address
target_of Idle = None
target_of (Reached a) = Some a
target_of (Suspected a) = Some a
target_of (Inconclusive a) = Some a

-- the same, if it succeeded
abbrev pub probed_by : Result Round ClusterError → Option Address
probed_by (Ok end) = target_of end
probed_by (Err e) = None

module _ {H : Type 0} where
  -- the message is a Joined that came from the member for a Join of the node
  abbrev pub JoinedBy : MayAnswer → Address → Message → OfActs H
  JoinedBy Came a m before = (q : Message) × Contains before (applied q) × Came a q (Ok m) × IsJoined m

  -- the provenance of a call that corrects this member at this moment, among the acts before it
  abbrev pub CorrectionRestsOn : MayAnswer → ℕ → Address → List (Act H) → Act H → Type 0
  -- the own entry is read, and a Join is the node's own
  CorrectionRestsOn Came now a before (OfEvent call.Own, WithReply (reply.Own own)) = Unit {0}
  CorrectionRestsOn Came now a before (OfEvent call.JoinMessage, WithReply (reply.JoinMessage r)) = Unit {0}
  -- what is processed is the member's Joined
  CorrectionRestsOn Came now a before (OfEvent (call.Receive m t), WithReply (reply.Receive r)) = (t ≡ now) × JoinedBy Came a m before
  -- a correction makes no other call
  CorrectionRestsOn Came now a before other = ⊥

  -- behind a round that probed no member, or failed, there is no call; behind another each call corrects its target, and rests on those before it
  abbrev pub RestsBehind : MayAnswer → ℕ → Option Address → List (Act H) → OfActs H
  RestsBehind Came now None first rest = rest ≡ []
  RestsBehind Came now (Some a) first rest = EachRests (CorrectionRestsOn Came now a) first rest

  -- a member got no Join; or one, which it answered by a Joined that was processed, or otherwise: then that send failed
  abbrev pub WasCorrected : MayAnswer → ℕ → Address → OfActs H
  WasCorrected Came now a rest =
      (own : Change) × (next : List (Act H)) × (rest ≡ did call.Own (reply.Own own) ∷ next)
      × ((next ≡ []) ⊎ ((joined : Bool) × HostAnswered Came now a joined next))

  -- the error of a correction: the lock refused it, or out of memory: in the node's last reply, or in the link for a Join to this member
  abbrev pub IsWhyUncorrected : MayAnswer → Address → ClusterError → OfActs H
  IsWhyUncorrected Came a e rest = IsOfLock e ⊎ ((e ≡ error.Memory) × (LastRefused refusal.Memory rest ⊎ LastHostStarved Came (a ∷ []) rest))

  -- A round, and behind it the correction of its target. If both succeed the result is how the round ended. The error is that of the round, or of
  -- the correction.
  pub record IsCorrected (Came : MayAnswer) (now : ℕ) (r : Result Round ClusterError) (acts : List (Act H)) : Type 0 where
    pub round : Result Round ClusterError
    pub first : List (Act H)
    pub rest : List (Act H)
    pub all : acts ≡ first ++ rest
    pub made : IsRound Came now round first
    pub rests : RestsBehind Came now (probed_by round) first rest
    pub same : IfOk r (λ end. round ≡ Ok end)
    pub sent : IfOk r (λ end. IfSome (target_of end) (λ a. WasCorrected Came now a rest))
    pub failed : IfErr r (λ e. (round ≡ Err e) ⊎ ((a : Address) × (probed_by round ≡ Some a) × IsWhyUncorrected Came a e rest))

-- a round that corrects its target is a round, and behind it are calls of the correction alone
abbrev pub CorrectionsRest : Type 0 → MayAnswer → Type 0
CorrectionsRest H Came = (now : ℕ) (r : Result Round ClusterError) (acts : List (Act H)) → IsCorrectingRound Came now r acts → IsCorrected Came now r acts
