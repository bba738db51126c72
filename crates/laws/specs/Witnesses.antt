-- The origin of an entry against a member: the verdict of a node that probed it, and the deadlines that have passed since.
use Rattle.std.specs.Prelude.{◌≡◌, ◌≢◌, ◌⊎◌, ℕ, ◌+◌, ◌≤◌, Some, Ok, List, ◌∷◌, ◌++◌}
use Rattle.change_core.specs.declared.changes.Change.{Change}
use Rattle.change_core.specs.declared.changes.Sourced.{Sourced}
use Rattle.change_core.specs.declared.statuses.Status.{Status}
use Rattle.change_core.specs.declared.statuses.Status.TheVariants.{Alive, Suspect, Faulty, Leave, Tombstone}
use Rattle.change_core.specs.Ascending.{In}
use Rattle.change_core.specs.Members.{greatest}
use Rattle.detector_core.specs.Probing.{running_target}
use Rattle.gossip_core.specs.declared.pending.Pending.{Pending}
use Rattle.message_core.specs.declared.messages.Message.{Message}
use Rattle.node_core.specs.declared.configs.Config.{Config}
use Rattle.node_core.specs.declared.events.Event.{Event}
use Rattle.node_core.specs.declared.events.Event.TheVariants as call
use Rattle.node_core.specs.declared.events.Reply.{Reply}
use Rattle.node_core.specs.declared.events.Reply.TheVariants as answer
use Rattle.node_core.specs.declared.events.NodeLost.TheVariants as lost
use Rattle.node_core.specs.declared.events.NodeOutcome.TheVariants as answered
use Rattle.node_core.specs.Messages.{carried}
use Rattle.node_core.specs.Node.{Node}
use Rattle.node_core.specs.World.{WorldEvent, Calls, MayAllHappen, world_after, nothing}
use Rattle.laws.specs.Running.{RunsOn}

-- a node holds this entry, or passes it on
abbrev pub Holds : {H : Type 0} → Node H → Change → Type 0
Holds node c = In c node.members ⊎ ((p : Pending) × In p node.gossip.pending × (p.sourced.change ≡ c))

-- a message carries this entry
abbrev pub Tells : Message → Change → Type 0
Tells message c = (s : Sourced) × In s (carried message.content) × (s.change ≡ c)

-- one of these events is a call of the node at this address: what happened before it and after it, and the node right before and right after
pub record CallIn {H : Type 0} (events : List (WorldEvent H)) (own : ℕ) : Type 0 where
  pub earlier : List (WorldEvent H)
  pub later : List (WorldEvent H)
  pub event : Event
  pub reply : Reply
  pub before : Node H
  pub after : Node H
  pub placed : events ≡ earlier ++ Calls own event reply after ∷ later
  pub there : (world_after nothing earlier).nodes own ≡ Some before

-- the call ends the node's probe of this address by the verdict that it is suspect: `lost` with no helper to ask, or a helper's report
abbrev pub IsSuspicion : {H : Type 0} → Node H → Event → Reply → Change → Type 0
IsSuspicion node (call.Lost number moment) (answer.Lost (Ok (lost.Suspect (Some change)))) c = (running_target node.probing number ≡ Some c.address) × (change ≡ c)
IsSuspicion node (call.HelperSaid number helper said moment) (answer.HelperSaid (Ok (answered.Suspect (Some change)))) c =
    (running_target node.probing number ≡ Some c.address) × (change ≡ c)
IsSuspicion node event reply c = ⊥

-- another node, which held the address as alive at that incarnation right before, gave the verdict that it is suspect
pub record IsSuspected {H : Type 0} (events : List (WorldEvent H)) (c : Change) : Type 0 where
  pub own : ℕ
  pub another : own ≢ c.address
  pub call : CallIn events own
  pub alive : greatest call.before.members c.address ≡ Some (record c { status = Alive })
  pub verdict : IsSuspicion call.before call.event call.reply (record c { status = Suspect })

-- a call of `expire` answers this change
abbrev pub IsExpiry : Event → Reply → Change → Type 0
IsExpiry (call.Expire moment) (answer.Expire (Ok (Some change))) c = change ≡ c
IsExpiry event reply c = ⊥

-- a call by which a node gets this entry
abbrev pub Takes : {H : Type 0} → Node H → Node H → Change → Type 0
Takes before after c = (greatest before.members c.address ≢ Some c) × (greatest after.members c.address ≡ Some c)

-- another node got the entry with one status, ran on, and expired it to the next status when its moment was past that of getting it by at
-- least the wait of its configuration; and by then the entry had its own witness
pub record IsExpired {H : Type 0} (from to : Status) (wait : Config → ℕ) (witness : List (WorldEvent H) → Change → Type 0) (events : List (WorldEvent H)) (c : Change) : Type 0 where
  pub own : ℕ
  pub another : own ≢ c.address
  pub call : CallIn events own
  pub held : greatest call.before.members c.address ≡ Some (record c { status = from })
  pub expiry : IsExpiry call.event call.reply (record c { status = to })
  pub taking : CallIn call.earlier own
  pub taken : Takes taking.before taking.after (record c { status = from })
  pub runs_on : RunsOn own taking.later
  pub waited : taking.after.moment + wait call.before.config ≤ call.after.moment
  pub witnessed : witness call.earlier c

-- a suspect entry expired, no earlier than `suspect_ms` after the node got it
abbrev pub IsDeclaredFaulty : {H : Type 0} → List (WorldEvent H) → Change → Type 0
IsDeclaredFaulty {H} events c = IsExpired Suspect Faulty (λ config. config.suspect_ms) (IsSuspected {H = H}) events c

-- a faulty entry expired, no earlier than `faulty_ms` after the node got it
abbrev pub IsMadeTombstone : {H : Type 0} → List (WorldEvent H) → Change → Type 0
IsMadeTombstone {H} events c = IsExpired Faulty Tombstone (λ config. config.faulty_ms) (IsDeclaredFaulty {H = H}) events c

-- the witness of an entry with this status; that it is alive or leaves, its own address asserts
abbrev pub WitnessOf : {H : Type 0} → Status → List (WorldEvent H) → Change → Type 0
WitnessOf Alive events c = Unit {0}
WitnessOf Suspect events c = IsSuspected events c
WitnessOf Faulty events c = IsDeclaredFaulty events c
WitnessOf Leave events c = Unit {0}
WitnessOf Tombstone events c = IsMadeTombstone events c

-- the witness of an entry, by its status
abbrev pub HasWitness : {H : Type 0} → List (WorldEvent H) → Change → Type 0
HasWitness events c = WitnessOf c.status events c

-- every entry that a node holds or passes on, and every entry that a message carries, has a witness among the events
pub record AllHaveWitnesses {H : Type 0} (events : List (WorldEvent H)) : Type 0 where
  pub held : (a : ℕ) (node : Node H) (c : Change) → (world_after nothing events).nodes a ≡ Some node → Holds node c → HasWitness events c
  pub told : (message : Message) (c : Change) → In message (world_after nothing events).messages → Tells message c → HasWitness events c

-- so it is after any events
abbrev pub NoneWithoutWitness : {H : Type 0} → (H → List ℕ → ℕ) → Type 0
NoneWithoutWitness {H} hash_of = (events : List (WorldEvent H)) → MayAllHappen hash_of nothing events → AllHaveWitnesses events
