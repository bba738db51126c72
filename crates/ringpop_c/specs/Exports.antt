-- The exports of a node, and what one after another makes of it.
use Rattle.std.specs.Prelude.{◌≡◌, ◌⊎◌, ℕ, Bool, List, [], ◌∷◌, length, option_map}
use Rattle.change_core.specs.Change.{entry_of}
use Rattle.change_core.specs.Members.{digest_text, greatest}
use Rattle.change_core.specs.declared.changes.Sourced.{Sourced}
use Rattle.detector_core.specs.declared.asked.Said.{Said}
use Rattle.detector_core.specs.Picks.{running_of}
use Rattle.hash_ring.specs.declared.hash.Sha256Hash.{Sha256Hash}
use Rattle.message_core.specs.declared.messages.Message.{Message}
use Rattle.wire_json.specs.Forms.{ChangeForm}
use Rattle.wire_json.specs.Lines.{IsLine}
use Rattle.wire_json.specs.Messages.{MessageForm}
use Rattle.node_core.specs.declared.events.Event.{Event}
use Rattle.node_core.specs.declared.events.Event.TheVariants as call
use Rattle.node_core.specs.declared.events.Reply.{Reply}
use Rattle.node_core.specs.Invariant.{IsNode}
use Rattle.node_core.specs.Itself.{IsItself}
use Rattle.node_core.specs.Messages.{digest_of, join_by, ping_by, ping_req_by, ping_req_ack_by, told}
use Rattle.node_core.specs.Node.{Node, own_change}
use Rattle.node_core.specs.Run.{IsRun}
use Rattle.node_core.specs.Step.{DrawStep, NodeStep}
use Rattle.ringpop_c.specs.declared.codes.Code.{Code}
use Rattle.ringpop_c.specs.declared.entries.RingpopEntry.{RingpopEntry}
use Rattle.ringpop_c.specs.Entries.{EntryPlace, TellsChange, TellsEntry}
use Rattle.ringpop_c.specs.Lines.{Buffer, HearsBy, SaysBy, TellsText}
use Rattle.ringpop_c.specs.Owners.{OwnersBy, Place}
use Rattle.ringpop_c.specs.Probing.{AcksBy, HearsHelper, LosesBy, ProbesBy, TellsRunning, TellsWaiting}
use Rattle.hash_ring.specs.Points.{hash_of}
use Rattle.ringpop_c.specs.Steps.{ExpiresBy, LeavesBy, RejoinsBy, TellsAddress, TellsCount, owner_by}
use Rattle.ringpop_c.specs.Taking.{HearsChange}

-- an export with its arguments and its output, addresses and words read
pub data Export : Type 0 where
  Leave : Export
  Rejoin : Export
  Expire : ℕ → ℕ → ℕ → RingpopEntry → Export
  Probe : ℕ → ℕ → ℕ → Export
  Acked : ℕ → Export
  Lost : ℕ → ℕ → EntryPlace → Export
  HelperSaid : ℕ → ℕ → Said → ℕ → EntryPlace → Export
  Take : List ℕ → ℕ → Export
  Receive : List ℕ → ℕ → Buffer → Export
  Join : Buffer → Export
  Ping : ℕ → Buffer → Export
  PingReq : ℕ → ℕ → Buffer → Export
  PingReqAck : ℕ → ℕ → Bool → Buffer → Export
  Running : ℕ → ℕ → ℕ → Export
  Waiting : ℕ → ℕ → ℕ → Export
  Own : ℕ → ℕ → RingpopEntry → Export
  Member : ℕ → RingpopEntry → Export
  Len : ℕ → Export
  Members : Buffer → Export
  Digest : Buffer → Export
  Owner : List ℕ → ℕ → ℕ → Export
  Owners : List ℕ → ℕ → Place → Export

-- the step that its clauses allow; a lookup leaves the node unchanged
abbrev pub ExportStep : Export → Node Sha256Hash → Code → Node Sha256Hash → Type 0
ExportStep Leave old answer new = LeavesBy old answer new
ExportStep Rejoin old answer new = RejoinsBy old answer new
ExportStep (Expire moment ip port entry) old answer new = ExpiresBy moment ip port entry old answer new
ExportStep (Probe number ip port) old answer new = ProbesBy number ip port old answer new
ExportStep (Acked number) old answer new = AcksBy number old answer new
ExportStep (Lost number moment place) old answer new = LosesBy number moment place old answer new
ExportStep (HelperSaid number helper said moment place) old answer new = HearsHelper number helper said moment place old answer new
ExportStep (Take line moment) old answer new = HearsChange line moment old answer new
ExportStep (Receive line moment buffer) old answer new = HearsBy line moment buffer old answer new
ExportStep (Join buffer) old answer new = SaysBy (λ n. join_by n) (λ n. n) buffer old answer new
ExportStep (Ping target buffer) old answer new = SaysBy (λ n. ping_by n target) (λ n. told n target) buffer old answer new
ExportStep (PingReq helper target buffer) old answer new = SaysBy (λ n. ping_req_by n helper target) (λ n. told n helper) buffer old answer new
ExportStep (PingReqAck requester target reached buffer) old answer new =
    SaysBy (λ n. ping_req_ack_by n requester target reached) (λ n. told n requester) buffer old answer new
ExportStep (Running number ip port) old answer new = TellsRunning (running_of old.probing) number ip port answer × (new ≡ old)
ExportStep (Waiting number ip port) old answer new = TellsWaiting (running_of old.probing) number ip port answer × (new ≡ old)
ExportStep (Own ip port entry) old answer new = TellsChange (own_change old) ip port entry answer × (new ≡ old)
ExportStep (Member a entry) old answer new = TellsEntry (option_map entry_of (greatest old.members a)) entry answer × (new ≡ old)
ExportStep (Len count) old answer new = TellsCount (length old.members) count answer × (new ≡ old)
ExportStep (Members buffer) old answer new = TellsText (digest_text old.members) buffer answer × (new ≡ old)
ExportStep (Digest buffer) old answer new = TellsText (digest_of old.members).bytes buffer answer × (new ≡ old)
ExportStep (Owner key ip port) old answer new = TellsAddress (owner_by old key) ip port answer × (new ≡ old)
ExportStep (Owners key n place) old answer new = OwnersBy key n place old answer × (new ≡ old)

-- the call of the node that an export makes: of a line, that of the change or the message that it is
abbrev pub IsCallOf : Export → Event → Type 0
IsCallOf Leave event = event ≡ call.Leave
IsCallOf Rejoin event = event ≡ call.Rejoin
IsCallOf (Expire moment ip port entry) event = event ≡ call.Expire moment
IsCallOf (Probe number ip port) event = event ≡ call.Probe
IsCallOf (Acked number) event = event ≡ call.Acked number
IsCallOf (Lost number moment place) event = event ≡ call.Lost number moment
IsCallOf (HelperSaid number helper said moment place) event = event ≡ call.HelperSaid number helper said moment
IsCallOf (Take line moment) event = (change : Sourced) × IsLine (λ v. ChangeForm v change) line × (event ≡ call.Take (change ∷ []) moment)
IsCallOf (Receive line moment buffer) event = (message : Message) × IsLine (λ v. MessageForm v message) line × (event ≡ call.Receive message moment)
IsCallOf (Join buffer) event = event ≡ call.JoinMessage
IsCallOf (Ping target buffer) event = event ≡ call.PingTo target
IsCallOf (PingReq helper target buffer) event = event ≡ call.PingReqTo helper target
IsCallOf (PingReqAck requester target reached buffer) event = event ≡ call.PingReqAckTo requester target reached
IsCallOf (Running number ip port) event = event ≡ call.Running
IsCallOf (Waiting number ip port) event = event ≡ call.Running
IsCallOf (Own ip port entry) event = event ≡ call.Own
IsCallOf (Member a entry) event = event ≡ call.Member a
IsCallOf (Len count) event = event ≡ call.Len
IsCallOf (Members buffer) event = event ≡ call.DigestText
IsCallOf (Digest buffer) event = event ≡ call.Digest
IsCallOf (Owner key ip port) event = event ≡ call.Owner key
IsCallOf (Owners key n place) event = event ≡ call.Owners key n

-- an export leaves the node as it is, or makes its one call, and of what that chooses at random the node's generator draws
abbrev pub StaysOrCalls : Export → Node Sha256Hash → Node Sha256Hash → Type 0
StaysOrCalls export old new =
    (new ≡ old)
    ⊎ ((event : Event) × (reply : Reply) × IsCallOf export event × NodeStep hash_of old event reply new × DrawStep old event reply new)

-- each step of an export is such a one
abbrev pub ExportsAreCalls : Type 0
ExportsAreCalls = (export : Export) (old new : Node Sha256Hash) (answer : Code) → ExportStep export old answer new → StaysOrCalls export old new

-- from old, these exports may return these codes, one after another, and the node becomes new
abbrev pub IsExportRun : Node Sha256Hash → List Export → List Code → Node Sha256Hash → Type 0
IsExportRun old [] [] new = new ≡ old
IsExportRun old [] (answer ∷ answers) new = ⊥
IsExportRun old (export ∷ exports) [] new = ⊥
IsExportRun old (export ∷ exports) (answer ∷ answers) new =
    (mid : Node Sha256Hash) × ExportStep export old answer mid × IsExportRun mid exports answers new

-- these are the calls that the exports make, in their order, each of them one or none
abbrev pub AreCallsOf : List Export → List Event → Type 0
AreCallsOf [] [] = Unit {0}
AreCallsOf [] (event ∷ events) = ⊥
AreCallsOf (export ∷ exports) [] = AreCallsOf exports []
AreCallsOf (export ∷ exports) (event ∷ events) = AreCallsOf exports (event ∷ events) ⊎ (IsCallOf export event × AreCallsOf exports events)

-- the node goes from old to new by a run of the calls that these exports make
abbrev pub GoesByCalls : List Export → Node Sha256Hash → Node Sha256Hash → Type 0
GoesByCalls exports old new = (events : List Event) × (replies : List Reply) × AreCallsOf exports events × IsRun hash_of old events replies new

-- any exports, one after another, are such a run
abbrev pub ExportRunsAreRuns : Type 0
ExportRunsAreRuns =
    (old new : Node Sha256Hash) (exports : List Export) (answers : List Code) → IsExportRun old exports answers new → GoesByCalls exports old new

-- and what holds of a node between any two calls still holds after it, and the node is still itself
abbrev pub ExportRunsKeepIt : Type 0
ExportRunsKeepIt =
    (old new : Node Sha256Hash) (exports : List Export) (answers : List Code) → IsNode old → IsExportRun old exports answers new
    → IsNode new × IsItself old new
