-- One call of a node: from old, it may give this reply to the call and become new.
use Rattle.std.specs.Prelude.{◌≡◌, ◌<◌, ℕ, Result, Ok, Err, List, length, take, slice_get, option_map}
use Rattle.change_core.specs.Change.{entry_of}
use Rattle.change_core.specs.Members.{greatest, digest_text}
use Rattle.detector_core.specs.Picks.{running_of}
use Rattle.hash_ring.specs.declared.servers.Server.{Server}
use Rattle.hash_ring.specs.Points.{owners}
use Rattle.hash_ring.specs.Serving.{servers_of}
use Rattle.node_core.specs.declared.errors.NodeError.{NodeError}
use Rattle.node_core.specs.declared.errors.NodeError.TheVariants as error
use Rattle.node_core.specs.declared.events.Event.{Event}
use Rattle.node_core.specs.declared.events.Event.TheVariants as call
use Rattle.node_core.specs.declared.events.Reply.{Reply}
use Rattle.node_core.specs.declared.events.Reply.TheVariants as answer
use Rattle.node_core.specs.Asserting.{LeaveStep, RejoinStep}
use Rattle.node_core.specs.Expiring.{ExpireStep}
use Rattle.node_core.specs.Messages.{digest_of, join_by, ping_by, ping_req_by, ping_req_ack_by, told}
use Rattle.node_core.specs.Node.{Node, own_change}
use Rattle.node_core.specs.Probes.{ProbeStep, ProbeDraw, AckedStep, LostStep, LostDraw, HelperStep}
use Rattle.node_core.specs.Receiving.{ReceiveStep, MakeStep}
use Rattle.node_core.specs.Taking.{TakeStep}

-- a lookup returns this value, or is out of memory
abbrev pub Answers : {X : Type 0} → X → Result X NodeError → Type 0
Answers x (Ok y) = y ≡ x
Answers x (Err error.Memory) = Unit {0}
Answers x (Err other) = ⊥

-- the first n owners of a key among these servers are returned; out of memory only if one is to be named
abbrev pub NamesOwners : (List ℕ → ℕ) → ℕ → List Server → List ℕ → ℕ → Result (List ℕ) NodeError → Type 0
NamesOwners hash replicas servers key n (Ok named) = named ≡ take n (owners hash replicas servers key)
NamesOwners hash replicas servers key n (Err error.Memory) = (0 < n) × (0 < length servers)
NamesOwners hash replicas servers key n (Err other) = ⊥

-- the owners of a key among the node's members, the nearest first; hash_of is what its hash gives
abbrev pub owners_by : {H : Type 0} → (H → List ℕ → ℕ) → Node H → List ℕ → List ℕ
owners_by hash_of node key = owners (hash_of node.hash) node.config.replicas (servers_of node.members) key

-- from old, the node may give this reply to the call and become new
abbrev pub NodeStep : {H : Type 0} → (H → List ℕ → ℕ) → Node H → Event → Reply → Node H → Type 0
NodeStep hash_of old (call.Take given moment) (answer.Take result) new = TakeStep old given moment result new
NodeStep hash_of old (call.Receive message moment) (answer.Receive result) new = ReceiveStep old message moment result new
NodeStep hash_of old call.JoinMessage (answer.JoinMessage result) new = MakeStep old (join_by old) old result new
NodeStep hash_of old (call.PingTo target) (answer.PingTo result) new = MakeStep old (ping_by old target) (told old target) result new
NodeStep hash_of old (call.PingReqTo helper target) (answer.PingReqTo result) new =
    MakeStep old (ping_req_by old helper target) (told old helper) result new
NodeStep hash_of old (call.PingReqAckTo requester target reached) (answer.PingReqAckTo result) new =
    MakeStep old (ping_req_ack_by old requester target reached) (told old requester) result new
NodeStep hash_of old call.Leave (answer.Leave result) new = LeaveStep old result new
NodeStep hash_of old call.Rejoin (answer.Rejoin result) new = RejoinStep old result new
NodeStep hash_of old (call.Expire moment) (answer.Expire result) new = ExpireStep old moment result new
NodeStep hash_of old call.Probe (answer.Probe result) new = ProbeStep old result new
NodeStep hash_of old (call.Acked number) (answer.Acked result) new = AckedStep old number result new
NodeStep hash_of old (call.Lost number moment) (answer.Lost result) new = LostStep old number moment result new
NodeStep hash_of old (call.HelperSaid number helper said moment) (answer.HelperSaid result) new = HelperStep old number helper said moment result new
NodeStep hash_of old call.Running (answer.Running running) new = (running ≡ running_of old.probing) × (new ≡ old)
NodeStep hash_of old call.Own (answer.Own change) new = (change ≡ own_change old) × (new ≡ old)
NodeStep hash_of old (call.Member a) (answer.Member entry) new = (entry ≡ option_map entry_of (greatest old.members a)) × (new ≡ old)
NodeStep hash_of old call.Len (answer.Len n) new = (n ≡ length old.members) × (new ≡ old)
NodeStep hash_of old (call.Owner key) (answer.Owner owner) new = (owner ≡ slice_get (owners_by hash_of old key) 0) × (new ≡ old)
NodeStep hash_of old (call.Owners key n) (answer.Owners result) new =
    NamesOwners (hash_of old.hash) old.config.replicas (servers_of old.members) key n result × (new ≡ old)
NodeStep hash_of old call.Members (answer.Members result) new = Answers old.members result × (new ≡ old)
NodeStep hash_of old call.DigestText (answer.DigestText result) new = Answers (digest_text old.members) result × (new ≡ old)
NodeStep hash_of old call.Digest (answer.Digest result) new = Answers (digest_of old.members) result × (new ≡ old)
-- no other reply is given
NodeStep hash_of old event reply new = ⊥

-- the random choices of a call are drawn by the node's generator: the pick of a probe, and the helpers that are asked. `NodeStep` leaves
-- both free
abbrev pub DrawStep : {H : Type 0} → Node H → Event → Reply → Node H → Type 0
DrawStep old call.Probe (answer.Probe result) new = ProbeDraw old result new
DrawStep old (call.Lost number moment) (answer.Lost result) new = LostDraw old number result new
-- no other call chooses
DrawStep old event reply new = Unit {0}
