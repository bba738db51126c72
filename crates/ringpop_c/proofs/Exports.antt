-- What exports do with a node is what its calls do.
use Rattle.std.proofs.Common.{List, [], ◌∷◌, length, Ok, Err, inl, inr, refl, sym, subst}
use Rattle.std.specs.Prelude.{option_map}
use Rattle.change_core.specs.Change.{entry_of}
use Rattle.change_core.specs.Members.{digest_text, greatest}
use Rattle.detector_core.specs.Picks.{running_of}
use Rattle.hash_ring.specs.declared.hash.Sha256Hash.{Sha256Hash}
use Rattle.node_core.specs.declared.errors.NodeError.TheVariants as error
use Rattle.node_core.specs.declared.events.Event.{Event}
use Rattle.node_core.specs.declared.events.Event.TheVariants as call
use Rattle.node_core.specs.declared.events.Reply.TheVariants as reply
use Rattle.node_core.specs.Invariant.{IsNode}
use Rattle.node_core.specs.Itself.{IsItself}
use Rattle.node_core.specs.Messages.{digest_of, join_by, ping_by, ping_req_by, ping_req_ack_by}
use Rattle.node_core.specs.Node.{Node, own_change}
use Rattle.node_core.specs.Run.{IsRun}
use Rattle.node_core.proofs.Invariant.{calls_keep_it}
use Rattle.node_core.proofs.Itself.{run_itself}
use Rattle.ringpop_c.specs.declared.codes.Code.{Code}
use Rattle.ringpop_c.specs.Exports.{Export, Leave, Rejoin, Expire, Probe, Acked, Lost, HelperSaid, Take, Receive, Join, Ping, PingReq, PingReqAck}
use Rattle.ringpop_c.specs.Exports.{Running, Waiting, Own, Member, Len, Members, Digest, Owner, Owners}
use Rattle.ringpop_c.specs.Exports.{AreCallsOf, ExportsAreCalls, ExportRunsAreRuns, ExportRunsKeepIt, GoesByCalls, IsExportRun, StaysOrCalls}
use Rattle.hash_ring.specs.Points.{hash_of}
use Rattle.ringpop_c.specs.Steps.{owner_by}

-- each step of an export is one call of the node, or none
pub exports_are_calls : ExportsAreCalls
exports_are_calls Leave old new answer (left, code, step) = inr (call.Leave, reply.Leave left, refl, step, tt)
exports_are_calls Rejoin old new answer (back, code, step) = inr (call.Rejoin, reply.Rejoin back, refl, step, tt)
exports_are_calls (Expire moment ip port entry) old new answer (expired, tells, step) = inr (call.Expire moment, reply.Expire expired, refl, step, tt)
exports_are_calls (Probe number ip port) old new answer (begun, tells, step, draw) = inr (call.Probe, reply.Probe begun, refl, step, draw)
exports_are_calls (Acked number) old new answer (acked, code, step) = inr (call.Acked number, reply.Acked acked, refl, step, tt)
exports_are_calls (Lost number moment place) old new answer (loss, tells, step, draw) = inr (call.Lost number moment, reply.Lost loss, refl, step, draw)
exports_are_calls (HelperSaid number helper said moment place) old new answer (outcome, tells, step) =
    inr (call.HelperSaid number helper said moment, reply.HelperSaid outcome, refl, step, tt)
exports_are_calls (Take line moment) old new answer (inl (change, reads, (taken, code, step))) =
    inr (call.Take (change ∷ []) moment, reply.Take taken, (change, reads, refl), step, tt)
exports_are_calls (Take line moment) old new answer (inr (same, unread)) = inl same
exports_are_calls (Receive line moment buffer) old new answer (inl (room, message, reads, (outcome, step, tells))) =
    inr (call.Receive message moment, reply.Receive outcome, (message, reads, refl), step, tt)
exports_are_calls (Receive line moment buffer) old new answer (inr (inl (room, same, unread))) = inl same
exports_are_calls (Receive line moment buffer) old new answer (inr (inr (same, code, short))) = inl same
exports_are_calls (Join buffer) old new answer (inl (room, is, writes)) = inr (call.JoinMessage, reply.JoinMessage (Ok (join_by old)), refl, (refl, is), tt)
exports_are_calls (Join buffer) old new answer (inr (inl (room, same, memory))) = inl same
exports_are_calls (Join buffer) old new answer (inr (inr (same, code, short))) = inl same
exports_are_calls (Ping target buffer) old new answer (inl (room, is, writes)) =
    inr (call.PingTo target, reply.PingTo (Ok (ping_by old target)), refl, (refl, is), tt)
exports_are_calls (Ping target buffer) old new answer (inr (inl (room, same, memory))) = inl same
exports_are_calls (Ping target buffer) old new answer (inr (inr (same, code, short))) = inl same
exports_are_calls (PingReq helper target buffer) old new answer (inl (room, is, writes)) =
    inr (call.PingReqTo helper target, reply.PingReqTo (Ok (ping_req_by old helper target)), refl, (refl, is), tt)
exports_are_calls (PingReq helper target buffer) old new answer (inr (inl (room, same, memory))) = inl same
exports_are_calls (PingReq helper target buffer) old new answer (inr (inr (same, code, short))) = inl same
exports_are_calls (PingReqAck requester target reached buffer) old new answer (inl (room, is, writes)) =
    inr (call.PingReqAckTo requester target reached, reply.PingReqAckTo (Ok (ping_req_ack_by old requester target reached)), refl, (refl, is), tt)
exports_are_calls (PingReqAck requester target reached buffer) old new answer (inr (inl (room, same, memory))) = inl same
exports_are_calls (PingReqAck requester target reached buffer) old new answer (inr (inr (same, code, short))) = inl same
exports_are_calls (Running number ip port) old new answer (tells, same) = inr (call.Running, reply.Running (running_of old.probing), refl, (refl, same), tt)
exports_are_calls (Waiting number ip port) old new answer (tells, same) = inr (call.Running, reply.Running (running_of old.probing), refl, (refl, same), tt)
exports_are_calls (Own ip port entry) old new answer (tells, same) = inr (call.Own, reply.Own (own_change old), refl, (refl, same), tt)
exports_are_calls (Member a entry) old new answer (tells, same) =
    inr (call.Member a, reply.Member (option_map entry_of (greatest old.members a)), refl, (refl, same), tt)
exports_are_calls (Len count) old new answer (tells, same) = inr (call.Len, reply.Len (length old.members), refl, (refl, same), tt)
exports_are_calls (Members buffer) old new answer (inl done, same) =
    inr (call.DigestText, reply.DigestText (Ok (digest_text old.members)), refl, (refl, same), tt)
exports_are_calls (Members buffer) old new answer (inr (inl short), same) =
    inr (call.DigestText, reply.DigestText (Ok (digest_text old.members)), refl, (refl, same), tt)
exports_are_calls (Members buffer) old new answer (inr (inr memory), same) = inr (call.DigestText, reply.DigestText (Err error.Memory), refl, (tt, same), tt)
exports_are_calls (Digest buffer) old new answer (inl done, same) = inr (call.Digest, reply.Digest (Ok (digest_of old.members)), refl, (refl, same), tt)
exports_are_calls (Digest buffer) old new answer (inr (inl short), same) =
    inr (call.Digest, reply.Digest (Ok (digest_of old.members)), refl, (refl, same), tt)
exports_are_calls (Digest buffer) old new answer (inr (inr memory), same) = inr (call.Digest, reply.Digest (Err error.Memory), refl, (tt, same), tt)
exports_are_calls (Owner key ip port) old new answer (tells, same) = inr (call.Owner key, reply.Owner (owner_by old key), refl, (refl, same), tt)
exports_are_calls (Owners key n place) old new answer ((named, names, tells), same) =
    inr (call.Owners key n, reply.Owners named, refl, (names, same), tt)

-- an export that makes no call leaves the calls of the rest
none_of : (export : Export) (exports : List Export) (events : List Event) → AreCallsOf exports events → AreCallsOf (export ∷ exports) events
none_of export exports [] are = are
none_of export exports (event ∷ events) are = inl are

-- a step before a run
run_after : (export : Export) (exports : List Export) (old mid new : Node Sha256Hash) → StaysOrCalls export old mid → GoesByCalls exports mid new
    → GoesByCalls (export ∷ exports) old new
run_after export exports old mid new (inl same) (events, replies, are, run) =
    (events, replies, none_of export exports events are, subst (λ (n : Node Sha256Hash). IsRun hash_of n events replies new) same run)
run_after export exports old mid new (inr (event, answer, which, step, draw)) (events, replies, are, run) =
    (event ∷ events, answer ∷ replies, inr (which, are), (mid, step, run))

-- one step after another is a run
pub export_runs_are_runs : ExportRunsAreRuns
export_runs_are_runs old new [] [] is = ([], [], tt, is)
export_runs_are_runs old new [] (answer ∷ answers) run = absurd run
export_runs_are_runs old new (export ∷ exports) [] run = absurd run
export_runs_are_runs old new (export ∷ exports) (answer ∷ answers) (mid, step, run) =
    run_after export exports old mid new (exports_are_calls export old mid answer step) (export_runs_are_runs mid new exports answers run)

-- a step keeps what holds of a node
kept : (export : Export) (old new : Node Sha256Hash) → IsNode old → StaysOrCalls export old new → IsNode new
kept export old new whole (inl same) = subst (λ (n : Node Sha256Hash). IsNode n) (sym same) whole
kept export old new whole (inr (event, answer, which, step, draw)) = calls_keep_it hash_of old new event answer whole step

all_kept : (old new : Node Sha256Hash) (exports : List Export) (answers : List Code) → IsNode old → IsExportRun old exports answers new → IsNode new
all_kept old new [] [] whole is = subst (λ (n : Node Sha256Hash). IsNode n) (sym is) whole
all_kept old new [] (answer ∷ answers) whole run = absurd run
all_kept old new (export ∷ exports) [] whole run = absurd run
all_kept old new (export ∷ exports) (answer ∷ answers) whole (mid, step, run) =
    all_kept mid new exports answers (kept export old mid whole (exports_are_calls export old mid answer step)) run

-- the node is itself by the run that it is
itself : (exports : List Export) (old new : Node Sha256Hash) → GoesByCalls exports old new → IsItself old new
itself exports old new (events, replies, are, run) = run_itself hash_of old events replies new run

pub export_runs_keep_it : ExportRunsKeepIt
export_runs_keep_it old new exports answers whole run =
    (all_kept old new exports answers whole run, itself exports old new (export_runs_are_runs old new exports answers run))
