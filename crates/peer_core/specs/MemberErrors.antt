-- The errors of a member's calls: for each call those that it can give. Each is an error of `ClusterError` by name.
use Rattle.std.specs.Prelude.{◌≡◌, Result, Ok, Err}
use Rattle.node_core.specs.declared.errors.NodeError.{NodeError}
use Rattle.node_core.specs.declared.errors.NodeError.TheVariants as node
use Rattle.turn_lock.specs.declared.errors.LockError.{LockError}
use Rattle.turn_lock.specs.declared.errors.LockError.TheVariants as lock
use Rattle.peer_core.specs.declared.errors.ClusterError.{ClusterError}
use Rattle.peer_core.specs.declared.errors.ClusterError.TheVariants as error
use Rattle.peer_core.specs.declared.member_errors.CallError.{CallError}
use Rattle.peer_core.specs.declared.member_errors.CallError.TheVariants as call
use Rattle.peer_core.specs.declared.member_errors.JoinError.{JoinError}
use Rattle.peer_core.specs.declared.member_errors.JoinError.TheVariants as join
use Rattle.peer_core.specs.declared.member_errors.LeaveError.{LeaveError}
use Rattle.peer_core.specs.declared.member_errors.LeaveError.TheVariants as leave
use Rattle.peer_core.specs.declared.member_errors.RejoinError.{RejoinError}
use Rattle.peer_core.specs.declared.member_errors.RejoinError.TheVariants as rejoin
use Rattle.peer_core.specs.declared.member_errors.RequestError.{RequestError}
use Rattle.peer_core.specs.declared.member_errors.RequestError.TheVariants as request
use Rattle.peer_core.specs.declared.member_errors.RoundError.{RoundError}
use Rattle.peer_core.specs.declared.member_errors.RoundError.TheVariants as round
use Rattle.peer_core.specs.Parts.{allowed}

-- the same error of a round as one of `ClusterError`
abbrev pub error_of_round : RoundError → ClusterError
error_of_round round.ForeignPass = error.ForeignPass
error_of_round round.PassSpent = error.PassSpent
error_of_round round.Busy = error.Busy
error_of_round round.Spent = error.Spent
error_of_round round.StaleProbe = error.StaleProbe
error_of_round round.NotAsked = error.NotAsked
error_of_round round.Memory = error.Memory

-- the same error of a join as one of `ClusterError`
abbrev pub error_of_join : JoinError → ClusterError
error_of_join join.NoneJoined = error.NoneJoined
error_of_join join.ForeignPass = error.ForeignPass
error_of_join join.PassSpent = error.PassSpent
error_of_join join.Memory = error.Memory

-- the same error of a request as one of `ClusterError`
abbrev pub error_of_request : RequestError → ClusterError
error_of_request request.Diverged = error.Diverged
error_of_request request.Nobody = error.Nobody
error_of_request request.RetriesSpent = error.RetriesSpent
error_of_request request.HandlerFault = error.HandlerFault
error_of_request request.ForeignPass = error.ForeignPass
error_of_request request.PassSpent = error.PassSpent
error_of_request request.Memory = error.Memory

-- the same error of a call that copies as one of `ClusterError`
abbrev pub error_of_call : CallError → ClusterError
error_of_call call.ForeignPass = error.ForeignPass
error_of_call call.PassSpent = error.PassSpent
error_of_call call.Memory = error.Memory

-- the same error of leaving as one of `ClusterError`
abbrev pub error_of_leave : LeaveError → ClusterError
error_of_leave leave.ForeignPass = error.ForeignPass
error_of_leave leave.PassSpent = error.PassSpent
error_of_leave leave.AlreadyLeft = error.AlreadyLeft
error_of_leave leave.Memory = error.Memory

-- the same error of rejoining as one of `ClusterError`
abbrev pub error_of_rejoin : RejoinError → ClusterError
error_of_rejoin rejoin.ForeignPass = error.ForeignPass
error_of_rejoin rejoin.PassSpent = error.PassSpent
error_of_rejoin rejoin.NotLeft = error.NotLeft
error_of_rejoin rejoin.Exhausted = error.Exhausted
error_of_rejoin rejoin.Memory = error.Memory

-- a member's answer with its error converted
abbrev pub widened : {A E : Type 0} → (E → ClusterError) → Result A E → Result A ClusterError
widened error_of (Ok a) = Ok a
widened error_of (Err e) = Err (error_of e)

-- the node's errors of a call that copies
abbrev pub IsCallRefusal : NodeError → Type 0
IsCallRefusal node.Memory = Unit {0}
IsCallRefusal other = ⊥

-- the node's errors of `leave`
abbrev pub IsLeaveRefusal : NodeError → Type 0
IsLeaveRefusal node.AlreadyLeft = Unit {0}
IsLeaveRefusal node.Memory = Unit {0}
IsLeaveRefusal other = ⊥

-- the node's errors of `rejoin`
abbrev pub IsRejoinRefusal : NodeError → Type 0
IsRejoinRefusal node.NotLeft = Unit {0}
IsRejoinRefusal node.Exhausted = Unit {0}
IsRejoinRefusal node.Memory = Unit {0}
IsRejoinRefusal other = ⊥

-- the locked node's answer for a member's result
abbrev pub answer_of_call : {A : Type 0} → Result A CallError → Result (Result A NodeError) LockError
answer_of_call (Ok a) = Ok (Ok a)
answer_of_call (Err call.ForeignPass) = Err lock.ForeignPass
answer_of_call (Err call.PassSpent) = Err lock.PassSpent
answer_of_call (Err call.Memory) = Ok (Err node.Memory)

-- the locked node's answer to `leave` for a member's result
abbrev pub answer_of_leave : {A : Type 0} → Result A LeaveError → Result (Result A NodeError) LockError
answer_of_leave (Ok a) = Ok (Ok a)
answer_of_leave (Err leave.ForeignPass) = Err lock.ForeignPass
answer_of_leave (Err leave.PassSpent) = Err lock.PassSpent
answer_of_leave (Err leave.AlreadyLeft) = Ok (Err node.AlreadyLeft)
answer_of_leave (Err leave.Memory) = Ok (Err node.Memory)

-- the locked node's answer to `rejoin` for a member's result
abbrev pub answer_of_rejoin : {A : Type 0} → Result A RejoinError → Result (Result A NodeError) LockError
answer_of_rejoin (Ok a) = Ok (Ok a)
answer_of_rejoin (Err rejoin.ForeignPass) = Err lock.ForeignPass
answer_of_rejoin (Err rejoin.PassSpent) = Err lock.PassSpent
answer_of_rejoin (Err rejoin.NotLeft) = Ok (Err node.NotLeft)
answer_of_rejoin (Err rejoin.Exhausted) = Ok (Err node.Exhausted)
answer_of_rejoin (Err rejoin.Memory) = Ok (Err node.Memory)

-- the locked node's answer and the member's are the same under the errors of `ClusterError`
abbrev pub AnswersAgree : Type 0 → Type 0
AnswersAgree A =
    ((r : Result A CallError) → allowed (answer_of_call r) ≡ widened error_of_call r)
    × ((r : Result A LeaveError) → allowed (answer_of_leave r) ≡ widened error_of_leave r)
    × ((r : Result A RejoinError) → allowed (answer_of_rejoin r) ≡ widened error_of_rejoin r)
