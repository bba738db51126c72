-- The errors of a node, of its lock and of an attempt under their names here: each has its own.
use Rattle.forward_core.specs.declared.errors.ForwardError.{ForwardError}
use Rattle.forward_core.specs.declared.errors.ForwardError.TheVariants as forward
use Rattle.node_core.specs.declared.errors.NodeError.{NodeError}
use Rattle.node_core.specs.declared.errors.NodeError.TheVariants as node
use Rattle.turn_lock.specs.declared.errors.LockError.{LockError}
use Rattle.turn_lock.specs.declared.errors.LockError.TheVariants as lock
use Rattle.peer_core.specs.declared.errors.ClusterError.{ClusterError}
use Rattle.peer_core.specs.declared.errors.ClusterError.TheVariants as error

-- the same error of the lock as one of `ClusterError`
abbrev pub error_of_lock : LockError → ClusterError
error_of_lock lock.ForeignPass = error.ForeignPass
error_of_lock lock.PassSpent = error.PassSpent

-- the same error of the node as one of `ClusterError`
abbrev pub error_of_node : NodeError → ClusterError
error_of_node (node.BadConfig field) = error.BadConfig field
error_of_node node.Exhausted = error.Exhausted
error_of_node node.Full = error.Full
error_of_node node.AlreadyLeft = error.AlreadyLeft
error_of_node node.NotLeft = error.NotLeft
error_of_node node.Busy = error.Busy
error_of_node node.Spent = error.Spent
error_of_node node.StaleProbe = error.StaleProbe
error_of_node node.NotAsked = error.NotAsked
error_of_node node.Memory = error.Memory

-- the same error of a request as one of `ClusterError`
abbrev pub error_of_forward : ForwardError → ClusterError
error_of_forward forward.Diverged = error.Diverged
error_of_forward forward.Nobody = error.Nobody
error_of_forward forward.RetriesSpent = error.RetriesSpent
error_of_forward forward.InFlight = error.InFlight
error_of_forward forward.NotInFlight = error.NotInFlight

-- the errors of a round
abbrev pub IsRoundRefusal : ClusterError → Type 0
IsRoundRefusal error.ForeignPass = Unit {0}
IsRoundRefusal error.PassSpent = Unit {0}
IsRoundRefusal error.Busy = Unit {0}
IsRoundRefusal error.Spent = Unit {0}
IsRoundRefusal error.StaleProbe = Unit {0}
IsRoundRefusal error.NotAsked = Unit {0}
IsRoundRefusal error.Memory = Unit {0}
IsRoundRefusal other = ⊥

-- the errors of a join
abbrev pub IsJoinRefusal : ClusterError → Type 0
IsJoinRefusal error.NoneJoined = Unit {0}
IsJoinRefusal error.ForeignPass = Unit {0}
IsJoinRefusal error.PassSpent = Unit {0}
IsJoinRefusal error.Memory = Unit {0}
IsJoinRefusal other = ⊥

-- the errors of healing
abbrev pub IsHealRefusal : ClusterError → Type 0
IsHealRefusal error.ForeignPass = Unit {0}
IsHealRefusal error.PassSpent = Unit {0}
IsHealRefusal error.Memory = Unit {0}
IsHealRefusal other = ⊥
