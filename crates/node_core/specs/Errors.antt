-- The error of a node for an error of one of its parts.
use Rattle.member_core.specs.declared.errors.MemberError.{MemberError}
use Rattle.member_core.specs.declared.errors.MemberError.TheVariants as member
use Rattle.hash_ring.specs.declared.errors.RingError.{RingError}
use Rattle.hash_ring.specs.declared.errors.RingError.TheVariants as ring
use Rattle.gossip_core.specs.declared.errors.GossipError.{GossipError}
use Rattle.gossip_core.specs.declared.errors.GossipError.TheVariants as gossip
use Rattle.detector_core.specs.declared.errors.DetectorError.{DetectorError}
use Rattle.detector_core.specs.declared.errors.DetectorError.TheVariants as detector
use Rattle.node_core.specs.declared.configs.ConfigField.TheVariants as field
use Rattle.node_core.specs.declared.errors.NodeError.{NodeError}
use Rattle.node_core.specs.declared.errors.NodeError.TheVariants.{BadConfig, Full, Busy, Spent, StaleProbe, NotAsked, Memory}

-- an error of the members: a bad limit is the bad field `MaxMembers`, and any other keeps its name
abbrev pub error_of_members : MemberError → NodeError
error_of_members member.BadLimit = BadConfig field.MaxMembers
error_of_members member.Full = Full
error_of_members member.Memory = Memory

-- an error of the ring: a bad number of replicas is the bad field `Replicas`, and out of memory keeps its name
abbrev pub error_of_ring : RingError → NodeError
error_of_ring ring.BadReplicas = BadConfig field.Replicas
error_of_ring ring.Memory = Memory

-- an error of the pending changes: a bad factor is the bad field `Piggyback`, and out of memory keeps its name
abbrev pub error_of_gossip : GossipError → NodeError
error_of_gossip gossip.BadFactor = BadConfig field.Piggyback
error_of_gossip gossip.Memory = Memory

-- an error of the prober or of the timers: each keeps its name
abbrev pub error_of_detector : DetectorError → NodeError
error_of_detector detector.Busy = Busy
error_of_detector detector.Spent = Spent
error_of_detector detector.StaleProbe = StaleProbe
error_of_detector detector.NotAsked = NotAsked
error_of_detector detector.Memory = Memory
