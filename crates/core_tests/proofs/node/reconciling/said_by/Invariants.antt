use Rattle.std.proofs.Common.{◌≡◌, ◌≤◌, length, map, take, vec_len, vec_capacity}
use Rattle.member_core.specs.Membership.{said_by}
use Rattle.core_tests.proofs.node.reconciling.said_by.Given as goal

abbrev pub invariant-loop-change : goal.invariant-loop-change
invariant-loop-change l = (l.said.items ≡ map (said_by l.own) (take l.change-index l.changes)) × (vec_len l.said ≡ l.change-index) × (length l.changes ≤ vec_capacity l.said)
