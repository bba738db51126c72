use Rattle.std.proofs.Common.{◌≡◌, take}
use Rattle.change_core.specs.Members.{members}
use Rattle.agent_node.proofs.digests.digest_of.Given as goal

-- the table has the members to which the changes so far come
abbrev pub invariant-loop-change : goal.invariant-loop-change
invariant-loop-change l = l.table.members ≡ members (take l.change-index l.members)
