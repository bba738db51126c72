use Rattle.agent_core.proofs.Hosting.{SoFar}
use Rattle.agent_core.proofs.host_lists.hosts_of.Given as goal

-- the hosts so far are those of the lines so far
abbrev pub invariant-loop-place : goal.invariant-loop-place
invariant-loop-place l = SoFar l.lines l.place l.hosts.items
