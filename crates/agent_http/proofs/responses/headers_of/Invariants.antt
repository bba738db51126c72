use Rattle.std.proofs.Common.{take}
use Rattle.agent_http.proofs.Shown.{AreShown}
use Rattle.agent_http.proofs.responses.headers_of.Given as goal

-- the fields so far are those of HTTP, and are shown in their order
abbrev pub invariant-loop-i : goal.invariant-loop-i
invariant-loop-i l = AreShown (take l.i l.given) l.headers.items
