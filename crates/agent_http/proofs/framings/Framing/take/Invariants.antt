use Rattle.std.proofs.Common.{◌≡◌, ◌≤◌, IsFalse}
use Rattle.agent_http.specs.Framings.{past}
use Rattle.agent_http.proofs.framings.Framing.take.Given as goal

-- the bytes so far were those of a body, if it has as many
abbrev pub invariant-loop-byte : goal.invariant-loop-byte
invariant-loop-byte l = IsFalse l.fn.self.has_head → l.byte-index ≤ l.fn.self.body → l.self ≡ past l.byte-index l.fn.self
