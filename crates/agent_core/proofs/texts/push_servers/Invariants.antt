use Rattle.std.proofs.Common.{◌≡◌, ◌++◌, string_bytes}
use Rattle.agent_core.specs.Texts.{server_text}
use Rattle.agent_core.proofs.Joining.{joined}
use Rattle.agent_core.proofs.texts.push_servers.Given as goal

abbrev pub invariant-loop-i : goal.invariant-loop-i
invariant-loop-i l = string_bytes l.text ≡ string_bytes l.fn.text ++ joined server_text l.servers l.i
