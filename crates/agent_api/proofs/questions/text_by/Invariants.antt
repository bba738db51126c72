use Rattle.std.proofs.Common.{◌≡◌, ◌++◌, codes, string_bytes}
use Rattle.agent_core.proofs.Joining.{joined}
use Rattle.agent_api.specs.Performing.{key_text}
use Rattle.agent_api.proofs.questions.text_by.Given as goal

abbrev pub invariant-loop-i : goal.invariant-loop-i
invariant-loop-i l = string_bytes l.text ≡ codes "{\"owners\":[" ++ joined (key_text l.view l.count l.hidden) l.keys l.i
