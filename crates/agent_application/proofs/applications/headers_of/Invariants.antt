use Rattle.std.specs.Prelude.{◌≡◌, map, take}
use Rattle.http1.specs.Head.{pairs}
use Rattle.agent_core.specs.Passing.{named}
use Rattle.agent_application.proofs.applications.headers_of.Given as goal

abbrev pub invariant-loop-field : goal.invariant-loop-field
invariant-loop-field l = pairs l.headers.items ≡ map named (take l.field-index l.fields)
