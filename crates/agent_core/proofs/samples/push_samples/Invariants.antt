use Rattle.std.proofs.Common.{◌≡◌, ◌++◌, flat_map, string_bytes, take}
use Rattle.agent_core.specs.Metrics.{labelled}
use Rattle.agent_core.proofs.samples.push_samples.Given as goal

abbrev pub invariant-loop-sample : goal.invariant-loop-sample
invariant-loop-sample l = string_bytes l.text ≡ string_bytes l.fn.text ++ flat_map (labelled l.name) (take l.sample-index l.samples)
