-- The time limits for which a server waits for others.
use Rattle.std.specs.Prelude.{◌≡◌, ◌*◌, ◌^◌}
use Rattle.std.specs.Duration.{as_nanos}
use Rattle.transport.specs.Limits.{IsStandard}
use Rattle.line_service.specs.declared.timeouts.Timeouts.{Timeouts}

-- 500 milliseconds for a line, and a link's standard limits
abbrev pub AreStandardTimeouts : Timeouts → Type 0
AreStandardTimeouts timeouts = (as_nanos timeouts.line ≡ 500 * 10 ^ 6) × IsStandard timeouts.links
