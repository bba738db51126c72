-- The time limits of a link's calls.
use Rattle.std.specs.Prelude.{◌≡◌, ◌*◌, ◌^◌}
use Rattle.std.specs.Duration.{as_nanos}
use Rattle.std.specs.declared.time.Duration.{Duration}
use Rattle.message_core.specs.declared.messages.Content.{Content}
use Rattle.message_core.specs.declared.messages.Content.TheVariants as content
use Rattle.transport.specs.declared.tcp_links.Limits.{Limits}

-- 500 milliseconds for a ping, 1,250 for a helper, which pings in between, 5,000 for all else
abbrev pub IsStandard : Limits → Type 0
IsStandard limits =
    (as_nanos limits.ping ≡ 500 * 10 ^ 6) × (as_nanos limits.helper ≡ 1250 * 10 ^ 6) × (as_nanos limits.other ≡ 5000 * 10 ^ 6)

-- the limit for a call with this content
abbrev pub limit_for : Limits → Content → Duration
limit_for limits (content.Ping news) = limits.ping
limit_for limits (content.PingReq news target) = limits.helper
limit_for limits other = limits.other
