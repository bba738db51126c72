-- Since when the ring has its digest.
use Rattle.std.specs.Prelude.{◌&&◌, nat_le, cond, bytes_eq, Option, Some, None}
use Rattle.change_core.specs.declared.digests.Digest.{Digest}
use Rattle.httpdate.specs.Date.{unix_secs}
use Rattle.httpdate.specs.declared.date.HttpDate.{HttpDate}
use Rattle.agent_state.specs.declared.watchers.Seen.{Seen}

-- the ring has this digest now: it has it since it was first seen with it, if it was seen with no other since then and this is not after now, or since now
abbrev pub seen_at : Option Seen → Digest → HttpDate → Seen
seen_at None digest now = record { digest = digest; since = now }
seen_at (Some seen) digest now =
    cond (bytes_eq seen.digest.bytes digest.bytes && nat_le (unix_secs seen.since) (unix_secs now)) seen (record { digest = digest; since = now })
