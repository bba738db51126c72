-- The limits of a client's connection.
use Rattle.std.proofs.Common.{◌≡◌, ℕ}
use Rattle.http_server.specs.declared.state.Config.{Config}
use Rattle.agent_http.specs.Visits.{connection_limits}

limits_with : ℕ → ℕ → ℕ → ℕ → Config
limits_with pending head extensions trailers = record {
  limits = record { max_head_len = head; max_extensions_len = extensions; max_trailers_len = trailers };
  max_body_len = 1048576;
  max_pending = pending;
  read_size = 512;
}

limits_by : (d : Config) → (d.max_body_len ≡ 1048576) × (d.max_pending ≡ 65536) × (d.read_size ≡ 8192)
    × (d.limits.max_head_len ≡ 16384) × (d.limits.max_extensions_len ≡ 16384) × (d.limits.max_trailers_len ≡ 16384)
    → limits_with d.max_pending d.limits.max_head_len d.limits.max_extensions_len d.limits.max_trailers_len
    ≡ limits_with 65536 16384 16384 16384
limits_by d said = cc

-- the limits that the code sets over the standard ones
pub limits_are : (d : Config) → (d.max_body_len ≡ 1048576) × (d.max_pending ≡ 65536) × (d.read_size ≡ 8192)
    × (d.limits.max_head_len ≡ 16384) × (d.limits.max_extensions_len ≡ 16384) × (d.limits.max_trailers_len ≡ 16384)
    → record d { max_body_len = 1048576; read_size = 512 } ≡ connection_limits
unfolding limits_with
limits_are d said = limits_by d said
