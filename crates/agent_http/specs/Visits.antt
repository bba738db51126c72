-- A client's connection between two visits of a worker: its limits, and what is not owed to it.
use Rattle.std.specs.Prelude.{◌≡◌, []}
use Rattle.http1.specs.declared.conn.Limits.{Limits}
use Rattle.http_server.specs.declared.state.Config.{Config}
use Rattle.http_server.specs.History.{History, Rests}

-- 16 KiB for the head of a request, for the extensions of its chunks and for its trailers
abbrev pub head_limits : Limits
head_limits = record { max_head_len = 16384; max_extensions_len = 16384; max_trailers_len = 16384 }

-- 1 MiB for its body; while more than 64 KiB wait to be sent, no request is read; a read has room for 512 bytes at least
abbrev pub connection_limits : Config
connection_limits = record { limits = head_limits; max_body_len = 1048576; max_pending = 65536; read_size = 512 }

-- nothing is owed: what was answered is written, and each whole request that came is answered
abbrev pub IsSettled : History → Type 0
IsSettled h = (h.pending ≡ []) × Rests connection_limits h
