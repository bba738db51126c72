-- What ran out where the system lets no connection be accepted.
use Rattle.std.specs.Prelude.{ℤ, pos, Bool, ◌||◌, false, Option, Some, None}
use Rattle.std.specs.Ordering.{int_eq}

-- whether the system's error number says that it is out of memory, out of descriptors, that this process is out of descriptors, or that the
-- system is out of buffers (Linux, errno: ENOMEM, ENFILE, EMFILE, ENOBUFS)
abbrev pub is_short : Option ℤ → Bool
is_short None = false
is_short (Some code) = int_eq code (pos 12) || (int_eq code (pos 23) || (int_eq code (pos 24) || int_eq code (pos 105)))
