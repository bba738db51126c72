-- The output of `hash`.
use Rattle.std.specs.Prelude.{ℕ, List, take}
use Rattle.sha2.specs.Sha256.{sha256}
use Rattle.change_core.specs.Digest.{digest_digits}

-- the first 16 digits of the SHA-256
abbrev pub hash_text : List ℕ → List ℕ
hash_text bytes = take 16 (digest_digits (sha256 bytes))
