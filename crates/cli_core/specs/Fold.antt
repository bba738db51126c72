-- The output of `fold`.
use Rattle.std.specs.Prelude.{ℕ, List, [], ◌∷◌, ◌++◌}
use Rattle.sha2.specs.Sha256.{sha256}
use Rattle.change_core.specs.declared.changes.Change.{Change}
use Rattle.change_core.specs.Digest.{digest_digits}
use Rattle.change_core.specs.Members.{digest_text}

-- the digest text of the members and the digits of its SHA-256, a line each
abbrev pub fold_text : List Change → List ℕ
fold_text held = (digest_text held ++ 10 ∷ []) ++ (digest_digits (sha256 (digest_text held)) ++ 10 ∷ [])
