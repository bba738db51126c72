-- Reads and writes after failed ones, which leave what a stream has left and was given.
use Rattle.std.proofs.Common.{◌≡◌, ℕ, List, ◌++◌, Option, None, Some, Result, Ok, Err, ap, sym, ◌∙◌}
use Rattle.std.specs.Io.KnownBytes.{Appends, Consumes, Keeps, ReadConsumes, WriteAppends}
use Rattle.std.proofs.KnownBytes.{Appends-kept, Keeps-trans}

pub consumes_kept : (a b c : Option (List ℕ)) (bs : List ℕ) → Keeps a b → Consumes b c bs → Consumes a c bs
consumes_kept None b c bs p q = tt
consumes_kept (Some x) None c bs p q = absurd p
consumes_kept (Some x) (Some y) None bs p q = absurd q
consumes_kept (Some x) (Some y) (Some z) bs p q = sym p ∙ q

pub appends_kept : (a b c : Option (List ℕ)) (bs : List ℕ) → Keeps a b → Appends b c bs → Appends a c bs
appends_kept None b c bs p q = tt
appends_kept (Some x) None c bs p q = absurd p
appends_kept (Some x) (Some y) None bs p q = absurd q
appends_kept (Some x) (Some y) (Some z) bs p q = q ∙ ap (λ (l : List ℕ). l ++ bs) p

-- a read after failed ones
pub read_kept : {E : Type 0} (a b c : Option (List ℕ)) (r : Result ℕ E) (buf : List ℕ) → Keeps a b → ReadConsumes b c r buf → ReadConsumes a c r buf
read_kept a b c (Ok n) buf p q = (consumes_kept a b c _ p q.0, q.1)
read_kept a b c (Err e) buf p q = Keeps-trans a b c p q

-- a write after failed ones
pub write_kept : {E : Type 0} (a b c : Option (List ℕ)) (r : Result ℕ E) (buf : List ℕ) → Keeps a b → WriteAppends b c r buf → WriteAppends a c r buf
write_kept a b c (Ok n) buf p q = appends_kept a b c _ p q
write_kept a b c (Err e) buf p q = Keeps-trans a b c p q

-- what was appended stays so where it is kept then
pub kept_after : (a b c : Option (List ℕ)) (bs : List ℕ) → Appends a b bs → Keeps b c → Appends a c bs
kept_after a b c bs p q = Appends-kept a b c bs p q
