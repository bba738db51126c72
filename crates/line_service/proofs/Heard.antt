-- What a buffered reader that has read nothing yet gives.
use Rattle.std.proofs.Common.{◌≡◌, ℕ, ◌==◌, if◌then◌else◌, inl, ap, ◌∙◌, subst, List, [], Option, None, Result, Vec}
use Rattle.std.proofs.KnownBytes.{prepend_known-nil}
use Rattle.std.specs.Global.{Global}
use Rattle.std.specs.Io.Buffered.{reader_buffer, reader_capacity, reader_inner, reader_remaining}
use Rattle.std.specs.Io.KnownBytes.{prepend_known}
use Rattle.std.specs.declared.io.buffered.BufReader.{BufReader}
use Rattle.wire_json.specs.Input.{TakesLine}
use Rattle.message_core.specs.declared.errors.WireError.{WireError}
use Rattle.line_service.specs.Answering.{Hears, IsInputOf}
use Rattle.line_service.specs.declared.inputs.Input.{Input}

-- with nothing read ahead, the bytes are the stream's
nothing_ahead : (capacity : ℕ) (ahead : List ℕ) (known : Option (List ℕ)) → capacity ≡ 8192 → ahead ≡ [] → (if capacity == 0 then None else prepend_known ahead known) ≡ known
nothing_ahead capacity ahead known is none = rw is (ap (λ (xs : List ℕ). prepend_known xs known) none ∙ prepend_known-nil known)

-- what one line that was read by a new reader comes to
pub heard_by : {S A : Type 0} (remaining : S → Option (List ℕ)) (stream : S) (reader : BufReader S A) (read : Result (Option (Vec ℕ Global)) WireError) (left : Option (List ℕ)) (heard : Input)
    → reader_inner reader ≡ stream → reader_buffer reader ≡ [] → reader_capacity reader ≡ 8192 → TakesLine (reader_remaining remaining reader) read left → IsInputOf read heard
    → Hears (remaining stream) heard
heard_by remaining stream reader read left heard inner empty capacity taken is =
    let same : reader_remaining remaining reader ≡ remaining stream =
    nothing_ahead (reader_capacity reader) (reader_buffer reader) (remaining (reader_inner reader)) capacity empty ∙ ap remaining inner in
    inl (read, left, subst (λ (known : Option (List ℕ)). TakesLine known read left) same taken, is)
