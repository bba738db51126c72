-- The place in the requests of a client at which the bytes that were read end.
use Rattle.std.specs.Prelude.{◌≡◌, ◌-◌, ℕ, IsFalse}
use Rattle.agent_http.specs.declared.framings.Framing.{Framing}

-- the place is between two requests, or before the first: no byte of a head was read, none of a body is to come, and it is known where the last one ended
abbrev pub IsBetween : Framing → Type 0
IsBetween place = IsFalse place.is_lost × IsFalse place.has_head × (place.len ≡ 0) × (place.body ≡ 0)

-- the place after this many more bytes of a body
abbrev pub past : ℕ → Framing → Framing
past count place = record {
  line = place.line;
  len = place.len;
  has_head = place.has_head;
  body = place.body - count;
  is_lost = place.is_lost;
}
