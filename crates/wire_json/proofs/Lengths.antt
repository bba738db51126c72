-- How long the compact text of a value is.
use Rattle.std.proofs.Common.{◌≡◌, ◌≢◌, ℕ, ◌+◌, ◌*◌, ◌/◌, ◌%◌, ◌<◌, ◌≤◌, Bool, true, false, List, [], ◌∷◌, ◌++◌, length, length-append, refl, ap, arith}
use Rattle.std.specs.Prelude.{◌^◌}
use Rattle.std.specs.List.{AllByRecursion}
use Rattle.std.specs.Cmp.Lexicographic.{slice_cmp}
use Rattle.std.specs.Ordering.{nat_cmp, match_ordering}
use Rattle.std.specs.declared.cmp.Ordering.{Ordering}
use Rattle.std.specs.declared.cmp.Ordering.TheVariants.{Less, Equal, Greater}
use Rattle.std.proofs.lemmas.Grind.{common_steps}
use Rattle.std.proofs.lemmas.Bool.Decides.{nat_tests}
use Rattle.json.specs.Print.{escape_byte, escape, quoted}
use Rattle.serde_json.specs.Data.{Data, Items, item, Members, no_members, member, put}
use Rattle.serde_json.specs.Written.{comma_if, compact_text, items_text, members_text}
use Rattle.change_core.specs.Address.{ip_of, port_of, address_text}
use Rattle.change_core.specs.Numeral.{number_text}
use Rattle.change_core.specs.Status.{status_word}
use Rattle.change_core.specs.declared.statuses.Status.{Status}
use Rattle.change_core.specs.declared.statuses.Status.TheVariants.{Alive, Suspect, Faulty, Leave, Tombstone}
use Rattle.change_core.proofs.NumberTexts.{Digits, Digits-number_text}
use Rattle.message_core.specs.declared.fields.Field.{Field}
use Rattle.message_core.specs.declared.fields.Field.TheVariants as field
use Rattle.message_core.specs.declared.kinds.Kind.{Kind}
use Rattle.message_core.specs.declared.kinds.Kind.TheVariants as kind
use Rattle.message_core.specs.Fields.{name}
use Rattle.wire_json.specs.Forms.{with_fields, written}
use Rattle.message_core.specs.Words.{kind_word}

-- a byte that a string writes as itself, and that is a character
abbrev pub IsPlainByte : ℕ → Type 0
IsPlainByte x = (34 < x) × (x < 128) × (x ≢ 92)

abbrev pub IsPlain : List ℕ → Type 0
IsPlain = AllByRecursion IsPlainByte

pub plain_joined : (xs ys : List ℕ) → IsPlain xs → IsPlain ys → IsPlain (xs ++ ys)
plain_joined [] ys p q = q
plain_joined (x ∷ xs) ys p q = (p.0, plain_joined xs ys p.1 q)

escape_byte-plain : (x : ℕ) → IsPlainByte x → escape_byte x ≡ x ∷ []
unfolding escape_byte
escape_byte-plain x h =
    let above = h.0 in
    let other = h.2 in
    grind (arith, common_steps, nat_tests)

pub escape-plain : (s : List ℕ) → IsPlain s → escape s ≡ s
escape-plain [] h = refl
escape-plain (x ∷ s) h = rw (escape_byte-plain x h.0) (ap (λ t. x ∷ t) (escape-plain s h.1))

pub quoted-plain : (s : List ℕ) → IsPlain s → length (quoted s) ≡ length s + 2
quoted-plain s h = rw (escape-plain s h) (omega (arith, length-append s (34 ∷ [])))

escaped_short : (x : ℕ) → length (escape_byte x) ≤ 6
unfolding escape_byte
escaped_short x = grind (arith, common_steps)

escape_short : (s : List ℕ) → length (escape s) ≤ 6 * length s
escape_short [] = omega arith
escape_short (x ∷ s) = omega (arith, length-append (escape_byte x) (escape s), escaped_short x, escape_short s)

pub quoted_short : (s : List ℕ) → length (quoted s) ≤ 6 * length s + 2
quoted_short s = omega (arith, length-append (escape s) (34 ∷ []), escape_short s)

comma_short : (later : Bool) → length (comma_if later) ≤ 1
comma_short true = omega arith
comma_short false = omega arith

-- a member, and the members after it
pub length-members_text : (later : Bool) (k : List ℕ) (d : Data) (ms : Members)
    → length (members_text later (member k d ms)) ≡ length (comma_if later) + length (quoted k) + 1 + length (compact_text d) + length (members_text true ms)
length-members_text later k d ms =
    omega (
      arith,
      length-append (comma_if later) (quoted k ++ 58 ∷ (compact_text d ++ members_text true ms)),
      length-append (quoted k) (58 ∷ (compact_text d ++ members_text true ms)),
      length-append (compact_text d) (members_text true ms),
    )

-- an element, and the elements after it
pub items_short : (later : Bool) (d : Data) (ds : Items) → length (items_text later (item d ds)) ≤ 1 + length (compact_text d) + length (items_text true ds)
items_short later d ds =
    omega (
      arith,
      length-append (comma_if later) (compact_text d ++ items_text true ds),
      length-append (compact_text d) (items_text true ds),
      comma_short later,
    )

members_later : (ms : Members) → length (members_text false ms) ≤ length (members_text true ms)
members_later no_members = omega arith
members_later (member k d ms) = omega (arith, length-members_text false k d ms, length-members_text true k d ms)

put_at : (o : Ordering) (k l : List ℕ) (d e : Data) (ms : Members) → length (members_text true (put k d ms)) ≤ length (quoted k) + length (compact_text d) + 2 + length (members_text true ms)
    → length (members_text true (match_ordering o (member k d (member l e ms)) (member l d ms) (member l e (put k d ms)))) ≤ length (quoted k) + length (compact_text d) + 2 + length (members_text true (member l e ms))
put_at Less k l d e ms h = omega (arith, length-members_text true k d (member l e ms))
put_at Equal k l d e ms h = omega (arith, length-members_text true l d ms, length-members_text true l e ms)
put_at Greater k l d e ms h = omega (arith, length-members_text true l e (put k d ms), length-members_text true l e ms, h)

put_short : (k : List ℕ) (d : Data) (ms : Members) → length (members_text true (put k d ms)) ≤ length (quoted k) + length (compact_text d) + 2 + length (members_text true ms)
put_short k d no_members = omega (arith, length-members_text true k d no_members)
put_short k d (member l e ms) = put_at (slice_cmp nat_cmp k l) k l d e ms (put_short k d ms)

-- what these members take, a comma and a colon each
abbrev pub sizes : List (Field × Data) → ℕ
sizes [] = 0
sizes (x ∷ xs) = length (quoted (name x.0)) + length (compact_text x.1) + 2 + sizes xs

with_short : (xs : List (Field × Data)) (ms : Members) → length (members_text true (with_fields xs ms)) ≤ sizes xs + length (members_text true ms)
with_short [] ms = omega arith
with_short (x ∷ xs) ms = omega (arith, put_short (name x.0) x.1 ms, with_short xs (put (name x.0) x.1 ms))

-- an object is no longer than its members and its brackets
pub written_short : (xs : List (Field × Data)) → length (compact_text (written xs)) ≤ sizes xs + 2
written_short xs = omega (arith, members_later (with_fields xs no_members), with_short xs no_members)

-- a member's name is written as it is
pub quoted_name : (f : Field) → length (quoted (name f)) ≡ length (name f) + 2
unfolding escape_byte
quoted_name field.Address = refl
quoted_name field.IncarnationNumber = refl
quoted_name field.Source = refl
quoted_name field.SourceIncarnationNumber = refl
quoted_name field.Status = refl
quoted_name field.Tombstone = refl
quoted_name field.Kind = refl
quoted_name field.Checksum = refl
quoted_name field.Changes = refl
quoted_name field.Target = refl
quoted_name field.Reached = refl
quoted_name field.Keys = refl
quoted_name field.Body = refl
quoted_name field.Reason = refl
quoted_name field.Weight = refl

-- and so is a status
pub quoted_status : (s : Status) → length (quoted (status_word s)) ≤ 11
unfolding escape_byte
quoted_status Alive = omega arith
quoted_status Suspect = omega arith
quoted_status Faulty = omega arith
quoted_status Leave = omega arith
quoted_status Tombstone = omega arith

pub kind_short : (k : Kind) → length (kind_word k) ≤ 12
kind_short kind.Join = omega arith
kind_short kind.Joined = omega arith
kind_short kind.Ping = omega arith
kind_short kind.Ack = omega arith
kind_short kind.PingReq = omega arith
kind_short kind.PingReqAck = omega arith
kind_short kind.Forward = omega arith
kind_short kind.Reply = omega arith
kind_short kind.NotOwner = omega arith
kind_short kind.Refused = omega arith

digits_plain : (s : List ℕ) → Digits s → IsPlain s
digits_plain [] h = tt
digits_plain (x ∷ s) h =
    let low = h.0.0 in
    let high = h.0.1 in
    ((omega arith, omega arith, omega arith), digits_plain s h.1)

decimal_plain : (n : ℕ) → IsPlain (number_text n)
decimal_plain n = digits_plain (number_text n) (Digits-number_text n)

-- a byte between numbers
mark : (x : ℕ) → 34 < x → x < 92 → IsPlainByte x
mark x low high = (low, omega arith, omega arith)

pub address_plain : (a : ℕ) → IsPlain (address_text a)
address_plain a =
    plain_joined _ _ (decimal_plain (ip_of a / 256 ^ 3)) (
      mark 46 (omega arith) (omega arith),
      plain_joined _ _ (decimal_plain (ip_of a / 256 ^ 2 % 256)) (
        mark 46 (omega arith) (omega arith),
        plain_joined _ _ (decimal_plain (ip_of a / 256 % 256)) (
          mark 46 (omega arith) (omega arith),
          plain_joined _ _ (decimal_plain (ip_of a % 256)) (mark 58 (omega arith) (omega arith), decimal_plain (port_of a)),
        ),
      ),
    )
