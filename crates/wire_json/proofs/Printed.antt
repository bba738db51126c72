-- The text of a change or a message is UTF-8 and reads back as its value.
use Rattle.std.proofs.Common.{ℕ, ◌/◌, ◌%◌, ◌^◌, ◌<◌, ◌≤◌, Bool, true, false, List, [], ◌∷◌, map, nat_lt, codes, IsUtf8, refl, arith}
use Rattle.std.specs.List.{All, AllByRecursion}
use Rattle.std.proofs.lemmas.Bool.Decides.{nat_tests}
use Rattle.std.proofs.lemmas.List.Elements.{All-head, All-tail}
use Rattle.json.proofs.Printed.Utf8.{IsUtf8-are_ascii}
use Rattle.serde_json.specs.Data.{boolean, string, number, array, unsigned, Members, no_members, member}
use Rattle.serde_json.specs.View.{items_of}
use Rattle.change_core.specs.Address.{address_text}
use Rattle.change_core.specs.Digest.{IsDigest, hex_digit, digest_digits}
use Rattle.change_core.specs.Numbers.{greatest_number}
use Rattle.change_core.specs.Status.{status_word}
use Rattle.change_core.specs.declared.changes.Sourced.{Sourced}
use Rattle.change_core.specs.declared.statuses.Status.{Status}
use Rattle.change_core.specs.declared.statuses.Status.TheVariants.{Alive, Suspect, Faulty, Leave, Tombstone}
use Rattle.message_core.specs.declared.fields.Field.{Field}
use Rattle.message_core.specs.declared.fields.Field.TheVariants as field
use Rattle.message_core.specs.declared.kinds.Kind.{Kind}
use Rattle.message_core.specs.declared.kinds.Kind.TheVariants as kind
use Rattle.message_core.specs.declared.kinds.Reason.{Reason}
use Rattle.message_core.specs.declared.kinds.Reason.TheVariants as reason_is
use Rattle.message_core.specs.declared.messages.Message.{Message}
use Rattle.message_core.specs.declared.messages.News.{News}
use Rattle.message_core.specs.declared.messages.Content.{Content}
use Rattle.message_core.specs.declared.messages.Content.TheVariants.{Join, Joined, Ping, Ack, PingReq, PingReqAck, Forward, Reply, NotOwner, Refused}
use Rattle.message_core.specs.Fields.{name}
use Rattle.wire_json.specs.Forms.{IsChange, change_data}
use Rattle.wire_json.specs.Messages.{IsNewsRecord, IsContent, IsMessage, message_data}
use Rattle.wire_json.specs.Sending.{AreTexts}
use Rattle.message_core.specs.Words.{kind_word, reason_word}
use Rattle.wire_json.proofs.Encoding.{change_object}
use Rattle.wire_json.proofs.Lengths.{IsPlain, address_plain}
use Rattle.wire_json.proofs.ReadBack.{IsUtf8-small, IsPrinted, ArePrinted, MembersArePrinted}

-- ---- texts

name_text : (f : Field) → IsUtf8 (name f)
name_text field.Address = IsUtf8-are_ascii _ refl
name_text field.IncarnationNumber = IsUtf8-are_ascii _ refl
name_text field.Source = IsUtf8-are_ascii _ refl
name_text field.SourceIncarnationNumber = IsUtf8-are_ascii _ refl
name_text field.Status = IsUtf8-are_ascii _ refl
name_text field.Tombstone = IsUtf8-are_ascii _ refl
name_text field.Kind = IsUtf8-are_ascii _ refl
name_text field.Checksum = IsUtf8-are_ascii _ refl
name_text field.Changes = IsUtf8-are_ascii _ refl
name_text field.Target = IsUtf8-are_ascii _ refl
name_text field.Reached = IsUtf8-are_ascii _ refl
name_text field.Keys = IsUtf8-are_ascii _ refl
name_text field.Body = IsUtf8-are_ascii _ refl
name_text field.Reason = IsUtf8-are_ascii _ refl
name_text field.Weight = IsUtf8-are_ascii _ refl

status_text : (s : Status) → IsUtf8 (status_word s)
status_text Alive = IsUtf8-are_ascii _ refl
status_text Suspect = IsUtf8-are_ascii _ refl
status_text Faulty = IsUtf8-are_ascii _ refl
status_text Leave = IsUtf8-are_ascii _ refl
status_text Tombstone = IsUtf8-are_ascii _ refl

kind_text : (k : Kind) → IsUtf8 (kind_word k)
kind_text kind.Join = IsUtf8-are_ascii _ refl
kind_text kind.Joined = IsUtf8-are_ascii _ refl
kind_text kind.Ping = IsUtf8-are_ascii _ refl
kind_text kind.Ack = IsUtf8-are_ascii _ refl
kind_text kind.PingReq = IsUtf8-are_ascii _ refl
kind_text kind.PingReqAck = IsUtf8-are_ascii _ refl
kind_text kind.Forward = IsUtf8-are_ascii _ refl
kind_text kind.Reply = IsUtf8-are_ascii _ refl
kind_text kind.NotOwner = IsUtf8-are_ascii _ refl
kind_text kind.Refused = IsUtf8-are_ascii _ refl

reason_text : (r : Reason) → IsUtf8 (reason_word r)
reason_text reason_is.Memory = IsUtf8-are_ascii _ refl
reason_text reason_is.Full = IsUtf8-are_ascii _ refl
reason_text reason_is.Exhausted = IsUtf8-are_ascii _ refl
reason_text reason_is.Diverged = IsUtf8-are_ascii _ refl
reason_text reason_is.Nobody = IsUtf8-are_ascii _ refl
reason_text reason_is.Failed = IsUtf8-are_ascii _ refl
reason_text reason_is.Unexpected = IsUtf8-are_ascii _ refl
reason_text reason_is.Malformed = IsUtf8-are_ascii _ refl

small_of_plain : (s : List ℕ) → IsPlain s → AllByRecursion (λ b. b < 128) s
small_of_plain [] h = tt
small_of_plain (x ∷ s) h = (h.0.1, small_of_plain s h.1)

address_is_text : (a : ℕ) → IsUtf8 (address_text a)
address_is_text a = IsUtf8-small (address_text a) (small_of_plain (address_text a) (address_plain a))

hex_small : (n : ℕ) → n < 16 → hex_digit n < 128
hex_small n h = grind (arith, nat_tests)

digits_small : (bytes : List ℕ) → All (λ b. b < 256) bytes → AllByRecursion (λ b. b < 128) (digest_digits bytes)
digits_small [] h = tt
digits_small (b ∷ bs) h =
    let byte : b < 256 = All-head (λ b. b < 256) b bs h in
    (hex_small (b / 16) (omega arith), (hex_small (b % 16) (omega arith), digits_small bs (All-tail (λ b. b < 256) b bs h)))

digest_is_text : (bytes : List ℕ) → IsDigest bytes → IsUtf8 (digest_digits bytes)
digest_is_text bytes h = IsUtf8-small (digest_digits bytes) (digits_small bytes h.are_bytes)

fits : (n : ℕ) → n ≤ greatest_number → n < 2 ^ 64
fits n h = omega arith

-- ---- a change

change_at : (b : Bool) (c : Sourced) → IsChange c → IsPrinted (change_object b c)
change_at true c h =
    let heavy = h.weight.1 in (
      (
        name_text field.Address,
        address_is_text c.change.address,
        (
          name_text field.IncarnationNumber,
          fits _ h.incarnation,
          (
            name_text field.Source,
            address_is_text c.source,
            (name_text field.SourceIncarnationNumber, fits _ h.source_incarnation, (name_text field.Status, status_text c.change.status, (name_text field.Weight, omega arith, tt))),
          ),
        ),
      ),
      refl,
    )
change_at false c h = (
  (
    name_text field.Address,
    address_is_text c.change.address,
    (
      name_text field.IncarnationNumber,
      fits _ h.incarnation,
      (
        name_text field.Source,
        address_is_text c.source,
        (name_text field.SourceIncarnationNumber, fits _ h.source_incarnation, (name_text field.Status, status_text c.change.status, tt)),
      ),
    ),
  ),
  refl,
)

pub change_printed : (c : Sourced) → IsChange c → IsPrinted (change_data c)
change_printed c h = change_at (nat_lt 1 c.change.weight) c h

-- ---- a message

changes_printed : (cs : List Sourced) → AllByRecursion IsChange cs → ArePrinted (items_of (map change_data cs))
changes_printed [] h = tt
changes_printed (c ∷ cs) h = (change_printed c h.0, changes_printed cs h.1)

keys_printed : (ks : List (List ℕ)) → AllByRecursion IsUtf8 ks → ArePrinted (items_of (map string ks))
keys_printed [] h = tt
keys_printed (k ∷ ks) h = (h.0, keys_printed ks h.1)

abbrev message_of : ℕ → ℕ → Content → Message
message_of a i x = record { source = a; source_incarnation = i; content = x }

abbrev source_then : ℕ → ℕ → Members → Members
source_then a i ms = member (codes "source") (string (address_text a)) (member (codes "sourceIncarnationNumber") (number (unsigned i)) ms)

abbrev head_then : Kind → ℕ → ℕ → Members → Members
head_then k a i ms = member (codes "kind") (string (kind_word k)) (source_then a i ms)

abbrev target_only : ℕ → Members
target_only a = member (codes "target") (string (address_text a)) no_members

from_source : (a i : ℕ) (ms : Members) → i ≤ greatest_number → MembersArePrinted ms → MembersArePrinted (source_then a i ms)
from_source a i ms within h = (name_text field.Source, address_is_text a, (name_text field.SourceIncarnationNumber, fits i within, h))

from_head : (k : Kind) (a i : ℕ) (ms : Members) → i ≤ greatest_number → MembersArePrinted ms → MembersArePrinted (head_then k a i ms)
from_head k a i ms within h = (name_text field.Kind, kind_text k, from_source a i ms within h)

from_news : (g : News) (ms : Members) → IsNewsRecord g → MembersArePrinted ms
    → MembersArePrinted (member (codes "changes") (array (items_of (map change_data g.changes))) (member (codes "checksum") (string (digest_digits g.checksum.bytes)) ms))
from_news g ms valid h = (name_text field.Changes, changes_printed g.changes valid.each, (name_text field.Checksum, digest_is_text g.checksum.bytes valid.checksum, h))

only_news : (g : News) (k : Kind) (a i : ℕ) → i ≤ greatest_number → IsNewsRecord g
    → MembersArePrinted (member (codes "changes") (array (items_of (map change_data g.changes))) (member (codes "checksum") (string (digest_digits g.checksum.bytes)) (head_then k a i no_members)))
only_news g k a i within valid = from_news g (head_then k a i no_members) valid (from_head k a i no_members within tt)

target_printed : (a : ℕ) → MembersArePrinted (target_only a)
target_printed a = (name_text field.Target, address_is_text a, tt)

reached_printed : (a i p : ℕ) (b : Bool) → i ≤ greatest_number → MembersArePrinted (member (codes "kind") (string (kind_word kind.PingReqAck)) (member (codes "reached") (boolean b) (source_then a i (target_only p))))
reached_printed a i p b within = (name_text field.Kind, kind_text kind.PingReqAck, (name_text field.Reached, tt, from_source a i (target_only p) within (target_printed p)))

printed_by : (a i : ℕ) (x : Content) → i ≤ greatest_number → IsContent x → AreTexts x → IsPrinted (message_data (message_of a i x))
printed_by a i (Join g) within h t = (only_news g kind.Join a i within h, refl)
printed_by a i (Joined g) within h t = (only_news g kind.Joined a i within h, refl)
printed_by a i (Ping g) within h t = (only_news g kind.Ping a i within h, refl)
printed_by a i (Ack g) within h t = (only_news g kind.Ack a i within h, refl)
printed_by a i (PingReq g p) within h t = (from_news g (head_then kind.PingReq a i (target_only p)) h.0 (from_head kind.PingReq a i (target_only p) within (target_printed p)), refl)
printed_by a i (PingReqAck g p b) within h t =
    (from_news g (member (codes "kind") (string (kind_word kind.PingReqAck)) (member (codes "reached") (boolean b) (source_then a i (target_only p)))) h.0 (reached_printed a i p b within), refl)
printed_by a i (Forward ks b) within h t = ((name_text field.Body, t.1, (name_text field.Keys, keys_printed ks t.0, from_head kind.Forward a i no_members within tt)), refl)
printed_by a i (Reply b) within h t = ((name_text field.Body, t, from_head kind.Reply a i no_members within tt), refl)
printed_by a i NotOwner within h t = (from_head kind.NotOwner a i no_members within tt, refl)
printed_by a i (Refused r) within h t = ((name_text field.Kind, kind_text kind.Refused, (name_text field.Reason, reason_text r, from_source a i no_members within tt)), refl)

pub message_printed : (m : Message) → IsMessage m → AreTexts m.content → IsPrinted (message_data m)
message_printed m h t = printed_by m.source m.source_incarnation m.content h.source_incarnation h.content t
