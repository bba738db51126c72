-- A change is written in few bytes, and a message of membership fits a line.
use Rattle.std.proofs.Common.{◌≡◌, ℕ, ◌+◌, ◌*◌, ◌≤◌, Bool, true, false, List, [], ◌∷◌, length, map, codes, decimal, ap, refl, arith}
use Rattle.std.specs.List.{AllByRecursion}
use Rattle.std.proofs.lemmas.Fmt.{length-decimal-le}
use Rattle.json.specs.Print.{quoted}
use Rattle.serde_json.specs.Data.{string, number, unsigned, Members, member, no_members}
use Rattle.serde_json.specs.View.{items_of}
use Rattle.serde_json.specs.Written.{compact_text, items_text, members_text}
use Rattle.change_core.specs.Address.{IsAddress, address_text}
use Rattle.change_core.specs.Digest.{digest_digits}
use Rattle.change_core.specs.Numbers.{greatest_number, greatest_weight}
use Rattle.change_core.specs.Status.{status_word}
use Rattle.change_core.specs.declared.changes.Sourced.{Sourced}
use Rattle.change_core.proofs.Hex.{length-digest_digits}
use Rattle.change_core.proofs.OneText.{address_text-short}
use Rattle.message_core.specs.declared.fields.Field.TheVariants as field
use Rattle.message_core.specs.declared.messages.Message.{Message}
use Rattle.message_core.specs.declared.messages.News.{News}
use Rattle.message_core.specs.declared.messages.Content.{Content}
use Rattle.message_core.specs.declared.messages.Content.TheVariants.{Join, Joined, Ping, Ack, PingReq, PingReqAck, Forward, Reply, NotOwner, Refused}
use Rattle.message_core.specs.Fields.{name}
use Rattle.wire_json.specs.Forms.{IsChange, change_data}
use Rattle.wire_json.specs.Lines.{most_change_bytes, max_line}
use Rattle.message_core.specs.Messages.{kind_of}
use Rattle.wire_json.specs.Messages.{news_fields, content_fields, message_data, CarriesNews, IsNewsRecord, IsContent, IsMessage}
use Rattle.message_core.specs.Words.{kind_word}
use Rattle.wire_json.proofs.Encoding.{change_object}
use Rattle.wire_json.proofs.Lengths.{length-members_text, items_short, sizes, written_short, quoted-plain, quoted_short, quoted_name, quoted_status, kind_short, address_plain}

number_short : (n : ℕ) → n ≤ greatest_number → length (decimal n) ≤ 16
number_short n h = length-decimal-le 16 n (omega arith) (omega arith) (omega arith)

weight_digit : (n : ℕ) → n ≤ greatest_weight → length (decimal n) ≤ 1
weight_digit n h = length-decimal-le 1 n (omega arith) (omega arith) (omega arith)

pub quoted_address : (a : ℕ) → IsAddress a → length (quoted (address_text a)) ≤ 23
quoted_address a h = omega (arith, quoted-plain (address_text a) (address_plain a), address_text-short a h)

-- the members from one on
abbrev from_weight : Bool → Sourced → Members
from_weight true c = member (codes "weight") (number (unsigned c.change.weight)) no_members
from_weight false c = no_members

abbrev from_status : Bool → Sourced → Members
from_status b c = member (codes "status") (string (status_word c.change.status)) (from_weight b c)

abbrev from_number : Bool → Sourced → Members
from_number b c = member (codes "sourceIncarnationNumber") (number (unsigned c.source_incarnation)) (from_status b c)

abbrev from_source : Bool → Sourced → Members
from_source b c = member (codes "source") (string (address_text c.source)) (from_number b c)

abbrev from_incarnation : Bool → Sourced → Members
from_incarnation b c = member (codes "incarnationNumber") (number (unsigned c.change.incarnation)) (from_source b c)

abbrev from_address : Bool → Sourced → Members
from_address b c = member (codes "address") (string (address_text c.change.address)) (from_incarnation b c)

-- from the weight on at most 12 bytes, from the status on 33, from the source's incarnation on 76, from the source on 109, from the incarnation on 146
weight_short : (b : Bool) (c : Sourced) → IsChange c → length (members_text true (from_weight b c)) ≤ 12
weight_short true c h = omega (arith, length-members_text true (codes "weight") (number (unsigned c.change.weight)) no_members, quoted_name field.Weight, weight_digit c.change.weight h.weight.1)
weight_short false c h = omega arith

status_short : (b : Bool) (c : Sourced) → IsChange c → length (members_text true (from_status b c)) ≤ 33
status_short b c h = omega (arith, length-members_text true (codes "status") (string (status_word c.change.status)) (from_weight b c), quoted_name field.Status, quoted_status c.change.status, weight_short b c h)

source_number_short : (b : Bool) (c : Sourced) → IsChange c → length (members_text true (from_number b c)) ≤ 76
source_number_short b c h =
    omega (
      arith,
      length-members_text true (codes "sourceIncarnationNumber") (number (unsigned c.source_incarnation)) (from_status b c),
      quoted_name field.SourceIncarnationNumber,
      number_short c.source_incarnation h.source_incarnation,
      status_short b c h,
    )

source_short : (b : Bool) (c : Sourced) → IsChange c → length (members_text true (from_source b c)) ≤ 109
source_short b c h = omega (arith, length-members_text true (codes "source") (string (address_text c.source)) (from_number b c), quoted_name field.Source, quoted_address c.source h.source, source_number_short b c h)

incarnation_short : (b : Bool) (c : Sourced) → IsChange c → length (members_text true (from_incarnation b c)) ≤ 146
incarnation_short b c h =
    omega (
      arith,
      length-members_text true (codes "incarnationNumber") (number (unsigned c.change.incarnation)) (from_source b c),
      quoted_name field.IncarnationNumber,
      number_short c.change.incarnation h.incarnation,
      source_short b c h,
    )

text_at : (b : Bool) (c : Sourced) → compact_text (change_object b c) ≡ 123 ∷ members_text false (from_address b c)
text_at true c = refl
text_at false c = refl

short_at : (b : Bool) (c : Sourced) → IsChange c → length (compact_text (change_object b c)) ≤ 180
short_at b c h =
    omega (
      arith,
      ap length (text_at b c),
      length-members_text false (codes "address") (string (address_text c.change.address)) (from_incarnation b c),
      quoted_name field.Address,
      quoted_address c.change.address h.address,
      incarnation_short b c h,
    )

-- a change is written in at most 180 bytes
pub change_short : (c : Sourced) → IsChange c → length (compact_text (change_data c)) ≤ most_change_bytes
change_short c h = short_at _ c h

-- ---- a message of membership

changes_short : (later : Bool) (cs : List Sourced) → AllByRecursion IsChange cs → length (items_text later (items_of (map change_data cs))) ≤ 181 * length cs + 1
changes_short later [] h = omega arith
changes_short later (c ∷ cs) h = omega (arith, items_short later (change_data c) (items_of (map change_data cs)), change_short c h.0, changes_short true cs h.1)

news_short : (g : News) → IsNewsRecord g → sizes (news_fields g) ≤ 742000
news_short g h =
    let few = h.few in
    omega (
      arith,
      quoted_name field.Checksum,
      quoted_short (digest_digits g.checksum.bytes),
      length-digest_digits g.checksum.bytes,
      h.checksum.has_32,
      quoted_name field.Changes,
      changes_short false g.changes h.each,
    )

target_short : (a : ℕ) → IsAddress a → length (quoted (name field.Target)) + length (quoted (address_text a)) ≤ 31
target_short a h = omega (arith, quoted_name field.Target, quoted_address a h)

content_short : (x : Content) → IsContent x → CarriesNews x → sizes (content_fields x) ≤ 743000
content_short (Join g) h is = omega (arith, news_short g h)
content_short (Joined g) h is = omega (arith, news_short g h)
content_short (Ping g) h is = omega (arith, news_short g h)
content_short (Ack g) h is = omega (arith, news_short g h)
content_short (PingReq g a) h is = omega (arith, news_short g h.0, target_short a h.1)
content_short (PingReqAck g a true) h is = omega (arith, news_short g h.0, target_short a h.1, quoted_name field.Reached)
content_short (PingReqAck g a false) h is = omega (arith, news_short g h.0, target_short a h.1, quoted_name field.Reached)
content_short (Forward ks t) h is = absurd is
content_short (Reply t) h is = absurd is
content_short NotOwner h is = absurd is
content_short (Refused r) h is = absurd is

-- a message of membership is never too long for a line
pub membership_short : (m : Message) → IsMessage m → CarriesNews m.content → length (compact_text (message_data m)) ≤ max_line
membership_short m h is =
    let valid = h.source_incarnation in
    omega (
      arith,
      written_short ((field.Kind, string (kind_word (kind_of m.content))) ∷ (field.Source, string (address_text m.source)) ∷ (field.SourceIncarnationNumber, number (unsigned m.source_incarnation)) ∷ content_fields m.content),
      quoted_name field.Kind,
      quoted_short (kind_word (kind_of m.content)),
      kind_short (kind_of m.content),
      quoted_name field.Source,
      quoted_address m.source h.source,
      quoted_name field.SourceIncarnationNumber,
      number_short m.source_incarnation valid,
      content_short m.content h.content is,
    )
