-- Members and elements sent one after another, and the value that they are.
use Rattle.std.proofs.Common.{◌≡◌, ℕ, suc, ◌+◌, ◌<◌, Bool, true, false, List, [], ◌∷◌, ◌++◌, length, get_or, take, map, nat_lt, Some, refl, sym, ap, ◌∙◌, subst}
use Rattle.std.specs.Prelude.{if◌then◌else◌}
use Rattle.std.proofs.lemmas.List.{map-append}
use Rattle.serde.specs.Event as event
use Rattle.serde.specs.Event.{Log, Logs}
use Rattle.serde.specs.declared.name.Case.TheVariants.{AsIs}
use Rattle.serde_json.specs.Data.{Data, boolean, number, string, array, object, unsigned, Members, no_members, member}
use Rattle.serde_json.specs.Events.{items_len, members_len, SendsValue, SendsItems, SendsMembers}
use Rattle.serde_json.specs.View.{items_of}
use Rattle.change_core.specs.Address.{address_text}
use Rattle.change_core.specs.Status.{status_word}
use Rattle.change_core.specs.declared.changes.Sourced.{Sourced}
use Rattle.message_core.specs.declared.fields.Field.{Field}
use Rattle.message_core.specs.declared.fields.Field.TheVariants as field
use Rattle.message_core.specs.declared.messages.Message.{Message}
use Rattle.message_core.specs.declared.messages.Content.{Content}
use Rattle.message_core.specs.declared.messages.Content.TheVariants.{Join, Joined, Ping, Ack, PingReq, PingReqAck, Forward, Reply, NotOwner, Refused}
use Rattle.message_core.specs.Fields.{name}
use Rattle.wire_json.specs.Forms.{plain_fields, weight_fields, change_data}
use Rattle.wire_json.specs.Messages.{message_data}
use Rattle.wire_json.specs.Sending.{Sends, SendsAll, content_sent, fields_sent}
use Rattle.wire_json.proofs.Elements.{take_here}
use Rattle.wire_json.proofs.Encoding.{change_object}

-- ---- one member

pub member_sent : (a b c : Log) (f : Field) (d : Data) → Logs a b (event.field_key (name f) AsIs) → SendsValue d b c → Sends ((f, d) ∷ []) a c
member_sent a b c f d p q = record { each = (b, c, p, q, refl) }

pub text_sent : (a b c : Log) (f : Field) (t : List ℕ) → Logs a b (event.field_key (name f) AsIs) → Logs b c (event.text t) → Sends ((f, string t) ∷ []) a c
text_sent a b c f t p q = member_sent a b c f (string t) p q

pub number_sent : (a b c : Log) (f : Field) (n : ℕ) → Logs a b (event.field_key (name f) AsIs) → Logs b c (event.unsigned n) → Sends ((f, number (unsigned n)) ∷ []) a c
number_sent a b c f n p q = member_sent a b c f (number (unsigned n)) p q

pub truth_sent : (a b c : Log) (f : Field) (t : Bool) → Logs a b (event.field_key (name f) AsIs) → Logs b c (event.boolean t) → Sends ((f, boolean t) ∷ []) a c
truth_sent a b c f t p q = member_sent a b c f (boolean t) p q

-- ---- several

pub joined : (xs ys : List (Field × Data)) (a b c : Log) → Sends xs a b → Sends ys b c → Sends (xs ++ ys) a c
joined [] ys a b c p q = subst (λ l. Sends ys l c) (sym p.each) q
joined (x ∷ xs) ys a b c p q =
    let h = p.each in
    let rest = joined xs ys h.1 b c (record { each = h.4 }) q in
    record { each = (h.0, h.1, h.2, h.3, rest.each) }

abbrev pub in_order : List (Field × Data) → Members
in_order [] = no_members
in_order (x ∷ xs) = member (name x.0) x.1 (in_order xs)

len-in_order : (xs : List (Field × Data)) → length xs ≡ members_len (in_order xs)
len-in_order [] = refl
len-in_order (x ∷ xs) = ap suc (len-in_order xs)

members_end : (xs : List (Field × Data)) (a b c : Log) → Sends xs a b → Logs b c event.map_ends → SendsMembers (in_order xs) a c
members_end [] a b c p q = subst (λ l. Logs l c event.map_ends) (sym p.each) q
members_end (x ∷ xs) a b c p q = let h = p.each in (h.0, h.1, h.2, h.3, members_end xs h.1 b c (record { each = h.4 }) q)

-- an object
pub object_sent : (xs : List (Field × Data)) (n : ℕ) (a b c d : Log) → n ≡ length xs → Logs a b (event.map_begins (Some n)) → Sends xs b c → Logs c d event.map_ends → SendsValue (object (in_order xs)) a d
object_sent xs n a b c d count begins each ends =
    (b, subst (λ m. Logs a b (event.map_begins (Some m))) (count ∙ len-in_order xs) begins, members_end xs b c d each ends)

-- one element more
pub all_more : (ds : List Data) (d : Data) (a b c : Log) → SendsAll ds a b → SendsValue d b c → SendsAll (ds ++ d ∷ []) a c
all_more [] d a b c p q = (c, subst (λ l. SendsValue d l c) (sym p) q, refl)
all_more (x ∷ ds) d a b c p q = (p.0, p.1, all_more ds d p.0 b c p.2 q)

-- the element at i is sent after those before it
pub taken_sent : {X : Type 0} (f : X → Data) (xs : List X) (i : ℕ) (x : X) (a b c : Log) → i < length xs → x ≡ get_or xs i x → SendsAll (map f (take i xs)) a b → SendsValue (f x) b c → SendsAll (map f (take (i + 1) xs)) a c
taken_sent f xs i x a b c lt is p q =
    subst (λ ds. SendsAll ds a c) (sym (ap (map f) (take_here xs i x lt is) ∙ map-append f (take i xs) (x ∷ []))) (all_more (map f (take i xs)) (f x) a b c p q)

len-items_of : (ds : List Data) → length ds ≡ items_len (items_of ds)
len-items_of [] = refl
len-items_of (d ∷ ds) = ap suc (len-items_of ds)

items_end : (ds : List Data) (a b c : Log) → SendsAll ds a b → Logs b c event.seq_ends → SendsItems (items_of ds) a c
items_end [] a b c p q = subst (λ l. Logs l c event.seq_ends) (sym p) q
items_end (d ∷ ds) a b c p q = (p.0, p.1, items_end ds p.0 b c p.2 q)

-- a member that is a list
pub list_sent : (f : Field) (ds : List Data) (n : ℕ) (a b c d e : Log) → n ≡ length ds → Logs a b (event.field_key (name f) AsIs) → Logs b c (event.seq_begins (Some n)) → SendsAll ds c d → Logs d e event.seq_ends
    → Sends ((f, array (items_of ds)) ∷ []) a e
list_sent f ds n a b c d e count named begins each ends =
    member_sent a b e f (array (items_of ds)) named (c, subst (λ m. Logs b c (event.seq_begins (Some m))) (count ∙ len-items_of ds) begins, items_end ds c d e each ends)

-- ---- a change

change_in_order : (b : Bool) (c : Sourced) → object (in_order (plain_fields c ++ (if b then (field.Weight, number (unsigned c.change.weight)) ∷ [] else []))) ≡ change_object b c
change_in_order true c = refl
change_in_order false c = refl

change_count : (b : Bool) (c : Sourced) → (if b then 6 else 5) ≡ length (plain_fields c ++ (if b then (field.Weight, number (unsigned c.change.weight)) ∷ [] else []))
change_count true c = refl
change_count false c = refl

pub change_sent : (c : Sourced) (n : ℕ) (l0 l1 l2 l3 l4 l5 l6 l7 l8 : Log) → n ≡ (if nat_lt 1 c.change.weight then 6 else 5) → Logs l0 l1 (event.map_begins (Some n))
    → Sends ((field.Address, string (address_text c.change.address)) ∷ []) l1 l2
    → Sends ((field.IncarnationNumber, number (unsigned c.change.incarnation)) ∷ []) l2 l3
    → Sends ((field.Source, string (address_text c.source)) ∷ []) l3 l4
    → Sends ((field.SourceIncarnationNumber, number (unsigned c.source_incarnation)) ∷ []) l4 l5
    → Sends ((field.Status, string (status_word c.change.status)) ∷ []) l5 l6
    → Sends (weight_fields c.change.weight) l6 l7 → Logs l7 l8 event.map_ends → SendsValue (change_data c) l0 l8
change_sent c n l0 l1 l2 l3 l4 l5 l6 l7 l8 count begins p q r s t u ends =
    let heavy = nat_lt 1 c.change.weight in
    let all = joined _ _ _ _ _ p (joined _ _ _ _ _ q (joined _ _ _ _ _ r (joined _ _ _ _ _ s (joined _ _ _ _ _ t u)))) in
    subst (λ d. SendsValue d l0 l8) (change_in_order heavy c) (object_sent (plain_fields c ++ weight_fields c.change.weight) n l0 l1 l7 l8 (count ∙ change_count heavy c) begins all ends)

-- ---- a message

message_in_order : (a i : ℕ) (x : Content) → object (in_order (content_sent x a i)) ≡ message_data (record { source = a; source_incarnation = i; content = x })
message_in_order a i (Join g) = refl
message_in_order a i (Joined g) = refl
message_in_order a i (Ping g) = refl
message_in_order a i (Ack g) = refl
message_in_order a i (PingReq g t) = refl
message_in_order a i (PingReqAck g t b) = refl
message_in_order a i (Forward ks t) = refl
message_in_order a i (Reply t) = refl
message_in_order a i NotOwner = refl
message_in_order a i (Refused r) = refl

pub message_sent : (m : Message) (n : ℕ) (l0 l1 l2 l3 : Log) → ((a i : ℕ) → n ≡ length (content_sent m.content a i)) → Logs l0 l1 (event.map_begins (Some n)) → Sends (fields_sent m) l1 l2 → Logs l2 l3 event.map_ends → SendsValue (message_data m) l0 l3
message_sent m n l0 l1 l2 l3 count begins each ends =
    subst (λ d. SendsValue d l0 l3) (message_in_order m.source m.source_incarnation m.content) (object_sent (fields_sent m) n l0 l1 l2 l3 (count m.source m.source_incarnation) begins each ends)
