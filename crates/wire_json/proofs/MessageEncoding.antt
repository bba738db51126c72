-- What is written for a message stands for it.
use Rattle.std.proofs.Common.{◌≡◌, ℕ, ◌≤◌, false, List, [], ◌∷◌, length, map, codes, Some, refl, arith}
use Rattle.std.specs.List.{AllZip, AllByRecursion}
use Rattle.std.proofs.lemmas.List.{length-map}
use Rattle.change_core.specs.Address.{IsAddress}
use Rattle.change_core.specs.Numbers.{greatest_number}
use Rattle.change_core.specs.declared.changes.Sourced.{Sourced}
use Rattle.serde_json.specs.Data.{Data, string, array, depth, items_depth}
use Rattle.serde_json.specs.Find.{get}
use Rattle.change_core.specs.Digest.{digest_digits}
use Rattle.serde_json.specs.View.{items_of}
use Rattle.serde_json.specs.Read.{max_depth}
use Rattle.serde_json.specs.Written.{has_float, items_have_float}
use Rattle.message_core.specs.declared.messages.Message.{Message}
use Rattle.message_core.specs.declared.messages.News.{News}
use Rattle.message_core.specs.declared.messages.Content.{Content}
use Rattle.message_core.specs.declared.messages.Content.TheVariants.{Join, Joined, Ping, Ack, PingReq, PingReqAck, Forward, Reply, NotOwner, Refused}
use Rattle.wire_json.specs.Forms.{ChangeForm, IsChange, change_data}
use Rattle.wire_json.specs.Messages.{HasNews, MessageForm, IsNewsRecord, IsContent, IsMessage, message_data}
use Rattle.wire_json.proofs.Encoding.{change_stands, change_whole, change_shallow}

abbrev message_of : ℕ → ℕ → Content → Message
message_of a i x = record { source = a; source_incarnation = i; content = x }

-- ---- no float, and not deep

changes_whole : (cs : List Sourced) → items_have_float (items_of (map change_data cs)) ≡ false
changes_whole [] = refl
changes_whole (c ∷ cs) = rw change_whole (changes_whole cs)

keys_whole : (ks : List (List ℕ)) → items_have_float (items_of (map string ks)) ≡ false
keys_whole [] = refl
keys_whole (k ∷ ks) = keys_whole ks

whole_by : (a i : ℕ) (x : Content) → has_float (message_data (message_of a i x)) ≡ false
whole_by a i (Join g) = rw (changes_whole g.changes) refl
whole_by a i (Joined g) = rw (changes_whole g.changes) refl
whole_by a i (Ping g) = rw (changes_whole g.changes) refl
whole_by a i (Ack g) = rw (changes_whole g.changes) refl
whole_by a i (PingReq g t) = rw (changes_whole g.changes) refl
whole_by a i (PingReqAck g t b) = rw (changes_whole g.changes) refl
whole_by a i (Forward ks t) = rw (keys_whole ks) refl
whole_by a i (Reply t) = refl
whole_by a i NotOwner = refl
whole_by a i (Refused r) = refl

pub message_whole : (m : Message) → has_float (message_data m) ≡ false
message_whole m = whole_by m.source m.source_incarnation m.content

changes_shallow : (cs : List Sourced) → items_depth (items_of (map change_data cs)) ≤ 1
changes_shallow [] = omega arith
changes_shallow (c ∷ cs) = omega (arith, change_shallow c, changes_shallow cs)

keys_shallow : (ks : List (List ℕ)) → items_depth (items_of (map string ks)) ≤ 1
keys_shallow [] = omega arith
keys_shallow (k ∷ ks) = omega (arith, keys_shallow ks)

shallow_by : (a i : ℕ) (x : Content) → depth (message_data (message_of a i x)) ≤ max_depth
shallow_by a i (Join g) = omega (arith, changes_shallow g.changes)
shallow_by a i (Joined g) = omega (arith, changes_shallow g.changes)
shallow_by a i (Ping g) = omega (arith, changes_shallow g.changes)
shallow_by a i (Ack g) = omega (arith, changes_shallow g.changes)
shallow_by a i (PingReq g t) = omega (arith, changes_shallow g.changes)
shallow_by a i (PingReqAck g t b) = omega (arith, changes_shallow g.changes)
shallow_by a i (Forward ks t) = omega (arith, keys_shallow ks)
shallow_by a i (Reply t) = omega arith
shallow_by a i NotOwner = omega arith
shallow_by a i (Refused r) = omega arith

pub message_shallow : (m : Message) → depth (message_data m) ≤ max_depth
message_shallow m = shallow_by m.source m.source_incarnation m.content

-- ---- the form

changes_stand : (cs : List Sourced) → AllByRecursion IsChange cs → AllZip ChangeForm (map change_data cs) cs
changes_stand [] h = tt
changes_stand (c ∷ cs) h = (change_stands c h.0, changes_stand cs h.1)

few_elements : (cs : List Sourced) (n : ℕ) → length cs ≤ n → length (map change_data cs) ≤ n
few_elements cs n h = omega (arith, length-map cs change_data)

news_stands : (v : Data) (g : News) → get (codes "checksum") v ≡ Some (string (digest_digits g.checksum.bytes)) → get (codes "changes") v ≡ Some (array (items_of (map change_data g.changes))) → IsNewsRecord g → HasNews v g
news_stands v g p q h = record {
  checksum = (p, h.checksum);
  changes = record { elements = map change_data g.changes; are = q; few = few_elements g.changes _ h.few; each = changes_stand g.changes h.each };
}

stands_by : (a i : ℕ) (x : Content) → IsAddress a → i ≤ greatest_number → IsContent x → MessageForm (message_data (message_of a i x)) (message_of a i x)
stands_by a i (Join g) p q h = record { kind = refl; source = (refl, p); source_incarnation = (refl, q); content = news_stands _ g refl refl h }
stands_by a i (Joined g) p q h = record { kind = refl; source = (refl, p); source_incarnation = (refl, q); content = news_stands _ g refl refl h }
stands_by a i (Ping g) p q h = record { kind = refl; source = (refl, p); source_incarnation = (refl, q); content = news_stands _ g refl refl h }
stands_by a i (Ack g) p q h = record { kind = refl; source = (refl, p); source_incarnation = (refl, q); content = news_stands _ g refl refl h }
stands_by a i (PingReq g t) p q h = record { kind = refl; source = (refl, p); source_incarnation = (refl, q); content = (news_stands _ g refl refl h.0, (refl, h.1)) }
stands_by a i (PingReqAck g t b) p q h = record { kind = refl; source = (refl, p); source_incarnation = (refl, q); content = (news_stands _ g refl refl h.0, (refl, h.1), refl) }
stands_by a i (Forward ks t) p q h = record { kind = refl; source = (refl, p); source_incarnation = (refl, q); content = (record { are = refl; some = h.0; few = h.1 }, refl) }
stands_by a i (Reply t) p q h = record { kind = refl; source = (refl, p); source_incarnation = (refl, q); content = refl }
stands_by a i NotOwner p q h = record { kind = refl; source = (refl, p); source_incarnation = (refl, q); content = tt }
stands_by a i (Refused r) p q h = record { kind = refl; source = (refl, p); source_incarnation = (refl, q); content = refl }

pub message_stands : (m : Message) → IsMessage m → MessageForm (message_data m) m
message_stands m h = stands_by m.source m.source_incarnation m.content h.source h.source_incarnation h.content
