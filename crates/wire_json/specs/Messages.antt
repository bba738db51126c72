-- The message that a JSON value represents, and the text that is written for a message.
use Rattle.std.specs.Prelude.{◌≡◌, ℕ, ◌<◌, ◌≤◌, List, [], ◌∷◌, ◌++◌, length, map, Some}
use Rattle.std.specs.List.{AllZip, AllByRecursion}
use Rattle.serde_json.specs.Data.{Data, boolean, number, string, array, unsigned}
use Rattle.serde_json.specs.Find.{get}
use Rattle.serde_json.specs.View.{items_of}
use Rattle.change_core.specs.Address.{IsAddress, address_text}
use Rattle.change_core.specs.Digest.{IsDigest, digest_digits}
use Rattle.change_core.specs.Numbers.{greatest_number, most_members}
use Rattle.change_core.specs.declared.changes.Sourced.{Sourced}
use Rattle.message_core.specs.declared.fields.Field.{Field}
use Rattle.message_core.specs.declared.fields.Field.TheVariants as field
use Rattle.message_core.specs.declared.messages.Message.{Message}
use Rattle.message_core.specs.declared.messages.News.{News}
use Rattle.message_core.specs.declared.messages.Content.{Content}
use Rattle.message_core.specs.declared.messages.Content.TheVariants.{Join, Joined, Ping, Ack, PingReq, PingReqAck, Forward, Reply, NotOwner, Refused}
use Rattle.message_core.specs.Fields.{name}
use Rattle.message_core.specs.Messages.{kind_of}
use Rattle.message_core.specs.Words.{kind_word, reason_word}
use Rattle.wire_json.specs.Fields.{HasText, HasAddress, HasNumber, HasDigest, HasTruth, HasReason}
use Rattle.wire_json.specs.Forms.{ChangeForm, IsChange, written, change_data}
use Rattle.message_core.specs.Limits.{max_keys}

-- ---- the form

-- the field `changes` is an array whose elements represent these changes, one by one
pub record HasChanges (v : Data) (cs : List Sourced) : Type 0 where
  pub elements : List Data
  pub are : get (name field.Changes) v ≡ Some (array (items_of elements))
  pub few : length elements ≤ most_members
  pub each : AllZip ChangeForm elements cs

-- the field `keys` is an array of these texts, from 1 to 256
pub record HasKeys (v : Data) (ks : List (List ℕ)) : Type 0 where
  pub are : get (name field.Keys) v ≡ Some (array (items_of (map string ks)))
  pub some : 0 < length ks
  pub few : length ks ≤ max_keys

-- the value has the digest of the sender's members and the changes that it passes on
pub record HasNews (v : Data) (g : News) : Type 0 where
  pub checksum : HasDigest field.Checksum v g.checksum
  pub changes : HasChanges v g.changes

-- the fields in addition to kind and source, for each kind
abbrev pub ContentForm : Data → Content → Type 0
ContentForm v (Join g) = HasNews v g
ContentForm v (Joined g) = HasNews v g
ContentForm v (Ping g) = HasNews v g
ContentForm v (Ack g) = HasNews v g
ContentForm v (PingReq g a) = HasNews v g × HasAddress field.Target v a
ContentForm v (PingReqAck g a b) = HasNews v g × HasAddress field.Target v a × HasTruth field.Reached v b
ContentForm v (Forward ks t) = HasKeys v ks × HasText field.Body v t
ContentForm v (Reply t) = HasText field.Body v t
ContentForm v NotOwner = Unit {0}
ContentForm v (Refused r) = HasReason v r

-- the value represents the message
pub record MessageForm (v : Data) (m : Message) : Type 0 where
  pub kind : HasText field.Kind v (kind_word (kind_of m.content))
  pub source : HasAddress field.Source v m.source
  pub source_incarnation : HasNumber field.SourceIncarnationNumber v m.source_incarnation
  pub content : ContentForm v m.content

-- ---- what is written

-- the fields of the changes and their checksum
abbrev pub news_fields : News → List (Field × Data)
news_fields g = (field.Checksum, string (digest_digits g.checksum.bytes)) ∷ (field.Changes, array (items_of (map change_data g.changes))) ∷ []

-- the fields in addition to kind and source
abbrev pub content_fields : Content → List (Field × Data)
content_fields (Join g) = news_fields g
content_fields (Joined g) = news_fields g
content_fields (Ping g) = news_fields g
content_fields (Ack g) = news_fields g
content_fields (PingReq g a) = news_fields g ++ (field.Target, string (address_text a)) ∷ []
content_fields (PingReqAck g a b) = news_fields g ++ (field.Target, string (address_text a)) ∷ (field.Reached, boolean b) ∷ []
content_fields (Forward ks t) = (field.Keys, array (items_of (map string ks))) ∷ (field.Body, string t) ∷ []
content_fields (Reply t) = (field.Body, string t) ∷ []
content_fields NotOwner = []
content_fields (Refused r) = (field.Reason, string (reason_word r)) ∷ []

-- the value that is written for the message
abbrev pub message_data : Message → Data
message_data m =
    written ((field.Kind, string (kind_word (kind_of m.content))) ∷ (field.Source, string (address_text m.source))
    ∷ (field.SourceIncarnationNumber, number (unsigned m.source_incarnation)) ∷ content_fields m.content)

-- ---- messages of the code

-- the changes and their checksum are in range
pub record IsNewsRecord (g : News) : Type 0 where
  pub checksum : IsDigest g.checksum.bytes
  pub few : length g.changes ≤ most_members
  pub each : AllByRecursion IsChange g.changes

-- the parts of a content are in range
abbrev pub IsContent : Content → Type 0
IsContent (Join g) = IsNewsRecord g
IsContent (Joined g) = IsNewsRecord g
IsContent (Ping g) = IsNewsRecord g
IsContent (Ack g) = IsNewsRecord g
IsContent (PingReq g a) = IsNewsRecord g × IsAddress a
IsContent (PingReqAck g a b) = IsNewsRecord g × IsAddress a
IsContent (Forward ks t) = (0 < length ks) × (length ks ≤ max_keys)
IsContent (Reply t) = Unit {0}
IsContent NotOwner = Unit {0}
IsContent (Refused r) = Unit {0}

-- the parts of a message are in range, as those of every message in the code are
pub record IsMessage (m : Message) : Type 0 where
  pub source : IsAddress m.source
  pub source_incarnation : m.source_incarnation ≤ greatest_number
  pub content : IsContent m.content

-- the message is one of membership, which carries changes: it is no request, and no answer to one
abbrev pub CarriesNews : Content → Type 0
CarriesNews (Join g) = Unit {0}
CarriesNews (Joined g) = Unit {0}
CarriesNews (Ping g) = Unit {0}
CarriesNews (Ack g) = Unit {0}
CarriesNews (PingReq g a) = Unit {0}
CarriesNews (PingReqAck g a b) = Unit {0}
CarriesNews (Forward ks t) = ⊥
CarriesNews (Reply t) = ⊥
CarriesNews NotOwner = ⊥
CarriesNews (Refused r) = ⊥
