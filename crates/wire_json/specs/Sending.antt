-- The calls by which changes and messages are sent to serde's writer; serde_json writes their text.
use Rattle.std.specs.Prelude.{◌≡◌, ℕ, List, [], ◌∷◌, ◌++◌, map, IsUtf8}
use Rattle.std.specs.List.{AllByRecursion}
use Rattle.serde.specs.Event as event
use Rattle.serde.specs.Event.{Log, Logs}
use Rattle.serde.specs.declared.name.Case.TheVariants.{AsIs}
use Rattle.serde_json.specs.Data.{Data, boolean, number, string, array, unsigned}
use Rattle.serde_json.specs.Events.{SendsValue}
use Rattle.serde_json.specs.View.{items_of}
use Rattle.change_core.specs.Address.{address_text}
use Rattle.change_core.specs.Digest.{digest_digits}
use Rattle.message_core.specs.declared.fields.Field.{Field}
use Rattle.message_core.specs.declared.fields.Field.TheVariants as field
use Rattle.message_core.specs.declared.messages.Message.{Message}
use Rattle.message_core.specs.declared.messages.News.{News}
use Rattle.message_core.specs.declared.messages.Content.{Content}
use Rattle.message_core.specs.declared.messages.Content.TheVariants.{Join, Joined, Ping, Ack, PingReq, PingReqAck, Forward, Reply, NotOwner, Refused}
use Rattle.message_core.specs.Fields.{name}
use Rattle.wire_json.specs.Forms.{change_data}
use Rattle.message_core.specs.Messages.{kind_of}
use Rattle.message_core.specs.Words.{kind_word, reason_word}

-- these fields are sent one after another, each as its name and what its value sends
abbrev pub SendsEach : List (Field × Data) → Log → Log → Type 0
SendsEach [] old new = old ≡ new
SendsEach (x ∷ xs) old new = (named mid : Log) × Logs old named (event.field_key (name x.0) AsIs) × SendsValue x.1 named mid × SendsEach xs mid new

-- these fields are sent
pub record Sends (xs : List (Field × Data)) (old new : Log) : Type 0 where
  pub each : SendsEach xs old new

-- these elements are sent one after another
abbrev pub SendsAll : List Data → Log → Log → Type 0
SendsAll [] old new = old ≡ new
SendsAll (d ∷ ds) old new = (mid : Log) × SendsValue d old mid × SendsAll ds mid new

-- the fields that each message has, from the source on
abbrev pub source_sent : ℕ → ℕ → List (Field × Data)
source_sent a i = (field.Source, string (address_text a)) ∷ (field.SourceIncarnationNumber, number (unsigned i)) ∷ []

-- and from the kind on
abbrev pub head_sent : Content → ℕ → ℕ → List (Field × Data)
head_sent x a i = (field.Kind, string (kind_word (kind_of x))) ∷ source_sent a i

-- the fields of the changes and their checksum
abbrev pub news_sent : News → List (Field × Data)
news_sent g = (field.Changes, array (items_of (map change_data g.changes))) ∷ (field.Checksum, string (digest_digits g.checksum.bytes)) ∷ []

-- the fields of a message of that content, source and incarnation, ascending by name
abbrev pub content_sent : Content → ℕ → ℕ → List (Field × Data)
content_sent (Join g) a i = news_sent g ++ head_sent (Join g) a i
content_sent (Joined g) a i = news_sent g ++ head_sent (Joined g) a i
content_sent (Ping g) a i = news_sent g ++ head_sent (Ping g) a i
content_sent (Ack g) a i = news_sent g ++ head_sent (Ack g) a i
content_sent (PingReq g t) a i = news_sent g ++ (head_sent (PingReq g t) a i ++ (field.Target, string (address_text t)) ∷ [])
content_sent (PingReqAck g t b) a i =
    news_sent g ++ (field.Kind, string (kind_word (kind_of (PingReqAck g t b)))) ∷ (field.Reached, boolean b) ∷ (source_sent a i ++ (field.Target, string (address_text t)) ∷ [])
content_sent (Forward ks t) a i = (field.Body, string t) ∷ (field.Keys, array (items_of (map string ks))) ∷ head_sent (Forward ks t) a i
content_sent (Reply t) a i = (field.Body, string t) ∷ head_sent (Reply t) a i
content_sent NotOwner a i = head_sent NotOwner a i
content_sent (Refused r) a i = (field.Kind, string (kind_word (kind_of (Refused r)))) ∷ (field.Reason, string (reason_word r)) ∷ source_sent a i

-- the fields of a message, ascending by name
abbrev pub fields_sent : Message → List (Field × Data)
fields_sent m = content_sent m.content m.source m.source_incarnation

-- keys and body are texts, as those of every message in the code are
abbrev pub AreTexts : Content → Type 0
AreTexts (Join g) = Unit {0}
AreTexts (Joined g) = Unit {0}
AreTexts (Ping g) = Unit {0}
AreTexts (Ack g) = Unit {0}
AreTexts (PingReq g a) = Unit {0}
AreTexts (PingReqAck g a b) = Unit {0}
AreTexts (Forward ks t) = AllByRecursion IsUtf8 ks × IsUtf8 t
AreTexts (Reply t) = IsUtf8 t
AreTexts NotOwner = Unit {0}
AreTexts (Refused r) = Unit {0}
