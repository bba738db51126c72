-- The first error of a JSON value that represents no message, in the order of checks.
use Rattle.std.specs.Prelude.{◌≡◌, ◌≢◌, ℕ, ◌<◌, ◌≤◌, ◌⊎◌, List, [], ◌∷◌, ◌++◌, length, Some, None}
use Rattle.serde_json.specs.Data.{Data, string, array}
use Rattle.serde_json.specs.Find.{get, as_array}
use Rattle.serde_json.specs.View.{items_of}
use Rattle.change_core.specs.Numbers.{most_members}
use Rattle.change_core.specs.declared.changes.Sourced.{Sourced}
use Rattle.message_core.specs.declared.errors.WireError.{WireError}
use Rattle.message_core.specs.declared.errors.WireError.TheVariants.{MissingField, BadField, TooMany}
use Rattle.message_core.specs.declared.fields.Field.{Field}
use Rattle.message_core.specs.declared.fields.Field.TheVariants as field
use Rattle.message_core.specs.declared.kinds.Kind.{Kind}
use Rattle.message_core.specs.declared.kinds.Kind.TheVariants as kind
use Rattle.message_core.specs.Fields.{name}
use Rattle.message_core.specs.Words.{kind_word}
use Rattle.wire_json.specs.Fields.{HasText, KindFault, Form, text, address, whole, digest, truth, reason, IsGood, IsBad}
use Rattle.wire_json.specs.Forms.{ChangeForm, ChangeFault}
use Rattle.wire_json.specs.Lines.{IsObject}
use Rattle.message_core.specs.Limits.{max_keys}
use Rattle.wire_json.specs.Messages.{HasChanges, HasKeys}

-- the first element with an error; those before it are good
abbrev pub FirstElement : (Data → Type 0) → (Data → WireError → Type 0) → List Data → WireError → Type 0
FirstElement Good Fault [] e = ⊥
FirstElement Good Fault (d ∷ ds) e = Fault d e ⊎ (Good d × FirstElement Good Fault ds e)

-- the element represents some change
abbrev pub StandsForChange : Data → Type 0
StandsForChange d = (c : Sourced) × ChangeForm d c

-- an element of `changes` is not an object, or has the error of a change
abbrev pub ElementFault : Data → WireError → Type 0
ElementFault d e = ((e ≡ BadField field.Changes) × ¬ IsObject d) ⊎ (IsObject d × ChangeFault d e)

-- the element is a string
abbrev pub IsText : Data → Type 0
IsText d = (t : List ℕ) × (d ≡ string t)

-- an element of `keys` is no string
abbrev pub KeyFault : Data → WireError → Type 0
KeyFault d e = (e ≡ BadField field.Keys) × ¬ IsText d

-- a field that has to be an array of at most this number of elements is absent, not an array, or too long; no element is looked at
abbrev pub ListFault : Field → ℕ → Data → WireError → Type 0
ListFault f most v e =
    ((e ≡ MissingField f) × (get (name f) v ≡ None))
    ⊎ (((e ≡ BadField f) × (d : Data) × (get (name f) v ≡ Some d) × (as_array d ≡ None))
    ⊎ ((e ≡ TooMany) × (ds : List Data) × (get (name f) v ≡ Some (array (items_of ds))) × (most < length ds)))

-- the field is an array of these elements, at most this number
abbrev pub IsList : Field → ℕ → Data → List Data → Type 0
IsList f most v ds = (get (name f) v ≡ Some (array (items_of ds))) × (length ds ≤ most)

-- a part that a message has to have: a field of a form, `changes`, or `keys`
pub data Part : Type 0 where
  plain : Form → Field → Part
  changes : Part
  keys : Part

-- the value has it
abbrev pub IsMet : Part → Data → Type 0
IsMet (plain form f) v = IsGood form f v
IsMet changes v = (cs : List Sourced) × HasChanges v cs
IsMet keys v = (ks : List (List ℕ)) × HasKeys v ks

-- the error of a part: first of the array as a whole, then of its first bad element
abbrev pub IsUnmet : Part → Data → WireError → Type 0
IsUnmet (plain form f) v e = IsBad form f v e
IsUnmet changes v e =
    ListFault field.Changes most_members v e
    ⊎ ((ds : List Data) × IsList field.Changes most_members v ds × FirstElement StandsForChange ElementFault ds e)
IsUnmet keys v e =
    ListFault field.Keys max_keys v e
    ⊎ ((ds : List Data) × IsList field.Keys max_keys v ds × (((e ≡ BadField field.Keys) × (ds ≡ [])) ⊎ FirstElement IsText KeyFault ds e))

-- the first of the parts asked for, in this order, that is not as it should be
abbrev pub FirstUnmet : List Part → Data → WireError → Type 0
FirstUnmet [] v e = ⊥
FirstUnmet (p ∷ ps) v e = IsUnmet p v e ⊎ (IsMet p v × FirstUnmet ps v e)

-- the parts that the six kinds of membership require
abbrev pub news_parts : List Part
news_parts = plain digest field.Checksum ∷ changes ∷ []

-- the fields that each kind requires in addition to kind and source, in the order of checks
abbrev pub parts_of : Kind → List Part
parts_of kind.Join = news_parts
parts_of kind.Joined = news_parts
parts_of kind.Ping = news_parts
parts_of kind.Ack = news_parts
parts_of kind.PingReq = news_parts ++ plain address field.Target ∷ []
parts_of kind.PingReqAck = news_parts ++ plain address field.Target ∷ plain truth field.Reached ∷ []
parts_of kind.Forward = keys ∷ plain text field.Body ∷ []
parts_of kind.Reply = plain text field.Body ∷ []
parts_of kind.NotOwner = []
parts_of kind.Refused = plain reason field.Reason ∷ []

-- the parts that a message of the kind has to have, in the order of checks
abbrev pub message_parts : Kind → List Part
message_parts k = plain address field.Source ∷ plain whole field.SourceIncarnationNumber ∷ parts_of k

-- the first error of a value that represents no message: that of its kind, or of the fields that the kind requires
abbrev pub MessageFault : Data → WireError → Type 0
MessageFault v e = KindFault v e ⊎ ((k : Kind) × HasText field.Kind v (kind_word k) × FirstUnmet (message_parts k) v e)
