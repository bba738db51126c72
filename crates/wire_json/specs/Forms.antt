-- The change that a JSON value represents, the text that is written for a change, and the first error of a value that represents none.
use Rattle.std.specs.Prelude.{ℕ, ◌≤◌, ◌++◌, nat_lt, if◌then◌else◌, List, [], ◌∷◌}
use Rattle.serde_json.specs.Data.{Data, number, string, object, unsigned, Members, no_members, put}
use Rattle.change_core.specs.Address.{IsAddress, address_text}
use Rattle.change_core.specs.Numbers.{greatest_number, IsWeight}
use Rattle.change_core.specs.Status.{status_word}
use Rattle.change_core.specs.declared.changes.Sourced.{Sourced}
use Rattle.message_core.specs.declared.errors.WireError.{WireError}
use Rattle.message_core.specs.declared.fields.Field.{Field}
use Rattle.message_core.specs.declared.fields.Field.TheVariants as field
use Rattle.message_core.specs.Fields.{name}
use Rattle.wire_json.specs.Fields.{HasAddress, HasNumber, HasStatus, HasWeight, Form, address, whole, weight, FirstFault, status_fields}

-- ---- a change

-- the value represents the change; the names are those of a change in ringpop-go's package swim
pub record ChangeForm (v : Data) (c : Sourced) : Type 0 where
  pub address : HasAddress field.Address v c.change.address
  pub incarnation : HasNumber field.IncarnationNumber v c.change.incarnation
  pub source : HasAddress field.Source v c.source
  pub source_incarnation : HasNumber field.SourceIncarnationNumber v c.source_incarnation
  pub status : HasStatus v c.change.status
  pub weight : HasWeight v c.change.weight

-- the parts of a change are in range, as those of every change in the code are
pub record IsChange (c : Sourced) : Type 0 where
  pub address : IsAddress c.change.address
  pub incarnation : c.change.incarnation ≤ greatest_number
  pub source : IsAddress c.source
  pub source_incarnation : c.source_incarnation ≤ greatest_number
  pub weight : IsWeight c.change.weight

-- ---- what is written for a change

-- these fields written one after another; an object keeps its fields ascending by name
abbrev pub with_fields : List (Field × Data) → Members → Members
with_fields [] ms = ms
with_fields (x ∷ xs) ms = with_fields xs (put (name x.0) x.1 ms)

-- the object of these fields
abbrev pub written : List (Field × Data) → Data
written xs = object (with_fields xs no_members)

-- the fields that are written for each change; a tombstone is written by its own word
abbrev pub plain_fields : Sourced → List (Field × Data)
plain_fields c =
    (field.Address, string (address_text c.change.address)) ∷ (field.IncarnationNumber, number (unsigned c.change.incarnation))
    ∷ (field.Source, string (address_text c.source)) ∷ (field.SourceIncarnationNumber, number (unsigned c.source_incarnation))
    ∷ (field.Status, string (status_word c.change.status)) ∷ []

-- a weight is written if it is over 1
abbrev pub weight_fields : ℕ → List (Field × Data)
weight_fields w = if nat_lt 1 w then (field.Weight, number (unsigned w)) ∷ [] else []

-- the value that is written for the change
abbrev pub change_data : Sourced → Data
change_data c = written (plain_fields c ++ weight_fields c.change.weight)

-- ---- the first error of a change

-- the fields that a change has to have, in the order of checks
abbrev pub change_fields : List (Form × Field)
change_fields =
    (address, field.Address) ∷ (whole, field.IncarnationNumber) ∷ (address, field.Source) ∷ (whole, field.SourceIncarnationNumber)
    ∷ (status_fields ++ (weight, field.Weight) ∷ [])

-- the first error of a value that represents no change
abbrev pub ChangeFault : Data → WireError → Type 0
ChangeFault = FirstFault change_fields
