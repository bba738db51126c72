-- A change with some of its fields read.
use Rattle.std.specs.Prelude.{◌≡◌, None, IfSome}
use Rattle.serde_json.specs.Data.{object, Members}
use Rattle.serde_json.specs.Find.{get}
use Rattle.message_core.specs.Fields.{name}
use Rattle.wire_json.specs.Fields.{HasAddress, HasNumber, HasWord, HasWeight}
use Rattle.message_core.specs.declared.fields.Field.TheVariants as field
use Rattle.wire_json.specs.declared.partial.PartialChange.{PartialChange}

-- the parts of the change that are there are what these fields give; none of the fields is `tombstone`
pub record IsReadOf (ms : Members) (c : PartialChange) : Type 0 where
  pub address : IfSome c.address (λ a. HasAddress field.Address (object ms) a)
  pub incarnation : IfSome c.incarnation (λ n. HasNumber field.IncarnationNumber (object ms) n)
  pub source : IfSome c.source (λ a. HasAddress field.Source (object ms) a)
  pub source_incarnation : IfSome c.source_incarnation (λ n. HasNumber field.SourceIncarnationNumber (object ms) n)
  pub status : IfSome c.status (λ s. HasWord (object ms) s)
  pub unmarked : get (name field.Tombstone) (object ms) ≡ None
  pub weight : IfSome c.weight (λ w. HasWeight (object ms) w)
