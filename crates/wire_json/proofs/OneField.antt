-- A change of which one field more was read.
use Rattle.std.proofs.Common.{◌≡◌, ℕ, ◌≤◌, ◌⊎◌, inl, inr, false, List, Option, Some, None, IfSome, bytes_eq, true≢false, sym, ap, ◌∙◌, subst}
use Rattle.std.proofs.lemmas.Slice.Eq.{bytes_eq-Decides}
use Rattle.serde_json.specs.Data.{Data, string, number, unsigned, object, Members, put}
use Rattle.serde_json.specs.Find.{get}
use Rattle.serde_json.proofs.Views.{get_member-put, get_member-put_other}
use Rattle.change_core.specs.Address.{IsAddress, address_text}
use Rattle.change_core.specs.Numbers.{greatest_number}
use Rattle.change_core.specs.Status.{status_word}
use Rattle.change_core.specs.declared.statuses.Status.{Status}
use Rattle.message_core.specs.declared.fields.Field.{Field}
use Rattle.message_core.specs.declared.fields.Field.TheVariants as field
use Rattle.wire_json.specs.declared.partial.PartialChange.{PartialChange}
use Rattle.message_core.specs.Fields.{name}
use Rattle.wire_json.specs.Fields.{Weighs}
use Rattle.wire_json.specs.Partial.{IsReadOf}

apart : (xs ys : List ℕ) → bytes_eq xs ys ≡ false → xs ≡ ys → ⊥
apart xs ys differ same = true≢false (sym ((bytes_eq-Decides xs ys).1 same) ∙ differ)

-- a name is not that of another field
pub others : (g : Field) (k : List ℕ) → k ≡ name g → (f : Field) → bytes_eq (name f) (name g) ≡ false → name f ≡ k → ⊥
others g k is f differ same = apart (name f) (name g) differ (same ∙ is)

-- the field was read now, or another was and this part is as it was
abbrev pub Part : {A : Type 0} → (A → Option Data → Type 0) → Field → List ℕ → Data → Option A → Option A → Type 0
Part P f k d old new = ((k ≡ name f) × IfSome new (λ a. P a (Some d))) ⊎ ((name f ≡ k → ⊥) × (new ≡ old))

part : {A : Type 0} (P : A → Option Data → Type 0) (f : Field) (k : List ℕ) (d : Data) (old new : Option A) (ms : Members)
    → Part P f k d old new → IfSome old (λ a. P a (get (name f) (object ms))) → IfSome new (λ a. P a (get (name f) (object (put k d ms))))
part P f k d old new ms (inl h) before =
    subst (λ n. IfSome new (λ a. P a (get (name f) (object (put n d ms))))) (sym h.0) (subst (λ g. IfSome new (λ a. P a g)) (sym (get_member-put (name f) d ms)) h.1)
part P f k d old new ms (inr h) before =
    subst (λ o. IfSome o (λ a. P a (get (name f) (object (put k d ms))))) (sym h.1) (subst (λ g. IfSome old (λ a. P a g)) (sym (get_member-put_other (name f) k d ms h.0)) before)

abbrev pub IsAt : ℕ → Option Data → Type 0
IsAt a g = (g ≡ Some (string (address_text a))) × IsAddress a

abbrev pub Counts : ℕ → Option Data → Type 0
Counts n g = (g ≡ Some (number (unsigned n))) × (n ≤ greatest_number)

abbrev pub Names : Status → Option Data → Type 0
Names s g = g ≡ Some (string (status_word s))

abbrev pub Weighing : ℕ → Option Data → Type 0
Weighing w g = Weighs g w

pub is_at : (o : Option ℕ) (d : Data) → IfSome o (λ a. (d ≡ string (address_text a)) × IsAddress a) → IfSome o (λ a. IsAt a (Some d))
is_at None d h = h
is_at (Some a) d h = (ap Some h.0, h.1)

pub counts : (o : Option ℕ) (d : Data) → IfSome o (λ n. (d ≡ number (unsigned n)) × (n ≤ greatest_number)) → IfSome o (λ n. Counts n (Some d))
counts None d h = h
counts (Some n) d h = (ap Some h.0, h.1)

pub names : (o : Option Status) (d : Data) → IfSome o (λ s. d ≡ string (status_word s)) → IfSome o (λ s. Names s (Some d))
names None d h = h
names (Some s) d h = ap Some h

-- one field read makes the change that of one field more
pub reads : (k : List ℕ) (d : Data) (ms : Members) (old new : PartialChange) → IsReadOf ms old
    → Part IsAt field.Address k d old.address new.address
    → Part Counts field.IncarnationNumber k d old.incarnation new.incarnation
    → Part IsAt field.Source k d old.source new.source
    → Part Counts field.SourceIncarnationNumber k d old.source_incarnation new.source_incarnation
    → Part Names field.Status k d old.status new.status
    → (name field.Tombstone ≡ k → ⊥)
    → Part Weighing field.Weight k d old.weight new.weight
    → IsReadOf (put k d ms) new
reads k d ms old new h a i s j t unmarked w = record {
  address = part IsAt field.Address k d old.address new.address ms a h.address;
  incarnation = part Counts field.IncarnationNumber k d old.incarnation new.incarnation ms i h.incarnation;
  source = part IsAt field.Source k d old.source new.source ms s h.source;
  source_incarnation = part Counts field.SourceIncarnationNumber k d old.source_incarnation new.source_incarnation ms j h.source_incarnation;
  status = part Names field.Status k d old.status new.status ms t h.status;
  unmarked = get_member-put_other (name field.Tombstone) k d ms unmarked ∙ h.unmarked;
  weight = part Weighing field.Weight k d old.weight new.weight ms w h.weight;
}
