-- What is written for a change stands for it.
use Rattle.std.proofs.Common.{◌≡◌, ℕ, ◌≤◌, Bool, true, false, [], ◌∷◌, ◌++◌, nat_lt, refl, arith}
use Rattle.std.specs.Prelude.{if◌then◌else◌}
use Rattle.change_core.specs.Numbers.{IsWeight}
use Rattle.change_core.specs.declared.changes.Sourced.{Sourced}
use Rattle.change_core.specs.declared.statuses.Status.{Status}
use Rattle.change_core.specs.declared.statuses.Status.TheVariants.{Alive, Suspect, Faulty, Leave, Tombstone}
use Rattle.serde_json.specs.Data.{Data, number, unsigned, depth}
use Rattle.serde_json.specs.Written.{has_float}
use Rattle.std.proofs.lemmas.Grind.{common_steps}
use Rattle.std.proofs.lemmas.Bool.Decides.{nat_tests}
use Rattle.message_core.specs.declared.fields.Field.TheVariants.{Weight}
use Rattle.wire_json.specs.Fields.{Means}
use Rattle.wire_json.specs.Forms.{ChangeForm, IsChange, plain_fields, written, change_data}

-- what is written for the change with the weight, or without it
abbrev pub change_object : Bool → Sourced → Data
change_object heavy c = written (plain_fields c ++ (if heavy then (Weight, number (unsigned c.change.weight)) ∷ [] else []))

-- a word stands for itself where no member `tombstone` is there
means_itself : (b : Bool) (c : Sourced) (s : Status) → Means (change_object b c) s s
means_itself b c Alive = refl
means_itself b c Suspect = refl
means_itself true c Faulty = refl
means_itself false c Faulty = refl
means_itself b c Leave = refl
means_itself b c Tombstone = refl

one_at : (w : ℕ) → IsWeight w → nat_lt 1 w ≡ false → w ≡ 1
one_at w h e =
    let at_least = h.0 in
    grind (arith, common_steps, nat_tests)

stands_at : (b : Bool) (c : Sourced) → nat_lt 1 c.change.weight ≡ b → IsChange c → ChangeForm (change_object b c) c
stands_at true c e h = record {
  address = (refl, h.address);
  incarnation = (refl, h.incarnation);
  source = (refl, h.source);
  source_incarnation = (refl, h.source_incarnation);
  status = record { word = c.change.status; has_word = refl; means = means_itself true c c.change.status };
  weight = (refl, h.weight);
}
stands_at false c e h = record {
  address = (refl, h.address);
  incarnation = (refl, h.incarnation);
  source = (refl, h.source);
  source_incarnation = (refl, h.source_incarnation);
  status = record { word = c.change.status; has_word = refl; means = means_itself false c c.change.status };
  weight = one_at c.change.weight h.weight e;
}

pub change_stands : (c : Sourced) → IsChange c → ChangeForm (change_data c) c
change_stands c h = stands_at (nat_lt 1 c.change.weight) c refl h

whole_at : (b : Bool) (c : Sourced) → has_float (change_object b c) ≡ false
whole_at true c = refl
whole_at false c = refl

pub change_whole : (c : Sourced) → has_float (change_data c) ≡ false
change_whole c = whole_at _ c

shallow_at : (b : Bool) (c : Sourced) → depth (change_object b c) ≤ 1
shallow_at true c = omega arith
shallow_at false c = omega arith

pub change_shallow : (c : Sourced) → depth (change_data c) ≤ 1
change_shallow c = shallow_at _ c
