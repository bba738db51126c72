-- What a configuration's fields are within.
use Rattle.std.proofs.Common.{◌≡◌, ℕ, ◌≤◌, Bool, true, false, cond, Option, Some, None, refl}
use Rattle.std.specs.Prelude.{nat_le}
use Rattle.std.proofs.lemmas.Bool.{and_parts, leb-true}
use Rattle.change_core.specs.Numbers.{greatest_number, most_members}
use Rattle.node_core.specs.declared.configs.Config.{Config}
use Rattle.node_core.specs.declared.configs.ConfigField.{ConfigField}
use Rattle.node_core.specs.declared.configs.ConfigField.TheVariants.{Replicas, MaxMembers, SuspectMs, FaultyMs, Helpers, Piggyback, PerMessage}
use Rattle.node_core.specs.Configs.{is_within, IsConfig}

-- a test of a chain that finds no fault holds, and so does what comes after it
pub passes : (b : Bool) (rest : Option ConfigField) (f : ConfigField) → cond b rest (Some f) ≡ None → (b ≡ true) × (rest ≡ None)
passes true rest f e = (refl, e)
passes false rest f e = cc

pub record Limits (c : Config) : Type 0 where
  pub replicas : (1 ≤ c.replicas) × (c.replicas ≤ 1000)
  pub members : 1 ≤ c.max_members
  pub few : c.max_members ≤ most_members
  pub suspect : c.suspect_ms ≤ greatest_number
  pub faulty : c.faulty_ms ≤ greatest_number
  pub helpers : c.helpers ≤ 16
  pub piggyback : 1 ≤ c.piggyback
  pub often : c.piggyback ≤ 1000
  pub some : 1 ≤ c.per_message
  pub each : c.per_message ≤ most_members

within : (least most n : ℕ) → is_within least most n ≡ true → (least ≤ n) × (n ≤ most)
within least most n e = let parts = and_parts (nat_le least n) (nat_le n most) e in (leb-true least n parts.0, leb-true n most parts.1)

pub limits_within : (c : Config) → IsConfig c → Limits c
limits_within c h =
    let a = passes (is_within 1 1000 c.replicas) _ Replicas h in
    let b = passes (is_within 1 most_members c.max_members) _ MaxMembers a.1 in
    let d = passes (is_within 1 greatest_number c.suspect_ms) _ SuspectMs b.1 in
    let e = passes (is_within 1 greatest_number c.faulty_ms) _ FaultyMs d.1 in
    let f = passes (is_within 0 16 c.helpers) _ Helpers e.1 in
    let g = passes (is_within 1 1000 c.piggyback) _ Piggyback f.1 in
    let k = passes (is_within 1 most_members c.per_message) None PerMessage g.1 in
    record {
      replicas = within 1 1000 c.replicas a.0;
      members = (within 1 most_members c.max_members b.0).0;
      few = (within 1 most_members c.max_members b.0).1;
      suspect = (within 1 greatest_number c.suspect_ms d.0).1;
      faulty = (within 1 greatest_number c.faulty_ms e.0).1;
      helpers = (within 0 16 c.helpers f.0).1;
      piggyback = (within 1 1000 c.piggyback g.0).0;
      often = (within 1 1000 c.piggyback g.0).1;
      some = (within 1 most_members c.per_message k.0).0;
      each = (within 1 most_members c.per_message k.0).1;
    }
