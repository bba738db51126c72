-- The configurations with which a node can be made.
use Rattle.std.specs.Prelude.{◌≡◌, ℕ, ◌&&◌, nat_le, Bool, cond, List, Option, Some, None, codes}
use Rattle.change_core.specs.Numbers.{greatest_number, most_members}
use Rattle.node_core.specs.declared.configs.Config.{Config}
use Rattle.node_core.specs.declared.configs.ConfigField.{ConfigField}
use Rattle.node_core.specs.declared.configs.ConfigField.TheVariants.{Replicas, MaxMembers, SuspectMs, FaultyMs, Helpers, Piggyback, PerMessage}

-- whether n is from least to most, both included
abbrev pub is_within : ℕ → ℕ → ℕ → Bool
is_within least most n = nat_le least n && nat_le n most

-- the field's name in `Config`
abbrev pub field_name : ConfigField → List ℕ
field_name Replicas = codes "replicas"
field_name MaxMembers = codes "max_members"
field_name SuspectMs = codes "suspect_ms"
field_name FaultyMs = codes "faulty_ms"
field_name Helpers = codes "helpers"
field_name Piggyback = codes "piggyback"
field_name PerMessage = codes "per_message"

-- the first field that is out of its range
abbrev pub bad_field : Config → Option ConfigField
bad_field c =
    cond (is_within 1 1000 c.replicas)
    (cond (is_within 1 most_members c.max_members)
    (cond (is_within 1 greatest_number c.suspect_ms)
    (cond (is_within 1 greatest_number c.faulty_ms)
    (cond (is_within 0 16 c.helpers)
    (cond (is_within 1 1000 c.piggyback)
    (cond (is_within 1 most_members c.per_message) None (Some PerMessage))
    (Some Piggyback))
    (Some Helpers))
    (Some FaultyMs))
    (Some SuspectMs))
    (Some MaxMembers))
    (Some Replicas)

-- each field whose type leaves its range open is in it
abbrev pub IsConfig : Config → Type 0
IsConfig c = bad_field c ≡ None

-- a configuration that suits most clusters
abbrev pub standard : Config
standard = record {
  replicas = 100;
  max_members = 4096;
  suspect_ms = 5000;
  faulty_ms = 86400000;
  helpers = 3;
  piggyback = 15;
  per_message = 64;
  weight = 1;
}
