-- The making of a node in an empty handle.
use Rattle.std.specs.Prelude.{◌≡◌, ◌<◌, ◌≤◌, ◌⊎◌, ℕ, Option, Some, None}
use Rattle.change_core.specs.Numbers.{greatest_number, IsWeight}
use Rattle.detector_core.specs.Choices.{seeded}
use Rattle.hash_ring.specs.declared.hash.Sha256Hash.{Sha256Hash}
use Rattle.node_core.specs.declared.configs.Config.{Config}
use Rattle.node_core.specs.declared.configs.ConfigField.{ConfigField}
use Rattle.node_core.specs.Configs.{IsConfig, bad_field}
use Rattle.node_core.specs.Parts.{seen_of}
use Rattle.node_core.specs.World.{initial_node}
use Rattle.ringpop_c.specs.declared.codes.Code.{Code}
use Rattle.ringpop_c.specs.declared.codes.Code.TheVariants as code
use Rattle.ringpop_c.specs.declared.configs.RingpopConfig.{RingpopConfig}
use Rattle.ringpop_c.specs.Codes.{code_number, code_of_field}
use Rattle.ringpop_c.specs.Owned.{HeldNode}
use Rattle.hash_ring.specs.Points.{hash_of}

-- the configuration for a caller's one
abbrev pub config_of : RingpopConfig → Config
config_of c = record {
  replicas = c.replicas;
  max_members = c.max_members;
  suspect_ms = c.suspect_ms;
  faulty_ms = c.faulty_ms;
  helpers = c.helpers;
  piggyback = c.piggyback;
  per_message = c.per_message;
  weight = c.weight;
}

-- the value in the handle of a node that is alone in its cluster
abbrev pub alone : Config → ℕ → ℕ → ℕ → ℕ → HeldNode
alone config own incarnation seed moment =
    let hash : Sha256Hash = record {} in record { inner = seen_of hash_of (initial_node hash config own incarnation moment (seeded seed)) }

-- the same by a caller's configuration
abbrev pub created : RingpopConfig → ℕ → ℕ → ℕ → ℕ → HeldNode
created config own incarnation seed moment = alone (config_of config) own incarnation seed moment

-- the error of a configuration: its first field that is out of its range, or out of memory if there is none
abbrev pub IsConfigFault : Config → Code → Type 0
IsConfigFault config fault =
    ((field : ConfigField) × (bad_field config ≡ Some field) × (fault ≡ code_of_field field))
    ⊎ ((bad_field config ≡ None) × (fault ≡ code.Memory))

-- the error of a node that is not made: the first of these that applies
abbrev pub IsCreationFault : RingpopConfig → ℕ → ℕ → ℕ → Code → Type 0
IsCreationFault config port incarnation moment fault =
    ((fault ≡ code.BadAddress) × (port ≡ 0))
    ⊎ (((fault ≡ code.BadNumber) × (0 < port) × ((greatest_number < incarnation) ⊎ (greatest_number < moment)))
    ⊎ (((fault ≡ code.BadWeight) × (0 < port) × (incarnation ≤ greatest_number) × (moment ≤ greatest_number) × (IsWeight config.weight → ⊥))
    ⊎ ((0 < port) × (incarnation ≤ greatest_number) × (moment ≤ greatest_number) × IsWeight config.weight × IsConfigFault (config_of config) fault)))

-- the arguments with which a node can be made: a port, numbers, a weight and a configuration, each in its range
pub record CanBegin (config : RingpopConfig) (port incarnation moment : ℕ) : Type 0 where
  pub port_is : 0 < port
  pub incarnation_is : incarnation ≤ greatest_number
  pub moment_is : moment ≤ greatest_number
  pub weight_is : IsWeight config.weight
  pub config_is : IsConfig (config_of config)

-- a full handle returns that it is full, and is unchanged; an empty one gets the new node, each argument in its range, or stays empty and
-- returns the error
abbrev pub Begins : RingpopConfig → ℕ → ℕ → ℕ → ℕ → ℕ → Option HeldNode → ℕ → Option HeldNode → Type 0
Begins config own port incarnation seed moment (Some held) number new = (number ≡ code_number code.HasNode) × (new ≡ Some held)
Begins config own port incarnation seed moment None number (Some held) =
    (number ≡ code_number code.Done) × (held ≡ created config own incarnation seed moment) × CanBegin config port incarnation moment
Begins config own port incarnation seed moment None number None = (fault : Code) × (number ≡ code_number fault) × IsCreationFault config port incarnation moment fault
