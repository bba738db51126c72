-- The settings of an agent, and what is made of them.
use Rattle.std.specs.Prelude.{◌≡◌, ◌==◌, ◌/◌, ◌^◌, ◌+◌, ◌*◌, ℕ, Bool, true, IfSome, Option, Some, None}
use Rattle.change_core.specs.Address.{ip_of}
use Rattle.detector_core.specs.Choices.{seeded}
use Rattle.hash_ring.specs.declared.hash.Sha256Hash.{Sha256Hash}
use Rattle.node_core.specs.Configs.{standard}
use Rattle.node_core.specs.Node.{Seen}
use Rattle.node_core.specs.Parts.{seen_of}
use Rattle.node_core.specs.World.{initial_node}
use Rattle.node_core.specs.declared.configs.Config.{Config}
use Rattle.hash_ring.specs.Points.{hash_of}
use Rattle.agent.specs.declared.settings.Settings.{Settings}

-- whether an address for HTTP, if there is one, is in 127.0.0.0/8
abbrev pub is_local : Option ℕ → Bool
is_local None = true
is_local (Some address) = ip_of address / 2 ^ 24 == 127

-- the configuration of the node
abbrev pub config_of : Settings → Config
config_of settings = record standard { per_message = settings.per_message; replicas = settings.replicas; weight = settings.weight }

-- the seed of its random choices
abbrev pub seed_of : ℕ → ℕ → ℕ
seed_of address incarnation = address * 32768 + incarnation

-- the new node that settings ask for, alone at moment 0: with the incarnation that they give, or else with any
abbrev pub IsNodeOf : Settings → Seen Sha256Hash → Type 0
IsNodeOf settings node =
    (hash : Sha256Hash) × (incarnation : ℕ) × IfSome settings.incarnation (λ given. incarnation ≡ given)
    × (node ≡ seen_of hash_of (initial_node hash (config_of settings) settings.address incarnation 0 (seeded (seed_of settings.address incarnation))))
