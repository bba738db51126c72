-- The settings of a start of a node and its server, and its result.
use Rattle.std.specs.Prelude.{◌≡◌, ◌⊎◌, Bool, true, false, ℕ, ◌+◌, ◌*◌, ◌^◌, ◌≤◌, ◌<◌, List, ◌∷◌, [], ◌++◌, Option, Some, None, length, All}
use Rattle.change_core.specs.declared.addresses.Address.{Address}
use Rattle.detector_core.specs.Choices.{seeded}
use Rattle.node_core.specs.Configs.{bad_field, standard}
use Rattle.node_core.specs.Node.{Seen}
use Rattle.node_core.specs.Parts.{seen_of}
use Rattle.node_core.specs.Workers.{IsCrew}
use Rattle.node_core.specs.World.{initial_node}
use Rattle.node_core.specs.declared.errors.NodeError.{NodeError}
use Rattle.node_core.specs.declared.errors.NodeError.TheVariants as node
use Rattle.locked_node.specs.Passes.{NodePass, AreAll, Fits, opening_of}
use Rattle.server.specs.Running.{Started}
use Rattle.line_service.specs.Timeouts.{AreStandardTimeouts}
use Rattle.server.specs.Working.{hosts_of}
use Rattle.server.specs.declared.errors.ServerError.{ServerError}
use Rattle.server.specs.declared.errors.ServerError.TheVariants as server
use Rattle.server.specs.declared.healing.HealingPlan.{HealingPlan}
use Rattle.server.specs.declared.starting.Settings.{Settings}
use Rattle.server.specs.declared.starting.StartError.{StartError}
use Rattle.server.specs.declared.starting.StartError.TheVariants as error

-- the standard settings of a node at an address
pub record AreStandardFor (a i : ℕ) (settings : Settings) : Type 0 where
  pub address : settings.address ≡ a
  pub incarnation : settings.incarnation ≡ i
  pub config : settings.config ≡ record standard { per_message = 1024 }
  pub counts : (settings.workers ≡ 4) × (settings.handles ≡ 1)
  pub period : settings.period ≡ 200
  pub heals : settings.heals ≡ true
  pub hosts : settings.hosts.now ≡ []
  pub timeouts : AreStandardTimeouts settings.timeouts

-- a node of this address heals so, with these hosts, or does not heal
abbrev pub IsHealedAs : Bool → Address → List Address → Option HealingPlan → Type 0
IsHealedAs false own hosts None = Unit {0}
IsHealedAs true own hosts (Some plan) = (plan.own ≡ own) × (plan.hosts.items ≡ hosts)
IsHealedAs heals own hosts other = ⊥

-- the seed of the random choices of a node
abbrev pub seed_of : Address → ℕ → ℕ
seed_of address incarnation = address * 2 ^ 15 + incarnation

-- the workers and the handles are in their ranges
abbrev pub AreCountsInRange : Settings → Type 0
AreCountsInRange settings = IsCrew settings.workers × (settings.handles ≤ 1000)

-- the new node that the settings ask for, alone at moment 0
abbrev pub IsCreated : {H : Type 0} → (H → List ℕ → ℕ) → H → Settings → Seen H → Type 0
IsCreated hash_of hash settings node =
    node ≡ seen_of hash_of (initial_node hash settings.config settings.address settings.incarnation 0 (seeded (seed_of settings.address settings.incarnation)))

-- the error if there is no such node
abbrev pub IsNotCreated : Settings → StartError → Type 0
IsNotCreated settings (error.BadConfig field) = bad_field settings.config ≡ Some field
IsNotCreated settings error.Memory = bad_field settings.config ≡ None
IsNotCreated settings other = ⊥

-- a start's error for an error of the node
abbrev pub start_error : NodeError → StartError
start_error (node.BadConfig field) = error.BadConfig field
start_error other = error.Memory

-- the error of a start: the first that applies, in this order, apart from out of memory
abbrev pub IsNotStarted : Settings → StartError → Type 0
IsNotStarted settings (error.BadConfig field) = bad_field settings.config ≡ Some field
IsNotStarted settings error.BadCount = (bad_field settings.config ≡ None) × ¬ AreCountsInRange settings
IsNotStarted settings error.CannotListen = (bad_field settings.config ≡ None) × AreCountsInRange settings
IsNotStarted settings error.NoThread = (bad_field settings.config ≡ None) × AreCountsInRange settings
IsNotStarted settings error.Memory = bad_field settings.config ≡ None

-- the error of a port that is not opened
abbrev pub IsUnopened : StartError → Type 0
IsUnopened why = (why ≡ error.CannotListen) ⊎ (why ≡ error.Memory)

-- a start's error for an error of a server
abbrev pub error_of_server : ServerError → StartError
error_of_server server.NoThread = error.NoThread
error_of_server server.Memory = error.Memory

-- The server's node was made by the settings; its handler answers, and it waits, heals, joins hosts and makes rounds as they say. The passes of its workers, the
-- handles and the pass of its rounds are all that the node has, and there is room for all of them where they come back.
pub record IsStarted {H A : Type 0} (hash_of : H → List ℕ → ℕ) (hash : H) (answers : A) (settings : Settings) (running : Started H A) (handles : List (NodePass H)) : Type 0 where
  pub created : IsCreated hash_of hash settings (opening_of running.server.node)
  pub handler : running.server.handler ≡ answers
  pub timeouts : running.server.timeouts ≡ settings.timeouts
  pub healing : IsHealedAs settings.heals settings.address settings.hosts.now running.server.healing
  pub hosts : hosts_of running.server.hosts ≡ settings.hosts.now
  pub workers : length running.workers ≡ settings.workers
  pub count : length handles ≡ settings.handles
  pub period : running.period ≡ settings.period
  pub all : AreAll running.server.node (running.workers ++ handles ++ running.rounds ∷ [])
  pub fits : All (Fits running.server.node) handles
  pub room : settings.workers + settings.handles < running.room
