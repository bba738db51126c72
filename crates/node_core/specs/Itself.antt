-- The parts of a node that no call changes.
use Rattle.std.specs.Prelude.{◌≡◌, ℕ, List}
use Rattle.node_core.specs.Calls.{Call, Answer, CallStep}
use Rattle.node_core.specs.Node.{Node}

-- the same node: its own address, its hash and its configuration
pub record IsItself {H : Type 0} (old new : Node H) : Type 0 where
  pub own_stays : new.own ≡ old.own
  pub hash_stays : new.hash ≡ old.hash
  pub config_stays : new.config ≡ old.config

-- no call changes these
abbrev pub CallsLeaveItself : {H : Type 0} → (H → List ℕ → ℕ) → Type 0
CallsLeaveItself {H} hash_of = (old new : Node H) (call : Call) (answer : Answer H) → CallStep hash_of old call answer new → IsItself old new
