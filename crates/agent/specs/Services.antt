-- The node of an agent as its service has it leave and come back.
use Rattle.std.specs.Prelude.{◌≡◌, Bool, true, is_ok, Result}
use Rattle.change_core.specs.declared.changes.Change.{Change}
use Rattle.node_core.specs.declared.events.Event.TheVariants as call
use Rattle.node_core.specs.declared.events.Reply.TheVariants as reply
use Rattle.peer_core.specs.Parts.{Does, Tries}
use Rattle.peer_core.specs.declared.errors.ClusterError.{ClusterError}
use Rattle.agent_core.specs.declared.services.Move.{Move}
use Rattle.agent_core.specs.declared.services.Move.TheVariants.{Stay, Leave, Rejoin}
use Rattle.agent_node.specs.Calling.{Calling}

-- the node was asked to leave, and this is whether it did
pub record Leaves (has_left : Bool) (old new : Calling) : Type 0 where
  pub outcome : Result Change ClusterError
  pub node : new.node ≡ old.node
  pub did : Does old.node (Tries call.Leave reply.Leave) outcome old.pass new.pass
  pub told : has_left ≡ is_ok outcome

-- the node was asked to come back, and this is whether it did
pub record ComesBack (is_back : Bool) (old new : Calling) : Type 0 where
  pub outcome : Result Change ClusterError
  pub node : new.node ≡ old.node
  pub did : Does old.node (Tries call.Rejoin reply.Rejoin) outcome old.pass new.pass
  pub told : is_back ≡ is_ok outcome

-- the node was asked to make a move, and this is whether it did
abbrev pub Moves : Move → Bool → Calling → Calling → Type 0
Moves Stay is_made old new = (is_made ≡ true) × (new ≡ old)
Moves Leave is_made old new = Leaves is_made old new
Moves Rejoin is_made old new = ComesBack is_made old new
