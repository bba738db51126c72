-- The node of an agent as its service has it leave and come back.
use Rattle.std.proofs.Common.{◌≡◌, Bool, true, Result, is_ok, refl, subst, sym}
use Rattle.change_core.specs.declared.changes.Change.{Change}
use Rattle.node_core.specs.declared.events.Event.TheVariants as call
use Rattle.node_core.specs.declared.events.Reply.TheVariants as reply
use Rattle.peer_core.specs.Parts.{Does, Tries}
use Rattle.peer_core.specs.declared.errors.ClusterError.{ClusterError}
use Rattle.agent_core.specs.declared.services.Move.{Move}
use Rattle.agent_core.specs.declared.services.Move.TheVariants.{Stay, Leave, Rejoin}
use Rattle.agent_node.specs.Calling.{Calling}
use Rattle.agent.specs.Services.{Moves}

-- no move
pub stays : (step : Move) (a b : Calling) (is_made : Bool) → step ≡ Stay → b ≡ a → is_made ≡ true → Moves step is_made a b
stays step a b is_made is same made = subst (λ (it : Move). Moves it is_made a b) (sym is) (made, same)

-- the node was asked to leave
pub leaves : (step : Move) (a b : Calling) (outcome : Result Change ClusterError) (is_made : Bool) → step ≡ Leave → b.node ≡ a.node
    → Does a.node (Tries call.Leave reply.Leave) outcome a.pass b.pass → is_made ≡ is_ok outcome → Moves step is_made a b
leaves step a b outcome is_made is same does told =
    subst (λ (it : Move). Moves it is_made a b) (sym is) (record { outcome = outcome; node = same; did = does; told = told })

-- the node was asked to come back
pub comes_back : (step : Move) (a b : Calling) (outcome : Result Change ClusterError) (is_made : Bool) → step ≡ Rejoin → b.node ≡ a.node
    → Does a.node (Tries call.Rejoin reply.Rejoin) outcome a.pass b.pass → is_made ≡ is_ok outcome → Moves step is_made a b
comes_back step a b outcome is_made is same does told =
    subst (λ (it : Move). Moves it is_made a b) (sym is) (record { outcome = outcome; node = same; did = does; told = told })
