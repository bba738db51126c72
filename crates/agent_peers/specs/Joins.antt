-- The joins of the hosts.
use Rattle.std.specs.Prelude.{◌≡◌, ℕ, Bool, false, is_ok, [], ◌∷◌, Option, Some, None, Result, Ok, Err}
use Rattle.change_core.specs.Status.{is_serving}
use Rattle.change_core.specs.declared.changes.Entry.{Entry}
use Rattle.node_core.specs.declared.events.Event.TheVariants as call
use Rattle.node_core.specs.declared.events.Reply.TheVariants as reply
use Rattle.peer_core.specs.Joining.{IsJoin}
use Rattle.peer_core.specs.Links.{any_answer}
use Rattle.peer_core.specs.Parts.{Calls, Does}
use Rattle.peer_core.specs.declared.errors.ClusterError.{ClusterError}
use Rattle.agent_node.specs.Calling.{Calling, IsRenewed}

-- whether the node said that it holds an address as serving
abbrev pub serves : Result (Option Entry) ClusterError → Bool
serves (Ok (Some entry)) = is_serving entry.status
serves (Ok None) = false
serves (Err error) = false

-- the node was asked for its entry of a host, and this is whether it holds it as serving
pub record IsAsked (host : ℕ) (is_held : Bool) (old new : Calling) : Type 0 where
  pub node : new.node ≡ old.node
  pub entry : Result (Option Entry) ClusterError
  pub asked : Does old.node (Calls (call.Member host) reply.Member) entry old.pass new.pass
  pub held : is_held ≡ serves entry

-- A Join was sent to a host, over a link whose answers may be any, and this is whether a Joined came and was processed. Then the pass was renewed.
pub record HasJoined (host : ℕ) (is_joined : Bool) (old new : Calling) : Type 0 where
  pub now : ℕ
  pub outcome : Result ℕ ClusterError
  pub mid : Calling
  pub node : mid.node ≡ old.node
  pub did : Does old.node (IsJoin any_answer now (host ∷ [])) outcome old.pass mid.pass
  pub told : is_joined ≡ is_ok outcome
  pub renewed : IsRenewed mid new
