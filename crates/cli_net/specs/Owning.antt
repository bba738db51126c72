-- A request to whichever node owns its key, by the members that one node reports.
use Rattle.std.specs.Prelude.{◌≡◌, ◌⊎◌, ℕ, List, [], Option, Some, None}
use Rattle.change_core.specs.declared.addresses.Address.{Address}
use Rattle.message_core.specs.declared.kinds.Reason.TheVariants as reason
use Rattle.message_core.specs.declared.messages.News.{News}
use Rattle.hash_ring.specs.Points.{owner}
use Rattle.hash_ring.specs.Serving.{servers_of}
use Rattle.peer_core.specs.Links.{MayAnswer}
use Rattle.cli_net.specs.Asking.{IsReply, IsUnasked, request}
use Rattle.cli_net.specs.Membership.{IsNotSeen, IsSeen, told_members}
use Rattle.cli_net.specs.declared.faults.AskError.{AskError}
use Rattle.cli_net.specs.declared.faults.AskError.TheVariants as fault

-- the owner of a key among the members in an answer, if any of them serves
abbrev pub told_owner : (List ℕ → ℕ) → ℕ → List ℕ → News → Option Address
told_owner hash replicas key news = owner hash replicas (servers_of (told_members news)) key

-- the error if no owner is named: there is none, or out of memory to find it
abbrev pub IsUnnamed : Option Address → AskError → Type 0
IsUnnamed found (fault.Refused reason.Nobody) = found ≡ None
IsUnnamed found fault.OutOfMemory = Unit {0}
IsUnnamed found other = ⊥

-- the host reported its members, and this is the key's owner among them
pub record IsOwner (May : MayAnswer) (host : Address) (hash : List ℕ → ℕ) (replicas : ℕ) (key : List ℕ) (to : Address) : Type 0 where
  pub news : News
  pub seen : IsSeen May host [] news
  pub is : told_owner hash replicas key news ≡ Some to

-- the host reported its members, and none of them serves
pub record IsUnowned (May : MayAnswer) (host : Address) (hash : List ℕ → ℕ) (replicas : ℕ) (key : List ℕ) : Type 0 where
  pub news : News
  pub seen : IsSeen May host [] news
  pub is : told_owner hash replicas key news ≡ None

-- the error if no owner was found: no membership was seen; or one was, and none of it serves, or out of memory to find the owner
abbrev pub IsNoOwner : MayAnswer → Address → (List ℕ → ℕ) → ℕ → List ℕ → AskError → Type 0
IsNoOwner May host hash replicas key (fault.Refused reason.Nobody) =
    IsNotSeen May host [] (fault.Refused reason.Nobody) ⊎ IsUnowned May host hash replicas key
IsNoOwner May host hash replicas key other = IsNotSeen May host [] other

module _ (May : MayAnswer) (host : Address) (hash : List ℕ → ℕ) (replicas : ℕ) (key body : List ℕ) where
  -- an owner replied with this text
  pub record IsAnswered (text : List ℕ) : Type 0 where
    pub to : Address
    pub owner : IsOwner May host hash replicas key to
    pub reply : IsReply May to (request key body) text

  -- no owner was found; or one was, and it did not reply
  pub data IsUnanswered (e : AskError) : Type 0 where
    unfound : IsNoOwner May host hash replicas key e → IsUnanswered e
    unsaid : (to : Address) → IsOwner May host hash replicas key to → IsUnasked May to (request key body) e → IsUnanswered e
