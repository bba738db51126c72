-- The rounds of an agent.
use Rattle.std.specs.Prelude.{◌≡◌, ◌⊎◌, ◌+◌, ◌%◌, ◌^◌, ℕ, List, Option, Some, None, Result, Ok, Err}
use Rattle.change_core.specs.Address.{address_of, ip_of, port_of}
use Rattle.change_core.specs.declared.changes.Change.{Change}
use Rattle.change_core.specs.declared.digests.Digest.{Digest}
use Rattle.hash_ring.specs.declared.hash.Sha256Hash.{Sha256Hash}
use Rattle.node_core.specs.declared.events.Event.TheVariants as call
use Rattle.node_core.specs.declared.events.Reply.TheVariants as reply
use Rattle.peer_core.specs.Acts.{OfActs, Nothing, Then}
use Rattle.peer_core.specs.Correcting.{IsCorrectingRound}
use Rattle.peer_core.specs.Parts.{Does, Tries}
use Rattle.peer_core.specs.Rounds.{IsRound}
use Rattle.peer_core.specs.declared.errors.ClusterError.{ClusterError}
use Rattle.peer_core.specs.declared.rounds.Round.{Round}
use Rattle.peer_core.specs.declared.rounds.Round.TheVariants.{Suspected}
use Rattle.agent_node.specs.Calling.{Calling}
use Rattle.peer_core.specs.Links.{any_answer}

-- the member that a round which ended so could not reach
abbrev pub suspected_in : Round → Option ℕ
suspected_in (Suspected member) = Some member
suspected_in other = None

-- the member that a round could not reach, if there is one
abbrev pub silent_in : Result Round ClusterError → Option ℕ
silent_in (Ok round) = suspected_in round
silent_in (Err error) = None

-- the seed of healing at the node with its own address after this number of lists of hosts: the address with the number added to its IPv4 number, of 32 bits
abbrev pub healing_seed : ℕ → ℕ → ℕ
healing_seed own lists = address_of ((ip_of own + lists) % 2 ^ 32) (port_of own)

-- one round was made at this moment, over a link whose answers may be any, with this result: one that corrects its target, or one that does not
pub record MakesRound (now : ℕ) (result : Result Round ClusterError) (old new : Calling) : Type 0 where
  pub node : new.node ≡ old.node
  pub round : Does old.node (IsCorrectingRound any_answer now) result old.pass new.pass ⊎ Does old.node (IsRound any_answer now) result old.pass new.pass

-- the node was asked for the digest of its members
abbrev pub AsksDigest : OfActs Sha256Hash
AsksDigest acts = (told : Result Digest ClusterError) × Tries call.Digest reply.Digest told acts

-- the node was asked for its members
abbrev pub AsksMembers : OfActs Sha256Hash
AsksMembers acts = (told : Result (List Change) ClusterError) × Tries call.Members reply.Members told acts

-- the node was asked whether its members changed: for nothing, for their digest, or for that and then for the members
abbrev pub AsksRing : OfActs Sha256Hash
AsksRing acts = Nothing acts ⊎ (AsksDigest acts ⊎ Then AsksDigest AsksMembers acts)
