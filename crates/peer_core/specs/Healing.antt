-- Healing, by which members that parted find one another again: after each tenth round a node pings one member at random that is alive, suspect
-- or faulty, and sends a Join to a host that it does not hold as serving.
use Rattle.std.specs.Prelude.{◌==◌, ◌&&◌, ◌||◌, not, ℕ, zero, suc, ◌-◌, ◌%◌, Bool, false, List, [], ◌∷◌, Option, Some, None, count_by, length, slice_get, nat_lt, if◌then◌else◌}
use Rattle.std.specs.List.{list_any}
use Rattle.change_core.specs.declared.addresses.Address.{Address}
use Rattle.change_core.specs.declared.changes.Change.{Change}
use Rattle.change_core.specs.declared.statuses.Status.TheVariants.{Leave}
use Rattle.change_core.specs.Status.{rank, is_serving}
use Rattle.detector_core.specs.Choices.{seeded}
use Rattle.node_core.specs.declared.events.Event.TheVariants as call
use Rattle.node_core.specs.declared.events.Reply.TheVariants as reply
use Rattle.rand_pcg.specs.Lcg.{Lcg}
use Rattle.rand_pcg.specs.Pcg.{pcg32}
use Rattle.peer_core.specs.declared.healing.Choice.{Choice}
use Rattle.peer_core.specs.declared.healing.Draws.{Draws}
use Rattle.peer_core.specs.Joining.{JoinsHost}
use Rattle.peer_core.specs.Links.{MayAnswer}
use Rattle.peer_core.specs.Meeting.{Meets}
use Rattle.peer_core.specs.Parts.{Part, Calls, Tries, Gives, Next}

-- The hosts that are joined again, how many rounds are left before the next meeting, and the generator of random choices.
pub record Heals : Type 0 where
  pub hosts : List Address
  pub left : ℕ
  pub generator : Lcg

-- the state at the start: the first meeting comes after one of the first ten rounds, by the node's address, which is the seed, too
abbrev pub heals_first : Address → List Address → Heals
heals_first own hosts = record { hosts = hosts; left = own % 10; generator = seeded own }

-- the numbers of a meeting, drawn one after the other: that of the member and that of the host
abbrev pub drawn_from : Lcg → Draws
drawn_from g = record { member = (pcg32 g).0; host = (pcg32 (pcg32 g).1).0 }

-- after a round: after each tenth the numbers of a meeting, drawn from the generator; and the state from then on
abbrev pub after_round : Heals → Option Draws × Heals
after_round h =
    if h.left == 0
    then (Some (drawn_from h.generator), record h { left = 9; generator = (pcg32 (pcg32 h.generator).1).1 })
    else (None, record h { left = h.left - 1 })

-- a node may meet each member but itself, those that left, and tombstones
abbrev pub can_meet : Address → Change → Bool
can_meet own c = not (c.address == own) && nat_lt (rank c.status) (rank Leave)

-- the member at this place, from 0 on, of those that a node may meet
abbrev pub met_at : Address → List Change → ℕ → Option Address
met_at own [] n = None
met_at own (c ∷ cs) zero = if can_meet own c then Some c.address else met_at own cs zero
met_at own (c ∷ cs) (suc n) = if can_meet own c then met_at own cs n else met_at own cs (suc n)

-- the member that a number chooses
abbrev pub chosen_member : Address → List Change → ℕ → Option Address
chosen_member own held number =
    if count_by (can_meet own) held == 0 then None else met_at own held (number % count_by (can_meet own) held)

-- whether a host is held as serving
abbrev pub holds_serving : List Change → Address → Bool
holds_serving held host = list_any (λ c. (c.address == host) && is_serving c.status) held

-- this host, unless it is the node itself or held as serving
abbrev pub unless_serving : Address → List Change → Option Address → Option Address
unless_serving own held None = None
unless_serving own held (Some host) = if (host == own) || holds_serving held host then None else Some host

-- the host that a number chooses
abbrev pub chosen_host : Address → List Change → List Address → ℕ → Option Address
chosen_host own held [] number = None
chosen_host own held hosts number = unless_serving own held (slice_get hosts (number % length hosts))

-- the member that the first number chooses, and the host that the second chooses
abbrev pub choice_of : Address → List Change → List Address → Draws → Choice
choice_of own held hosts draws = record { member = chosen_member own held draws.member; host = chosen_host own held hosts draws.host }

module _ {H : Type 0} where
  -- the node is asked for its own entry and for its members, and the numbers choose one of them and a host
  abbrev pub Chooses : List Address → Draws → Part H Choice
  Chooses hosts draws =
      Next (Calls call.Own reply.Own) (λ own. Next (Tries call.Members reply.Members) (λ held. Gives (choice_of own.address held hosts draws)))

module _ {H : Type 0} (Came : MayAnswer) (now : ℕ) where
  -- the member is met, if there is one
  abbrev pub MeetsChosen : Option Address → Part H Bool
  MeetsChosen None = Gives false
  MeetsChosen (Some member) = Meets Came now member

  -- the host is joined, if there is one
  abbrev pub JoinsChosen : Option Address → Part H Bool
  JoinsChosen None = Gives false
  JoinsChosen (Some host) = JoinsHost Came now host

  -- the member of a choice is met, and then its host is joined; whether the host answered by a Joined
  abbrev pub CarriesOut : Choice → Part H Bool
  CarriesOut choice = Next (MeetsChosen choice.member) (λ met. JoinsChosen choice.host)

  -- a meeting at this moment, with the member and the host that its numbers choose
  abbrev pub IsMeeting : List Address → Draws → Part H Bool
  IsMeeting hosts draws = Next (Chooses hosts draws) CarriesOut

  -- healing after a round: a meeting if there are numbers for one, else nothing
  abbrev pub IsHealing : List Address → Option Draws → Part H Bool
  IsHealing hosts None = Gives false
  IsHealing hosts (Some draws) = IsMeeting hosts draws
