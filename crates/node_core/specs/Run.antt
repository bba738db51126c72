-- A run of calls, and the log that it leaves: the changes of each call, in the order of the calls.
use Rattle.std.specs.Prelude.{◌≡◌, ℕ, Option, Some, None, Ok, List, [], ◌∷◌, ◌++◌, map, take}
use Rattle.change_core.specs.declared.changes.Change.{Change}
use Rattle.change_core.specs.Change.{change_of}
use Rattle.change_core.specs.Members.{members}
use Rattle.node_core.specs.declared.events.Event.{Event}
use Rattle.node_core.specs.declared.events.Event.TheVariants as call
use Rattle.node_core.specs.declared.events.Reply.{Reply}
use Rattle.node_core.specs.declared.events.Reply.TheVariants as answer
use Rattle.node_core.specs.declared.events.Received.{Received}
use Rattle.node_core.specs.declared.events.Received.TheVariants as received
use Rattle.node_core.specs.declared.events.NodeLost.TheVariants as lost
use Rattle.node_core.specs.declared.events.NodeOutcome.TheVariants as answered
use Rattle.node_core.specs.Log.{log_given}
use Rattle.node_core.specs.Messages.{carried}
use Rattle.node_core.specs.Node.{Node}
use Rattle.node_core.specs.Step.{NodeStep}
use Rattle.node_core.specs.Taking.{taken_of}

-- of the changes that a message carries, those that its receiver counts as taken
abbrev pub received_in : List Change → Received → List Change
received_in given (received.Done taken) = given
received_in given (received.Answer taken reply) = given
received_in given (received.NoAnswer taken) = given
received_in given (received.Stopped stopped) = take stopped.taken given
received_in given received.NotGossip = []

-- the given changes that a call counts as taken
abbrev pub given_in : Event → Reply → List Change
given_in (call.Take given moment) (answer.Take result) = taken_of given result
given_in (call.Receive message moment) (answer.Receive result) = received_in (map change_of (carried message.content)) result
given_in event reply = []

-- a change that may be there, as a list
abbrev pub change_in : Option Change → List Change
change_in None = []
change_in (Some c) = c ∷ []

-- the change that a call answers as its own
abbrev pub said_in : Reply → List Change
said_in (answer.Leave (Ok change)) = change ∷ []
said_in (answer.Rejoin (Ok change)) = change ∷ []
said_in (answer.Expire (Ok change)) = change_in change
said_in (answer.Lost (Ok (lost.Suspect change))) = change_in change
said_in (answer.HelperSaid (Ok (answered.Suspect change))) = change_in change
said_in reply = []

-- the log with the changes of one call
abbrev pub log_step : ℕ → List Change → Event → Reply → List Change
log_step own log event reply = log_given own log (given_in event reply) ++ said_in reply

-- the log after these calls, from what it was before
abbrev pub log : ℕ → List Change → List Event → List Reply → List Change
log own start [] replies = start
log own start (event ∷ events) [] = start
log own start (event ∷ events) (reply ∷ replies) = log own (log_step own start event reply) events replies

-- from old, the node may give these replies to these calls, one after another, and become new
abbrev pub IsRun : {H : Type 0} → (H → List ℕ → ℕ) → Node H → List Event → List Reply → Node H → Type 0
IsRun hash_of old [] [] new = new ≡ old
IsRun hash_of old [] (reply ∷ replies) new = ⊥
IsRun hash_of old (event ∷ events) [] new = ⊥
IsRun {H} hash_of old (event ∷ events) (reply ∷ replies) new =
    (mid : Node H) × NodeStep hash_of old event reply mid × IsRun hash_of mid events replies new

-- a node's members are the members of its log
abbrev pub MembersAreLog : {H : Type 0} → (H → List ℕ → ℕ) → Type 0
MembersAreLog {H} hash_of =
    (old new : Node H) (events : List Event) (replies : List Reply)
    → members old.members ≡ old.members → IsRun hash_of old events replies new
    → new.members ≡ members (log old.own old.members events replies)
