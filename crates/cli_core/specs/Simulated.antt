-- The state of a run of a script: its nodes, its messages and its moment; and the effect and the answer of each command.
use Rattle.std.specs.Prelude.{◌≡◌, ◌≢◌, ℕ, zero, suc, ◌+◌, ◌<◌, ◌≤◌, ◌==◌, ◌⊎◌, cond, Option, Some, None, Ok, Err, List, [], ◌∷◌, ◌++◌, length, map, slice_get, slice_index_or}
use Rattle.std.specs.List.{find}
use Rattle.change_core.specs.declared.changes.Change.{Change}
use Rattle.change_core.specs.declared.changes.Sourced.{Sourced}
use Rattle.detector_core.specs.Choices.{seeded}
use Rattle.node_core.specs.declared.errors.NodeError.TheVariants as refused
use Rattle.node_core.specs.declared.events.Event.TheVariants as call
use Rattle.node_core.specs.declared.events.Received.{Received}
use Rattle.node_core.specs.declared.events.Taken.{Taken}
use Rattle.node_core.specs.declared.events.Received.TheVariants as received
use Rattle.node_core.specs.declared.events.Reply.TheVariants as reply
use Rattle.node_core.specs.Configs.{standard}
use Rattle.node_core.specs.Node.{Node, Seen, own_change}
use Rattle.node_core.specs.Step.{NodeStep}
use Rattle.node_core.specs.World.{initial_node}
use Rattle.message_core.specs.declared.messages.Message.{Message}
use Rattle.cli_core.specs.declared.scripts.messages.Sent.{Sent}
use Rattle.cli_core.specs.declared.scripts.answers.Answer.{Answer}
use Rattle.cli_core.specs.declared.scripts.answers.Answer.TheVariants as answer
use Rattle.cli_core.specs.declared.scripts.lines.Birth.{Birth}
use Rattle.cli_core.specs.declared.scripts.lines.Question.{Question}
use Rattle.cli_core.specs.declared.scripts.lines.Question.TheVariants as question
use Rattle.cli_core.specs.declared.scripts.lines.Command.{Command}
use Rattle.cli_core.specs.declared.scripts.lines.Command.TheVariants.{Node as Makes, At, Ask, Send, Deliver, Restart}
use Rattle.cli_core.specs.declared.scripts.faults.ScriptError.{ScriptError}
use Rattle.cli_core.specs.declared.scripts.faults.ScriptError.TheVariants as fault

-- the greatest number of nodes of a script
abbrev pub most_nodes : ℕ
most_nodes = 64

-- the greatest number of messages of a script
abbrev pub most_messages : ℕ
most_messages = 65536

-- the hash, the number of points for each unit of weight, the moment, the nodes in the order of their making, and the messages by their
-- numbers
pub record Simulated (H : Type 0) : Type 0 where
  pub hash : H
  pub replicas : ℕ
  pub moment : ℕ
  pub nodes : List (Node H)
  pub messages : List Sent

-- no nodes and no messages, at moment 0
abbrev pub beginning : {H : Type 0} → H → ℕ → Simulated H
beginning hash replicas = record { hash = hash; replicas = replicas; moment = 0; nodes = []; messages = [] }

-- the node of an address
abbrev pub node_at : {H : Type 0} → List (Node H) → ℕ → Option (Node H)
node_at nodes a = find (λ n. n.own == a) nodes

-- the nodes with this one instead of the node of an address
abbrev pub with_node : {H : Type 0} → List (Node H) → ℕ → Node H → List (Node H)
with_node [] a node = []
with_node (n ∷ ns) a node = cond (n.own == a) (node ∷ ns) (n ∷ with_node ns a node)

-- the nodes that are seen
abbrev pub nodes_in : {H : Type 0} → List (Seen H) → List (Node H)
nodes_in {H} seen = map (λ (s : Seen H). s.node) seen

-- the place of the first node of an address
pub record IsPlace {H : Type 0} (seen : List (Seen H)) (a i : ℕ) : Type 0 where
  pub within : i < length seen
  pub here : (d : Seen H) → (slice_index_or seen i d).node.own ≡ a
  pub before : (k : ℕ) (d : Seen H) → k < i → (slice_index_or seen k d).node.own ≡ a → ⊥

-- the message of a number, from 1
abbrev pub message_of : List Sent → ℕ → Option Sent
message_of messages zero = None
message_of messages (suc n) = slice_get messages n

-- a new node, at a moment: standard, apart from its points of the ring and its weight
abbrev pub created : {H : Type 0} → H → ℕ → ℕ → Birth → Node H
created hash replicas moment birth =
    initial_node hash (record standard { replicas = replicas; weight = birth.weight }) birth.address birth.incarnation moment (seeded 0)

-- the same in a script
abbrev pub created_in : {H : Type 0} → Simulated H → Birth → Node H
created_in s birth = created s.hash s.replicas s.moment birth

-- a change with its subject as its source
abbrev pub of_itself : Change → Sourced
of_itself c = record { change = c; source = c.address; source_incarnation = c.incarnation }

-- the answer of one of the nodes at a moment, and the node after it: one call of it
abbrev pub NodeAnswers : {H : Type 0} → (H → List ℕ → ℕ) → ℕ → Node H → Question → Answer → Node H → Type 0
NodeAnswers hash_of now old (question.Take c) (answer.Taken taken) new = NodeStep hash_of old (call.Take (of_itself c ∷ []) now) (reply.Take (Ok taken)) new
NodeAnswers hash_of now old (question.Take c) (answer.Stopped stopped) new = NodeStep hash_of old (call.Take (of_itself c ∷ []) now) (reply.Take (Err stopped)) new
NodeAnswers hash_of now old question.Leave (answer.Said c) new = NodeStep hash_of old call.Leave (reply.Leave (Ok c)) new
NodeAnswers hash_of now old question.Leave answer.AlreadyLeft new = NodeStep hash_of old call.Leave (reply.Leave (Err refused.AlreadyLeft)) new
NodeAnswers hash_of now old question.Rejoin (answer.Said c) new = NodeStep hash_of old call.Rejoin (reply.Rejoin (Ok c)) new
NodeAnswers hash_of now old question.Rejoin answer.NotLeft new = NodeStep hash_of old call.Rejoin (reply.Rejoin (Err refused.NotLeft)) new
NodeAnswers hash_of now old question.Rejoin answer.Exhausted new = NodeStep hash_of old call.Rejoin (reply.Rejoin (Err refused.Exhausted)) new
NodeAnswers hash_of now old question.Expire (answer.Said c) new = NodeStep hash_of old (call.Expire now) (reply.Expire (Ok (Some c))) new
NodeAnswers hash_of now old question.Expire answer.Nothing new = NodeStep hash_of old (call.Expire now) (reply.Expire (Ok None)) new
NodeAnswers hash_of now old question.Members (answer.Members text) new = NodeStep hash_of old call.DigestText (reply.DigestText (Ok text)) new
NodeAnswers hash_of now old question.Digest (answer.Digest digest) new = NodeStep hash_of old call.Digest (reply.Digest (Ok digest)) new
NodeAnswers hash_of now old (question.Owners count key) (answer.Owners owners) new = NodeStep hash_of old (call.Owners key.now count) (reply.Owners (Ok owners)) new
-- no other answer is given
NodeAnswers hash_of now old question other new = ⊥

-- one of the nodes has no memory for what it is asked at a moment, and is this then: one call of it
abbrev pub NodeLacks : {H : Type 0} → (H → List ℕ → ℕ) → ℕ → Node H → Question → Node H → Type 0
NodeLacks hash_of now old question.Leave new = NodeStep hash_of old call.Leave (reply.Leave (Err refused.Memory)) new
NodeLacks hash_of now old question.Rejoin new = NodeStep hash_of old call.Rejoin (reply.Rejoin (Err refused.Memory)) new
NodeLacks hash_of now old question.Expire new = NodeStep hash_of old (call.Expire now) (reply.Expire (Err refused.Memory)) new
NodeLacks hash_of now old question.Members new = NodeStep hash_of old call.DigestText (reply.DigestText (Err refused.Memory)) new
NodeLacks hash_of now old question.Digest new = NodeStep hash_of old call.Digest (reply.Digest (Err refused.Memory)) new
NodeLacks hash_of now old (question.Owners count key) new = NodeStep hash_of old (call.Owners key.now count) (reply.Owners (Err refused.Memory)) new
-- a batch that stops out of memory has an answer
NodeLacks hash_of now old (question.Take c) new = ⊥

-- the node of this address changes so that P holds of it before and after
abbrev pub GoesOn : {H : Type 0} → List (Node H) → ℕ → (Node H → Node H → Type 0) → List (Node H) → Type 0
GoesOn {H} old a P new = (before after : Node H) × (node_at old a ≡ Some before) × P before after × (new ≡ with_node old a after)

-- the node makes this ping of the target
abbrev pub Pings : {H : Type 0} → (H → List ℕ → ℕ) → ℕ → Message → Node H → Node H → Type 0
Pings hash_of target message before after = NodeStep hash_of before (call.PingTo target) (reply.PingTo (Ok message)) after

-- the node receives this message at a moment, with this result
abbrev pub Receives : {H : Type 0} → (H → List ℕ → ℕ) → ℕ → Message → Received → Node H → Node H → Type 0
Receives hash_of now message result before after = NodeStep hash_of before (call.Receive message now) (reply.Receive result) after

-- the message of this number arrives at its node, with this result
abbrev pub Comes : {H : Type 0} → (H → List ℕ → ℕ) → Simulated H → ℕ → Sent → Received → List (Node H) → Type 0
Comes hash_of s n sent result nodes =
    (message_of s.messages n ≡ Some sent) × GoesOn s.nodes sent.to (Receives hash_of s.moment sent.message result) nodes

-- the messages with another one, to this address
abbrev pub with_message : List Sent → ℕ → Message → List Sent
with_message messages to message = messages ++ record { to = to; message = message } ∷ []

-- the answer to a command, and the script after it
abbrev pub Obeys : {H : Type 0} → (H → List ℕ → ℕ) → Simulated H → Command → Answer → Simulated H → Type 0
Obeys hash_of old (Makes birth) answer.Done new =
    (node_at old.nodes birth.address ≡ None) × (length old.nodes < most_nodes) × (new ≡ record old { nodes = old.nodes ++ created_in old birth ∷ [] })
Obeys hash_of old (At moment) answer.Done new = new ≡ record old { moment = moment }
Obeys {H} hash_of old (Ask a question) answer new =
    (nodes : List (Node H)) × GoesOn old.nodes a (λ before after. NodeAnswers hash_of old.moment before question answer after) nodes × (new ≡ record old { nodes = nodes })
Obeys {H} hash_of old (Send a target) (answer.Message number) new =
    (nodes : List (Node H)) × (message : Message) × GoesOn old.nodes a (Pings hash_of target message) nodes × (length old.messages < most_messages)
    × (number ≡ length old.messages + 1) × (new ≡ record old { nodes = nodes; messages = with_message old.messages target message })
Obeys hash_of old (Deliver n) answer.Lost new = (sent : Sent) × (message_of old.messages n ≡ Some sent) × (node_at old.nodes sent.to ≡ None) × (new ≡ old)
Obeys {H} hash_of old (Deliver n) (answer.Taken taken) new =
    (sent : Sent) × (nodes : List (Node H)) × Comes hash_of old n sent (received.Done taken) nodes × (new ≡ record old { nodes = nodes })
Obeys {H} hash_of old (Deliver n) (answer.Answered taken number) new =
    (sent : Sent) × (nodes : List (Node H)) × (message : Message) × Comes hash_of old n sent (received.Answer taken message) nodes
    × (length old.messages < most_messages) × (number ≡ length old.messages + 1)
    × (new ≡ record old { nodes = nodes; messages = with_message old.messages sent.message.source message })
Obeys {H} hash_of old (Deliver n) (answer.Stopped stopped) new =
    (sent : Sent) × (nodes : List (Node H)) × Comes hash_of old n sent (received.Stopped stopped) nodes × (new ≡ record old { nodes = nodes })
-- a message that is not of the membership; a script makes none
Obeys {H} hash_of old (Deliver n) answer.Nothing new =
    (sent : Sent) × (nodes : List (Node H)) × Comes hash_of old n sent received.NotGossip nodes × (new ≡ record old { nodes = nodes })
Obeys {H} hash_of old (Restart birth) answer.Done new =
    (nodes : List (Node H)) × GoesOn old.nodes birth.address (λ before after. ((own_change before).incarnation < birth.incarnation) × (after ≡ created_in old birth)) nodes
    × (new ≡ record old { nodes = nodes })
-- no other answer is given
Obeys hash_of old command other new = ⊥

-- the message of this number is processed, and out of memory for the answer to it, or for keeping that
abbrev pub IsUnanswered : {H : Type 0} → (H → List ℕ → ℕ) → Simulated H → ℕ → Type 0
IsUnanswered {H} hash_of s n =
    (sent : Sent) × (nodes : List (Node H)) × (taken : Taken)
    × (Comes hash_of s n sent (received.NoAnswer taken) nodes ⊎ ((message : Message) × Comes hash_of s n sent (received.Answer taken message) nodes × (length s.messages < most_messages)))

-- an error of a command; out of memory in a call of a node, or for another node or message, if there is no other error
abbrev pub IsRefusedFor : {H : Type 0} → (H → List ℕ → ℕ) → Simulated H → Command → ScriptError → Type 0
IsRefusedFor hash_of s (Makes birth) fault.OutOfMemory = (node_at s.nodes birth.address ≡ None) × (length s.nodes < most_nodes)
IsRefusedFor {H} hash_of s (Ask a question) fault.OutOfMemory = (nodes : List (Node H)) × GoesOn s.nodes a (λ before after. NodeLacks hash_of s.moment before question after) nodes
IsRefusedFor hash_of s (Send a target) fault.OutOfMemory = (node_at s.nodes a ≢ None) × (length s.messages < most_messages)
IsRefusedFor hash_of s (Deliver n) fault.OutOfMemory = IsUnanswered hash_of s n
IsRefusedFor {H} hash_of s (Restart birth) fault.OutOfMemory =
    (before : Node H) × (node_at s.nodes birth.address ≡ Some before) × ((own_change before).incarnation < birth.incarnation)
IsRefusedFor hash_of s (Makes birth) fault.NodeExists = node_at s.nodes birth.address ≢ None
IsRefusedFor hash_of s (Makes birth) fault.TooManyNodes = (node_at s.nodes birth.address ≡ None) × (most_nodes ≤ length s.nodes)
IsRefusedFor hash_of s (Ask a question) fault.UnknownNode = node_at s.nodes a ≡ None
IsRefusedFor hash_of s (Send a target) fault.UnknownNode = node_at s.nodes a ≡ None
IsRefusedFor hash_of s (Send a target) fault.TooManyMessages = (node_at s.nodes a ≢ None) × (most_messages ≤ length s.messages)
IsRefusedFor hash_of s (Deliver n) fault.UnknownMessage = message_of s.messages n ≡ None
IsRefusedFor {H} hash_of s (Deliver n) fault.TooManyMessages =
    (sent : Sent) × (nodes : List (Node H)) × (taken : Taken) × (message : Message) × Comes hash_of s n sent (received.Answer taken message) nodes × (most_messages ≤ length s.messages)
IsRefusedFor hash_of s (Restart birth) fault.UnknownNode = node_at s.nodes birth.address ≡ None
IsRefusedFor {H} hash_of s (Restart birth) fault.IncarnationNotGreater =
    (before : Node H) × (node_at s.nodes birth.address ≡ Some before) × (birth.incarnation ≤ (own_change before).incarnation)
IsRefusedFor hash_of s command other = ⊥
