-- A run of a script, command by command, the log that it leaves of each node, and what nodes with the same changes are answered.
use Rattle.std.specs.Prelude.{◌≡◌, ◌==◌, ◌≤◌, ℕ, cond, Option, Some, None, Ok, Err, List, [], ◌∷◌, ◌++◌, length, map}
use Rattle.change_core.specs.declared.changes.Change.{Change}
use Rattle.change_core.specs.Members.{HaveSameChanges}
use Rattle.node_core.specs.declared.events.Event.TheVariants as call
use Rattle.node_core.specs.declared.events.Received.TheVariants as received
use Rattle.node_core.specs.declared.events.Reply.TheVariants as reply
use Rattle.node_core.specs.Node.{birth}
use Rattle.node_core.specs.Run.{log_step}
use Rattle.wire_json.specs.Lines.{max_line}
use Rattle.cli_core.specs.declared.scripts.answers.Answer.{Answer}
use Rattle.cli_core.specs.declared.scripts.answers.Answer.TheVariants as answer
use Rattle.cli_core.specs.declared.scripts.lines.Command.{Command}
use Rattle.cli_core.specs.declared.scripts.lines.Command.TheVariants.{Node as Makes, Ask, Deliver, Restart}
use Rattle.cli_core.specs.declared.scripts.lines.Question.{Question}
use Rattle.cli_core.specs.declared.scripts.lines.Question.TheVariants as question
use Rattle.cli_core.specs.declared.scripts.messages.Sent.{Sent}
use Rattle.cli_core.specs.Input.{lines_of}
use Rattle.cli_core.specs.ScriptAnswers.{answer_text}
use Rattle.cli_core.specs.ScriptLines.{IsCommand}
use Rattle.cli_core.specs.ScriptRuns.{IsAnswered}
use Rattle.cli_core.specs.Simulated.{Simulated, Obeys, beginning, message_of, of_itself}

-- one line of a script, the command that it is, its answer, and the script after it
pub record Played (H : Type 0) : Type 0 where
  pub line : List ℕ
  pub command : Command
  pub answer : Answer
  pub after : Simulated H

-- these lines are played one after another
abbrev pub IsPlay : {H : Type 0} → (H → List ℕ → ℕ) → Simulated H → List (Played H) → Type 0
IsPlay hash_of old [] = Unit {0}
IsPlay hash_of old (p ∷ ps) = (length p.line ≤ max_line) × IsCommand p.command p.line × Obeys hash_of old p.command p.answer p.after × IsPlay hash_of p.after ps

-- the lines of the output
abbrev pub output_of : {H : Type 0} → List (Played H) → List ℕ
output_of [] = []
output_of (p ∷ ps) = (answer_text p.answer ++ 10 ∷ []) ++ output_of ps

-- a run whose lines are all answered is such a play, by its bytes
abbrev pub RunsArePlays : {H : Type 0} → (H → List ℕ → ℕ) → Type 0
RunsArePlays {H} hash_of =
    (start : Simulated H) (input output : List ℕ) → IsAnswered hash_of start input output
    → (plays : List (Played H)) × IsPlay hash_of start plays × (map (λ (p : Played H). p.line) plays ≡ lines_of input) × (output ≡ output_of plays)

-- what a node's log is after it was asked this at a moment, and answered so: a change that it took, or one that it said
abbrev pub log_asked : ℕ → ℕ → Question → Answer → List Change → List Change
log_asked a now (question.Take c) (answer.Taken taken) log = log_step a log (call.Take (of_itself c ∷ []) now) (reply.Take (Ok taken))
log_asked a now (question.Take c) (answer.Stopped stopped) log = log_step a log (call.Take (of_itself c ∷ []) now) (reply.Take (Err stopped))
log_asked a now question.Leave (answer.Said c) log = log_step a log call.Leave (reply.Leave (Ok c))
log_asked a now question.Rejoin (answer.Said c) log = log_step a log call.Rejoin (reply.Rejoin (Ok c))
log_asked a now question.Expire (answer.Said c) log = log_step a log (call.Expire now) (reply.Expire (Ok (Some c)))
log_asked a now question other log = log

-- what it is after it received a message, and answered so: the changes of the message that it took
abbrev pub log_delivered : ℕ → ℕ → Sent → Answer → List Change → List Change
log_delivered a now sent (answer.Taken taken) log = log_step a log (call.Receive sent.message now) (reply.Receive (received.Done taken))
log_delivered a now sent (answer.Answered taken number) log = log_step a log (call.Receive sent.message now) (reply.Receive (received.Done taken))
log_delivered a now sent (answer.Stopped stopped) log = log_step a log (call.Receive sent.message now) (reply.Receive (received.Stopped stopped))
log_delivered a now sent other log = log

-- the same of the message of a number, if there is one and it is for this node
abbrev pub log_delivered_to : ℕ → ℕ → Option Sent → Answer → List Change → List Change
log_delivered_to a now None ans log = log
log_delivered_to a now (Some sent) ans log = cond (a == sent.to) (log_delivered a now sent ans log) log

-- what the log of the node at an address is after a command and its answer; a node that is made begins a new one
abbrev pub log_after : {H : Type 0} → ℕ → Simulated H → Command → Answer → List Change → List Change
log_after a s (Makes b) ans log = cond (a == b.address) (birth b.address b.incarnation b.weight ∷ []) log
log_after a s (Restart b) ans log = cond (a == b.address) (birth b.address b.incarnation b.weight ∷ []) log
log_after a s (Ask b q) ans log = cond (a == b) (log_asked a s.moment q ans log) log
log_after a s (Deliver n) ans log = log_delivered_to a s.moment (message_of s.messages n) ans log
log_after a s other ans log = log

-- the log of the node at an address after these lines
abbrev pub log_at : {H : Type 0} → ℕ → Simulated H → List Change → List (Played H) → List Change
log_at a old log [] = log
log_at a old log (p ∷ ps) = log_at a p.after (log_after a old p.command p.answer log) ps

-- a question about the members of a node, their digest, or the owners of a key
abbrev pub IsLook : Question → Type 0
IsLook question.Members = Unit {0}
IsLook question.Digest = Unit {0}
IsLook (question.Owners count key) = Unit {0}
IsLook other = ⊥

-- in a script, two nodes are answered alike where, by the lines above each question, their logs hold the same changes
abbrev pub ScriptsAgree : {H : Type 0} → (H → List ℕ → ℕ) → Type 0
ScriptsAgree {H} hash_of =
    (hash : H) (replicas : ℕ) (first between rest : List (Played H)) (p q : Played H) (a b : ℕ) (asked : Question)
    → IsPlay hash_of (beginning hash replicas) (first ++ p ∷ (between ++ q ∷ rest))
    → p.command ≡ Ask a asked → q.command ≡ Ask b asked → IsLook asked
    → HaveSameChanges (log_at a (beginning hash replicas) [] first) (log_at b (beginning hash replicas) [] (first ++ p ∷ between))
    → answer_text p.answer ≡ answer_text q.answer
