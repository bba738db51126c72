-- What a link and a handler note: which node answered last, and whether the application was asked.
use Rattle.std.specs.Prelude.{◌≡◌, ◌+◌, ℕ, min, Bool, true, Option, Some, None, Result, Ok, Err}
use Rattle.change_core.specs.declared.addresses.Address.{Address}
use Rattle.message_core.specs.declared.messages.Content.{Content}
use Rattle.message_core.specs.declared.messages.Content.TheVariants.{NotOwner}
use Rattle.message_core.specs.declared.messages.Message.{Message}
use Rattle.peer_core.specs.Handling.{Handled}
use Rattle.peer_core.specs.Links.{Went}
use Rattle.peer_core.specs.declared.errors.LinkError.{LinkError}
use Rattle.agent_node.specs.declared.links.NotedHandler.{NotedHandler}

-- the node that gave an answer, if there is one
abbrev pub source_of : Result Message LinkError → Option Address
source_of (Ok message) = Some message.source
source_of (Err error) = None

-- how many requests in a row were answered by a NotOwner, after this number of them and one that was answered by this content
abbrev pub disowned_by : ℕ → Content → ℕ
disowned_by disowned NotOwner = min (disowned + 1) 4294967295
disowned_by disowned other = 0

-- the same after one with this answer, if it has one
abbrev pub disowned_with : ℕ → Result Message LinkError → ℕ
disowned_with disowned (Ok message) = disowned_by disowned message.content
disowned_with disowned (Err error) = 0

-- a call of a link notes the node that gave its answer
abbrev pub notes_source : Went (Option Address)
notes_source to message answer old new = new ≡ source_of answer

-- a call of the application is noted
abbrev pub notes_call : Handled Bool
notes_call keys body answer was is = is ≡ true

-- the handler that one which notes its calls has
abbrev pub handler_of : {A : Type 0} → NotedHandler A → A
handler_of noted = noted.handler

-- one call of a handler that notes its calls, by one of the other that it has
abbrev pub notes_handling : {A : Type 0} → Handled A → Handled (NotedHandler A)
notes_handling handled keys body answer was is = notes_call keys body answer was.was_asked is.was_asked × handled keys body answer (handler_of was) (handler_of is)
