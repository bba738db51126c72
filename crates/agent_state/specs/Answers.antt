-- How the answer to a request of a key is counted.
use Rattle.std.specs.Prelude.{ℕ, Bool, false, is_none, Result, Ok, Err}
use Rattle.agent_core.specs.Packs.{unpacked}
use Rattle.agent_core.specs.Refusals.{sent, status_of}
use Rattle.agent_core.specs.declared.refusals.Refusal.{Refusal}
use Rattle.agent_http.specs.Replies.{reply_status}
use Rattle.agent_http.specs.declared.replies.Reply.{Reply}
use Rattle.agent_http.specs.declared.replies.Reply.TheVariants.{Handled}

-- whether a service gave a reply: it is an answer of a key's owner, and no refusal that the owner's agent sent in its place
abbrev pub is_of_service : Reply → Bool
is_of_service (Handled owner text) = is_none (sent (unpacked text).status (unpacked text).body)
is_of_service other = false

-- the status of an answer, and whether a service gave it
abbrev pub told : Result Reply Refusal → ℕ × Bool
told (Ok reply) = (reply_status reply, is_of_service reply)
told (Err refusal) = (status_of refusal, false)
