-- A line that stands in a buffer, once it is known to be that of a message.
use Rattle.std.proofs.Common.{◌≡◌, ◌≢◌, ◌∙◌, ℕ, ◌≤◌, List, length, subst}
use Rattle.std.specs.Prelude.{All}
use Rattle.message_core.specs.declared.messages.Message.{Message}
use Rattle.wire_json.specs.Lines.{IsLine, max_line}
use Rattle.wire_json.specs.Messages.{MessageForm}
use Rattle.ringpop_c.specs.Lines.{Buffer, Fills, Sends, line_of}

-- what is known of the line is known of the message's
pub sent : (message : Message) (line bytes : List ℕ) (buffer : Buffer) → line ≡ line_of message → IsLine (λ v. MessageForm v message) line
    → All (λ x. x ≢ 10) line → bytes ≡ line → Fills bytes buffer → Sends message buffer
sent message line bytes buffer is reads one same fills =
    let (v, kept, form) = reads in
    record {
      fills = subst (λ (l : List ℕ). Fills l buffer) (same ∙ is) fills;
      is_read = subst (λ (l : List ℕ). IsLine (λ v. MessageForm v message) l) is reads;
      within = subst (λ (l : List ℕ). length l ≤ max_line) is kept.within;
      one_line = subst (λ (l : List ℕ). All (λ x. x ≢ 10) l) is one;
    }
