-- What a message comes to whose changes were taken, by what became of its answer.
use Rattle.std.proofs.Common.{◌≡◌, ℕ, true, Result, Ok, Err, sym, subst}
use Rattle.message_core.specs.declared.messages.Message.{Message}
use Rattle.node_core.specs.declared.errors.NodeError.{NodeError}
use Rattle.node_core.specs.declared.errors.NodeError.TheVariants as error
use Rattle.node_core.specs.declared.events.Taken.{Taken}
use Rattle.node_core.specs.Messages.{carried}
use Rattle.node_core.specs.Node.{Node}
use Rattle.node_core.specs.Receiving.{AnswerStep, MakeStep, ReceiveStep, as_answered, is_answered}
use Rattle.node_core.specs.Taking.{TakeStep}

module _ {H : Type 0} (old : Node H) (message : Message) (moment : ℕ) where
  -- one that wants an answer, which was made or found no memory
  pub receive-answered : (taken : Taken) (answer : Result Message NodeError) (mid after new : Node H) (wanted : Message) → is_answered message.content ≡ true
      → TakeStep old (carried message.content) moment (Ok taken) mid → MakeStep mid wanted after answer new → ((made : Message) → made ≡ wanted → AnswerStep mid message.source message.content made after)
      → ReceiveStep old message moment (as_answered taken answer) new
  receive-answered taken (Ok made) mid after new wanted answered step made_is fits =
      (mid, step, subst (λ (n : Node H). AnswerStep mid message.source message.content made n) (sym made_is.1) (fits made made_is.0))
  receive-answered taken (Err error.Memory) mid after new wanted answered step same fits =
      (answered, subst (λ (n : Node H). TakeStep old (carried message.content) moment (Ok taken) n) (sym same) step)
  receive-answered taken (Err other) mid after new wanted answered step none fits = elim none [ ]
