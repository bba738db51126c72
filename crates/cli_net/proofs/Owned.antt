-- What an owner that was found comes to.
use Rattle.std.specs.Prelude.{ℕ, List, Option, Result, Ok, Err, IfErr}
use Rattle.std.proofs.KnownBytes.{Keeps-refl}
use Rattle.change_core.specs.declared.addresses.Address.{Address}
use Rattle.peer_core.specs.Links.{MayAnswer}
use Rattle.cli_net.specs.Asking.{IsUnasked, LeavesReply, request}
use Rattle.cli_net.specs.Owning.{IsOwner, IsUnanswered}
use Rattle.cli_net.specs.declared.faults.AskError.{AskError}
use Rattle.cli_net.specs.declared.faults.AskError.TheVariants as fault

-- the owner did not reply
pub unsaid_by : {A : Type 0} (May : MayAnswer) (host : Address) (hash : List ℕ → ℕ) (replicas : ℕ) (key body : List ℕ) (to : Address)
    → IsOwner May host hash replicas key to → (r : Result A AskError) → IfErr r (IsUnasked May to (request key body))
    → IfErr r (IsUnanswered May host hash replicas key body)
unsaid_by May host hash replicas key body to o (Ok a) h = tt
unsaid_by May host hash replicas key body to o (Err e) h = IsUnanswered.unsaid to o h

module _ (May : MayAnswer) (host : Address) (hash : List ℕ → ℕ) (replicas : ℕ) (key body : List ℕ) where
  not_written : IsUnanswered May host hash replicas key body fault.CannotWrite → ⊥
  not_written (IsUnanswered.unfound n) = n
  not_written (IsUnanswered.unsaid to o n) = n

  -- where no owner replied nothing is written
  pub left_by : (Came : List ℕ → Type 0) (e : AskError) (old : Option (List ℕ)) → IsUnanswered May host hash replicas key body e
      → LeavesReply Came (IsUnanswered May host hash replicas key body) e old old
  left_by Came fault.NoAnswer old u = (u, Keeps-refl old)
  left_by Came fault.NotOwner old u = (u, Keeps-refl old)
  left_by Came (fault.Refused reason) old u = (u, Keeps-refl old)
  left_by Came fault.Unexpected old u = (u, Keeps-refl old)
  left_by Came fault.CannotWrite old u = absurd (not_written u)
  left_by Came fault.OutOfMemory old u = (u, Keeps-refl old)
