-- What is answered to a line, and what is sent for an answer.
use Rattle.std.proofs.Common.{◌≢◌, ℕ, List, Option, Some, None, Result, Ok, Err, Vec}
use Rattle.std.specs.Prelude.{IfNone, IfSome}
use Rattle.std.specs.Global.{Global}
use Rattle.turn_lock.specs.declared.errors.LockError.{LockError}
use Rattle.wire_json.specs.Lines.{Faults}
use Rattle.wire_json.specs.MessageFaults.{MessageFault}
use Rattle.message_core.specs.declared.errors.WireError.{WireError}
use Rattle.message_core.specs.declared.errors.WireError.TheVariants.{LineTooLong, BadJson, NotObject, UnknownKind, MissingField, BadField, TooMany, Io, Memory}
use Rattle.message_core.specs.declared.kinds.Reason.{Reason}
use Rattle.message_core.specs.declared.messages.Message.{Message}
use Rattle.locked_node.specs.declared.node.LockedNode.{LockedNode}
use Rattle.locked_node.specs.Passes.{NodePass}
use Rattle.peer_core.specs.Acts.{Makes}
use Rattle.peer_core.specs.Errors.{error_of_lock}
use Rattle.peer_core.specs.Links.{MayAnswer}
use Rattle.peer_core.specs.Parts.{Does, Gives, let_in}
use Rattle.peer_core.specs.Serving.{Refuses, Unhandled}
use Rattle.peer_core.proofs.Acts.{makes_as, makes_then}
use Rattle.peer_core.proofs.Parts.{does_give, does_next, does_part, does_stop}
use Rattle.peer_core.specs.Handling.{Handlings}
use Rattle.line_service.specs.Answering.{AnswersInput, AnswersMessage, IsNotAnswered, IsSentAs, IsSilent, IsTried, IsUnread, IsUnsent, Responds, SendsNothing, unread_as}
use Rattle.line_service.specs.declared.inputs.Input.{Input}
use Rattle.line_service.specs.declared.inputs.Input.TheVariants as input

-- what holds without an answer
pub if_none : {A : Type 0} (P : Type 0) (o : Option A) → P → IfNone o P
if_none P (Some a) h = tt
if_none P None h = h

unread_other : (line : List ℕ) (e : WireError) → e ≢ Memory → (e ≢ Memory → Faults MessageFault line e) → (f : WireError) × (f ≢ Memory) × Faults MessageFault line f
unread_other line e other h = (e, other, h other)

-- a fault of decoding is why the line is not read
pub unread_by : (line : List ℕ) (e : WireError) → (e ≢ Memory → Faults MessageFault line e) → IsUnread line (unread_as e)
unread_by line LineTooLong h = unread_other line LineTooLong (λ q. cc) h
unread_by line BadJson h = unread_other line BadJson (λ q. cc) h
unread_by line NotObject h = unread_other line NotObject (λ q. cc) h
unread_by line UnknownKind h = unread_other line UnknownKind (λ q. cc) h
unread_by line (MissingField f) h = unread_other line (MissingField f) (λ q. cc) h
unread_by line (BadField f) h = unread_other line (BadField f) (λ q. cc) h
unread_by line TooMany h = unread_other line TooMany (λ q. cc) h
unread_by line Io h = unread_other line Io (λ q. cc) h
unread_by line Memory h = tt

module _ {H : Type 0} where
  -- or neither is
  sends_nothing : (locked : LockedNode H) (answer : Message) (why : Reason) (r : Result Message LockError) (p q : NodePass H)
      → IsUnsent answer why → Does locked (Refuses why) (let_in r) p q → IsTried (SendsNothing answer) locked p q
  sends_nothing locked answer why (Ok refusal) p q unsent d = (
    Ok tt,
    does_part (SendsNothing answer) (λ acts h. (why, unsent, h))
        (does_next (Refuses why) (λ (m : Message). Gives tt) refusal (Ok tt) d (does_give locked q tt)),
  )
  sends_nothing locked answer why (Err l) p q unsent d = (
    Err l,
    does_part (SendsNothing answer) (λ acts h. (why, unsent, h))
        (does_stop (Refuses why) (λ (m : Message). Gives tt) (error_of_lock l) d),
  )

  pub unsent_refusal : (locked : LockedNode H) (answer : Message) (why : Reason) (o : Option (Vec ℕ Global)) (p q : NodePass H)
      → IsUnsent answer why → IfNone o (IsTried (Refuses why) locked p q) → IfNone o (IsTried (SendsNothing answer) locked p q)
  unsent_refusal locked answer why (Some v) p q unsent t = tt
  unsent_refusal locked answer why None p q unsent t = sends_nothing locked answer why t.0 p q unsent t.1

module _ {H : Type 0} (hash_of : H → List ℕ → ℕ) (Came : MayAnswer) (Handles : Handlings) (now : ℕ) (locked : LockedNode H) (p q : NodePass H) where
  -- an answer, and what was sent for it
  pub responded : (heard : Input) (answer : Message) (o : Option (Vec ℕ Global)) (s : NodePass H)
      → Makes locked (AnswersInput hash_of Came Handles now heard (Ok answer)) p q → IfSome o (λ v. Makes locked (IsSentAs answer v.items) q s)
      → IfSome o (λ v. Makes locked (Responds hash_of Came Handles now heard v.items) p s)
  responded heard answer (Some v) s a m = makes_as (Responds hash_of Came Handles now heard v.items) (λ acts t. (answer, t)) (makes_then a m)
  responded heard answer None s a m = tt

  -- no answer, and so no line
  pub silent_unanswered : (heard : Input) → IsNotAnswered hash_of Came Handles now heard locked p q → IsSilent hash_of Came Handles now heard locked p q
  silent_unanswered (input.Message message) h = (Err h.0, does_stop (AnswersMessage hash_of Came Handles now message) SendsNothing (error_of_lock h.0) h.1)
  silent_unanswered (input.Refused why) h = (Err h.0, does_stop (Unhandled Handles (Refuses why)) SendsNothing (error_of_lock h.0) h.1)
  silent_unanswered input.Nothing h = h

  -- an answer, and no line of it
  pub silent_unsent : (heard : Input) (answer : Message) (o : Option (Vec ℕ Global)) (s : NodePass H)
      → Makes locked (AnswersInput hash_of Came Handles now heard (Ok answer)) p q → IfNone o (IsTried (SendsNothing answer) locked q s)
      → IfNone o (IsSilent hash_of Came Handles now heard locked p s)
  silent_unsent heard answer (Some v) s a t = tt
  silent_unsent (input.Message message) answer None s a t =
      (t.0, does_next (AnswersMessage hash_of Came Handles now message) SendsNothing answer (let_in t.0) (record { makes = a; barred = tt }) t.1)
  silent_unsent (input.Refused why) answer None s a t = (t.0, does_next (Unhandled Handles (Refuses why)) SendsNothing answer (let_in t.0) (record { makes = a; barred = tt }) t.1)
  silent_unsent input.Nothing answer None s a t = absurd a.so
