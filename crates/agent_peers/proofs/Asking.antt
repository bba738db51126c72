-- Whether the application is asked, and which node answers.
use Rattle.std.proofs.Common.{◌≡◌, ◌∙◌, ℕ, Bool, false, sym, ap, subst, inl, inr, Some, None, Option, Result, Ok, Err, List, [], ◌++◌, append-nil}
use Rattle.std.specs.Prelude.{IfNone, IfSome, Vec}
use Rattle.std.specs.Global.{Global}
use Rattle.hash_ring.specs.declared.hash.Sha256Hash.{Sha256Hash}
use Rattle.locked_node.specs.Passes.{NodePass}
use Rattle.message_core.specs.declared.messages.Message.{Message}
use Rattle.peer_core.specs.Acts.{Act, Makes, Nothing}
use Rattle.peer_core.specs.Handling.{Handled, Handlings}
use Rattle.peer_core.specs.Links.{any_answer}
use Rattle.peer_core.specs.Parts.{let_in}
use Rattle.peer_core.specs.declared.errors.ClusterError.{ClusterError}
use Rattle.peer_core.specs.declared.errors.HandlerFault.{HandlerFault}
use Rattle.peer_core.proofs.Acts.{makes_as, makes_none}
use Rattle.peer_core.proofs.Served.{serves_as}
use Rattle.line_service.specs.Answering.{AnswersInput, IsSilent, Responds, StaysSilent}
use Rattle.line_service.specs.declared.inputs.Input.{Input}
use Rattle.line_service.specs.declared.inputs.Input.TheVariants as input
use Rattle.agent_peers.specs.Serving.{AsksFor, IsAnsweredHere, RespondsAsking, asks}
use Rattle.agent_node.specs.Noting.{handler_of, notes_handling}
use Rattle.hash_ring.specs.Points.{hash_of}
use Rattle.agent_node.specs.Calling.{Calling, HasMade}
use Rattle.agent_node.specs.declared.links.NotedHandler.{NotedHandler}

-- what was asked of one that was not called before: it was called once if it notes that, and else never
module _ {A : Type 0} (handled : Handled A) (was is : NotedHandler A) (unasked : was.was_asked ≡ false) where
  abbrev pub asks_noted : Bool → Handlings
  asks_noted asked = asks handled asked (handler_of was) (handler_of is)

  pub noted_once : (keys : List (List ℕ)) (body : List ℕ) (answer : Result (List ℕ) HandlerFault) → notes_handling handled keys body answer was is
      → (asks_noted is.was_asked).once keys body answer
  noted_once keys body answer (asked, one) = subst (λ (b : Bool). (asks_noted b).once keys body answer) (sym asked) one

  pub noted_never : is ≡ was → (asks_noted is.was_asked).never
  noted_never same =
      subst (λ (b : Bool). (asks_noted b).never) (sym (ap (λ (h : NotedHandler A). h.was_asked) same ∙ unasked)) (ap (λ (h : NotedHandler A). handler_of h) same)

-- what a line says of one handling of a request it says of another that follows from it
module _ (Old New : Handlings) (once : (keys : List (List ℕ)) (body : List ℕ) (answer : Result (List ℕ) HandlerFault) → Old.once keys body answer → New.once keys body answer)
    (never : Old.never → New.never) (now : ℕ) where
  answered : (heard : Input) (r : Result Message ClusterError) (acts : List (Act Sha256Hash)) → AnswersInput hash_of any_answer Old now heard r acts
      → AnswersInput hash_of any_answer New now heard r acts
  answered (input.Message message) r acts h = serves_as hash_of Old New once never any_answer message now message.content r acts h
  answered (input.Refused why) r acts (none, h) = (never none, h)
  answered input.Nothing r acts h = h

  by_input : (heard : Input) (r : Result Message ClusterError) (acts first rest : List (Act Sha256Hash)) → acts ≡ first ++ rest
      → AnswersInput hash_of any_answer Old now heard r first → AsksFor New heard acts
  by_input (input.Message message) r acts first rest e h = (first, rest, e, (now, r, answered (input.Message message) r first h), tt)
  by_input (input.Refused why) r acts first rest e h = never h.0
  by_input input.Nothing r acts first rest e h = absurd h

  responded : (heard : Input) (line : List ℕ) (acts : List (Act Sha256Hash)) → Responds hash_of any_answer Old now heard line acts → AsksFor New heard acts
  responded heard line acts (answer, (first, rest, e, h, sent)) = by_input heard (Ok answer) acts first rest e h

  responded_so : (heard : Input) (line : List ℕ) (acts : List (Act Sha256Hash)) → Responds hash_of any_answer Old now heard line acts → RespondsAsking New heard line acts
  responded_so heard line acts (answer, (first, rest, e, h, sent)) = (now, (answer, (first, rest, e, answered heard (Ok answer) first h, sent)))

  stayed : (heard : Input) (r : Result (Unit {0}) ClusterError) (acts : List (Act Sha256Hash)) → StaysSilent hash_of any_answer Old now heard r acts → AsksFor New heard acts
  stayed heard (Ok x) acts (inl h) = absurd h
  stayed heard (Err e) acts (inl h) = by_input heard (Err e) acts acts [] (sym (append-nil acts)) h
  stayed heard r acts (inr (answer, (first, rest, e, h, sent))) = by_input heard (Ok answer) acts first rest e h

  silent : (heard : Input) (a b : Calling) → b.node ≡ a.node → IsSilent hash_of any_answer Old now heard a.node a.pass b.pass → HasMade (AsksFor New heard) a b
  silent input.Nothing a b same (none, still) = record {
    node = same;
    makes = makes_as (AsksFor New input.Nothing) (λ acts no. never none)
        (subst (λ (pass : NodePass Sha256Hash). Makes a.node Nothing a.pass pass) (sym still) (makes_none a.node a.pass));
  }
  silent (input.Message message) a b same (r, does) =
      record { node = same; makes = makes_as (AsksFor New (input.Message message)) (stayed (input.Message message) (let_in r)) does.makes }
  silent (input.Refused why) a b same (r, does) =
      record { node = same; makes = makes_as (AsksFor New (input.Refused why)) (stayed (input.Refused why) (let_in r)) does.makes }

  -- what is asked for an input, and the line that goes back
  pub answered_here : (heard : Input) (line : Option (Vec ℕ Global)) (a b : Calling) → b.node ≡ a.node
      → IfSome line (λ it. Makes a.node (Responds hash_of any_answer Old now heard it.items) a.pass b.pass)
      → IfNone line (IsSilent hash_of any_answer Old now heard a.node a.pass b.pass) → IsAnsweredHere New heard line a b
  answered_here heard (Some line) a b same sent none = (
    record { node = same; makes = makes_as (AsksFor New heard) (responded heard line.items) sent },
    record { node = same; makes = makes_as (RespondsAsking New heard line.items) (responded_so heard line.items) sent },
  )
  answered_here heard None a b same sent none = (silent heard a b same none, tt)
