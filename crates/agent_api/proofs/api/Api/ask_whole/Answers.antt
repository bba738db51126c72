use Rattle.std.proofs.Common.{Bool, true, inl, refl, true≢false}
use denote.Ref.{Bor}
use Rattle.peer_core.specs.Handling.{Handled, handled_shared}
use Rattle.agent_node.specs.Noting.{notes_source, notes_handling}
use Rattle.agent_application.specs.Applications.{AnyHandling}
use Rattle.agent_api.specs.Onces.{Noted, noted_as_repeatable}
use Rattle.agent_application.specs.declared.applications.Application.{Application}
use Rattle.agent_node.specs.declared.links.NotedHandler.{NotedHandler}
use Rattle.agent_node.specs.declared.links.NotedLink.{NotedLink}
use Rattle.agent_api.proofs.Requested.{made_requested, makes_noted}
use Rattle.agent_api.proofs.api.Api.ask_whole.Goals as goal

pub returns-clause-requested : goal.returns-clause-requested
returns-clause-requested g c =
    let asked_of : NotedHandler (Bor (Application g.row.R.Denot)) → Bool = λ h. h.was_asked in
    let handled : Handled (Bor (Application g.row.R.Denot)) = handled_shared (λ h. AnyHandling) in
    let noted_of : NotedLink g.row.R.Denot → Noted = λ l. noted_as_repeatable l in
    let old = c.args.self.now.caller.now in
    let new = c.request-answer.new.self in (
      asked_of c.request-answer.new.handler,
      noted_of c.request-answer.new.link,
      c.answerer-owner.ensures,
      made_requested c.args.keys c.args.request c.request-answer.result true (asked_of c.request-answer.new.handler) (noted_of c.request-answer.new.link) old new
          (λ keys body answer. notes_handling handled keys body answer c.new-handler.result c.request-answer.new.handler) c.request-answer.ensures.node c.request-answer.ensures.did
          (makes_noted (notes_handling handled) asked_of (λ keys body answer was is called. inl called.0)
          (λ to message answer was is. notes_source to message answer was.last is.last) noted_of
          (λ to message answer was is goes. (goes, (refl, λ once. absurd (true≢false once))))
          c.args.keys c.args.request c.request-answer.result c.new-handler.result c.request-answer.new.handler _ c.request-answer.new.link true
          c.new-handler.ensures.asked refl old.node old.pass new.pass c.request-answer.ensures.sent),
    )
