use Rattle.std.proofs.Common.{◌≡◌, refl, ℕ, List, ◌++◌, take, ap, ◌∙◌, append_assoc}
use Rattle.http_server.specs.declared.state.Config.{Config}
use Rattle.http_server.specs.Connection.{history, config_of}
use Rattle.http_server.specs.History.{History, Rests}
use Rattle.http_server.proofs.KnownLemmas.{Appends-then, Appends-kept, Consumes-then}
use Rattle.http_server.proofs.StreamLemmas.{Calls-then}
use Rattle.agent_http.proofs.pumps.pump.Goals.{then-not-wants_write+in-Ok, else-not-wants_write+in-Ok-write_to+else-count-eq0}
use Rattle.agent_http.proofs.pumps.pump.Goals as goal

rests-kept : (a b : Config) (h k : History) → a ≡ b → h ≡ k → Rests b k → Rests a h
rests-kept a b h k p q r = rw (p, q) r

pub returns-then-is_done-clause-calls : goal.returns-then-is_done-clause-calls
returns-then-is_done-clause-calls g c = Calls-then g.S.Service.answers _ _ _ _ _ _ c.loop.invariant.2 c.advance.ensures.calls

pub returns-in-Err-clause-input : goal.returns-in-Err-clause-input
returns-in-Err-clause-input g c = λ is. rests-kept _ _ _ _ c.read_from.ensures.config c.in-Err.ensures.err.0 c.advance.ensures.rests

pub returns-in-Err-clause-calls : goal.returns-in-Err-clause-calls
returns-in-Err-clause-calls g c =
    let all = Calls-then g.S.Service.answers _ _ _ _ _ _ c.loop.invariant.2 c.advance.ensures.calls in
    (all.0, ap (λ (h : History). h.calls) c.in-Err.ensures.err.0 ∙ all.1, all.2)

pub returns-in-Err-2-clause-calls : goal.returns-in-Err-2-clause-calls
returns-in-Err-2-clause-calls g c =
    let all = Calls-then g.S.Service.answers _ _ _ _ _ _ c.loop.invariant.2 c.advance.ensures.calls in
    (all.0, ap (λ (h : History). h.calls) c.in-Err-2.ensures.err.0 ∙ all.1, all.2)

pub returns-in-Err-write_to-clause-calls : goal.returns-in-Err-write_to-clause-calls
returns-in-Err-write_to-clause-calls g c =
    let all = Calls-then g.S.Service.answers _ _ _ _ _ _ c.loop.invariant.2 c.advance.ensures.calls in
    (all.0, ap (λ k. (history k).calls) c.in-Err-write_to.ensures.err.0 ∙ all.1, all.2)

pub returns-in-Err-2-write_to-clause-calls : goal.returns-in-Err-2-write_to-clause-calls
returns-in-Err-2-write_to-clause-calls g c =
    let all = Calls-then g.S.Service.answers _ _ _ _ _ _ c.loop.invariant.2 c.advance.ensures.calls in
    (all.0, ap (λ k. (history k).calls) c.in-Err-2-write_to.ensures.err.0 ∙ all.1, all.2)

pub loop-preserved : goal.loop-preserved
loop-preserved g c =
    let read = c.loop.invariant.0 in
    let written = c.loop.invariant.1 in
    let quiet = c.advance.ensures.quiet in
    let config = c.advance.ensures.config ∙ c.loop.invariant.3 in
    let all = Calls-then g.S.Service.answers _ _ _ _ _ _ c.loop.invariant.2 c.advance.ensures.calls in
    elim c.if-not-wants_write.branch [
      | then-not-wants_write+in-Ok w ↦
          let came = w.in-Ok.ensures.ok in
          rw (w.connection-is, w.reader-is, w.writer-is) (
            (
              read.0 ++ came.0,
              Consumes-then _ _ _ read.0 came.0 read.1 came.2,
              ap (λ (h : History). h.received) came.3 ∙ ap (λ (t : List ℕ). t ++ came.0) (quiet.0 ∙ read.2) ∙ append_assoc _ read.0 came.0,
            ),
            (written.0, written.1, ap (λ (h : History). h.sent) came.3 ∙ quiet.2 ∙ written.2),
            (all.0, ap (λ (h : History). h.calls) came.3 ∙ all.1, all.2),
            w.read_from.ensures.config ∙ config,
          )
      | else-not-wants_write+in-Ok-write_to+else-count-eq0 w ↦
          let went = w.in-Ok-write_to.ensures.ok in
          let text = take w.in-Ok-write_to.count (history c.advance.new.self).pending in
          rw (w.connection-is, w.reader-is, w.writer-is) (
            (read.0, read.1, ap (λ (h : History). h.received) went.0 ∙ quiet.0 ∙ read.2),
            (
              written.0 ++ text,
              Appends-then _ _ _ written.0 text written.1 went.1,
              ap (λ (h : History). h.sent) went.0 ∙ ap (λ (t : List ℕ). t ++ text) (quiet.2 ∙ written.2) ∙ append_assoc _ written.0 text,
            ),
            (all.0, ap (λ (h : History). h.calls) went.0 ∙ all.1, all.2),
            w.write_to.ensures.config ∙ config,
          )
    ]

pub returns-then-count-eq0-clause-calls : goal.returns-then-count-eq0-clause-calls
returns-then-count-eq0-clause-calls g c =
    let all = Calls-then g.S.Service.answers _ _ _ _ _ _ c.loop.invariant.2 c.advance.ensures.calls in
    (all.0, ap (λ (h : History). h.calls) c.in-Ok-write_to.ensures.ok.0 ∙ all.1, all.2)
