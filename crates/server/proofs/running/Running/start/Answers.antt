use Rattle.std.proofs.Common.{List, arith, subst}
use Rattle.std.specs.Prelude.{reverse}
use Rattle.std.specs.Arc.{arc_value}
use Rattle.std.specs.List.{AllZip}
use Rattle.server.specs.Threads.{IsWorker}
use Rattle.server.proofs.Crew.{crew_is, given_fit, timer_is}
use Rattle.server.proofs.running.Running.start.Goals as goal

pub invariant_of-result : goal.invariant_of-result
invariant_of-result g c =
    let server = arc_value c.in-Ok.server in
    let threads = c.start_all-started.new.workers.items in
    let started = subst (λ (xs : List _). AllZip (IsWorker server) (reverse xs) threads) c.in_ok-reserve.ensures.items c.in-Ok-started.ensures.workers in
    let crew = crew_is server c.args.workers.items threads started in
    let timer = timer_is server c.args.period c.args.rounds c.in-Ok-started.timer c.in-Ok-started.ensures.timer in (
      crew.1,
      (
        timer.0,
        (
          c.in-Ok-started.ensures.all,
          (
            omega (arith, c.in-Ok-started.ensures.back, c.in-Ok-started.ensures.room, c.in_ok-reserve.ensures.ok, c.in_ok-reserve.ensures.len),
            given_fit c.args.server server c.args.rounds _ c.args.workers.items _ c.in-Ok.ensures.ok timer.1.0 crew.0 c.requires.rounds c.requires.workers,
          ),
        ),
      ),
    )

pub returns-in-Ok-started-clause-started : goal.returns-in-Ok-started-clause-started
returns-in-Ok-started-clause-started g c =
    let server = arc_value c.in-Ok.server in
    let threads = c.start_all-started.new.workers.items in
    let started = subst (λ (xs : List _). AllZip (IsWorker server) (reverse xs) threads) c.in_ok-reserve.ensures.items c.in-Ok-started.ensures.workers in (
      c.in-Ok.ensures.ok,
      (timer_is server c.args.period c.args.rounds c.in-Ok-started.timer c.in-Ok-started.ensures.timer).1.0,
      (crew_is server c.args.workers.items threads started).0,
    )

pub returns-in-Ok-started-clause-period : goal.returns-in-Ok-started-clause-period
returns-in-Ok-started-clause-period g c =
    (timer_is (arc_value c.in-Ok.server) c.args.period c.args.rounds c.in-Ok-started.timer c.in-Ok-started.ensures.timer).1.1
