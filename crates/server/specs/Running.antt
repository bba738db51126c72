-- A server whose threads run, and what comes back when they have ended.
use Rattle.std.specs.Prelude.{◌≡◌, ◌≢◌, ℕ, List, map, reverse}
use Rattle.std.specs.List.{All}
use Rattle.std.specs.declared.thread.PromisedHandle.{PromisedHandle}
use Rattle.turn_lock.specs.declared.errors.CloseError.{CloseError}
use Rattle.turn_lock.specs.declared.errors.CloseError.TheVariants as closing
use Rattle.locked_node.specs.declared.node.LockedNode.{LockedNode}
use Rattle.locked_node.specs.Passes.{NodePass, RefusesToClose}
use Rattle.server.specs.declared.servers.Server.{Server}
use Rattle.server.specs.declared.errors.EndError.{EndError}
use Rattle.server.specs.declared.errors.EndError.TheVariants as end
use Rattle.server.specs.declared.promises.WorkerBack.{WorkerBack}
use Rattle.server.specs.declared.promises.WorkerPromise.{WorkerPromise}
use Rattle.server.specs.declared.promises.Timer.{Timer}
use Rattle.server.specs.declared.promises.Timer.TheVariants.{Resting, Running}

-- The server, the period of its rounds, 0 if no thread makes any, the passes that the thread of the rounds and the workers were given, and for how many
-- there is room where the workers' come back.
pub record Started (H A : Type 0) : Type 0 where
  pub server : Server H A
  pub period : ℕ
  pub rounds : NodePass H
  pub workers : List (NodePass H)
  pub room : ℕ

module _ {H A R : Type 0} where
  -- the period of the thread that makes rounds, 0 if there is none
  abbrev pub timer_period : Timer H A R → ℕ
  timer_period (Resting pass) = 0
  timer_period (Running thread) = thread.promise.period.value

  -- the pass for the rounds, as given
  abbrev pub rounds_pass : Timer H A R → NodePass H
  rounds_pass (Resting pass) = pass
  rounds_pass (Running thread) = thread.promise.pass.value

  -- the thread of the rounds, if there is one, is the server's
  abbrev pub IsTimerOf : Server H A → Timer H A R → Type 0
  IsTimerOf server (Resting pass) = Unit {0}
  IsTimerOf server (Running thread) = (thread.promise.period.value ≢ 0) × (thread.promise.server.value ≡ server)

module _ {H A : Type 0} where
  -- the passes of workers that were started from the last one on, as given
  abbrev pub worker_passes : List (PromisedHandle (WorkerBack H) (WorkerPromise H A)) → List (NodePass H)
  worker_passes workers = map (λ (w : PromisedHandle (WorkerBack H) (WorkerPromise H A)). w.promise.pass.value) (reverse workers)

  -- the workers are the server's
  abbrev pub AreWorkersOf : Server H A → List (PromisedHandle (WorkerBack H) (WorkerPromise H A)) → Type 0
  AreWorkersOf server workers = All (λ (w : PromisedHandle (WorkerBack H) (WorkerPromise H A)). w.promise.server.value ≡ server) workers

-- the error of an end for the cause why a node was not closed
abbrev pub end_error : CloseError → EndError
end_error closing.ForeignPass = end.ForeignPass
end_error closing.MissingPass = end.MissingPass

module _ {H : Type 0} where
  -- why the node of a server was not closed with these passes: one is another node's, or one is missing; or, whatever they are, out of memory, or
  -- another owner held the server
  abbrev pub IsLeftOpen : LockedNode H → List (NodePass H) → EndError → Type 0
  IsLeftOpen node passes end.ForeignPass = RefusesToClose node passes closing.ForeignPass
  IsLeftOpen node passes end.MissingPass = RefusesToClose node passes closing.MissingPass
  IsLeftOpen node passes end.StillHeld = Unit {0}
  IsLeftOpen node passes end.Memory = Unit {0}
