-- The threads of a server, by the passes that they were given and give back.
use Rattle.std.specs.Prelude.{◌≡◌, ◌≢◌, ℕ, List, ◌++◌, map}
use Rattle.std.specs.List.{AllZip, sum_by}
use Rattle.std.specs.declared.thread.PromisedHandle.{PromisedHandle}
use Rattle.locked_node.specs.declared.node.LockedNode.{LockedNode}
use Rattle.locked_node.specs.Passes.{NodePass}
use Rattle.peer_core.specs.Handling.{MayHandle, shared}
use Rattle.peer_core.specs.Acts.{Makes, Times}
use Rattle.server.specs.Working.{AreRounds, IsConnection, RoundTimes, hosts_of}
use Rattle.server.specs.declared.servers.Server.{Server}
use Rattle.server.specs.declared.promises.WorkerBack.{WorkerBack}
use Rattle.server.specs.declared.promises.WorkerPromise.{WorkerPromise}
use Rattle.server.specs.declared.promises.Timer.{Timer}
use Rattle.server.specs.declared.promises.Timer.TheVariants.{Resting, Running}

module _ {H : Type 0} where
  -- the passes that workers gave back
  abbrev pub passes_in : List (WorkerBack H) → List (NodePass H)
  passes_in back = map (λ (b : WorkerBack H). b.pass) back

  -- how many connections they served together
  abbrev pub served_in : List (WorkerBack H) → ℕ
  served_in back = sum_by (λ (b : WorkerBack H). b.connections) back

  -- by the pass that a worker gave back as many connections were served as it says, and nothing else was done, since it was as given
  abbrev pub CountsServed : (H → List ℕ → ℕ) → MayHandle → LockedNode H → NodePass H → WorkerBack H → Type 0
  CountsServed hash_of Handles node given back = Makes node (Times (IsConnection hash_of (shared Handles)) back.connections) given back.pass

  -- by these passes, as they came back, the given number of connections was served in all, and nothing else was done, since they were as in the first list
  abbrev pub ServeTogether : (H → List ℕ → ℕ) → MayHandle → LockedNode H → List (NodePass H) → List (NodePass H) → ℕ → Type 0
  ServeTogether hash_of Handles node given passes connections =
      (back : List (WorkerBack H)) × (passes ≡ passes_in back) × (connections ≡ served_in back) × AllZip (CountsServed hash_of Handles node) given back

module _ {H A : Type 0} where
  -- a thread of the server was given this pass to serve connections by
  abbrev pub IsWorker : Server H A → NodePass H → PromisedHandle (WorkerBack H) (WorkerPromise H A) → Type 0
  IsWorker server pass worker = (worker.promise.server.value ≡ server) × (worker.promise.pass.value ≡ pass)

  -- the worker served as many connections as it says by the pass that it was given
  abbrev pub IsWorkerBack : (H → List ℕ → ℕ) → (A → MayHandle) → PromisedHandle (WorkerBack H) (WorkerPromise H A) → WorkerBack H → Type 0
  IsWorkerBack hash_of Handles worker back =
      let server = worker.promise.server.value in
      CountsServed hash_of (Handles server.handler) server.node worker.promise.pass.value back

  -- the passes that these workers gave back come after the others, and the given number of connections was served by them
  abbrev pub AreBack : (H → List ℕ → ℕ) → (A → MayHandle) → List (NodePass H) → List (PromisedHandle (WorkerBack H) (WorkerPromise H A)) → List (NodePass H) → ℕ → Type 0
  AreBack hash_of Handles before workers passes connections =
      (back : List (WorkerBack H)) × (passes ≡ before ++ passes_in back) × (connections ≡ served_in back) × AllZip (IsWorkerBack hash_of Handles) workers back

module _ {H A R : Type 0} where
  -- if the period is 0 no thread makes rounds, and the pass for them is kept; else a thread of the server was given it, with this period
  abbrev pub IsTimer : Server H A → ℕ → NodePass H → Timer H A R → Type 0
  IsTimer server period pass (Resting kept) = (period ≡ 0) × (kept ≡ pass)
  IsTimer server period pass (Running rounds) =
      (period ≢ 0) × (rounds.promise.server.value ≡ server) × (rounds.promise.period.value ≡ period) × (rounds.promise.pass.value ≡ pass)

  -- by the pass that came back the server's rounds were made alone, with the period of the thread
  abbrev pub IsTimerBack : RoundTimes → Timer H A R → NodePass H → Type 0
  IsTimerBack Time (Resting kept) back = back ≡ kept
  IsTimerBack Time (Running rounds) back =
      let server = rounds.promise.server.value in
      Makes server.node (AreRounds Time rounds.promise.period.value (hosts_of server.hosts) server.healing) rounds.promise.pass.value back
