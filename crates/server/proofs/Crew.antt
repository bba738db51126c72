-- The workers of a server, taken and put back one by one from the end.
use Rattle.std.proofs.Common.{◌≡◌, ◌∙◌, ◌+◌, refl, sym, ap, subst, append_assoc, append-nil, ℕ, List, [], ◌∷◌, ◌++◌, All}
use Rattle.std.specs.Prelude.{map, reverse}
use Rattle.std.specs.List.{AllZip}
use Rattle.std.specs.declared.thread.PromisedHandle.{PromisedHandle}
use Rattle.std.proofs.lemmas.List.{map-append, reverse-append, reverse-reverse}
use Rattle.std.proofs.lemmas.List.Sums.{sum_by_push}
use Rattle.std.proofs.lemmas.List.Elements.{All-append, All-cons, All-head, All-nil, All-push, All-tail}
use Rattle.indexmap.proofs.SetLemmas.{AllZip-push}
use Rattle.locked_node.specs.declared.node.LockedNode.{LockedNode}
use Rattle.node_core.specs.Node.{Seen}
use Rattle.locked_node.specs.Passes.{NodePass, Fits, IsClosed}
use Rattle.peer_core.specs.Acts.{Makes}
use Rattle.server.proofs.Worked.{no_rounds}
use Rattle.peer_core.specs.Handling.{MayHandle}
use Rattle.server.specs.Running.{AreWorkersOf, IsTimerOf, rounds_pass, timer_period, worker_passes}
use Rattle.server.specs.Threads.{AreBack, IsTimer, IsTimerBack, IsWorker, IsWorkerBack, ServeTogether, CountsServed, passes_in, served_in}
use Rattle.server.specs.Working.{AreRounds, RoundTimes, hosts_of}
use Rattle.server.specs.declared.servers.Server.{Server}
use Rattle.server.specs.declared.promises.WorkerBack.{WorkerBack}
use Rattle.server.specs.declared.promises.WorkerPromise.{WorkerPromise}
use Rattle.server.specs.declared.promises.Timer.{Timer}
use Rattle.server.specs.declared.promises.Timer.TheVariants.{Resting, Running}

-- those of a list that are not left were taken from its end, and of each something was made, in that order
abbrev pub Taken : {A B : Type 0} → (A → B → Type 0) → List A → List A → List B → Type 0
Taken {A} R all left made = (done : List A) × (all ≡ left ++ reverse done) × AllZip R done made

pub none_taken : {A B : Type 0} (R : A → B → Type 0) (all : List A) → Taken R all all []
none_taken R all = ([], sym (append-nil all), tt)

pub one_taken : {A B : Type 0} (R : A → B → Type 0) (all left rest : List A) (x : A) (y : B) (made more : List B)
    → left ≡ rest ++ x ∷ [] → more ≡ made ++ y ∷ [] → R x y → Taken R all left made → Taken R all rest more
one_taken R all left rest x y made more cut put r t = (
  t.0 ++ x ∷ [],
  t.1 ∙ ap (λ (xs : List _). xs ++ reverse t.0) cut ∙ append_assoc rest (x ∷ []) (reverse t.0)
      ∙ ap (λ (xs : List _). rest ++ xs) (sym (reverse-append t.0 (x ∷ []))),
  subst (λ (ys : List _). AllZip R (t.0 ++ x ∷ []) ys) (sym put) (AllZip-push R t.0 made x y t.2 r),
)

pub all_taken : {A B : Type 0} (R : A → B → Type 0) (all left : List A) (made : List B) → left ≡ [] → Taken R all left made → AllZip R (reverse all) made
all_taken R all left made none t =
    let whole : all ≡ reverse t.0 = t.1 ∙ ap (λ (xs : List _). xs ++ reverse t.0) none in
    subst (λ (xs : List _). AllZip R xs made) (sym (ap (λ (xs : List _). reverse xs) whole ∙ reverse-reverse t.0)) t.2

module _ {H A : Type 0} (R : A → WorkerBack H → Type 0) (all : List A) where
  -- the passes of those that are back stand after those that were there before, and this number of connections was served by them
  abbrev pub SomeBack : List A → List (NodePass H) → List (NodePass H) → ℕ → Type 0
  SomeBack left before now connections =
      (back : List (WorkerBack H)) × (now ≡ before ++ passes_in back) × (connections ≡ served_in back) × Taken R all left back

  pub none_back : (before : List (NodePass H)) → SomeBack all before before 0
  none_back before = ([], sym (append-nil before), refl, none_taken R all)

  pub one_back : (left rest : List A) (x : A) (b : WorkerBack H) (before now more : List (NodePass H)) (n m : ℕ)
      → left ≡ rest ++ x ∷ [] → more ≡ now ++ b.pass ∷ [] → m ≡ n + b.connections → R x b → SomeBack left before now n → SomeBack rest before more m
  one_back left rest x b before now more n m cut put sum r t = (
    t.0 ++ b ∷ [],
    put ∙ ap (λ (ys : List (NodePass H)). ys ++ b.pass ∷ []) t.1 ∙ append_assoc before (passes_in t.0) (b.pass ∷ [])
        ∙ ap (λ (ys : List (NodePass H)). before ++ ys) (sym (map-append (λ (w : WorkerBack H). w.pass) t.0 (b ∷ []))),
    sum ∙ ap (λ (k : ℕ). k + b.connections) t.2 ∙ sym (sum_by_push (λ (w : WorkerBack H). w.connections) t.0 b),
    one_taken R all left rest x b t.0 (t.0 ++ b ∷ []) cut refl r t.3,
  )

zip_reversed : {A B : Type 0} (R : A → B → Type 0) (xs : List A) (ys : List B) → AllZip R xs ys → AllZip R (reverse xs) (reverse ys)
zip_reversed R [] [] h = tt
zip_reversed R [] (y ∷ ys) h = absurd h
zip_reversed R (x ∷ xs) [] h = absurd h
zip_reversed R (x ∷ xs) (y ∷ ys) h =
    subst (λ (ws : List _). AllZip R ws (reverse (y ∷ ys))) (sym (reverse-append (x ∷ []) xs))
    (subst (λ (vs : List _). AllZip R (reverse xs ++ x ∷ []) vs) (sym (reverse-append (y ∷ []) ys))
    (AllZip-push R (reverse xs) (reverse ys) x y (zip_reversed R xs ys h.1) h.0))

zip_through : {A B C : Type 0} (R : A → B → Type 0) (S : B → C → Type 0) (T : A → C → Type 0) → ((a : A) (b : B) (c : C) → R a b → S b c → T a c)
    → (xs : List A) (ys : List B) (zs : List C) → AllZip R xs ys → AllZip S ys zs → AllZip T xs zs
zip_through R S T f [] [] [] h k = tt
zip_through R S T f [] [] (z ∷ zs) h k = absurd k
zip_through R S T f [] (y ∷ ys) zs h k = absurd h
zip_through R S T f (x ∷ xs) [] zs h k = absurd h
zip_through R S T f (x ∷ xs) (y ∷ ys) [] h k = absurd k
zip_through R S T f (x ∷ xs) (y ∷ ys) (z ∷ zs) h k = (f x y z h.0 k.0, zip_through R S T f xs ys zs h.1 k.1)

all_reversed : {A : Type 0} (P : A → Type 0) (xs : List A) → All P xs → All P (reverse xs)
all_reversed P [] h = All-nil P
all_reversed P (x ∷ xs) h =
    subst (λ (ys : List _). All P ys) (sym (reverse-append (x ∷ []) xs)) (All-push P (reverse xs) x (all_reversed P xs (All-tail P x xs h)) (All-head P x xs h))

module _ {H A R : Type 0} where
  -- what is known of a timer that was started
  pub timer_is : (server : Server H A) (period : ℕ) (pass : NodePass H) (timer : Timer H A R) → IsTimer server period pass timer
      → IsTimerOf server timer × ((rounds_pass timer ≡ pass) × (timer_period timer ≡ period))
  timer_is server period pass (Resting kept) is = (tt, (is.1, sym is.0))
  timer_is server period pass (Running thread) is = (((λ none. is.0 (sym is.2 ∙ none)), is.1), (is.3, is.2))

  -- what came back from the thread of the rounds, or was kept
  pub timer_back : (Time : RoundTimes) (server : Server H A) (timer : Timer H A R) (back : NodePass H) → IsTimerOf server timer → IsTimerBack Time timer back
      → Makes server.node (AreRounds Time (timer_period timer) (hosts_of server.hosts) server.healing) (rounds_pass timer) back
      × (timer_period timer ≡ 0 → back ≡ rounds_pass timer)
  timer_back Time server (Resting kept) back of same = (
    subst (λ (p : NodePass H). Makes server.node (AreRounds Time 0 (hosts_of server.hosts) server.healing) kept p) (sym same)
        (no_rounds server.node Time 0 (hosts_of server.hosts) server.healing kept),
    λ _. same,
  )
  timer_back Time server (Running thread) back of made = (
    subst (λ (s : Server H A). Makes s.node (AreRounds Time thread.promise.period.value (hosts_of s.hosts) s.healing) thread.promise.pass.value back) of.1 made,
    λ none. absurd (of.0 none),
  )

module _ {H A : Type 0} where
  values_are : (server : Server H A) (passes : List (NodePass H)) (workers : List (PromisedHandle (WorkerBack H) (WorkerPromise H A))) → AllZip (IsWorker server) passes workers
      → (map (λ (w : PromisedHandle (WorkerBack H) (WorkerPromise H A)). w.promise.pass.value) workers ≡ passes) × All (λ (w : PromisedHandle (WorkerBack H) (WorkerPromise H A)). w.promise.server.value ≡ server) workers
  values_are server [] [] h = (refl, All-nil (λ (w : PromisedHandle (WorkerBack H) (WorkerPromise H A)). w.promise.server.value ≡ server))
  values_are server [] (w ∷ ws) h = absurd h
  values_are server (p ∷ ps) [] h = absurd h
  values_are server (p ∷ ps) (w ∷ ws) h =
      let rest = values_are server ps ws h.1 in
      (ap (λ (x : NodePass H). x ∷ map (λ (v : PromisedHandle (WorkerBack H) (WorkerPromise H A)). v.promise.pass.value) ws) h.0.1 ∙ ap (λ (xs : List (NodePass H)). p ∷ xs) rest.0, All-cons (λ (v : PromisedHandle (WorkerBack H) (WorkerPromise H A)). v.promise.server.value ≡ server) w ws h.0.0 rest.1)

  -- the workers that were started have the passes that were given, from the last one on, and are the server's
  pub crew_is : (server : Server H A) (given : List (NodePass H)) (workers : List (PromisedHandle (WorkerBack H) (WorkerPromise H A))) → AllZip (IsWorker server) (reverse given) workers
      → (worker_passes workers ≡ given) × AreWorkersOf server workers
  crew_is server given workers started =
      let order : AllZip (IsWorker server) given (reverse workers) =
      subst (λ (xs : List (NodePass H)). AllZip (IsWorker server) xs (reverse workers)) (reverse-reverse given) (zip_reversed (IsWorker server) (reverse given) workers started) in
      ((values_are server given (reverse workers) order).0, (values_are server (reverse given) workers started).1)

  zip_given : (server : Server H A) (workers : List (PromisedHandle (WorkerBack H) (WorkerPromise H A))) → All (λ (w : PromisedHandle (WorkerBack H) (WorkerPromise H A)). w.promise.server.value ≡ server) workers
      → AllZip (IsWorker server) (map (λ (w : PromisedHandle (WorkerBack H) (WorkerPromise H A)). w.promise.pass.value) workers) workers
  zip_given server [] h = tt
  zip_given server (w ∷ ws) h =
      let Of : PromisedHandle (WorkerBack H) (WorkerPromise H A) → Type 0 = λ v. v.promise.server.value ≡ server in
      ((All-head Of w ws h, refl), zip_given server ws (All-tail Of w ws h))

  worker_back : (hash_of : H → List ℕ → ℕ) (Handles : A → MayHandle) (server : Server H A) (pass : NodePass H) (back : WorkerBack H) (worker : PromisedHandle (WorkerBack H) (WorkerPromise H A))
      → IsWorker server pass worker → IsWorkerBack hash_of Handles worker back → CountsServed hash_of (Handles server.handler) server.node pass back
  worker_back hash_of Handles server pass back worker is made =
      subst (λ (p : NodePass H). CountsServed hash_of (Handles server.handler) server.node p back) is.1
      (subst (λ (s : Server H A). CountsServed hash_of (Handles s.handler) s.node worker.promise.pass.value back) is.0 made)

  -- all workers are back with the passes that they were given
  pub crew_back : (hash_of : H → List ℕ → ℕ) (Handles : A → MayHandle) (server : Server H A) (none passes : List (NodePass H)) (workers : List (PromisedHandle (WorkerBack H) (WorkerPromise H A)))
      (connections : ℕ) → none ≡ [] → AreWorkersOf server workers → AreBack hash_of Handles none (reverse workers) passes connections
      → ServeTogether hash_of (Handles server.handler) server.node (worker_passes workers) passes connections
  crew_back hash_of Handles server none passes workers connections empty of back = (
    back.0,
    back.1 ∙ ap (λ (xs : List (NodePass H)). xs ++ passes_in back.0) empty,
    back.2,
    zip_through (IsWorker server) (IsWorkerBack hash_of Handles) (CountsServed hash_of (Handles server.handler) server.node)
        (λ p w q is made. worker_back hash_of Handles server p q w is made) (worker_passes workers) (reverse workers) back.0
        (zip_given server (reverse workers) (all_reversed (λ (w : PromisedHandle (WorkerBack H) (WorkerPromise H A)). w.promise.server.value ≡ server) workers of)) back.3,
  )

module _ {H : Type 0} (node locked : LockedNode H) (workers handles passes : List (NodePass H)) (rounds : NodePass H) (its : locked ≡ node)
    (is : passes ≡ workers ++ handles ++ rounds ∷ []) where
  -- the passes with which a node is closed fit it
  pub all_fit : All (Fits node) workers → All (Fits node) handles → Fits node rounds → All (Fits locked) passes
  all_fit fit_workers fit_handles fit_rounds =
      let whole : All (Fits node) (workers ++ handles ++ rounds ∷ []) = All-push (Fits node) (workers ++ handles) rounds (All-append (Fits node) workers handles fit_workers fit_handles) fit_rounds in
      subst (λ (x : LockedNode H). All (Fits x) passes) (sym its) (subst (λ (xs : List (NodePass H)). All (Fits node) xs) (sym is) whole)

  -- the node that was closed with them is the server's
  pub closed_so : (hash_of : H → List ℕ → ℕ) (now : Seen H) → IsClosed hash_of locked passes now → IsClosed hash_of node (workers ++ handles ++ rounds ∷ []) now
  closed_so hash_of now closed =
      subst (λ (xs : List (NodePass H)). IsClosed hash_of node xs now) is (subst (λ (x : LockedNode H). IsClosed hash_of x passes now) its closed)

-- the passes that were given to threads fit the node
pub given_fit : {H A : Type 0} (server it : Server H A) (rounds pass : NodePass H) (workers passes : List (NodePass H)) → it ≡ server → pass ≡ rounds → passes ≡ workers
    → Fits server.node rounds → All (Fits server.node) workers → Fits it.node pass × All (Fits it.node) passes
given_fit {H} {A} server it rounds pass workers passes its is are one all = (
  subst (λ (s : Server H A). Fits s.node pass) (sym its) (subst (λ (p : NodePass H). Fits server.node p) (sym is) one),
  subst (λ (s : Server H A). All (Fits s.node) passes) (sym its) (subst (λ (ps : List (NodePass H)). All (Fits server.node) ps) (sym are) all),
)

-- passes by which connections were served can be used again
each_fits : {H : Type 0} (hash_of : H → List ℕ → ℕ) (Handles : MayHandle) (node : LockedNode H) (given : List (NodePass H)) (back : List (WorkerBack H))
    → AllZip (CountsServed hash_of Handles node) given back → All (Fits node) given → All (Fits node) (passes_in back)
each_fits hash_of Handles node [] [] made fits = fits
each_fits hash_of Handles node [] (b ∷ bs) made fits = absurd made
each_fits hash_of Handles node (p ∷ ps) [] made fits = absurd made
each_fits hash_of Handles node (p ∷ ps) (b ∷ bs) made fits =
    All-cons (Fits node) b.pass (passes_in bs) (made.0.made.fits (All-head (Fits node) p ps fits)) (each_fits hash_of Handles node ps bs made.1 (All-tail (Fits node) p ps fits))

pub back_fit : {H : Type 0} (hash_of : H → List ℕ → ℕ) (Handles : MayHandle) (node : LockedNode H) (given passes : List (NodePass H)) (connections : ℕ)
    → ServeTogether hash_of Handles node given passes connections → All (Fits node) given → All (Fits node) passes
back_fit hash_of Handles node given passes connections served fits =
    subst (λ (ps : List (NodePass _)). All (Fits node) ps) (sym served.1) (each_fits hash_of Handles node given served.0 served.3 fits)
