-- How a server's node enters its cluster.
use Rattle.std.proofs.Common.{append-nil, ◌≡◌, ◌≢◌, ℕ, ◌-◌, ◌^◌, ◌∙◌, refl, sym, ap, subst, List, [], ◌∷◌, ◌++◌, Option, Some, None, Result, Ok, Err, inl, inr, ◌⊎◌, IfErr, IfOk, IsOk, IsErrAnd, OnOk, length}
use Rattle.std.proofs.lemmas.Bool.{false≢true}
use Rattle.std.proofs.lemmas.List.Elements.{All-pop}
use Rattle.change_core.specs.declared.addresses.Address.{Address}
use Rattle.locked_node.specs.declared.node.LockedNode.{LockedNode}
use Rattle.locked_node.specs.Passes.{NodePass, AreAll, AreFresh, IsClosed, IsNew, opening_of}
use Rattle.peer_core.specs.Links.{MayAnswer}
use Rattle.node_core.specs.Node.{Seen}
use Rattle.peer_core.specs.Acts.{Makes}
use Rattle.cli_net.specs.Service.{HasEnded, HasEntered, HasServed, IsCreated, IsEndFault, IsJoinedTo, IsPortFault, IsThreadFault, LeavesServing, TellsEntry, end_fault}
use Rattle.cli_net.specs.declared.echoes.Echo.{Echo}
use Rattle.server.specs.Starting.{IsHealedAs}
use Rattle.server.specs.Threads.{ServeTogether}
use Rattle.server.specs.Working.{AreRounds, RoundTimes, hosts_of}
use Rattle.cli_net.specs.Echoes.{MayEcho}
use Rattle.cli_net.specs.declared.faults.ServeError.{ServeError}
use Rattle.cli_net.specs.declared.faults.ServeError.TheVariants as serve
use Rattle.server.specs.declared.errors.EndError.{EndError}
use Rattle.server.specs.declared.errors.EndError.TheVariants as end
use Rattle.server.specs.declared.servers.Server.{Server}
use Rattle.line_service.specs.declared.timeouts.Timeouts.{Timeouts}
use Rattle.cli_core.specs.declared.words.ServeWords.{ServeWords}

-- the errors of a server whose node joined
abbrev pub MayFollow : ServeError → Type 0
MayFollow serve.NoneJoined = ⊥
MayFollow other = Unit {0}

pub cannot_open : (e : ServeError) → IsPortFault e → MayFollow e
cannot_open e (inl is) = subst MayFollow (sym is) tt
cannot_open e (inr is) = subst MayFollow (sym is) tt

pub cannot_serve : (e : ServeError) → IsThreadFault e → MayFollow e
cannot_serve serve.NoneJoined h = h
cannot_serve serve.CannotListen h = tt
cannot_serve serve.NoThread h = tt
cannot_serve serve.StillHeld h = tt
cannot_serve serve.Miscounted h = tt
cannot_serve serve.CannotWrite h = tt
cannot_serve serve.OutOfMemory h = tt

pub cannot_begin : (a : ℕ) (e : ServeError) (old new : Option (List ℕ)) → LeavesServing a e old new → MayFollow e
cannot_begin a serve.NoneJoined old new h = h
cannot_begin a serve.CannotListen old new h = tt
cannot_begin a serve.NoThread old new h = tt
cannot_begin a serve.StillHeld old new h = tt
cannot_begin a serve.Miscounted old new h = tt
cannot_begin a serve.CannotWrite old new h = tt
cannot_begin a serve.OutOfMemory old new h = tt

pub cannot_end : (e : ServeError) → e ≡ serve.CannotWrite → MayFollow e
cannot_end e is = subst MayFollow (sym is) tt

-- an end for which there was memory is a fault of the end
pub cannot_close : {T : Type 0} (r : Result T EndError) (e : EndError) (fault : ServeError) → r ≡ Err e → (r ≡ Err end.Memory → ⊥) → fault ≡ end_fault e → IsEndFault fault
cannot_close r end.ForeignPass fault is memory so = subst IsEndFault (sym so) tt
cannot_close r end.MissingPass fault is memory so = subst IsEndFault (sym so) tt
cannot_close r end.StillHeld fault is memory so = subst IsEndFault (sym so) tt
cannot_close r end.Memory fault is memory so = absurd (memory is)

abbrev IsOther : ServeError → Type 0
IsOther serve.Miscounted = ⊥
IsOther other = Unit {0}

is_other : (e : EndError) → IsOther (end_fault e)
is_other end.ForeignPass = tt
is_other end.MissingPass = tt
is_other end.StillHeld = tt
is_other end.Memory = tt

abbrev EndsOtherwise : {T : Type 0} → Result T ServeError → Type 0
EndsOtherwise (Ok t) = Unit {0}
EndsOtherwise (Err e) = IsOther e

-- the fault of an end is no other number of connections
pub counted_well : {T : Type 0} (e : EndError) (fault : ServeError) (r : Result T ServeError) → fault ≡ end_fault e → r ≡ Err fault → r ≡ Err serve.Miscounted → ⊥
counted_well {T} e fault r so was is =
    let Otherwise : Result T ServeError → Type 0 = λ x. EndsOtherwise x in
    subst Otherwise is (subst Otherwise (sym was) (subst IsOther (sym so) (is_other e)))

module _ {H : Type 0} (hash_of : H → List ℕ → ℕ) (Came : MayAnswer) (hash : H) (words : ServeWords) (node : LockedNode H) (passes : List (NodePass H)) (timer new : NodePass H)
    (hosts : List Address) (now : ℕ) (created : IsCreated hash_of hash words (opening_of node)) (fresh : AreFresh node (passes ++ timer ∷ [])) (same : hosts ≡ words.hosts.items)
    (alone : hosts ≡ [] → new ≡ timer) where
  -- what its join came to, if it had hosts to ask
  pub entered_by : (fault : Option ServeError) → (hosts ≢ [] → IsJoinedTo Came node hosts now fault timer new) → HasEntered hash_of Came hash words fault
  entered_by fault joined = record {
    node = node;
    now = now;
    old = timer;
    new = new;
    created = created;
    fresh = (All-pop (IsNew node (2 ^ 32 - 1)) (passes ++ timer ∷ []) passes (Some timer) refl fresh).1;
    joined = λ named. subst (λ (xs : List Address). IsJoinedTo Came node xs now fault timer new) same (joined (λ none. named (sym same ∙ none)));
    alone = λ none. alone (same ∙ none);
  }

  -- it entered, and ended after that
  pub let_in_by : {T : Type 0} (r : Result T ServeError) → IfErr r MayFollow → (hosts ≢ [] → IsJoinedTo Came node hosts now None timer new)
      → TellsEntry (HasEntered hash_of Came hash words) r
  let_in_by (Ok t) after joined = entered_by None joined
  let_in_by (Err serve.NoneJoined) after joined = absurd after
  let_in_by (Err serve.CannotListen) after joined = entered_by None joined
  let_in_by (Err serve.NoThread) after joined = entered_by None joined
  let_in_by (Err serve.StillHeld) after joined = entered_by None joined
  let_in_by (Err serve.Miscounted) after joined = entered_by None joined
  let_in_by (Err serve.CannotWrite) after joined = entered_by None joined
  let_in_by (Err serve.OutOfMemory) after joined = tt

  -- it did not
  pub kept_out_by : {T : Type 0} (e : ServeError) (out : Result T ServeError) → (e ≡ serve.NoneJoined) ⊎ (e ≡ serve.OutOfMemory)
      → (hosts ≢ [] → IsJoinedTo Came node hosts now (Some e) timer new) → IsErrAnd out (λ x. x ≡ e)
      → TellsEntry {T = T} (HasEntered hash_of Came hash words) out
  kept_out_by {T} e (Ok t) which joined so = absurd so
  kept_out_by {T} e (Err x) (inl none) joined so =
      let refused : hosts ≢ [] → IsJoinedTo Came node hosts now (Some serve.NoneJoined) timer new =
      λ named. subst (λ (f : ServeError). IsJoinedTo Came node hosts now (Some f) timer new) none (joined named) in
      subst (λ (f : ServeError). TellsEntry {T = T} (HasEntered hash_of Came hash words) (Err f)) (sym (so ∙ none)) (entered_by (Some serve.NoneJoined) refused)
  kept_out_by {T} e (Err x) (inr memory) joined so =
      subst (λ (f : ServeError). TellsEntry {T = T} (HasEntered hash_of Came hash words) (Err f)) (sym (so ∙ memory)) tt

  -- who does not enter had hosts to ask
  pub had_hosts : (e : ServeError) → (hosts ≡ [] → IsOk {T = Unit {0}} (Err e) × (new ≡ timer)) → words.hosts.items ≢ []
  had_hosts e never none = false≢true (never (same ∙ none)).0

  -- it entered, and then its threads served and it was closed
  pub served_by : (Time : RoundTimes) (timeouts : Timeouts) (server : Server H Echo) (closed : Seen H) → server.node ≡ node → server.handler.address ≡ words.address
      → server.timeouts ≡ timeouts → IsHealedAs words.heal words.address words.hosts.items server.healing → server.hosts ≡ None → server.connections ≡ words.requests
      → length passes ≡ words.workers
      → AreAll node (passes ++ timer ∷ []) → (hosts ≢ [] → IsJoinedTo Came node hosts now None timer new)
      → HasEnded Time hash_of server words.period new passes closed → HasServed Time hash_of Came hash timeouts words closed
  unfolding entered_by
  served_by Time timeouts server closed its own waiting healing none requests count all joined ended = record {
    entry = entered_by None joined;
    crew = passes;
    server = server;
    its = sym its;
    own = own;
    waiting = waiting;
    healing = healing;
    count = count;
    all = subst (λ (x : LockedNode H). AreAll x (passes ++ timer ∷ [])) (sym its) all;
    fresh = subst (λ (x : LockedNode H). AreFresh x (passes ++ timer ∷ [])) (sym its) fresh;
    hosts = none;
    requests = requests;
    ended = ended;
  }

-- the node of a server that was closed with the passes that came back
pub ended_by : {H : Type 0} (Time : RoundTimes) (hash_of : H → List ℕ → ℕ) (server it : Server H Echo) (period : ℕ) (timer rounds : NodePass H) (crew workers : List (NodePass H))
    (n : ℕ) (r : Result (Seen H) ServeError) → it ≡ server → Makes server.node (AreRounds Time period (hosts_of server.hosts) server.healing) timer rounds → (period ≡ 0 → rounds ≡ timer)
    → ServeTogether hash_of (MayEcho server.handler.address) server.node crew workers n → OnOk r (n ≡ it.connections) → IfOk r (IsClosed hash_of it.node (workers ++ rounds ∷ []))
    → IfOk r (HasEnded Time hash_of server period timer crew)
ended_by Time hash_of server it period timer rounds crew workers n (Err e) its made resting served count closed = tt
ended_by Time hash_of server it period timer rounds crew workers n (Ok node) its made resting served count closed = record {
  of_timer = rounds;
  of_workers = workers;
  rounds = made;
  resting = resting;
  connections =
      subst (λ (k : ℕ). ServeTogether hash_of (MayEcho server.handler.address) server.node crew workers k) (count ∙ ap (λ (s : Server _ Echo). s.connections) its) served;
  closed = subst (λ (s : Server _ Echo). IsClosed hash_of s.node (workers ++ rounds ∷ []) node) its closed;
}

-- there are no handles
pub closed_alone : {H : Type 0} (hash_of : H → List ℕ → ℕ) (locked : LockedNode H) (workers handles : List (NodePass H)) (rounds : NodePass H) (node : Seen H) → handles ≡ []
    → IsClosed hash_of locked (workers ++ handles ++ rounds ∷ []) node → IsClosed hash_of locked (workers ++ rounds ∷ []) node
closed_alone hash_of locked workers handles rounds node none closed =
    subst (λ (ps : List (NodePass _)). IsClosed hash_of locked (ps ++ rounds ∷ []) node) (ap (λ (hs : List (NodePass _)). workers ++ hs) none ∙ append-nil workers) closed
