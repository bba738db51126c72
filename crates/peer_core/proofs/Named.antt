-- The names of refusals: what a node may answer to the calls of a round.
use Rattle.std.proofs.Common.{◌≡◌, ℕ, sym, subst, Result, Ok, Err, List}
use Rattle.std.specs.Prelude.{IfOk, IfErr}
use Rattle.detector_core.specs.declared.asked.Said.{Said}
use Rattle.node_core.specs.declared.errors.NodeError.{NodeError}
use Rattle.node_core.specs.declared.errors.NodeError.TheVariants as node
use Rattle.node_core.specs.declared.events.Event.{Event}
use Rattle.node_core.specs.declared.events.Reply.{Reply}
use Rattle.node_core.specs.Calls.{OfEvent, WithReply}
use Rattle.node_core.specs.Expiring.{ExpireStep}
use Rattle.node_core.specs.Node.{Node}
use Rattle.node_core.specs.Probes.{AckedStep, HelperStep, LostStep, ProbeStep}
use Rattle.node_core.specs.Step.{NodeStep}
use Rattle.turn_lock.specs.declared.errors.LockError.{LockError}
use Rattle.turn_lock.specs.declared.errors.LockError.TheVariants as lock
use Rattle.locked_node.specs.declared.node.LockedNode.{LockedNode}
use Rattle.locked_node.specs.Passes.{NodePass, IsCalled}
use Rattle.peer_core.specs.declared.errors.ClusterError.{ClusterError}
use Rattle.peer_core.specs.Errors.{error_of_lock, error_of_node, IsJoinRefusal, IsRoundRefusal}
use Rattle.peer_core.specs.Parts.{allowed, let_in}

lock_in_round : (l : LockError) → IsRoundRefusal (error_of_lock l)
lock_in_round lock.ForeignPass = tt
lock_in_round lock.PassSpent = tt

lock_in_join : (l : LockError) → IsJoinRefusal (error_of_lock l)
lock_in_join lock.ForeignPass = tt
lock_in_join lock.PassSpent = tt

pub named_call : {A : Type 0} (r : Result A LockError) (answer : Result A ClusterError) → answer ≡ let_in r → IfErr answer IsRoundRefusal
named_call {A} (Ok a) answer e = subst (λ (x : Result A ClusterError). IfErr x IsRoundRefusal) (sym e) tt
named_call {A} (Err l) answer e = subst (λ (x : Result A ClusterError). IfErr x IsRoundRefusal) (sym e) (lock_in_round l)

pub named_joining : {A : Type 0} (r : Result A LockError) (answer : Result A ClusterError) → answer ≡ let_in r → IfErr answer IsJoinRefusal
named_joining {A} (Ok a) answer e = subst (λ (x : Result A ClusterError). IfErr x IsJoinRefusal) (sym e) tt
named_joining {A} (Err l) answer e = subst (λ (x : Result A ClusterError). IfErr x IsJoinRefusal) (sym e) (lock_in_join l)

-- how the node may refuse a call
abbrev pub Names : {H A : Type 0} → (H → List ℕ → ℕ) → Event → (Result A NodeError → Reply) → Type 0
Names {H} hash_of event reply_of = (old new : Node H) (n : NodeError) → NodeStep hash_of old event (reply_of (Err n)) new → IsRoundRefusal (error_of_node n)

named_allowed : {H A : Type 0} (hash_of : H → List ℕ → ℕ) (locked : LockedNode H) (p q : NodePass H) (event : Event) (reply_of : Result A NodeError → Reply)
    (r : Result (Result A NodeError) LockError) → Names hash_of event reply_of → IfOk r (λ a. IsCalled hash_of locked p q (OfEvent event) (WithReply (reply_of a)))
    → IfErr (allowed r) IsRoundRefusal
named_allowed hash_of locked p q event reply_of (Ok (Ok a)) names c = tt
named_allowed hash_of locked p q event reply_of (Ok (Err n)) names c = names c.before c.after n c.step
named_allowed hash_of locked p q event reply_of (Err l) names c = lock_in_round l

pub named_try : {H A : Type 0} (hash_of : H → List ℕ → ℕ) (locked : LockedNode H) (p q : NodePass H) (event : Event) (reply_of : Result A NodeError → Reply)
    (r : Result (Result A NodeError) LockError) (answer : Result A ClusterError) → Names hash_of event reply_of
    → IfOk r (λ a. IsCalled hash_of locked p q (OfEvent event) (WithReply (reply_of a))) → answer ≡ allowed r → IfErr answer IsRoundRefusal
named_try {A = A} hash_of locked p q event reply_of r answer names c e =
    subst (λ (x : Result A ClusterError). IfErr x IsRoundRefusal) (sym e) (named_allowed hash_of locked p q event reply_of r names c)

-- the same of a call whose answer is passed on as it is
pub named_answer : {H A : Type 0} (hash_of : H → List ℕ → ℕ) (locked : LockedNode H) (p q : NodePass H) (event : Event) (reply_of : Result A NodeError → Reply)
    (r : Result (Result A NodeError) LockError) (answer : Result (Result A NodeError) ClusterError) → Names hash_of event reply_of
    → IfOk r (λ a. IsCalled hash_of locked p q (OfEvent event) (WithReply (reply_of a))) → answer ≡ let_in r
    → IfOk answer (λ a. IfErr a (λ n. IsRoundRefusal (error_of_node n)))
named_answer {A = A} hash_of locked p q event reply_of (Ok (Ok a)) answer names c e =
    subst (λ (x : Result (Result A NodeError) ClusterError). IfOk x (λ a. IfErr a (λ n. IsRoundRefusal (error_of_node n)))) (sym e) tt
named_answer {A = A} hash_of locked p q event reply_of (Ok (Err n)) answer names c e =
    subst (λ (x : Result (Result A NodeError) ClusterError). IfOk x (λ a. IfErr a (λ n. IsRoundRefusal (error_of_node n)))) (sym e) (names c.before c.after n c.step)
named_answer {A = A} hash_of locked p q event reply_of (Err l) answer names c e =
    subst (λ (x : Result (Result A NodeError) ClusterError). IfOk x (λ a. IfErr a (λ n. IsRoundRefusal (error_of_node n)))) (sym e) tt

pub expire_names : {H : Type 0} (now : ℕ) (old new : Node H) (n : NodeError) → ExpireStep old now (Err n) new → IsRoundRefusal (error_of_node n)
expire_names {H} now old new (node.BadConfig field) h = absurd h
expire_names {H} now old new node.Exhausted h = absurd h
expire_names {H} now old new node.Full h = absurd h
expire_names {H} now old new node.AlreadyLeft h = absurd h
expire_names {H} now old new node.NotLeft h = absurd h
expire_names {H} now old new node.Busy h = absurd h
expire_names {H} now old new node.Spent h = absurd h
expire_names {H} now old new node.StaleProbe h = absurd h
expire_names {H} now old new node.NotAsked h = absurd h
expire_names {H} now old new node.Memory h = tt

pub probe_names : {H : Type 0} (old new : Node H) (n : NodeError) → ProbeStep old (Err n) new → IsRoundRefusal (error_of_node n)
probe_names {H} old new (node.BadConfig field) h = absurd h
probe_names {H} old new node.Exhausted h = absurd h
probe_names {H} old new node.Full h = absurd h
probe_names {H} old new node.AlreadyLeft h = absurd h
probe_names {H} old new node.NotLeft h = absurd h
probe_names {H} old new node.Busy h = tt
probe_names {H} old new node.Spent h = tt
probe_names {H} old new node.StaleProbe h = absurd h
probe_names {H} old new node.NotAsked h = absurd h
probe_names {H} old new node.Memory h = tt

pub acked_names : {H : Type 0} (k : ℕ) (old new : Node H) (n : NodeError) → AckedStep old k (Err n) new → IsRoundRefusal (error_of_node n)
acked_names {H} k old new (node.BadConfig field) h = absurd h
acked_names {H} k old new node.Exhausted h = absurd h
acked_names {H} k old new node.Full h = absurd h
acked_names {H} k old new node.AlreadyLeft h = absurd h
acked_names {H} k old new node.NotLeft h = absurd h
acked_names {H} k old new node.Busy h = absurd h
acked_names {H} k old new node.Spent h = absurd h
acked_names {H} k old new node.StaleProbe h = tt
acked_names {H} k old new node.NotAsked h = absurd h
acked_names {H} k old new node.Memory h = absurd h

pub lost_names : {H : Type 0} (k now : ℕ) (old new : Node H) (n : NodeError) → LostStep old k now (Err n) new → IsRoundRefusal (error_of_node n)
lost_names {H} k now old new (node.BadConfig field) h = absurd h
lost_names {H} k now old new node.Exhausted h = absurd h
lost_names {H} k now old new node.Full h = absurd h
lost_names {H} k now old new node.AlreadyLeft h = absurd h
lost_names {H} k now old new node.NotLeft h = absurd h
lost_names {H} k now old new node.Busy h = absurd h
lost_names {H} k now old new node.Spent h = absurd h
lost_names {H} k now old new node.StaleProbe h = tt
lost_names {H} k now old new node.NotAsked h = absurd h
lost_names {H} k now old new node.Memory h = tt

pub helper_names : {H : Type 0} (k h : ℕ) (s : Said) (now : ℕ) (old new : Node H) (n : NodeError) → HelperStep old k h s now (Err n) new → IsRoundRefusal (error_of_node n)
helper_names {H} k helper s now old new (node.BadConfig field) h = absurd h
helper_names {H} k helper s now old new node.Exhausted h = absurd h
helper_names {H} k helper s now old new node.Full h = absurd h
helper_names {H} k helper s now old new node.AlreadyLeft h = absurd h
helper_names {H} k helper s now old new node.NotLeft h = absurd h
helper_names {H} k helper s now old new node.Busy h = absurd h
helper_names {H} k helper s now old new node.Spent h = absurd h
helper_names {H} k helper s now old new node.StaleProbe h = tt
helper_names {H} k helper s now old new node.NotAsked h = tt
helper_names {H} k helper s now old new node.Memory h = tt
