-- Parts of a call, one after the other.
use Rattle.std.proofs.Common.{◌≡◌, ℕ, refl, sym, ap, ◌∙◌, subst, inl, inr, Result, Ok, Err, List, [], ◌++◌, append_assoc}
use Rattle.std.specs.Prelude.{IfOk, IfErr, IsErrAnd}
use Rattle.node_core.specs.declared.errors.NodeError.{NodeError}
use Rattle.node_core.specs.declared.errors.NodeError.TheVariants as node
use Rattle.node_core.specs.declared.events.Event.{Event}
use Rattle.node_core.specs.declared.events.Reply.{Reply}
use Rattle.node_core.specs.Calls.{OfEvent, WithReply}
use Rattle.turn_lock.specs.declared.errors.LockError.{LockError}
use Rattle.turn_lock.specs.declared.errors.LockError.TheVariants as lock
use Rattle.locked_node.specs.declared.node.LockedNode.{LockedNode}
use Rattle.locked_node.specs.Passes.{NodePass, IsCalled, Refuses}
use Rattle.peer_core.specs.declared.errors.ClusterError.{ClusterError}
use Rattle.peer_core.specs.declared.errors.ClusterError.TheVariants as error
use Rattle.peer_core.specs.declared.hearing.Heard.{Heard}
use Rattle.peer_core.specs.Acts.{Act, OfActs, Nothing, Makes}
use Rattle.peer_core.specs.Errors.{error_of_lock, error_of_node}
use Rattle.peer_core.specs.Parts.{Part, IsOfLock, Turn, onward, ended, let_in, allowed, Calls, Tries, Asks, Gives, Fails, Next, Until, Bars, Does}
use Rattle.peer_core.proofs.Acts.{makes_none, makes_one, makes_then, makes_as}

one_lock : (k l : LockError) → error_of_lock k ≡ error_of_lock l → k ≡ l
one_lock lock.ForeignPass lock.ForeignPass e = refl
one_lock lock.ForeignPass lock.PassSpent e = cc
one_lock lock.PassSpent lock.ForeignPass e = cc
one_lock lock.PassSpent lock.PassSpent e = refl

not_lock : (n : NodeError) (l : LockError) → error_of_node n ≡ error_of_lock l → ⊥
not_lock (node.BadConfig field) lock.ForeignPass e = cc
not_lock (node.BadConfig field) lock.PassSpent e = cc
not_lock node.Exhausted lock.ForeignPass e = cc
not_lock node.Exhausted lock.PassSpent e = cc
not_lock node.Full lock.ForeignPass e = cc
not_lock node.Full lock.PassSpent e = cc
not_lock node.AlreadyLeft lock.ForeignPass e = cc
not_lock node.AlreadyLeft lock.PassSpent e = cc
not_lock node.NotLeft lock.ForeignPass e = cc
not_lock node.NotLeft lock.PassSpent e = cc
not_lock node.Busy lock.ForeignPass e = cc
not_lock node.Busy lock.PassSpent e = cc
not_lock node.Spent lock.ForeignPass e = cc
not_lock node.Spent lock.PassSpent e = cc
not_lock node.StaleProbe lock.ForeignPass e = cc
not_lock node.StaleProbe lock.PassSpent e = cc
not_lock node.NotAsked lock.ForeignPass e = cc
not_lock node.NotAsked lock.PassSpent e = cc
not_lock node.Memory lock.ForeignPass e = cc
not_lock node.Memory lock.PassSpent e = cc

not_memory : (l : LockError) → error.Memory ≡ error_of_lock l → ⊥
not_memory lock.ForeignPass e = cc
not_memory lock.PassSpent e = cc

module _ {H : Type 0} where
  bars_lock : (locked : LockedNode H) (p : NodePass H) (l : LockError) → Refuses locked p l → Bars locked p (error_of_lock l)
  bars_lock locked p l h = λ k e. subst (λ (x : LockError). Refuses locked p x) (one_lock l k e) h

  pub bars_node : (locked : LockedNode H) (p : NodePass H) (n : NodeError) → Bars locked p (error_of_node n)
  bars_node locked p n = λ l e. absurd (not_lock n l e)

  -- the lock refused a call, and nothing was done
  pub locked_out : {A : Type 0} {locked : LockedNode H} {p q : NodePass H} (P : Part H A) (l : LockError)
      → (q ≡ p) × Refuses locked p l → ((acts : List (Act H)) → Nothing acts × IsOfLock (error_of_lock l) → P (Err (error_of_lock l)) acts)
      → Does locked P (Err (error_of_lock l)) p q
  locked_out {locked = locked} {p = p} {q = q} P l h f =
      subst (λ (x : NodePass H). Does locked P (Err (error_of_lock l)) p x) (sym h.0)
      (record { makes = makes_as (P (Err (error_of_lock l))) (λ acts n. f acts (n, (l, refl))) (makes_none locked p); barred = bars_lock locked p l h.1 })

  -- a call that was answered, and a question that was heard
  pub did_call : {A : Type 0} {hash_of : H → List ℕ → ℕ} {locked : LockedNode H} {p q : NodePass H} (event : Event) (reply_of : A → Reply) (a : A)
      → IsCalled hash_of locked p q (OfEvent event) (WithReply (reply_of a)) → Does locked (Calls event reply_of) (Ok a) p q
  did_call event reply_of a c = record { makes = makes_one c; barred = tt }

  pub did_ask : {locked : LockedNode H} {p q : NodePass H} (Asked : Heard → OfActs H) (heard : Heard)
      → Makes locked (Asked heard) p q → Does locked (Asks Asked) (Ok heard) p q
  did_ask Asked heard m = record { makes = m; barred = tt }

  -- and the same where the lock refused it
  pub barred_call : {A : Type 0} {locked : LockedNode H} {p q : NodePass H} (event : Event) (reply_of : A → Reply) (l : LockError)
      → (q ≡ p) × Refuses locked p l → Does locked (Calls event reply_of) (Err (error_of_lock l)) p q
  barred_call event reply_of l h = locked_out (Calls event reply_of) l h (λ acts n. n)

  pub barred_ask : {locked : LockedNode H} {p q : NodePass H} (Asked : Heard → OfActs H) (l : LockError)
      → (q ≡ p) × Refuses locked p l → Does locked (Asks Asked) (Err (error_of_lock l)) p q
  barred_ask Asked l h = locked_out (Asks Asked) l h (λ acts n. n)

  -- a call that the lock alone may refuse is a step
  pub does_call : {A : Type 0} (hash_of : H → List ℕ → ℕ) {locked : LockedNode H} {p q : NodePass H} (event : Event) (reply_of : A → Reply) (r : Result A LockError)
      → IfOk r (λ a. IsCalled hash_of locked p q (OfEvent event) (WithReply (reply_of a)))
      → IfErr r (λ e. (q ≡ p) × Refuses locked p e) → Does locked (Calls event reply_of) (let_in r) p q
  does_call hash_of event reply_of (Ok a) c h = record { makes = makes_one c; barred = tt }
  does_call hash_of event reply_of (Err l) c h = locked_out (Calls event reply_of) l h (λ acts n. n)

  -- and so is one that the node may refuse
  pub does_try : {A : Type 0} (hash_of : H → List ℕ → ℕ) {locked : LockedNode H} {p q : NodePass H} (event : Event) (reply_of : Result A NodeError → Reply)
      (r : Result (Result A NodeError) LockError)
      → IfOk r (λ a. IsCalled hash_of locked p q (OfEvent event) (WithReply (reply_of a)))
      → IfErr r (λ e. (q ≡ p) × Refuses locked p e) → Does locked (Tries event reply_of) (allowed r) p q
  does_try hash_of event reply_of (Ok (Ok a)) c h = record { makes = makes_one c; barred = tt }
  does_try hash_of {locked = locked} {q = q} event reply_of (Ok (Err n)) c h = record {
    makes = makes_as (Tries event reply_of (Err (error_of_node n))) (λ acts j. inr (n, j, refl)) (makes_one c);
    barred = bars_node locked q n;
  }
  does_try hash_of event reply_of (Err l) c h = locked_out (Tries event reply_of) l h (λ acts n. inl n)

  -- and so is a question to another node
  pub does_ask : {locked : LockedNode H} {p q : NodePass H} (Asked : Heard → OfActs H) (r : Result Heard LockError)
      → IfOk r (λ heard. Makes locked (Asked heard) p q) → IfErr r (λ e. (q ≡ p) × Refuses locked p e) → Does locked (Asks Asked) (let_in r) p q
  does_ask Asked (Ok heard) c h = record { makes = c; barred = tt }
  does_ask Asked (Err l) c h = locked_out (Asks Asked) l h (λ acts n. n)

  pub does_as : {A : Type 0} {locked : LockedNode H} {P : Part H A} {r s : Result A ClusterError} {p q : NodePass H} → s ≡ r → Does locked P r p q → Does locked P s p q
  does_as {A = A} {locked = locked} {P = P} {p = p} {q = q} e d = subst (λ (x : Result A ClusterError). Does locked P x p q) (sym e) d

  -- the same acts, as those of another part
  pub does_part : {A : Type 0} {locked : LockedNode H} {P : Part H A} {r : Result A ClusterError} {p q : NodePass H} (Q : Part H A)
      → ((acts : List (Act H)) → P r acts → Q r acts) → Does locked P r p q → Does locked Q r p q
  does_part {r = r} Q f d = record { makes = makes_as (Q r) f d.makes; barred = d.barred }

  -- what is without a call
  pub does_quiet : {A : Type 0} (P : Part H A) (locked : LockedNode H) (p : NodePass H) (r : Result A ClusterError)
      → P r [] → IfErr r (Bars locked p) → Does locked P r p p
  does_quiet P locked p r h bars = record {
    makes = makes_as (P r) (λ acts n. subst (λ (xs : List (Act H)). P r xs) (sym n) h) (makes_none locked p);
    barred = bars;
  }

  -- a refusal of which no lock's refusal has it
  pub bars_none : (Why : ClusterError → Type 0) (locked : LockedNode H) (p : NodePass H) (e : ClusterError)
      → ((l : LockError) → Why (error_of_lock l) → ⊥) → Why e → Bars locked p e
  bars_none Why locked p e none h = λ l is. absurd (none l (subst Why is h))

  -- what a refusal is passed on as
  pub does_as_refused : {A : Type 0} {locked : LockedNode H} {P : Part H A} {p q : NodePass H} (r : Result A ClusterError) (e : ClusterError)
      → IsErrAnd r (λ x. x ≡ e) → Does locked P (Err e) p q → Does locked P r p q
  does_as_refused (Ok a) e is d = absurd is
  does_as_refused (Err x) e is d = does_as (ap Err is) d

  -- an answer without a call
  pub does_give : {A : Type 0} (locked : LockedNode H) (p : NodePass H) (a : A) → Does locked (Gives a) (Ok a) p p
  does_give locked p a = record { makes = makes_as (Gives a (Ok a)) (λ acts n. (n, refl)) (makes_none locked p); barred = tt }

  pub does_fail : {A : Type 0} (locked : LockedNode H) (p : NodePass H) (e : ClusterError) → Bars locked p e → Does {A = A} locked (Fails e) (Err e) p p
  does_fail locked p e h = record { makes = makes_as (Fails e (Err e)) (λ acts n. (n, refl)) (makes_none locked p); barred = h }

  -- after these acts the second part is what is left of the first
  abbrev pub Leaves : {A : Type 0} → Part H A → Part H A → OfActs H
  Leaves {A} P Q acts = (r : Result A ClusterError) (rest : List (Act H)) → Q r rest → P r (acts ++ rest)

  -- So much of the first part was done that the second is what is left of it.
  pub record Leads {A : Type 0} (locked : LockedNode H) (P Q : Part H A) (old new : NodePass H) : Type 0 where
    pub makes : Makes locked (Leaves P Q) old new

  pub leads_none : {A : Type 0} (locked : LockedNode H) (p : NodePass H) (P : Part H A) → Leads locked P P p p
  leads_none {A} locked p P = record {
    makes = makes_as (Leaves P P) (λ acts e r rest h. subst (λ (xs : List (Act H)). P r (xs ++ rest)) (sym e) h) (makes_none locked p);
  }

  pub leads_then : {A : Type 0} {locked : LockedNode H} {P Q R : Part H A} {p q s : NodePass H} → Leads locked P Q p q → Leads locked Q R q s → Leads locked P R p s
  leads_then {P = P} {R = R} a b = record {
    makes = makes_as (Leaves P R)
        (λ acts t r rest h. subst (λ (xs : List (Act H)). P r xs) (sym (ap (λ (xs : List (Act H)). xs ++ rest) t.2 ∙ append_assoc t.0 t.1 rest)) (t.3 r (t.1 ++ rest) (t.4 r rest h)))
        (makes_then a.makes b.makes);
  }

  -- what is left was done, and so was all
  pub does_left : {A : Type 0} {locked : LockedNode H} {P Q : Part H A} {r : Result A ClusterError} {p q s : NodePass H}
      → Leads locked P Q p q → Does locked Q r q s → Does locked P r p s
  does_left {P = P} {r = r} a d = record {
    makes = makes_as (P r) (λ acts t. subst (λ (xs : List (Act H)). P r xs) (sym t.2) (t.3 r t.1 t.4)) (makes_then a.makes d.makes);
    barred = d.barred;
  }

  -- one part, and then another
  pub leads_rest : {A B : Type 0} {locked : LockedNode H} {p q : NodePass H} (First : Part H A) (Rest : A → Part H B) (a : A)
      → Does locked First (Ok a) p q → Leads locked (Next First Rest) (Rest a) p q
  leads_rest First Rest a d = record { makes = makes_as (Leaves (Next First Rest) (Rest a)) (λ acts h r rest k. inr (a, (acts, rest, refl, h, k))) d.makes }

  pub does_next : {A B : Type 0} {locked : LockedNode H} {p q s : NodePass H} (First : Part H A) (Rest : A → Part H B) (a : A) (r : Result B ClusterError)
      → Does locked First (Ok a) p q → Does locked (Rest a) r q s → Does locked (Next First Rest) r p s
  does_next First Rest a r d f = does_left (leads_rest First Rest a d) f

  -- a part that was refused is the last
  pub does_stop : {A B : Type 0} {locked : LockedNode H} {p q : NodePass H} (First : Part H A) (Rest : A → Part H B) (e : ClusterError)
      → Does locked First (Err e) p q → Does locked (Next First Rest) (Err e) p q
  does_stop First Rest e d = record { makes = makes_as (Next First Rest (Err e)) (λ acts t. inl t) d.makes; barred = d.barred }

  -- the same of what its refusal is passed on as
  pub does_stop_at : {A B : Type 0} {locked : LockedNode H} {p q : NodePass H} (First : Part H A) (Rest : A → Part H B) (e : ClusterError) (r : Result B ClusterError)
      → IsErrAnd r (λ x. x ≡ e) → Does locked First (Err e) p q → Does locked (Next First Rest) r p q
  does_stop_at First Rest e (Ok b) h d = absurd h
  does_stop_at First Rest e (Err x) h d = does_as (ap Err h) (does_stop First Rest e d)

  -- and of a refusal of the lock's
  pub does_stop_locked : {A B : Type 0} {locked : LockedNode H} {p q : NodePass H} (First : Part H A) (Rest : A → Part H B) (l : LockError) (r : Result B LockError)
      → IsErrAnd r (λ x. x ≡ l) → Does locked First (Err (error_of_lock l)) p q → Does locked (Next First Rest) (let_in r) p q
  does_stop_locked First Rest l (Ok b) h d = absurd h
  does_stop_locked First Rest l (Err x) h d = does_as (ap (λ (k : LockError). Err (error_of_lock k)) h) (does_stop First Rest (error_of_lock l) d)

  -- an answer that is known to be this one
  pub does_next_is : {A B : Type 0} {locked : LockedNode H} {p q s : NodePass H} (First : Part H A) (Rest : A → Part H B) (a b : A) (r : Result B ClusterError)
      → Does locked First (Ok a) p q → a ≡ b → Does locked (Rest b) r q s → Does locked (Next First Rest) r p s
  does_next_is {A = A} {locked = locked} {q = q} {s = s} First Rest a b r d e f =
      does_next First Rest a r d (subst (λ (x : A). Does locked (Rest x) r q s) (sym e) f)

  pub does_fail_memory : {A : Type 0} (locked : LockedNode H) (p : NodePass H) → Does {A = A} locked (Fails error.Memory) (Err error.Memory) p p
  does_fail_memory locked p = does_fail locked p error.Memory (λ l e. absurd (not_memory l e))

  -- a step after which it goes on
  pub leads_turn : {S X A : Type 0} {locked : LockedNode H} {p q : NodePass H} (Step : S → Part H X) (way : X → Turn S A) (s t : S) (x : X)
      → Does locked (Step s) (Ok x) p q → way x ≡ onward t → Leads locked (Until Step way s) (Until Step way t) p q
  leads_turn Step way s t x d e = record { makes = makes_as (Leaves (Until Step way s) (Until Step way t)) (λ acts h r rest k. Until.goes_on x t h e k) d.makes }

  -- a step that is completed, or is refused
  pub does_end : {S X A : Type 0} {locked : LockedNode H} {p q : NodePass H} (Step : S → Part H X) (way : X → Turn S A) (s : S) (x : X) (a : A)
      → Does locked (Step s) (Ok x) p q → way x ≡ ended a → Does locked (Until Step way s) (Ok a) p q
  does_end Step way s x a d e = record { makes = makes_as (Until Step way s (Ok a)) (λ acts h. Until.ends x a h e) d.makes; barred = tt }

  pub does_stop_turn : {S X A : Type 0} {locked : LockedNode H} {p q : NodePass H} (Step : S → Part H X) (way : X → Turn S A) (s : S) (e : ClusterError)
      → Does locked (Step s) (Err e) p q → Does locked (Until Step way s) (Err e) p q
  does_stop_turn Step way s e d = record { makes = makes_as (Until Step way s (Err e)) (λ acts h. Until.stops e h) d.makes; barred = d.barred }

  pub does_stop_turn_at : {S X A : Type 0} {locked : LockedNode H} {p q : NodePass H} (Step : S → Part H X) (way : X → Turn S A) (s : S) (e : ClusterError) (r : Result A ClusterError)
      → IsErrAnd r (λ x. x ≡ e) → Does locked (Step s) (Err e) p q → Does locked (Until Step way s) r p q
  does_stop_turn_at Step way s e (Ok b) h d = absurd h
  does_stop_turn_at Step way s e (Err x) h d = does_as (ap Err h) (does_stop_turn Step way s e d)
