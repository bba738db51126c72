-- What is in a list that is taken, mapped, found or put together.
use Rattle.std.proofs.Common.{◌≡◌, ℕ, zero, suc, ◌⊎◌, Bool, true, false, cond, eqb, List, [], ◌∷◌, Option, Some, None, refl, sym, ◌∙◌, ap, subst, inl, inr, map, take}
use Rattle.std.specs.Prelude.{filter, nat_lt}
use Rattle.std.specs.List.{filter_map, cons_option, find, Contains}
use Rattle.change_core.specs.declared.changes.Change.{Change}
use Rattle.change_core.specs.declared.changes.Sourced.{Sourced}
use Rattle.change_core.specs.Ascending.{In}
use Rattle.change_core.specs.Members.{greatest, members, addresses, IsMemberList}
use Rattle.change_core.proofs.Members.{Contains-nil, Contains-cons_cases, IsGreatest-greatest, members-IsMemberList}
use Rattle.change_core.proofs.Order.{in_filter}
use Rattle.gossip_core.specs.declared.pending.Pending.{Pending}
use Rattle.gossip_core.specs.Pending.{put_pending, fresh, below, counted, once_more, may_go_to, issued, is_issued, subject}

pub In-take : {X : Type 0} (n : ℕ) (x : X) (xs : List X) → In x (take n xs) → In x xs
In-take zero x xs h = absurd h
In-take (suc n) x [] h = h
In-take (suc n) x (y ∷ xs) (inl e) = inl e
In-take (suc n) x (y ∷ xs) (inr h) = inr (In-take n x xs h)

pub In-map : {X Y : Type 0} (f : X → Y) (y : Y) (xs : List X) → In y (map f xs) → (x : X) × In x xs × (f x ≡ y)
In-map f y [] h = absurd h
In-map f y (x ∷ xs) (inl e) = (x, inl refl, sym e)
In-map f y (x ∷ xs) (inr h) = let r = In-map f y xs h in (r.0, inr r.1, r.2)

pub In-filter_map : {X Y : Type 0} (f : X → Option Y) (y : Y) (xs : List X) → In y (filter_map f xs) → (x : X) × (f x ≡ Some y)
In-filter_map f y [] h = absurd h
In-filter_map {X} {Y} f y (x ∷ xs) h = by_option (f x) refl (λ k. In-filter_map f y xs k) h
  where
    by_option : (o : Option Y) → f x ≡ o → (In y (filter_map f xs) → (z : X) × (f z ≡ Some y)) → In y (cons_option o (filter_map f xs)) → (z : X) × (f z ≡ Some y)
    by_option None e again k = again k
    by_option (Some z) e again (inl k) = (x, e ∙ ap Some (sym k))
    by_option (Some z) e again (inr k) = again k

-- what is found is one of the list, and passes the test
pub In-find : {X : Type 0} (test : X → Bool) (x : X) (xs : List X) → find test xs ≡ Some x → In x xs × (test x ≡ true)
In-find test x [] e = cc
In-find {X} test x (y ∷ xs) e = by_test (test y) refl e (λ k. In-find test x xs k)
  where
    by_test : (b : Bool) → test y ≡ b → cond b (Some y) (find test xs) ≡ Some x → (find test xs ≡ Some x → In x xs × (test x ≡ true)) → In x (y ∷ xs) × (test x ≡ true)
    by_test true t k again = let same : y ≡ x = cc in (inl (sym same), subst (λ (z : X). test z ≡ true) same t)
    by_test false t k again = let r = again k in (inr r.0, r.1)

pub In-from_Contains : (x : Change) (xs : List Change) → Contains xs x → In x xs
In-from_Contains x [] h = Contains-nil x h
In-from_Contains x (y ∷ xs) h = elim (Contains-cons_cases y xs x h) [ inl e ↦ inl (sym e) | inr k ↦ inr (In-from_Contains x xs k) ]

-- a greatest change is one of the list, about that address
pub In-greatest : (L : List Change) (a : ℕ) (c : Change) → greatest L a ≡ Some c → In c L
In-greatest L a c h = In-from_Contains c L (IsGreatest-greatest L a c h).listed

pub address-greatest : (L : List Change) (a : ℕ) (c : Change) → greatest L a ≡ Some c → c.address ≡ a
address-greatest L a c h = (IsGreatest-greatest L a c h).about

-- a member is one of the list
pub In-members : (L : List Change) (c : Change) → In c (members L) → In c L
In-members L c h = let r = In-filter_map (greatest L) c (addresses L) h in In-greatest L r.0 c r.1

-- a member is the greatest about its address
pub greatest-member : (M : List Change) (c : Change) → IsMemberList M → In c M → greatest M c.address ≡ Some c
greatest-member M c one h =
    let r = In-filter_map (greatest M) c (addresses M) (subst (λ (L : List Change). In c L) (sym (members-IsMemberList M one)) h) in
    subst (λ (a : ℕ). greatest M a ≡ Some c) (sym (address-greatest M r.0 c r.1)) r.1

-- what is pending after a change was put
pub In-put : (ps : List Pending) (s : Sourced) (p : Pending) → In p (put_pending ps s) → (p ≡ fresh s) ⊎ In p ps
In-put [] s p h = h
In-put (q ∷ ps) s p h = by_address (eqb s.change.address (subject q)) (λ k. In-put ps s p k) h
  where
    by_address : (b : Bool) → (In p (put_pending ps s) → (p ≡ fresh s) ⊎ In p ps) → In p (cond b (fresh s ∷ ps) (q ∷ put_pending ps s)) → (p ≡ fresh s) ⊎ In p (q ∷ ps)
    by_address true again (inl e) = inl e
    by_address true again (inr k) = inr (inr k)
    by_address false again (inl e) = inr (inl e)
    by_address false again (inr k) = elim (again k) [ inl e ↦ inl e | inr l ↦ inr (inr l) ]

-- what is pending after an issue was pending before
pub In-counted : (target k : ℕ) (ps : List Pending) (p : Pending) → In p (counted target k ps) → (q : Pending) × In q ps × (q.sourced ≡ p.sourced)
In-counted target k ps p h =
    let r = In-map (λ (q : Pending). cond (is_issued target k ps q) (once_more q) q) p ps h in
    (r.0, r.1, same (is_issued target k ps r.0) r.0 ∙ ap (λ (q : Pending). q.sourced) r.2)
  where
    same : (b : Bool) (q : Pending) → q.sourced ≡ (cond b (once_more q) q).sourced
    same true q = refl
    same false q = refl

pub In-issued : (target k : ℕ) (ps : List Pending) (s : Sourced) → In s (issued target k ps) → (p : Pending) × In p ps × (p.sourced ≡ s)
In-issued target k ps s h =
    let r = In-map (λ (p : Pending). p.sourced) s (take k (filter (may_go_to target) ps)) h in
    (r.0, (in_filter (may_go_to target) r.0 ps (In-take k r.0 (filter (may_go_to target) ps) r.1)).0, r.2)

pub In-below : (limit : ℕ) (ps : List Pending) (p : Pending) → In p (below limit ps) → In p ps
In-below limit ps p h = (in_filter (λ (q : Pending). nat_lt q.count limit) p ps h).0
