-- Where a node stands among those of a script.
use Rattle.std.proofs.Common.{◌≡◌, ◌≢◌, ℕ, zero, suc, ◌+◌, ◌<◌, ◌≤◌, eqb, Bool, Option, Some, None, Result, Ok, Err, List, [], ◌∷◌, length, get_or, refl, sym, ap, ◌∙◌, arith, inl, inr, true, false}
use Rattle.std.proofs.Math.ListN.{set}
use Rattle.std.specs.Option.{IfSome}
use Rattle.std.specs.Result.{IfErr, IfOk}
use Rattle.std.proofs.lemmas.Bool.{cases_Bool, eqb-true, eqb-false}
use Rattle.std.proofs.lemmas.List.{get_or_default}
use Rattle.change_core.specs.declared.changes.Change.{Change}
use Rattle.change_core.specs.Members.{greatest}
use Rattle.change_core.proofs.Members.{IsGreatest-greatest}
use Rattle.node_core.specs.Node.{Node, Seen, or_birth, own_change}
use Rattle.cli_core.specs.declared.scripts.faults.ScriptError.{ScriptError}
use Rattle.cli_core.specs.declared.scripts.faults.ScriptError.TheVariants.{OutOfMemory}
use Rattle.cli_core.specs.Simulated.{IsPlace, GoesOn, node_at, nodes_in, with_node}

-- what a node holds of itself is of its address
pub own_change-address : {H : Type 0} (node : Node H) → (own_change node).address ≡ node.own
own_change-address node = by_held (greatest node.members node.own) refl
  where
    by_held : (o : Option Change) → greatest node.members node.own ≡ o → (or_birth node.own o).address ≡ node.own
    by_held None e = refl
    by_held (Some c) e = (IsGreatest-greatest node.members node.own c e).about

eqb_same : (m n : ℕ) → m ≡ n → eqb m n ≡ true
eqb_same m n e = grind arith

eqb_other : (m n : ℕ) → (m ≡ n → ⊥) → eqb m n ≡ false
eqb_other m n h = elim (cases_Bool (eqb m n)) [
  | inl t ↦ absurd (h (eqb-true m n t))
  | inr f ↦ f
]

-- what follows the first
later_place : {H : Type 0} (s : Seen H) (seen : List (Seen H)) (a i : ℕ) → IsPlace (s ∷ seen) a (suc i) → IsPlace seen a i
later_place s seen a i p = record {
  within = let w = p.within in omega (arith, w);
  here = λ d. p.here d;
  before = λ k d l. p.before (suc k) d (omega (arith, l));
}

pub place_node : {H : Type 0} (seen : List (Seen H)) (a i : ℕ) (d : Seen H) → IsPlace seen a i → node_at (nodes_in seen) a ≡ Some (get_or seen i d).node
place_node [] a i d p = absurd (let w = p.within in omega (arith, w))
place_node (s ∷ seen) a zero d p = rw (eqb_same s.node.own a (p.here d)) refl
place_node (s ∷ seen) a (suc i) d p = rw (eqb_other s.node.own a (p.before 0 d (omega arith))) (place_node seen a i d (later_place s seen a i p))

pub place_set : {H : Type 0} (seen : List (Seen H)) (a i : ℕ) (new : Seen H) → IsPlace seen a i → nodes_in (set seen i new) ≡ with_node (nodes_in seen) a new.node
place_set [] a i new p = absurd (let w = p.within in omega (arith, w))
place_set (s ∷ seen) a zero new p = rw (eqb_same s.node.own a (p.here new)) refl
place_set (s ∷ seen) a (suc i) new p =
    rw (eqb_other s.node.own a (p.before 0 new (omega arith))) (ap (λ ns. s.node ∷ ns) (place_set seen a i new (later_place s seen a i p)))

-- the node at a place goes on
pub place_goes : {H : Type 0} (seen : List (Seen H)) (a i : ℕ) (old new : Seen H) (P : Node H → Node H → Type 0) → IsPlace seen a i → old ≡ get_or seen i old → P old.node new.node
    → GoesOn (nodes_in seen) a P (nodes_in (set seen i new))
place_goes {H} seen a i old new P p e h =
    (old.node, new.node, place_node seen a i old p ∙ ap (λ (x : Seen H). Some x.node) (sym e), h, place_set seen a i new p)

-- and so where it answered
pub place_answers : {H X E : Type 0} (seen : List (Seen H)) (a i : ℕ) (old new : Seen H) (r : Result X E) (P : X → Node H → Node H → Type 0) → IsPlace seen a i → old ≡ get_or seen i old
    → IfOk r (λ x. P x old.node new.node) → IfOk r (λ x. GoesOn (nodes_in seen) a (P x) (nodes_in (set seen i new)))
place_answers seen a i old new (Ok x) P p e h = place_goes seen a i old new (P x) p e h
place_answers seen a i old new (Err x) P p e h = tt

-- and so where it has no memory
pub place_lacks : {H X : Type 0} (seen : List (Seen H)) (a i : ℕ) (old new : Seen H) (r : Result X ScriptError) (P : Node H → Node H → Type 0) → IsPlace seen a i → old ≡ get_or seen i old
    → IfErr r (λ f. P old.node new.node) → IfErr r (λ f. f ≡ OutOfMemory → GoesOn (nodes_in seen) a P (nodes_in (set seen i new)))
place_lacks seen a i old new (Ok x) P p e h = tt
place_lacks seen a i old new (Err f) P p e h = λ q. place_goes seen a i old new P p e h

-- the test of an address failed
pub other_address : (b : Bool) (m n p : ℕ) → b ≡ false → b ≡ eqb m n → m ≡ p → p ≡ n → ⊥
other_address b m n p f e same at = eqb-false m n (sym e ∙ f) (same ∙ at)

-- or it did not
pub that_address : (b : Bool) (m n p : ℕ) → b ≡ true → b ≡ eqb m n → m ≡ p → p ≡ n
that_address b m n p t e same = sym same ∙ eqb-true m n (sym e ∙ t)

-- none of the first ones is of the address
pub record NoneBefore {H : Type 0} (seen : List (Seen H)) (a i : ℕ) : Type 0 where
  pub other : (k : ℕ) (d : Seen H) → k < i → (get_or seen k d).node.own ≡ a → ⊥

pub none_yet : {H : Type 0} (seen : List (Seen H)) (a : ℕ) → NoneBefore seen a 0
none_yet seen a = record { other = λ k d l. absurd (omega (arith, l)) }

-- one more node that is not of the address
pub not_before : {H : Type 0} (seen : List (Seen H)) (a i : ℕ) (x : Seen H) → i < length seen → x ≡ get_or seen i x → ((own_change x.node).address ≡ a → ⊥) → NoneBefore seen a i → NoneBefore seen a (i + 1)
not_before {H} seen a i x l e other p = record {
  other = λ k d short same. elim (cases_Bool (eqb k i)) [
    | inl t ↦ let at : k ≡ i = eqb-true k i t in
        other (own_change-address x.node ∙ ap (λ (y : Seen H). y.node.own) (e ∙ get_or_default seen i x d l ∙ ap (λ n. get_or seen n d) (sym at)) ∙ same)
    | inr f ↦ let apart : k ≢ i = eqb-false k i f in p.other k d (omega (arith, short, apart)) same
  ];
}

pub found_place : {H : Type 0} (seen : List (Seen H)) (a i : ℕ) (x : Seen H) → i < length seen → x ≡ get_or seen i x → (own_change x.node).address ≡ a → NoneBefore seen a i → IsPlace seen a i
found_place {H} seen a i x l e same p = record {
  within = l;
  here = λ d. ap (λ (y : Seen H). y.node.own) (get_or_default seen i d x l ∙ sym e) ∙ sym (own_change-address x.node) ∙ same;
  before = p.other;
}

pub no_place : {H : Type 0} (seen : List (Seen H)) (a : ℕ) → NoneBefore seen a (length seen) → node_at (nodes_in seen) a ≡ None
no_place [] a p = refl
no_place (s ∷ seen) a p = rw (eqb_other s.node.own a (p.other 0 s (omega arith))) (no_place seen a (record { other = λ k d l. p.other (suc k) d (omega (arith, l)) }))

-- what the node at a place holds of itself
pub place_incarnation : {H : Type 0} (seen : List (Seen H)) (a i : ℕ) (x : Seen H) (incarnation : ℕ) → IsPlace seen a i → x ≡ get_or seen i x → incarnation ≡ (own_change x.node).incarnation
    → IfSome (node_at (nodes_in seen) a) (λ n. incarnation ≡ (own_change n).incarnation)
place_incarnation {H} seen a i x incarnation p e is =
    rw (place_node seen a i x p) (is ∙ ap (λ (y : Seen H). (own_change y.node).incarnation) e)

pub whole_before : {H : Type 0} (seen : List (Seen H)) (a i : ℕ) → length seen ≤ i → NoneBefore seen a i → NoneBefore seen a (length seen)
whole_before seen a i l p = record { other = λ k d short. p.other k d (omega (arith, l, short)) }
