-- An input has one fault of its own at most.
use Rattle.std.proofs.Common.{◌≡◌, ℕ, ◌+◌, List, [], ◌∷◌, ◌++◌, length, refl, sym, ap, subst, ◌∙◌, inl, inr}
use Rattle.std.specs.Prelude.{◌⊎◌}
use Rattle.change_core.specs.declared.changes.Change.{Change}
use Rattle.wire_json.proofs.OneFault.{one_fault_of_change}
use Rattle.cli_core.specs.declared.faults.LineError.{LineError}
use Rattle.cli_core.specs.declared.faults.LineError.TheVariants.{Wire, TooManyMembers, ReadFailed, OutOfMemory}
use Rattle.cli_core.specs.declared.faults.RunError.TheVariants.{AtLine}
use Rattle.cli_core.specs.Changes.{ComeTo, IsFaultAt, IsFirstFault, IsOutside}
use Rattle.wire_json.proofs.Uniqueness.{sound_line}
use Rattle.cli_core.proofs.Exact.{one_come_to, no_fault_before, outside_anywhere}

-- two ways to part a list: at one place, or one front stands before the other
prefixes : (as' bs cs ds : List (List ℕ)) → as' ++ bs ≡ cs ++ ds
    → ((as' ≡ cs) × (bs ≡ ds))
    ⊎ (((x : List ℕ) × (xs : List (List ℕ)) × (cs ≡ as' ++ x ∷ xs) × (bs ≡ x ∷ (xs ++ ds)))
    ⊎ ((x : List ℕ) × (xs : List (List ℕ)) × (as' ≡ cs ++ x ∷ xs) × (ds ≡ x ∷ (xs ++ bs))))
prefixes [] bs [] ds e = inl (refl, e)
prefixes [] bs (c ∷ cs) ds e = inr (inl (c, cs, refl, e))
prefixes (a ∷ as') bs [] ds e = inr (inr (a, as', refl, sym e))
prefixes (a ∷ as') bs (c ∷ cs) ds e =
    let first : a ≡ c = cc in
    let later : as' ++ bs ≡ cs ++ ds = cc in
    elim (prefixes as' bs cs ds later) [
      | inl (p, q) ↦ inl (cc, q)
      | inr (inl (x, xs, p, q)) ↦ inr (inl (x, xs, cc, q))
      | inr (inr (x, xs, p, q)) ↦ inr (inr (x, xs, cc, q))
    ]

-- what stands first has one fault of its own
one_fault_at : (held : List Change) (left : List (List ℕ)) (e f : LineError) → IsFaultAt held left e → IsFaultAt held left f
    → (IsOutside (AtLine 0 e) → ⊥) → (IsOutside (AtLine 0 f) → ⊥) → e ≡ f
one_fault_at held left ReadFailed f p q own other = absurd (own tt)
one_fault_at held left OutOfMemory f p q own other = absurd (own tt)
one_fault_at held left (Wire e) ReadFailed p q own other = absurd (other tt)
one_fault_at held left (Wire e) OutOfMemory p q own other = absurd (other tt)
one_fault_at held left TooManyMembers ReadFailed p q own other = absurd (other tt)
one_fault_at held left TooManyMembers OutOfMemory p q own other = absurd (other tt)
one_fault_at held [] (Wire e) (Wire f) p q own other = absurd p
one_fault_at held [] (Wire e) TooManyMembers p q own other = absurd p
one_fault_at held [] TooManyMembers (Wire f) p q own other = absurd p
one_fault_at held [] TooManyMembers TooManyMembers p q own other = refl
one_fault_at held (line ∷ lines) (Wire e) (Wire f) p q own other = ap Wire (one_fault_of_change line e f p q)
one_fault_at held (line ∷ lines) (Wire e) TooManyMembers p q own other = absurd (sound_line line q.0 e q.1 p)
one_fault_at held (line ∷ lines) TooManyMembers (Wire f) p q own other = absurd (sound_line line p.0 f p.1 q)
one_fault_at held (line ∷ lines) TooManyMembers TooManyMembers p q own other = refl

inside_anywhere : (m n : ℕ) (f : LineError) → (IsOutside (AtLine m f) → ⊥) → IsOutside (AtLine n f) → ⊥
inside_anywhere m n f own outside = own (outside_anywhere n m f outside)

-- where a fault of its own stands earlier than a line that was heard, it is none
too_early : (before left later : List (List ℕ)) (x : List ℕ) (xs : List (List ℕ)) (held now : List Change) (f : LineError) → ComeTo before held → ComeTo later now
    → later ≡ before ++ x ∷ xs → (rest : List (List ℕ)) → left ≡ x ∷ rest → IsFaultAt held left f → IsOutside (AtLine 0 f)
too_early before left later x xs held now f p q e rest first is =
    no_fault_before before (x ∷ xs) held now f p (subst (λ ls. ComeTo ls now) e q) (subst (λ ls. IsFaultAt held ls f) first is)

-- an input has one fault of its own, at one line
pub one_first_fault : (input : List ℕ) (m n : ℕ) (e f : LineError) → IsFirstFault input m e → IsFirstFault input n f
    → (IsOutside (AtLine m e) → ⊥) → (IsOutside (AtLine n f) → ⊥) → AtLine m e ≡ AtLine n f
one_first_fault input m n e f p q own other =
    elim (prefixes p.before p.left q.before q.left (sym p.lines ∙ q.lines)) [
      | inl (prefix, back) ↦
          let held : p.held ≡ q.held = one_come_to q.before p.held q.held (subst (λ ls. ComeTo ls p.held) prefix p.come_to) q.come_to in
          let is : IsFaultAt q.held q.left e = subst (λ h. IsFaultAt h q.left e) held (subst (λ ls. IsFaultAt p.held ls e) back p.is) in
          let fault : e ≡ f = one_fault_at q.held q.left e f is q.is (inside_anywhere m 0 e own) (inside_anywhere n 0 f other) in
          let line : m ≡ n = p.place ∙ ap (λ ls. length ls + 1) prefix ∙ sym q.place in
          cc
      | inr (inl (x, xs, e1, e2)) ↦ absurd (inside_anywhere m 0 e own (too_early p.before p.left q.before x xs p.held q.held e p.come_to q.come_to e1 (xs ++ q.left) e2 p.is))
      | inr (inr (x, xs, e1, e2)) ↦ absurd (inside_anywhere n 0 f other (too_early q.before q.left p.before x xs q.held p.held f q.come_to p.come_to e1 (xs ++ p.left) e2 q.is))
    ]
