-- What taking a batch whole leaves.
use Rattle.std.proofs.Common.{◌+◌, ◌≤◌, ◌&&◌, not, inl, inr, ◌≡◌, ◌≢◌, ℕ, Bool, true, false, cond, eqb, List, [], ◌∷◌, ◌++◌, Option, Some, None, refl, sym, ◌∙◌, ap, append_assoc, append-nil, arith}
use Rattle.std.proofs.lemmas.Bool.{eqb-true, eq-eqb, ne_eqb, and_parts}
use Rattle.change_core.specs.declared.changes.Change.{Change}
use Rattle.change_core.specs.Change.{Exceeds, exceeds}
use Rattle.change_core.specs.Members.{greatest, greater, IsMemberList}
use Rattle.change_core.specs.Status.{rank}
use Rattle.change_core.proofs.Members.{IsGreatest-greatest, greatest-AllAbove}
use Rattle.change_core.proofs.Precedence.{Exceeds-true, exceeds-true}
use Rattle.change_core.specs.Refutation.{is_refuted, refutation, refutations, log_one}
use Rattle.node_core.specs.Log.{log_given, refuted, one_if}
use Rattle.node_core.specs.Synchronisation.{TakesGreatest}
use Rattle.node_core.proofs.Greatest.{greatest-append}
use Rattle.node_core.proofs.Log.{exceeds-refutation}

-- a refutation says nothing of another
refutations-other : (own : ℕ) (g : Option Change) (c : Change) (a : ℕ) → ((held : Change) → g ≡ Some held → held.address ≡ own) → a ≢ own
    → greatest (c ∷ refutations own g c) a ≡ greatest (c ∷ []) a
refutations-other own None c a of_own h = refl
refutations-other own (Some held) c a of_own h = by_test (is_refuted own (Some held) c) (eqb held.address a) (ne_eqb held.address a (λ k. h (sym k ∙ of_own held refl)))
  where
    by_test : (b d : Bool) → d ≡ false → greatest (c ∷ cond b (refutation held c ∷ []) []) a ≡ greatest (c ∷ []) a
    by_test false d e = refl
    by_test true d e =
        ap (λ x. cond (eqb c.address a) (greater (Some c) (cond x (Some (refutation held c)) None)) (cond x (Some (refutation held c)) None))
        (ne_eqb held.address a (λ k. h (sym k ∙ of_own held refl)))

-- a refutation is past what is refuted and past what is held
pub Exceeds-refutation : (held c : Change) → Exceeds c held → Exceeds (refutation held c) held
Exceeds-refutation held c (inl h) = inl (omega arith)
Exceeds-refutation held c (inr h) = inl (omega (arith, h.0))

own_greatest : (own : ℕ) (L : List Change) (held : Change) → greatest L own ≡ Some held → held.address ≡ own
own_greatest own L held e = (IsGreatest-greatest L own held e).about

others_taken : (own : ℕ) (L cs : List Change) (a : ℕ) → a ≢ own → greatest (log_given own L cs) a ≡ greatest (L ++ cs) a
others_taken own L [] a h = ap (λ (K : List Change). greatest K a) (sym (append-nil L))
others_taken own L (c ∷ cs) a h =
    others_taken own (log_one own L c) cs a h
    ∙ greatest-append (log_one own L c) cs a
    ∙ ap (λ x. greater x (greatest cs a)) (greatest-append L (c ∷ refutations own (greatest L own) c) a ∙ ap (λ x. greater (greatest L a) x) (refutations-other own (greatest L own) c a (own_greatest own L) h) ∙ sym (greatest-append L (c ∷ []) a))
    ∙ sym (greatest-append (L ++ c ∷ []) cs a)
    ∙ ap (λ (K : List Change). greatest K a) (append_assoc L (c ∷ []) cs)

none_refuted : (own : ℕ) (g : Option Change) (c : Change) → one_if (is_refuted own g c) ≡ 0 → refutations own g c ≡ []
none_refuted own None c e = refl
none_refuted own (Some held) c e = by_test (is_refuted own (Some held) c) e
  where
    by_test : (b : Bool) → one_if b ≡ 0 → cond b (refutation held c ∷ []) [] ≡ []
    by_test true k = absurd (omega (arith, k))
    by_test false k = refl

unrefuted_taken : (own : ℕ) (L cs : List Change) → refuted own L cs ≡ 0 → log_given own L cs ≡ L ++ cs
unrefuted_taken own L [] e = sym (append-nil L)
unrefuted_taken own L (c ∷ cs) e =
    let none : refutations own (greatest L own) c ≡ [] = none_refuted own (greatest L own) c (omega (arith, e)) in
    unrefuted_taken own (log_one own L c) cs (omega (arith, e))
    ∙ ap (λ (rs : List Change). (L ++ c ∷ rs) ++ cs) none ∙ append_assoc L (c ∷ []) cs

-- what is said of another is not refuted
quiet : (own : ℕ) (c : Change) (g : Option Change) → eqb c.address own ≡ false → one_if (is_refuted own g c) ≡ 0
quiet own c None f = refl
quiet own c (Some held) f = ap (λ b. one_if (b && (exceeds c held && not (eqb (rank c.status) (rank held.status))))) f

-- where nothing is given about the node itself, nothing is refuted, and its own entry stays
none_about : (own : ℕ) (L cs : List Change) → greatest cs own ≡ None → (greatest (log_given own L cs) own ≡ greatest L own) × (refuted own L cs ≡ 0)
none_about own L [] e = (refl, refl)
none_about own L (c ∷ cs) e = by_address (eqb c.address own) refl e (λ L' k. none_about own L' cs k)
  where
    some : (o : Option Change) (X : Type 0) → greater (Some c) o ≡ None → X
    some None X k = cc
    some (Some d) X k = cc

    plain : (g : Option Change) → eqb c.address own ≡ false → refutations own g c ≡ []
    plain None f = refl
    plain (Some held) f = ap (λ b. cond (b && (exceeds c held && not (eqb (rank c.status) (rank held.status)))) (refutation held c ∷ []) []) f

    kept : (g : Option Change) → greater g None ≡ g
    kept None = refl
    kept (Some d) = refl

    by_address : (b : Bool) → eqb c.address own ≡ b → cond b (greater (Some c) (greatest cs own)) (greatest cs own) ≡ None
        → ((L' : List Change) → greatest cs own ≡ None → (greatest (log_given own L' cs) own ≡ greatest L' own) × (refuted own L' cs ≡ 0))
        → (greatest (log_given own (log_one own L c) cs) own ≡ greatest L own) × (one_if (is_refuted own (greatest L own) c) + refuted own (log_one own L c) cs ≡ 0)
    by_address true f k again = some (greatest cs own) _ k
    by_address false f k again =
        let rest = again (log_one own L c) k in (
          rest.0 ∙ ap (λ (rs : List Change). greatest (L ++ c ∷ rs) own) (plain (greatest L own) f)
              ∙ greatest-append L (c ∷ []) own ∙ ap (λ b. greater (greatest L own) (cond b (greater (Some c) None) None)) f ∙ kept (greatest L own),
          omega (arith, quiet own c (greatest L own) f, rest.1),
        )

-- of a membership at most the one change about the node itself is refuted
refuted_once : (own : ℕ) (L cs : List Change) → IsMemberList cs → refuted own L cs ≤ 1
refuted_once own L [] one = omega arith
refuted_once own L (c ∷ cs) one = by_address (eqb c.address own) refl (refuted_once own (log_one own L c) cs one.1)
  where
    low : (b : Bool) → one_if b ≤ 1
    low true = omega arith
    low false = omega arith

    by_address : (b : Bool) → eqb c.address own ≡ b → refuted own (log_one own L c) cs ≤ 1 → one_if (is_refuted own (greatest L own) c) + refuted own (log_one own L c) cs ≤ 1
    by_address true f again =
        let none : greatest cs own ≡ None = greatest-AllAbove cs own c.address (omega (arith, eqb-true c.address own f)) one.0 in
        omega (arith, low (is_refuted own (greatest L own) c), (none_about own (log_one own L c) cs none).1)
    by_address false f again = omega (arith, quiet own c (greatest L own) f, again)

-- the one change given about the node itself is refuted, and its refutation is what the node holds of itself
itself_taken : (own : ℕ) (L cs : List Change) (held c : Change) → IsMemberList cs → refuted own L cs ≡ 1 → greatest L own ≡ Some held → greatest cs own ≡ Some c
    → greatest (log_given own L cs) own ≡ Some (refutation held c)
itself_taken own L [] held c one r h g = cc
itself_taken own L (d ∷ ds) held c one r h g = by_address (eqb d.address own) refl g (λ L' p q k. itself_taken own L' ds held c one.1 p q k)
  where
    about : held.address ≡ own
    about = own_greatest own L held h

    taken : (b : Bool) → is_refuted own (Some held) d ≡ b → eqb d.address own ≡ true → greatest ds own ≡ None
        → greatest (log_given own (L ++ d ∷ cond b (refutation held d ∷ []) []) ds) own ≡ Some (refutation held d)
    taken false e f none =
        absurd (omega (arith, r, ap (λ (o : Option Change). one_if (is_refuted own o d)) h ∙ ap one_if e, (none_about own (log_one own L d) ds none).1))
    taken true e f none =
        let more = and_parts _ _ (and_parts _ _ e).1 in
        let above : Exceeds d held = Exceeds-true d held more.0 in
        let past : exceeds (refutation held d) held ≡ true = exceeds-true (refutation held d) held (Exceeds-refutation held d above) in
        let over : exceeds (refutation held d) d ≡ true = exceeds-refutation held d in
        (none_about own (L ++ d ∷ refutation held d ∷ []) ds none).0
        ∙ greatest-append L (d ∷ refutation held d ∷ []) own
        ∙ ap (λ o. greater o (greatest (d ∷ refutation held d ∷ []) own)) h
        ∙ ap (λ b. greater (Some held) (cond b (greater (Some d) (cond (eqb held.address own) (Some (refutation held d)) None)) (cond (eqb held.address own) (Some (refutation held d)) None))) f
        ∙ ap (λ b. greater (Some held) (greater (Some d) (cond b (Some (refutation held d)) None))) (eq-eqb held.address own about)
        ∙ ap (λ b. greater (Some held) (Some (cond b (refutation held d) d))) over
        ∙ ap (λ b. Some (cond b (refutation held d) held)) past

    by_address : (b : Bool) → eqb d.address own ≡ b → cond b (greater (Some d) (greatest ds own)) (greatest ds own) ≡ Some c
        → ((L' : List Change) → refuted own L' ds ≡ 1 → greatest L' own ≡ Some held → greatest ds own ≡ Some c → greatest (log_given own L' ds) own ≡ Some (refutation held c))
        → greatest (log_given own (log_one own L d) ds) own ≡ Some (refutation held c)
    by_address true f k again =
        let none : greatest ds own ≡ None = greatest-AllAbove ds own d.address (omega (arith, eqb-true d.address own f)) one.0 in
        let same : Some d ≡ Some c = sym (ap (λ o. greater (Some d) o) none) ∙ k in
        let is : d ≡ c = cc in
        ap (λ (o : Option Change). greatest (log_given own (L ++ d ∷ refutations own o d) ds) own) h
        ∙ taken (is_refuted own (Some held) d) refl f none ∙ ap (λ (x : Change). Some (refutation held x)) is
    by_address false f k again =
        let plain : refutations own (greatest L own) d ≡ []
        = ap (λ (o : Option Change). refutations own o d) h ∙ ap (λ b. cond (b && (exceeds d held && not (eqb (rank d.status) (rank held.status)))) (refutation held d ∷ []) []) f in
        let quiet : one_if (is_refuted own (greatest L own) d) ≡ 0
        = ap (λ (o : Option Change). one_if (is_refuted own o d)) h ∙ ap (λ b. one_if (b && (exceeds d held && not (eqb (rank d.status) (rank held.status))))) f in
        let still : greatest (log_one own L d) own ≡ Some held
        = ap (λ (rs : List Change). greatest (L ++ d ∷ rs) own) plain ∙ greatest-append L (d ∷ []) own
        ∙ ap (λ o. greater o (greatest (d ∷ []) own)) h ∙ ap (λ b. greater (Some held) (cond b (greater (Some d) None) None)) f in
        again (log_one own L d) (omega (arith, r, quiet)) still k

pub takes_greatest : (own : ℕ) (L cs : List Change) → TakesGreatest own L cs
takes_greatest own L cs = record {
  refuted_once = refuted_once own L cs;
  of_others = others_taken own L cs;
  unrefuted = unrefuted_taken own L cs;
  of_itself = λ held c one r h g. itself_taken own L cs held c one r h g;
}
