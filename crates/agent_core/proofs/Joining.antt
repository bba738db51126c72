-- Texts of a list's items with commas between them.
use Rattle.std.proofs.Common.{◌≡◌, ℕ, ◌+◌, ◌<◌, List, [], ◌∷◌, ◌++◌, map, length, get_or, take, zero, suc, arith, refl, sym, ◌∙◌, ap, append_assoc}
use Rattle.std.specs.List.{join_with_byte}
use Rattle.std.proofs.lemmas.List.{take_more, map-append}

-- another piece comes after a separator
join_with_byte-push : (c : ℕ) (ps : List (List ℕ)) (p q : List ℕ) → join_with_byte c ((p ∷ ps) ++ q ∷ []) ≡ join_with_byte c (p ∷ ps) ++ c ∷ q
join_with_byte-push c [] p q = refl
join_with_byte-push c (r ∷ rs) p q = ap (λ z. p ++ c ∷ z) (join_with_byte-push c rs r q) ∙ sym (append_assoc p (c ∷ join_with_byte c (r ∷ rs)) (c ∷ q))

-- the first item has no comma before it
pub joined-first : {A : Type 0} (text : A → List ℕ) (xs : List A) (i : ℕ) (x : A) → i ≡ 0 → i < length xs → x ≡ get_or xs i x
    → text x ≡ join_with_byte 44 (map text (take (i + 1) xs))
joined-first text xs i x z l e =
    let t : take (i + 1) xs ≡ take i xs ++ get_or xs i x ∷ [] = take_more xs i x l in
    sym (ap (λ ys. join_with_byte 44 (map text ys)) (t ∙ ap (λ y. take i xs ++ y ∷ []) (sym e) ∙ ap (λ j. take j xs ++ x ∷ []) z))

-- a later item comes after a comma
pub joined-more : {A : Type 0} (text : A → List ℕ) (xs : List A) (i : ℕ) (x : A) → 0 < i → i < length xs → x ≡ get_or xs i x
    → join_with_byte 44 (map text (take i xs)) ++ 44 ∷ text x ≡ join_with_byte 44 (map text (take (i + 1) xs))
joined-more text [] i x p l e = absurd (omega arith)
joined-more text (y ∷ ys) zero x p l e = absurd (omega arith)
joined-more text (y ∷ ys) (suc i) x p l e =
    let t : take (suc i + 1) (y ∷ ys) ≡ take (suc i) (y ∷ ys) ++ get_or (y ∷ ys) (suc i) x ∷ [] = take_more (y ∷ ys) (suc i) x l in
    sym (ap (λ zs. join_with_byte 44 (map text zs)) (t ∙ ap (λ z. take (suc i) (y ∷ ys) ++ z ∷ []) (sym e))
    ∙ ap (join_with_byte 44) (map-append text (y ∷ take i ys) (x ∷ []))
    ∙ join_with_byte-push 44 (map text (take i ys)) (text y) (text x))

-- the items up to one, with commas between them
abbrev pub joined : {A : Type 0} → (A → List ℕ) → List A → ℕ → List ℕ
joined text xs i = join_with_byte 44 (map text (take i xs))

-- the first item is appended to the text before the list
pub grows-first : {A : Type 0} (text : A → List ℕ) (xs : List A) (i : ℕ) (x : A) (prefix old new : List ℕ) → i ≡ 0 → i < length xs → x ≡ get_or xs i x
    → old ≡ prefix ++ joined text xs i → new ≡ old ++ text x → new ≡ prefix ++ joined text xs (i + 1)
grows-first text xs i x prefix old new z l e was now =
    now ∙ ap (λ w. w ++ text x) (was ∙ ap (λ k. prefix ++ joined text xs k) z) ∙ append_assoc prefix [] (text x)
    ∙ ap (λ w. prefix ++ w) (joined-first text xs i x z l e)

-- a comma and a later item are appended
pub grows-more : {A : Type 0} (text : A → List ℕ) (xs : List A) (i : ℕ) (x : A) (prefix old new : List ℕ) → 0 < i → i < length xs → x ≡ get_or xs i x
    → old ≡ prefix ++ joined text xs i → new ≡ (old ++ 44 ∷ []) ++ text x → new ≡ prefix ++ joined text xs (i + 1)
grows-more text xs i x prefix old new p l e was now =
    now ∙ ap (λ w. (w ++ 44 ∷ []) ++ text x) was ∙ append_assoc (prefix ++ joined text xs i) (44 ∷ []) (text x)
    ∙ append_assoc prefix (joined text xs i) (44 ∷ text x)
    ∙ ap (λ w. prefix ++ w) (joined-more text xs i x p l e)
