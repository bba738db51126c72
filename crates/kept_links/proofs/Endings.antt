-- When bytes are the end of a marked line and its newline.
use Rattle.std.proofs.Common.{arith, ◌≡◌, ◌≢◌, ◌≤◌, ◌-◌, ◌↔◌, ℕ, Bool, true, false, not, IsTrue, nat_eq, List, [], ◌∷◌, ◌++◌, All, length, take, drop, slice_index_or, sym, ◌∙◌, ap, subst, eqb-true, eq-eqb, true≢false}
use Rattle.std.specs.List.{IsAnyAnswer}
use Rattle.std.specs.Cmp.Lexicographic.{pointwise, same_text}
use Rattle.std.proofs.lemmas.List.{append_cancel_right, take-append-drop}
use Rattle.kept_links.specs.Marks.{IsMarked}

-- bytes whose last two are the mark and a newline are what stands before them, and these
parted : (bytes line : List ℕ) → pointwise nat_eq (drop (length bytes - 2) bytes) (32 ∷ 10 ∷ []) ≡ true → line ≡ take (length bytes - 2) bytes
    → bytes ≡ line ++ 32 ∷ 10 ∷ []
parted bytes line same is =
    sym (take-append-drop (length bytes - 2) bytes)
    ∙ ap (λ (l : List ℕ). take (length bytes - 2) bytes ++ l) (same_text (drop (length bytes - 2) bytes) (32 ∷ 10 ∷ []) (sym same))
    ∙ ap (λ (l : List ℕ). l ++ 32 ∷ 10 ∷ []) (sym is)

-- they are the end of a marked line if and only if no newline stands before them
unbroken : (bytes line : List ℕ) (r : Bool) → bytes ≡ line ++ 32 ∷ 10 ∷ [] → IsAnyAnswer (λ y t. nat_eq y 10 ≡ t) line r → IsTrue (not r) ↔ IsMarked bytes
unbroken bytes line true is any = (
  λ no. absurd (true≢false (sym no)),
  λ marked.
      let same : line ≡ marked.0 = append_cancel_right line marked.0 (32 ∷ 10 ∷ []) (sym is ∙ marked.1) in
      let free : All (λ x. x ≢ 10) line = subst (λ (l : List ℕ). All (λ x. x ≢ 10) l) (sym same) marked.2 in
      absurd (free any.0 0 any.1 (eqb-true (slice_index_or line any.0 0) 10 (any.2 0))),
)
unbroken bytes line false is any = (
  λ yes. (
    line,
    is,
    λ k d low is-newline.
        let least : 0 ≤ k = omega arith in
        absurd (true≢false (sym (eq-eqb (slice_index_or line k d) 10 is-newline) ∙ any k d least low)),
  ),
  λ marked. search,
)

pub marked_iff : (bytes line : List ℕ) (r : Bool) → pointwise nat_eq (drop (length bytes - 2) bytes) (32 ∷ 10 ∷ []) ≡ true → line ≡ take (length bytes - 2) bytes
    → IsAnyAnswer (λ y t. nat_eq y 10 ≡ t) line r → IsTrue (not r) ↔ IsMarked bytes
marked_iff bytes line r same is any = unbroken bytes line r (parted bytes line same is) any
