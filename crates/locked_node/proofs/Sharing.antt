-- The passes of a node that is shared: one of them is taken for its rounds.
use Rattle.std.proofs.Common.{◌≡◌, ℕ, ◌+◌, arith, length-append, sym, ap, ◌∙◌, subst, List, [], ◌∷◌, ◌++◌, length, map, Option, Some, All}
use Rattle.std.specs.Prelude.{option_to_list}
use Rattle.std.specs.List.{range_with_len}
use Rattle.std.proofs.lemmas.List.{length-map}
use Rattle.std.proofs.lemmas.List.Elements.{All-pop, All-weaker}
use Rattle.std.proofs.lemmas.List.FromFn.{length-range_with_len}
use Rattle.turn_lock.specs.Passes.{lock_name, number_of}
use Rattle.locked_node.specs.declared.node.LockedNode.{LockedNode}
use Rattle.locked_node.specs.Passes.{NodePass, AreAll, AreOwn, Fits, IsNew, name_of, passes_of}

module _ {H : Type 0} where
  -- the passes of a node after the last of them is taken
  pub record Shared (locked : LockedNode H) (turns n : ℕ) (rest : List (NodePass H)) (last : NodePass H) : Type 0 where
    pub fits : Fits locked last × All (Fits locked) rest
    pub count : length rest + 1 ≡ n
    pub all : AreAll locked (rest ++ last ∷ [])
    pub fresh : All (IsNew locked turns) (rest ++ last ∷ [])

  pub shares : (locked : LockedNode H) (turns n : ℕ) (passes rest : List (NodePass H)) (r : Option (NodePass H)) (p : NodePass H)
      → All (IsNew locked turns) passes → map number_of passes ≡ range_with_len 0 n → passes_of locked ≡ n
      → passes ≡ rest ++ option_to_list r → r ≡ Some p → Shared locked turns n rest p
  shares locked turns n passes rest r p news numbers count eq is =
      let taken : passes ≡ rest ++ p ∷ [] = subst (λ (x : Option (NodePass H)). passes ≡ rest ++ option_to_list x) is eq in
      let fit : All (Fits locked) passes = All-weaker (IsNew locked turns) (Fits locked) (λ q new same. new.0) passes news in
      let both : All (Fits locked) rest × Fits locked p = All-pop (Fits locked) passes rest (Some p) taken fit in
      let own : AreOwn locked passes = All-weaker (IsNew locked turns) (λ (q : NodePass H). lock_name q ≡ name_of locked) (λ q new. new.1) passes news in
      let long : length passes ≡ n = sym (length-map passes number_of) ∙ ap length numbers ∙ length-range_with_len 0 n in
      let cut : length passes ≡ length rest + 1 = ap length taken ∙ length-append rest (p ∷ []) in
      record {
        fits = (both.1, both.0);
        count = sym cut ∙ long;
        all = subst (λ (xs : List (NodePass H)). AreAll locked xs) taken (own, numbers ∙ ap (λ (k : ℕ). range_with_len 0 k) (sym count));
        fresh = subst (λ (xs : List (NodePass H)). All (IsNew locked turns) xs) taken news;
      }

  -- there is a pass to be taken
  pub some_shared : (n : ℕ) (passes : List (NodePass H)) → map number_of passes ≡ range_with_len 0 (n + 1) → length passes ≡ 0 → ⊥
  some_shared n passes numbers none =
      let long : length passes ≡ n + 1 = sym (length-map passes number_of) ∙ ap length numbers ∙ length-range_with_len 0 (n + 1) in omega arith
