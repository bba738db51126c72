-- Histories: what the entries of a pass come to as a history goes on.
use Rattle.std.proofs.Common.{◌≡◌, ◌≢◌, ℕ, cond, eq-eqb, ne_eqb, List, [], ◌∷◌, ◌++◌, map, filter, ◌==◌, sym, refl, ap, ◌∙◌}
use Rattle.std.proofs.lemmas.List.{append_assoc, append-nil, map-append}
use Rattle.std.proofs.lemmas.List.Elements.{filter-append}
use Rattle.turn_lock.specs.declared.kept.Turn.{Turn}
use Rattle.turn_lock.specs.History.{turn, entries_of, GrownBy, GoesOn}

module _ {E : Type 0} where
  pub entries_append : (n : ℕ) (xs ys : List (Turn E)) → entries_of n (xs ++ ys) ≡ entries_of n xs ++ entries_of n ys
  entries_append n xs ys = let own = λ (t : Turn E). n == t.pass in ap (map (λ (t : Turn E). t.entry)) (filter-append own xs ys) ∙ map-append (λ (t : Turn E). t.entry) (filter own xs) (filter own ys)

  -- a turn of another pass adds nothing
  pub entries_other : (n m : ℕ) (e : E) (xs : List (Turn E)) → m ≢ n → entries_of m xs ≡ [] → entries_of m (xs ++ turn n e ∷ []) ≡ []
  entries_other n m e xs other h = entries_append m xs (turn n e ∷ []) ∙ (ap (λ es. es ++ entries_of m (turn n e ∷ [])) h ∙ ap (λ b. map (λ (t : Turn E). t.entry) (cond b (turn n e ∷ []) [])) (ne_eqb m n other))

  -- what a pass made in all is what it had made and what it made since
  pub grown_entries : (n : ℕ) (es : List E) (history seen : List (Turn E)) → GrownBy n es history seen → entries_of n history ≡ entries_of n seen ++ es
  grown_entries n es history seen g = ap (entries_of n) g.1 ∙ (entries_append n seen g.0 ∙ ap (λ l. entries_of n seen ++ l) g.2)

  -- one turn of the pass
  pub grown_one : (n : ℕ) (e : E) (seen : List (Turn E)) → GrownBy n (e ∷ []) (seen ++ turn n e ∷ []) seen
  grown_one n e seen = (turn n e ∷ [], refl, ap (λ b. map (λ (t : Turn E). t.entry) (cond b (turn n e ∷ []) [])) (eq-eqb n n refl))

  pub grown_twice : (n : ℕ) (es fs : List E) (xs ys zs : List (Turn E)) → GrownBy n es ys xs → GrownBy n fs zs ys → GrownBy n (es ++ fs) zs xs
  grown_twice n es fs xs ys zs a b = (a.0 ++ b.0, b.1 ∙ (ap (λ l. l ++ b.0) a.1 ∙ append_assoc xs a.0 b.0), entries_append n a.0 b.0 ∙ (ap (λ l. l ++ entries_of n b.0) a.2 ∙ ap (λ l. es ++ l) b.2))

  pub goes_nowhere : (n : ℕ) (history : List (Turn E)) → GoesOn n history history
  goes_nowhere n history = ([], sym (append-nil history), refl)

  pub goes_on_twice : (n : ℕ) (xs ys zs : List (Turn E)) → GoesOn n ys xs → GoesOn n zs ys → GoesOn n zs xs
  goes_on_twice n = grown_twice n [] []

  -- the history goes on with a turn of another pass
  pub goes_on_past : (n m : ℕ) (e : E) (history seen : List (Turn E)) → m ≢ n → GoesOn m history seen → GoesOn m (history ++ turn n e ∷ []) seen
  goes_on_past n m e history seen other g = (g.0 ++ turn n e ∷ [], ap (λ l. l ++ turn n e ∷ []) g.1 ∙ append_assoc seen g.0 (turn n e ∷ []), entries_other n m e g.0 other g.2)

  -- the pass has no more entries than those that it had seen
  pub goes_on_entries : (n : ℕ) (history seen : List (Turn E)) → GoesOn n history seen → entries_of n history ≡ entries_of n seen
  goes_on_entries n history seen g = grown_entries n [] history seen g ∙ append-nil (entries_of n seen)
