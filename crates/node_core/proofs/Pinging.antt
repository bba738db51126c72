-- The members that a node pings, found in its member list.
use Rattle.std.proofs.Common.{◌≡◌, ℕ, ◌+◌, ◌<◌, ◌≤◌, ◌&&◌, Bool, true, false, cond, not, eqb, List, [], ◌∷◌, ◌++◌, length, map, take, drop, refl, sym, ◌∙◌, ap, get_or, length-append, arith}
use Rattle.std.specs.List.{filter, count_by}
use Rattle.std.specs.List.Sorted.{IsStrictlyIncreasing}
use Rattle.std.proofs.lemmas.List.{append-nil, length-map, map_push, take-append-drop}
use Rattle.std.proofs.lemmas.List.Elements.{filter-append, filter_more}
use Rattle.std.proofs.lemmas.List.Filters.{length-filter_more}
use Rattle.std.proofs.lemmas.List.Sums.{length-filter}
use Rattle.change_core.specs.declared.changes.Change.{Change}
use Rattle.change_core.specs.Members.{serving, address_of_change, IsMemberList}
use Rattle.change_core.specs.Status.{is_serving}
use Rattle.change_core.proofs.Increasing.{IsStrictlyIncreasing-serving_kept}
use Rattle.change_core.proofs.Members.{members-IsMemberList}
use Rattle.detector_core.specs.Helpers.{others}

-- a serving change about another
abbrev pub is_pinged : ℕ → Change → Bool
is_pinged own c = is_serving c.status && not (eqb c.address own)

-- the addresses of those that are kept, and then of some of these
kept_addresses : (p : Change → Bool) (q : ℕ → Bool) (M : List Change)
    → filter q (map address_of_change (filter p M)) ≡ map address_of_change (filter (λ c. p c && q c.address) M)
kept_addresses p q [] = refl
kept_addresses p q (c ∷ M) = by_test (p c) (q c.address) refl (kept_addresses p q M)
  where
    by_test : (b d : Bool) → q c.address ≡ d
        → filter q (map address_of_change (filter p M)) ≡ map address_of_change (filter (λ e. p e && q e.address) M)
        → filter q (map address_of_change (cond b (c ∷ filter p M) (filter p M)))
        ≡ map address_of_change (cond (b && d) (c ∷ filter (λ e. p e && q e.address) M) (filter (λ e. p e && q e.address) M))
    by_test true true e again = ap (λ (b : Bool). cond b (c.address ∷ filter q (map address_of_change (filter p M))) (filter q (map address_of_change (filter p M)))) e
        ∙ ap (λ (xs : List ℕ). c.address ∷ xs) again
    by_test true false e again = ap (λ (b : Bool). cond b (c.address ∷ filter q (map address_of_change (filter p M))) (filter q (map address_of_change (filter p M)))) e ∙ again
    by_test false d e again = again

module _ (M : List Change) (one : IsMemberList M) (own : ℕ) where
  pub pinged_list : others (serving M) own ≡ map address_of_change (filter (is_pinged own) M)
  pinged_list =
      ap (λ (N : List Change). others (map address_of_change (filter (λ c. is_serving c.status) N)) own) (members-IsMemberList M one)
      ∙ kept_addresses (λ c. is_serving c.status) (λ a. not (eqb a own)) M

  pub pinged_count : length (others (serving M) own) ≡ count_by (is_pinged own) M
  pinged_count = ap length pinged_list ∙ length-map (filter (is_pinged own) M) address_of_change ∙ length-filter (is_pinged own) M

  -- the others that may be asked about a target
  pub asked_list : (target : ℕ) → others (others (serving M) own) target ≡ map address_of_change (filter (λ c. is_pinged own c && not (eqb c.address target)) M)
  asked_list target = ap (λ (xs : List ℕ). others xs target) pinged_list ∙ kept_addresses (is_pinged own) (λ a. not (eqb a target)) M

  pub asked_count : (target : ℕ) → length (others (others (serving M) own) target) ≡ length (filter (λ c. is_pinged own c && not (eqb c.address target)) M)
  asked_count target = ap length (asked_list target) ∙ length-map (filter (λ c. is_pinged own c && not (eqb c.address target)) M) address_of_change

pub pinged_rise : (M : List Change) (own : ℕ) → IsStrictlyIncreasing (others (serving M) own)
pinged_rise M own = IsStrictlyIncreasing-serving_kept (λ a. not (eqb a own)) M

-- what a pass over the first i members has found
pub record HasFound (own : ℕ) (M : List Change) (i : ℕ) (found : List ℕ) (len capacity : ℕ) : Type 0 where
  pub so_far : found ≡ map address_of_change (filter (is_pinged own) (take i M))
  pub len_is : len ≡ length (filter (is_pinged own) (take i M))
  pub fits : length (filter (is_pinged own) M) ≤ capacity

module _ (own : ℕ) (M : List Change) (i : ℕ) (d : Change) (found : List ℕ) (len capacity : ℕ) (within : i < length M) (h : HasFound own M i found len capacity) where
  abbrev p : Change → Bool
  p = is_pinged own

  abbrev c : Change
  c = get_or M i d

  pub found_room : p c ≡ true → len < capacity
  found_room e =
      let parts : filter p M ≡ filter p (take (i + 1) M) ++ filter p (drop (i + 1) M) = ap (filter p) (sym (take-append-drop (i + 1) M)) ∙ filter-append p (take (i + 1) M) (drop (i + 1) M) in
      let sum : length (filter p M) ≡ length (filter p (take (i + 1) M)) + length (filter p (drop (i + 1) M)) = ap length parts ∙ length-append (filter p (take (i + 1) M)) (filter p (drop (i + 1) M)) in
      let one : length (filter p (take (i + 1) M)) ≡ length (filter p (take i M)) + 1 = length-filter_more p M i d within ∙ ap (λ (b : Bool). length (filter p (take i M)) + cond b 1 0) e in
      omega (arith, h.len_is, h.fits)

  kept_more : filter p (take (i + 1) M) ≡ filter p (take i M) ++ cond (p c) (c ∷ []) []
  kept_more = filter_more p M i d within

  pub found_push : p c ≡ true → HasFound own M (i + 1) (found ++ c.address ∷ []) (len + 1) capacity
  found_push e =
      let kept : filter p (take (i + 1) M) ≡ filter p (take i M) ++ c ∷ [] = kept_more ∙ ap (λ (b : Bool). filter p (take i M) ++ cond b (c ∷ []) []) e in
      record {
        so_far = ap (λ (addresses : List ℕ). addresses ++ c.address ∷ []) h.so_far ∙ sym (map_push address_of_change (filter p (take i M)) c) ∙ ap (map address_of_change) (sym kept);
        len_is = ap (λ n. n + 1) h.len_is ∙ sym (ap length kept ∙ length-append (filter p (take i M)) (c ∷ []));
        fits = h.fits;
      }

  pub found_skip : p c ≡ false → HasFound own M (i + 1) found len capacity
  found_skip e =
      let kept : filter p (take (i + 1) M) ≡ filter p (take i M) = kept_more ∙ ap (λ (b : Bool). filter p (take i M) ++ cond b (c ∷ []) []) e ∙ append-nil (filter p (take i M)) in
      record { so_far = h.so_far ∙ ap (map address_of_change) (sym kept); len_is = h.len_is ∙ ap length (sym kept); fits = h.fits }
