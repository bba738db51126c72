-- A log with what was given holds what it held and what was given, so nothing given exceeds what it comes to.
use Rattle.std.proofs.Common.{◌≡◌, ◌⊎◌, subst, ℕ, Bool, true, false, cond, eqb, ◌&&◌, not, List, [], ◌∷◌, ◌++◌, Option, Some, None, refl, sym, ◌∙◌, ap, inl, inr, append_assoc, append-nil}
use Rattle.std.specs.List.{Contains}
use Rattle.std.proofs.lemmas.Bool.{eqb-true}
use Rattle.std.proofs.lemmas.List.Elements.{Contains-append_left, Contains-append_right, Contains-append_cases}
use Rattle.change_core.specs.declared.changes.Change.{Change}
use Rattle.change_core.specs.Change.{Exceeds, exceeds}
use Rattle.change_core.specs.Members.{greatest, greater}
use Rattle.change_core.specs.Refutation.{refutation, refutations, is_refuted, log_one}
use Rattle.change_core.specs.Status.{rank}
use Rattle.change_core.proofs.Members.{Contains-nil, Contains-here, Contains-there, Contains-cons_cases, greatest-append, greatest-same, IsGreatest-greatest, unnamed-greatest}
use Rattle.change_core.proofs.Precedence.{exceeds-false}
use Rattle.change_core.proofs.SameChanges.{HaveSameChanges-swapped}
use Rattle.node_core.specs.Log.{log_given}

-- a log keeps what it held
pub log_given-old : (own : ℕ) (L cs : List Change) (d : Change) → Contains L d → Contains (log_given own L cs) d
log_given-old own L [] d h = h
log_given-old own L (c ∷ cs) d h = log_given-old own (log_one own L c) cs d (Contains-append_left L (c ∷ refutations own (greatest L own) c) d h)

-- and holds what was given
pub log_given-given : (own : ℕ) (L cs : List Change) (d : Change) → Contains cs d → Contains (log_given own L cs) d
log_given-given own L [] d h = absurd (Contains-nil d h)
log_given-given own L (c ∷ cs) d h = by_place (Contains-cons_cases c cs d h) (λ k. log_given-given own (log_one own L c) cs d k)
  where
    rs : List Change
    rs = refutations own (greatest L own) c

    by_place : (c ≡ d) ⊎ Contains cs d → (Contains cs d → Contains (log_given own (log_one own L c) cs) d) → Contains (log_given own (log_one own L c) cs) d
    by_place (inl e) again = log_given-old own (log_one own L c) cs d (subst (λ (x : Change). Contains (log_one own L c) x) e (Contains-append_right L (c ∷ rs) c (Contains-here c rs)))
    by_place (inr k) again = again k

-- what a list holds already adds nothing to it
pub greatest-held : (L K : List Change) (a : ℕ) → ((c : Change) → Contains K c → Contains L c) → greatest (L ++ K) a ≡ greatest L a
greatest-held L K a held = greatest-same (L ++ K) L a (record {
  to = λ c h. elim (Contains-append_cases L K c h) [ inl l ↦ l | inr r ↦ held c r ];
  from = λ c h. Contains-append_left L K c h;
})

-- in either order
pub greatest-swapped : (L K : List Change) (a : ℕ) → greatest (L ++ K) a ≡ greatest (K ++ L) a
greatest-swapped L K a = greatest-same (L ++ K) (K ++ L) a (HaveSameChanges-swapped L K)

-- what a log comes to is exceeded by nothing that was given
pub greatest-log_given : (own : ℕ) (L cs : List Change) (a : ℕ) → greatest (log_given own L cs ++ cs) a ≡ greatest (log_given own L cs) a
greatest-log_given own L cs a = greatest-held (log_given own L cs) cs a (log_given-given own L cs)

-- what is held of an address, it is still
pub greatest-still : (L K : List Change) (a : ℕ) (held : Change) → ((c : Change) → Contains L c → Contains K c) → greatest L a ≡ Some held
    → (now : Change) × (greatest K a ≡ Some now)
greatest-still L K a held kept e = by_value (greatest K a) refl
  where
    by_value : (o : Option Change) → greatest K a ≡ o → (now : Change) × (greatest K a ≡ Some now)
    by_value None n =
        let is = IsGreatest-greatest L a held e in
        absurd (unnamed-greatest K a n held (kept held is.listed) is.about)
    by_value (Some now) s = (now, s)

-- a change that is about another, or does not exceed what is held, is not refuted
unrefuted : (own : ℕ) (held c : Change) → (c.address ≡ own → Exceeds c held → ⊥) → is_refuted own (Some held) c ≡ false
unrefuted own held c quiet = by_address (eqb c.address own) refl
  where
    by_address : (b : Bool) → eqb c.address own ≡ b → (b && (exceeds c held && not (eqb (rank c.status) (rank held.status)))) ≡ false
    by_address false f = refl
    by_address true t = ap (λ b. b && not (eqb (rank c.status) (rank held.status))) (exceeds-false c held (quiet (eqb-true c.address own t)))

-- and leaves what is held of the node itself
own_stays : (own : ℕ) (L : List Change) (held c : Change) → greatest L own ≡ Some held → (c.address ≡ own → Exceeds c held → ⊥) → greatest (L ++ c ∷ []) own ≡ Some held
own_stays own L held c e quiet = greatest-append L (c ∷ []) own ∙ ap (λ o. greater o (greatest (c ∷ []) own)) e ∙ by_address (eqb c.address own) refl
  where
    by_address : (b : Bool) → eqb c.address own ≡ b → greater (Some held) (cond b (greater (Some c) None) None) ≡ Some held
    by_address false f = refl
    by_address true t = ap (λ b. Some (cond b c held)) (exceeds-false c held (quiet (eqb-true c.address own t)))

-- where nothing given about the node itself exceeds what it holds, nothing is refuted
pub log_given-quiet : (own : ℕ) (L cs : List Change) (held : Change) → greatest L own ≡ Some held
    → ((c : Change) → Contains cs c → c.address ≡ own → Exceeds c held → ⊥) → log_given own L cs ≡ L ++ cs
log_given-quiet own L [] held e quiet = sym (append-nil L)
log_given-quiet own L (c ∷ cs) held e quiet =
    let here = quiet c (Contains-here c cs) in
    let none : refutations own (greatest L own) c ≡ []
    = ap (λ (o : Option Change). refutations own o c) e ∙ ap (λ b. cond b (refutation held c ∷ []) []) (unrefuted own held c here) in
    ap (λ (rs : List Change). log_given own (L ++ c ∷ rs) cs) none
    ∙ log_given-quiet own (L ++ c ∷ []) cs held (own_stays own L held c e here) (λ d h. quiet d (Contains-there c cs d h))
    ∙ append_assoc L (c ∷ []) cs
