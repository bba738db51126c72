-- What lists of changes come to that take from one another: of each address, all come to hold what its owner holds.
use Rattle.std.proofs.Common.{◌≡◌, ◌≢◌, ◌⊎◌, ℕ, Bool, true, false, cond, List, [], ◌∷◌, ◌++◌, Option, Some, None, refl, sym, ◌∙◌, ap, subst, inl, inr}
use Rattle.change_core.specs.declared.changes.Change.{Change}
use Rattle.change_core.specs.Change.{exceeds}
use Rattle.change_core.specs.Members.{greatest, greater}
use Rattle.change_core.proofs.Members.{greater-assoc, greater-None, greatest-append, greatest-same}
use Rattle.change_core.proofs.SameChanges.{HaveSameChanges-swapped}
use Rattle.laws.specs.Spreading.{Hop, Reaches}

-- the greater of two that may be there

-- the first is there and the second does not exceed it, or neither is there
abbrev pub Covers : Option Change → Option Change → Type 0
Covers o p = greater o p ≡ o

cond-same : (b : Bool) (c : Change) → cond b c c ≡ c
cond-same true c = refl
cond-same false c = refl

pub covers-refl : (o : Option Change) → Covers o o
covers-refl None = refl
covers-refl (Some c) = ap Some (cond-same (exceeds c c) c)

pub covers-is : (o p : Option Change) → p ≡ o → Covers o p
covers-is o p e = ap (λ q. greater o q) e ∙ covers-refl o

pub covers-trans : (o p q : Option Change) → Covers o p → Covers p q → Covers o q
covers-trans o p q h k = ap (λ z. greater z q) (sym h) ∙ greater-assoc o p q ∙ ap (λ z. greater o z) k ∙ h

pub greater-either : (o p : Option Change) → (greater o p ≡ o) ⊎ (greater o p ≡ p)
greater-either None p = inr refl
greater-either (Some c) None = inl refl
greater-either (Some c) (Some d) = by_test (exceeds d c)
  where
    by_test : (b : Bool) → (Some (cond b d c) ≡ Some c) ⊎ (Some (cond b d c) ≡ Some d)
    by_test true = inr refl
    by_test false = inl refl

pub greater-swapped : (L K : List Change) (x : ℕ) → greater (greatest L x) (greatest K x) ≡ greater (greatest K x) (greatest L x)
greater-swapped L K x = sym (greatest-append L K x) ∙ greatest-same (L ++ K) (K ++ L) x (HaveSameChanges-swapped L K) ∙ greatest-append K L x

-- two that hold nothing less than each other hold the same
pub covers-same : (L K : List Change) (x : ℕ) → Covers (greatest L x) (greatest K x) → Covers (greatest K x) (greatest L x) → greatest L x ≡ greatest K x
covers-same L K x h k = sym h ∙ greater-swapped L K x ∙ k

-- what is held at each place, before and after a hop. An address is at home at the place of its node

abbrev pub Lists : Type 0 → Type 0
Lists P = P → List Change

-- the taker holds nothing less than it did, nor than the giver did if it took the whole; of another address what one of both did, and of itself what it did, where the giver held no more
pub record Goes {P : Type 0} (home : ℕ → P) (M : Lists P) (e : Hop P) (N : Lists P) : Type 0 where
  pub others_stay : (a : P) → a ≢ e.taker → N a ≡ M a
  pub keeps : (x : ℕ) → Covers (greatest (N e.taker) x) (greatest (M e.taker) x)
  pub covers : e.whole ≡ true → (x : ℕ) → Covers (greatest (N e.taker) x) (greatest (M e.giver) x)
  pub of_others : (x : ℕ) → home x ≢ e.taker → (greatest (N e.taker) x ≡ greatest (M e.taker) x) ⊎ (greatest (N e.taker) x ≡ greatest (M e.giver) x)
  pub of_itself : (x : ℕ) → home x ≡ e.taker → Covers (greatest (M e.taker) x) (greatest (M e.giver) x) → greatest (N e.taker) x ≡ greatest (M e.taker) x

module _ {P : Type 0} (same_place : (p q : P) → (p ≡ q) ⊎ (p ≢ q)) (home : ℕ → P) (Is : P → Type 0) where
  -- hops of places that are there, one after another
  abbrev pub Run : Lists P → List (Hop P) → Lists P → Type 0
  Run M [] N = N ≡ M
  Run M (e ∷ es) N = (K : Lists P) × Is e.taker × Is e.giver × Goes home M e K × Run K es N

  -- of an address nothing more is held anywhere than at home
  abbrev IsSettled : Lists P → ℕ → Type 0
  IsSettled M x = (b : P) → Is b → Covers (greatest (M (home x)) x) (greatest (M b) x)

  -- nothing is lost

  kept-one : (M N : Lists P) (e : Hop P) → Goes home M e N → (a : P) (x : ℕ) → Covers (greatest (N a) x) (greatest (M a) x)
  kept-one M N e goes a x = elim (same_place a e.taker) [
    | inl is ↦ subst (λ (b : P). Covers (greatest (N b) x) (greatest (M b) x)) (sym is) (goes.keeps x)
    | inr other ↦ covers-is (greatest (N a) x) (greatest (M a) x) (ap (λ (L : List Change). greatest L x) (sym (goes.others_stay a other)))
  ]

  pub kept-all : (M N : Lists P) (es : List (Hop P)) → Run M es N → (a : P) (x : ℕ) → Covers (greatest (N a) x) (greatest (M a) x)
  kept-all M N [] run a x = covers-is (greatest (N a) x) (greatest (M a) x) (ap (λ (L : Lists P). greatest (L a) x) (sym run))
  kept-all M N (e ∷ es) run a x =
      covers-trans (greatest (N a) x) (greatest (run.0 a) x) (greatest (M a) x) (kept-all run.0 N es run.4 a x) (kept-one M run.0 e run.3 a x)

  -- what comes from one place to another is held there
  reached : (M N : Lists P) (es : List (Hop P)) (a b : P) → Reaches a es b → Run M es N → (x : ℕ) → Covers (greatest (N b) x) (greatest (M a) x)
  reached M N [] a b path run x = covers-is (greatest (N b) x) (greatest (M a) x) (ap (λ (c : P). greatest (M c) x) path ∙ ap (λ (L : Lists P). greatest (L b) x) (sym run))
  reached M N (e ∷ es) a b path run x = elim path [
    | inl on ↦ covers-trans (greatest (N b) x) (greatest (run.0 a) x) (greatest (M a) x) (reached run.0 N es a b on run.4 x) (kept-one M run.0 e run.3 a x)
    | inr taken ↦ covers-trans (greatest (N b) x) (greatest (run.0 e.taker) x) (greatest (M a) x) (reached run.0 N es e.taker b taken.2 run.4 x)
        (subst (λ (c : P). Covers (greatest (run.0 e.taker) x) (greatest (M c) x)) taken.1 (run.3.covers taken.0 x))
  ]

  -- of an address whose home takes no part each holds what one held at the beginning

  abbrev IsOfStart : Lists P → Lists P → ℕ → P → Type 0
  IsOfStart S N x b = (k : P) × Is k × (greatest (N b) x ≡ greatest (S k) x)

  start-one : (S M N : Lists P) (e : Hop P) (x : ℕ) → Is e.taker → Is e.giver → Goes home M e N → home x ≢ e.taker
      → ((b : P) → Is b → IsOfStart S M x b) → (b : P) → Is b → IsOfStart S N x b
  start-one S M N e x takes gives goes other held b is = elim (same_place b e.taker) [
    | inl t ↦ elim (goes.of_others x other) [
      | inl mine ↦ let h = held e.taker takes in (h.0, h.1, ap (λ (c : P). greatest (N c) x) t ∙ mine ∙ h.2)
      | inr theirs ↦ let h = held e.giver gives in (h.0, h.1, ap (λ (c : P). greatest (N c) x) t ∙ theirs ∙ h.2)
    ]
    | inr o ↦ let h = held b is in (h.0, h.1, ap (λ (L : List Change). greatest L x) (goes.others_stay b o) ∙ h.2)
  ]

  start-all : (S M N : Lists P) (es : List (Hop P)) (x : ℕ) → Run M es N → (Is (home x) → ⊥)
      → ((b : P) → Is b → IsOfStart S M x b) → (b : P) → Is b → IsOfStart S N x b
  start-all S M N [] x run free held b is = let h = held b is in (h.0, h.1, ap (λ (L : Lists P). greatest (L b) x) run ∙ h.2)
  start-all S M N (e ∷ es) x run free held b is =
      start-all S run.0 N es x run.4 free
      (start-one S M run.0 e x run.1 run.2 run.3 (λ t. free (subst (λ (c : P). Is c) (sym t) run.1)) held) b is

  -- of any address each holds what one held at the beginning, or no more than is held at home

  abbrev IsKnown : Lists P → Lists P → ℕ → P → Type 0
  IsKnown S N x b = IsOfStart S N x b ⊎ Covers (greatest (N (home x)) x) (greatest (N b) x)

  -- what is held where the same was held before, or is taken from where it was
  known-from : (S M N : Lists P) (x : ℕ) (b c : P) → Covers (greatest (N (home x)) x) (greatest (M (home x)) x) → greatest (N b) x ≡ greatest (M c) x → IsKnown S M x c → IsKnown S N x b
  known-from S M N x b c more same known = elim known [
    | inl old ↦ inl (old.0, old.1, same ∙ old.2)
    | inr less ↦ inr (subst (λ (o : Option Change). Covers (greatest (N (home x)) x) o) (sym same)
        (covers-trans (greatest (N (home x)) x) (greatest (M (home x)) x) (greatest (M c) x) more less))
  ]

  known-one : (S M N : Lists P) (e : Hop P) (x : ℕ) → Is e.taker → Is e.giver → Goes home M e N
      → ((b : P) → Is b → IsKnown S M x b) → (b : P) → Is b → IsKnown S N x b
  known-one S M N e x takes gives goes known b is = elim (same_place b (home x)) [
    | inl own ↦ inr (subst (λ (c : P). Covers (greatest (N (home x)) x) (greatest (N c) x)) (sym own) (covers-refl (greatest (N (home x)) x)))
    | inr not_own ↦ elim (same_place b e.taker) [
      | inl t ↦ elim (goes.of_others x (λ k. not_own (t ∙ sym k))) [
        | inl mine ↦ known-from S M N x b e.taker (kept-one M N e goes (home x) x) (ap (λ (c : P). greatest (N c) x) t ∙ mine) (known e.taker takes)
        | inr theirs ↦ known-from S M N x b e.giver (kept-one M N e goes (home x) x) (ap (λ (c : P). greatest (N c) x) t ∙ theirs) (known e.giver gives)
      ]
      | inr o ↦ known-from S M N x b b (kept-one M N e goes (home x) x) (ap (λ (L : List Change). greatest L x) (goes.others_stay b o)) (known b is)
    ]
  ]

  known-all : (S M N : Lists P) (es : List (Hop P)) (x : ℕ) → Run M es N → ((b : P) → Is b → IsKnown S M x b) → (b : P) → Is b → IsKnown S N x b
  known-all S M N [] x run known b is = subst (λ (L : Lists P). IsKnown S L x b) (sym run) (known b is)
  known-all S M N (e ∷ es) x run known b is = known-all S run.0 N es x run.4 (known-one S M run.0 e x run.1 run.2 run.3 known) b is

  -- from a place that held something news has come, or it held nothing
  abbrev IsHeardOf : Lists P → List (Hop P) → P → P → Type 0
  IsHeardOf M es q a = (M a ≡ []) ⊎ Reaches a es q

  heard_of : (M N : Lists P) (es : List (Hop P)) (a b : P) → IsHeardOf M es b a → Run M es N → (x : ℕ) → Covers (greatest (N b) x) (greatest (M a) x)
  heard_of M N es a b of run x = elim of [
    | inl none ↦ subst (λ (L : List Change). Covers (greatest (N b) x) (greatest L x)) (sym none) (greater-None (greatest (N b) x))
    | inr path ↦ reached M N es a b path run x
  ]

  -- once home has heard of all, no more is held anywhere
  settles : (M N : Lists P) (es : List (Hop P)) (x : ℕ) → Run M es N → ((a : P) → Is a → IsHeardOf M es (home x) a) → IsSettled N x
  settles M N es x run hears b is = elim (known-all M M N es x run (λ c i. inl (c, i, refl)) b is) [
    | inl old ↦ subst (λ (o : Option Change). Covers (greatest (N (home x)) x) o) (sym old.2) (heard_of M N es old.0 (home x) (hears old.0 old.1) run x)
    | inr less ↦ less
  ]

  -- then that is held there for good

  still-one : (M N : Lists P) (e : Hop P) (x : ℕ) → Is e.giver → Goes home M e N → IsSettled M x → greatest (N (home x)) x ≡ greatest (M (home x)) x
  still-one M N e x gives goes settled = elim (same_place (home x) e.taker) [
    | inl t ↦ subst (λ (p : P). greatest (N p) x ≡ greatest (M p) x) (sym t)
        (goes.of_itself x t (subst (λ (p : P). Covers (greatest (M p) x) (greatest (M e.giver) x)) t (settled e.giver gives)))
    | inr o ↦ ap (λ (L : List Change). greatest L x) (goes.others_stay (home x) o)
  ]

  settled-one : (M N : Lists P) (e : Hop P) (x : ℕ) → Is e.taker → Is e.giver → Goes home M e N → IsSettled M x → IsSettled N x
  settled-one M N e x takes gives goes settled b is = elim (known-one M M N e x takes gives goes (λ c i. inr (settled c i)) b is) [
    | inl old ↦ subst (λ (o : Option Change). Covers (greatest (N (home x)) x) o) (sym old.2)
        (covers-trans (greatest (N (home x)) x) (greatest (M (home x)) x) (greatest (M old.0) x) (kept-one M N e goes (home x) x) (settled old.0 old.1))
    | inr less ↦ less
  ]

  still-all : (M N : Lists P) (es : List (Hop P)) (x : ℕ) → Run M es N → IsSettled M x → (greatest (N (home x)) x ≡ greatest (M (home x)) x) × IsSettled N x
  still-all M N [] x run settled = subst (λ (L : Lists P). (greatest (L (home x)) x ≡ greatest (M (home x)) x) × IsSettled L x) (sym run) (refl, settled)
  still-all M N (e ∷ es) x run settled =
      let rest = still-all run.0 N es x run.4 (settled-one M run.0 e x run.1 run.2 run.3 settled) in
      (rest.0 ∙ still-one M run.0 e x run.2 run.3 settled, rest.1)

  -- and all that hear of it then hold the same
  told : (M N : Lists P) (es : List (Hop P)) (x : ℕ) (b : P) → Is b → Run M es N → IsSettled M x → Reaches (home x) es b → greatest (N b) x ≡ greatest (N (home x)) x
  told M N es x b is run settled path =
      let still = still-all M N es x run settled in
      covers-same (N b) (N (home x)) x
      (subst (λ (o : Option Change). Covers (greatest (N b) x) o) (sym still.0) (reached M N es (home x) b path run x)) (still.1 b is)

  -- a run in two parts
  run-parts : (M N : Lists P) (first second : List (Hop P)) → Run M (first ++ second) N → (K : Lists P) × Run M first K × Run K second N
  run-parts M N [] second run = (M, refl, run)
  run-parts M N (e ∷ es) second run =
      let rest = run-parts run.0 N es second run.4 in
      (rest.0, (run.0, run.1, run.2, run.3, rest.1), rest.2)

  module _ (M N : Lists P) (es : List (Hop P)) (run : Run M es N) where
    -- the first hops bring a place news of all that held something, and the rest bring its news to these
    pub record Hears (Ends : P → Type 0) (q : P) : Type 0 where
      pub first : List (Hop P)
      pub rest : List (Hop P)
      pub parts : es ≡ first ++ rest
      pub hears : (a : P) → Is a → IsHeardOf M first q a
      pub is_heard : (b : P) → Ends b → Reaches q rest b

    module _ (Ends : P → Type 0) where
      in_parts : (q : P) (h : Hears Ends q) → (K : Lists P) × Run M h.first K × Run K h.rest N
      in_parts q h = run-parts M N h.first h.rest (subst (λ (ds : List (Hop P)). Run M ds N) h.parts run)

      -- of an address whose home hears, all that hear of it hold what is held there
      pub owned : (x : ℕ) → Hears Ends (home x) → (b : P) → Is b → Ends b → greatest (N b) x ≡ greatest (N (home x)) x
      owned x h b is ends =
          let p = in_parts (home x) h in
          told p.0 N h.rest x b is p.2 (settles M p.0 h.first x p.1 h.hears) (h.is_heard b ends)

      -- where all was heard of, nothing less is held than any held
      pub heard : (b : P) → Hears Ends b → (k : P) → Is k → (x : ℕ) → Covers (greatest (N b) x) (greatest (M k) x)
      heard b h k is x =
          let p = in_parts b h in
          covers-trans (greatest (N b) x) (greatest (p.0 b) x) (greatest (M k) x) (kept-all p.0 N h.rest p.2 b x) (heard_of M p.0 h.first k b (h.hears k is) p.1 x)

      -- of an address whose home takes no part each holds what one held
      pub from_start : (x : ℕ) → (Is (home x) → ⊥) → (b : P) → Is b → IsOfStart M N x b
      from_start x free b is = start-all M M N es x run free (λ c i. (c, i, refl)) b is

      -- so all hold the same of it that have heard of all
      pub unowned : (x : ℕ) → (Is (home x) → ⊥) → (b c : P) → Is b → Is c → Hears Ends b → Hears Ends c → greatest (N b) x ≡ greatest (N c) x
      unowned x free b c is_b is_c b_hears c_hears =
          let of_b = from_start x free b is_b in
          let of_c = from_start x free c is_c in
          covers-same (N b) (N c) x
          (subst (λ (o : Option Change). Covers (greatest (N b) x) o) (sym of_c.2) (heard b b_hears of_c.0 of_c.1 x))
          (subst (λ (o : Option Change). Covers (greatest (N c) x) o) (sym of_b.2) (heard c c_hears of_b.0 of_b.1 x))
