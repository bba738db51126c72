-- A loop that writes f of each element of a list over the front of another.
use Rattle.std.proofs.Common.{◌≡◌, ℕ, zero, suc, ◌+◌, ◌<◌, List, [], ◌∷◌, ◌++◌, length, map, take, drop, set, get_or, refl, sym, ap, ◌∙◌, arith, add-one}

-- the first i are written
abbrev pub placed : {X Y : Type 0} → (X → Y) → ℕ → List X → List Y → List Y
placed f i xs ys = map f (take i xs) ++ drop i ys

placed_next : {X Y : Type 0} (f : X → Y) (xs : List X) (ys : List Y) (i : ℕ) (d : X) → i < length xs → i < length ys
    → set (placed f i xs ys) i (f (get_or xs i d)) ≡ placed f (suc i) xs ys
placed_next f [] ys i d within room = absurd (omega arith)
placed_next f (x ∷ xs) [] i d within room = absurd (omega arith)
placed_next f (x ∷ xs) (y ∷ ys) zero d within room = refl
placed_next f (x ∷ xs) (y ∷ ys) (suc i) d within room = ap (λ l. f x ∷ l) (placed_next f xs ys i d (omega arith) (omega arith))

-- one more is written
pub placed_more : {X Y : Type 0} (f : X → Y) (xs : List X) (ys now : List Y) (i : ℕ) (d : X) (y : Y) → i < length xs → i < length ys
    → now ≡ placed f i xs ys → y ≡ f (get_or xs i d) → set now i y ≡ placed f (i + 1) xs ys
placed_more f xs ys now i d y within room is value =
    (λ j. set (is j) i (value j)) ∙ placed_next f xs ys i d within room ∙ ap (λ n. placed f n xs ys) (sym (add-one i))
