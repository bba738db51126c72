-- A text that grows piece by piece.
use Rattle.std.proofs.Common.{◌≡◌, ℕ, ◌+◌, ◌<◌, List, [], ◌∷◌, ◌++◌, ◌∙◌, ap, append_assoc, flat_map, get_or, length, sym, take}
use Rattle.std.proofs.lemmas.List.{append-nil, take_more}
use Rattle.std.proofs.lemmas.Grind.{flat_map-append}

-- another piece is appended
pub grown : (text all piece now next : List ℕ) → now ≡ text ++ all → next ≡ now ++ piece → next ≡ text ++ (all ++ piece)
grown text all piece now next was is = is ∙ ap (λ z. z ++ piece) was ∙ append_assoc text all piece

-- another piece is appended, which is given by another name
pub grown_as : (text all piece given now next : List ℕ) → now ≡ text ++ all → next ≡ now ++ given → given ≡ piece → next ≡ text ++ (all ++ piece)
grown_as text all piece given now next was is same = grown text all given now next was is ∙ ap (λ p. text ++ (all ++ p)) same

-- the piece of the next item of a list is appended
pub grown_at : {A : Type 0} (piece : A → List ℕ) (items : List A) (i : ℕ) (d : A) (text now next : List ℕ) → i < length items
    → now ≡ text ++ flat_map piece (take i items) → next ≡ now ++ piece (get_or items i d) → next ≡ text ++ flat_map piece (take (i + 1) items)
grown_at piece items i d text now next lt was is =
    let item = get_or items i d in
    grown text (flat_map piece (take i items)) (piece item) now next was is
    ∙ ap (λ z. text ++ z)
    (sym (ap (flat_map piece) (take_more items i d lt)
    ∙ flat_map-append piece (take i items) (item ∷ [])
    ∙ ap (λ z. flat_map piece (take i items) ++ z) (append-nil (piece item))))
