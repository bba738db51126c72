-- Addresses, a line each.
use Rattle.std.proofs.Common.{◌≡◌, ℕ, ◌+◌, List, [], ◌∷◌, ◌++◌, sym, ap, ◌∙◌, append_assoc, append-nil}
use Rattle.std.specs.List.{flat_map}
use Rattle.change_core.specs.Address.{address_text}
use Rattle.cli_core.specs.Owner.{owner_line}

-- a newline and an address
abbrev pub later_line : ℕ → List ℕ
later_line a = 10 ∷ address_text a

-- newlines before the later lines and one at the end are newlines after each
pub flat_map-later_line : (t : List ℕ) (owners : List ℕ) → (t ++ flat_map later_line owners) ++ 10 ∷ [] ≡ (t ++ 10 ∷ []) ++ flat_map owner_line owners
flat_map-later_line t [] = ap (λ z. z ++ 10 ∷ []) (append-nil t) ∙ sym (append-nil (t ++ 10 ∷ []))
flat_map-later_line t (a ∷ owners) =
    let text = address_text a in
    let rest = flat_map owner_line owners in
    ap (λ z. z ++ 10 ∷ []) (sym (append_assoc t (10 ∷ text) (flat_map later_line owners)))
    ∙ flat_map-later_line (t ++ 10 ∷ text) owners
    ∙ append_assoc (t ++ 10 ∷ text) (10 ∷ []) rest
    ∙ append_assoc t (10 ∷ text) (10 ∷ rest)
    ∙ ap (λ z. t ++ 10 ∷ z) (sym (append_assoc text (10 ∷ []) rest))
    ∙ sym (append_assoc t (10 ∷ []) ((text ++ 10 ∷ []) ++ rest))
