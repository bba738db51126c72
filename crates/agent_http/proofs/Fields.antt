-- Requests that are passed on whole.
use Rattle.std.proofs.Common.{◌≡◌, ◌∙◌, ℕ, List, [], ◌∷◌, ◌++◌, ap, append-nil, append_assoc, sym}
use Rattle.agent_core.specs.Parts.{joined, part_of}
use Rattle.agent_core.specs.Passing.{flat}
use Rattle.agent_http.specs.Passing.{AreFields}

-- four lists, one after the other
regrouped : (a b j n v : List ℕ) → a ++ (b ++ ((j ++ n) ++ v)) ≡ ((a ++ (b ++ j)) ++ n) ++ v
regrouped a b j n v =
    ap (λ z. a ++ z) (ap (λ z. b ++ z) (append_assoc j n v)) ∙ ap (λ z. a ++ z) (sym (append_assoc b j (n ++ v)))
    ∙ sym (append_assoc a (b ++ j) (n ++ v)) ∙ sym (append_assoc (a ++ (b ++ j)) n v)

-- one more field comes last
one_more : (fields : List (List ℕ × List ℕ)) (name value : List ℕ)
    → joined (flat (fields ++ (name, value) ∷ [])) ≡ (joined (flat fields) ++ part_of name) ++ part_of value
one_more [] name value = ap (λ z. part_of name ++ z) (append-nil (part_of value))
one_more (f ∷ fields) name value =
    ap (λ z. part_of f.0 ++ (part_of f.1 ++ z)) (one_more fields name value)
    ∙ regrouped (part_of f.0) (part_of f.1) (joined (flat fields)) (part_of name) (part_of value)

-- the bytes of fields, and of one more
pub more_fields : (old new name value : List ℕ) → AreFields old → new ≡ (old ++ part_of name) ++ part_of value → AreFields new
more_fields old new name value are is =
    (are.0 ++ (name, value) ∷ [], is ∙ ap (λ z. (z ++ part_of name) ++ part_of value) are.1 ∙ sym (one_more are.0 name value))
