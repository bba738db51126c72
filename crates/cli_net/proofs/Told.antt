-- The membership that is told, change by change.
use Rattle.std.proofs.Common.{◌≡◌, ℕ, ◌+◌, ◌<◌, ◌≤◌, List, [], ◌∷◌, ◌++◌, Option, Some, None, map, length, get_or, take, refl, sym, ap, ◌∙◌, append_assoc, append-nil, arith}
use Rattle.std.specs.List.{flat_map}
use Rattle.std.proofs.lemmas.Grind.{flat_map-append}
use Rattle.std.proofs.lemmas.List.{map-append, take_more}
use Rattle.serde_json.specs.Written.{compact_text}
use Rattle.change_core.specs.declared.changes.Change.{Change}
use Rattle.change_core.specs.declared.changes.Sourced.{Sourced}
use Rattle.change_core.specs.Members.{greatest, members}
use Rattle.change_core.proofs.Members.{members-append}
use Rattle.change_core.proofs.News.{length-members_known, length-members_new}
use Rattle.wire_json.specs.Forms.{change_data}
use Rattle.cli_core.specs.Changes.{change_of}
use Rattle.cli_net.specs.Membership.{change_line}

-- the list up to an item, and the item
up_to : (cs : List Sourced) (i : ℕ) (c : Sourced) → i < length cs → c ≡ get_or cs i c → take i cs ++ c ∷ [] ≡ take (i + 1) cs
up_to cs i c l e = ap (λ b. take i cs ++ b ∷ []) e ∙ sym (take_more cs i c l)

-- a change more is a member more at most
by_held : (cs : List Change) (c : Change) (held : Option Change) → greatest cs c.address ≡ held → length (members (cs ++ c ∷ [])) ≤ length (members cs) + 1
by_held cs c None h = omega (arith, length-members_new cs c h)
by_held cs c (Some d) h = omega (arith, length-members_known cs c d h)

pub few-more : (cs old now : List Change) (c : Change) → old ≡ members cs → now ≡ members (old ++ c ∷ []) → length now ≤ length old + 1
few-more cs old now c e f =
    let all : now ≡ members (cs ++ c ∷ []) = f ∙ ap (λ ms. members (ms ++ c ∷ [])) e ∙ members-append cs (c ∷ []) in
    omega (arith, ap length all, ap length e, by_held cs c (greatest cs c.address) refl)

-- one change more is taken
pub members-more : (cs : List Sourced) (i : ℕ) (c : Sourced) → i < length cs → c ≡ get_or cs i c
    → members (members (map change_of (take i cs)) ++ c.change ∷ []) ≡ members (map change_of (take (i + 1) cs))
members-more cs i c l e =
    members-append (map change_of (take i cs)) (c.change ∷ [])
    ∙ ap members (sym (map-append change_of (take i cs) (c ∷ [])) ∙ ap (map change_of) (up_to cs i c l e))

-- one line more is put behind the others, whose last newline stood out
pub change_lines-more : (t : List ℕ) (first : Sourced) (others : List Sourced) (i : ℕ) (c : Sourced) → t ++ 10 ∷ [] ≡ flat_map change_line (first ∷ take i others)
    → i < length others → c ≡ get_or others i c
    → ((t ++ 10 ∷ []) ++ compact_text (change_data c)) ++ 10 ∷ [] ≡ flat_map change_line (first ∷ take (i + 1) others)
change_lines-more t first others i c h l e =
    append_assoc (t ++ 10 ∷ []) (compact_text (change_data c)) (10 ∷ [])
    ∙ ap (λ z. z ++ change_line c) h
    ∙ ap (λ z. flat_map change_line (first ∷ take i others) ++ z) (sym (append-nil (change_line c)))
    ∙ sym (flat_map-append change_line (first ∷ take i others) (c ∷ []))
    ∙ ap (λ cs. flat_map change_line (first ∷ cs)) (up_to others i c l e)
