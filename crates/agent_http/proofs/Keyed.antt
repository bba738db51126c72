-- Keys that a field of a request names.
use Rattle.std.proofs.Common.{◌≡◌, ◌∙◌, true, false, List, [], ◌∷◌, Some, Ok, Err, IsTrue, ⊎_elim, ap, refl, sym}
use Rattle.std.proofs.lemmas.Bool.{cases_Bool, cond-false, cond-true}
use Rattle.std.proofs.lemmas.Bool.Decides.{Decides-by_and}
use Rattle.std.specs.List.{list_all}
use Rattle.http_header.specs.FieldValue.{FieldValue, IsVisibleAscii, is_visible_text}
use Rattle.http_header.specs.Token.{is_visible_or_blank}
use Rattle.http_header.proofs.TokenLemmas.{AllPass-from_test}
use Rattle.agent_core.specs.declared.refusals.Part.{Part}
use Rattle.agent_core.specs.declared.refusals.Refusal.TheVariants.{Malformed}
use Rattle.agent_http.specs.Requests.{field_text}

-- a field that is visible ASCII has its text
pub visible : (part : Part) (vs : List FieldValue) (v : FieldValue) → vs ≡ v ∷ [] → IsVisibleAscii v.bytes → field_text part vs ≡ Ok (Some v.bytes)
visible part vs v is all =
    let test : is_visible_text v.bytes ≡ true =
    (Decides-by_and is_visible_or_blank (λ b. IsTrue (is_visible_or_blank b)) (list_all is_visible_or_blank) (λ b. (λ h. h, λ h. h)) refl (λ _ _. refl) v.bytes).1 all in
    ap (field_text part) is ∙ cond-true _ (Ok (Some v.bytes)) (Err (Malformed part)) test

-- and one that is not is malformed
pub hidden : (part : Part) (vs : List FieldValue) (v : FieldValue) → vs ≡ v ∷ [] → ¬ (IsVisibleAscii v.bytes) → field_text part vs ≡ Err (Malformed part)
hidden part vs v is some = ap (field_text part) is ∙ ⊎_elim
    (λ (test : is_visible_text v.bytes ≡ true). absurd (some (AllPass-from_test is_visible_or_blank v.bytes test)))
    (λ (test : is_visible_text v.bytes ≡ false). cond-false _ (Ok (Some v.bytes)) (Err (Malformed part)) test)
    (cases_Bool _)
