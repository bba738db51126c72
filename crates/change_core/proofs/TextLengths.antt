-- How long a change's text is at most.
use Rattle.std.proofs.Common.{◌≡◌, ℕ, ◌≤◌, eqb, List, ◌++◌, length, length-append, arith, inl, inr}
use Rattle.std.proofs.lemmas.Bool.{cases_Bool}
use Rattle.std.proofs.lemmas.Fmt.{length-decimal-le}
use Rattle.change_core.specs.declared.changes.Change.{Change}
use Rattle.change_core.specs.Address.{IsAddress, address_text}
use Rattle.change_core.specs.Digest.{IsDigest, digest_digits}
use Rattle.change_core.specs.Members.{weight_text, change_text}
use Rattle.change_core.specs.Numbers.{greatest_number, greatest_weight}
use Rattle.change_core.specs.Numeral.{number_text}
use Rattle.change_core.specs.Status.{status_word}
use Rattle.change_core.proofs.Hex.{length-digest_digits}
use Rattle.change_core.proofs.NumberTexts.{number_text-decimal}
use Rattle.change_core.proofs.OneText.{address_text-short, status_word-short}

number_text-short : (n : ℕ) → n ≤ greatest_number → length (number_text n) ≤ 16
number_text-short n small = rw (number_text-decimal n (omega (arith, small))) (length-decimal-le 16 n (omega arith) (omega (arith, small)) (omega (arith, small)))

weight_text-short : (w : ℕ) → w ≤ greatest_weight → length (weight_text w) ≤ 2
weight_text-short w small = elim (cases_Bool (eqb w 1)) [
  | inl one ↦ simp one (omega arith)
  | inr more ↦ let digit : length (number_text w) ≤ 1 = rw (number_text-decimal w (omega (arith, small))) (length-decimal-le 1 w (omega arith) (omega (arith, small)) (omega (arith, small))) in simp more (omega (arith, digit))
]

pub change_text-short : (c : Change) → IsAddress c.address → c.incarnation ≤ greatest_number → c.weight ≤ greatest_weight → length (change_text c) ≤ 48
change_text-short c address incarnation weight =
    omega (
      arith,
      address_text-short c.address address,
      status_word-short c.status,
      number_text-short c.incarnation incarnation,
      weight_text-short c.weight weight,
      length-append (address_text c.address) (status_word c.status ++ (number_text c.incarnation ++ weight_text c.weight)),
      length-append (status_word c.status) (number_text c.incarnation ++ weight_text c.weight),
      length-append (number_text c.incarnation) (weight_text c.weight),
    )

pub digest_digits-length : (bytes : List ℕ) → IsDigest bytes → length (digest_digits bytes) ≡ 64
digest_digits-length bytes v = omega (arith, length-digest_digits bytes, v.has_32)
