-- The 16 digits of a hash are the first 16 digits of the SHA-256.
use Rattle.std.proofs.Common.{◌≡◌, ℕ, zero, suc, ◌+◌, ◌-◌, ◌*◌, ◌/◌, ◌%◌, ◌^◌, ◌<◌, ◌≤◌, false, List, [], ◌∷◌, ◌++◌, length, take, replicate, slice_index, refl, sym, ap, ◌∙◌, append_assoc, append-nil, inl, inr, arith}
use Rattle.std.specs.Fmt.{padded_integral, number_padding, format_spec, char_count, digits, digits_onto}
use Rattle.std.specs.Int.{w32, w64, from_be_bytes, to_be_bytes}
use Rattle.std.specs.List.{AllByRecursion}
use Rattle.std.proofs.Math.Nat.{pow-suc}
use Rattle.std.proofs.lemmas.Bool.{cases_lt, ne_eqb}
use Rattle.std.proofs.lemmas.List.{replicate_more}
use Rattle.sha2.specs.Sha256.{sha256, digest_bytes, final_hash, initial_hash_256}
use Rattle.sha2.proofs.Facts256.{length-sha256}
use Rattle.change_core.specs.Digest.{hex_digit, digest_digits}

-- just so many hexadecimal digits of a number, the lowest last, before others
abbrev hex_onto : ℕ → ℕ → List ℕ → List ℕ
hex_onto zero n acc = acc
hex_onto (suc k) n acc = hex_onto k (n / 16) (hex_digit (n % 16) ∷ acc)

-- those of 0 are zeros
hex_onto-zeros : (k : ℕ) (acc : List ℕ) → hex_onto k 0 acc ≡ replicate k 48 ++ acc
hex_onto-zeros zero acc = refl
hex_onto-zeros (suc k) acc =
    let next : k + 1 ≡ suc k = omega arith in
    let more : replicate k 48 ++ 48 ∷ [] ≡ replicate (suc k) 48 = replicate_more k 48 ∙ ap (λ j. replicate j 48) next in
    hex_onto-zeros k (48 ∷ acc) ∙ sym (append_assoc (replicate k 48) (48 ∷ []) acc) ∙ ap (λ zs. zs ++ acc) more

-- the last digit as formatted, and one before others
onto_last : (i n : ℕ) (acc : List ℕ) → n / 16 ≡ 0 → digits_onto (suc i) 16 false n acc ≡ hex_digit (n % 16) ∷ acc
onto_last i n acc e = rw e refl

onto_step : (i n : ℕ) (acc : List ℕ) → (n / 16 ≡ 0 → ⊥) → digits_onto (suc i) 16 false n acc ≡ digits_onto i 16 false (n / 16) (hex_digit (n % 16) ∷ acc)
onto_step i n acc e = rw (ne_eqb (n / 16) 0 e) refl

some_more : (k n : ℕ) → n < 16 ^ suc k → 16 ≤ n → 0 < k
some_more zero n small large = absurd (omega arith)
some_more (suc k) n small large = omega arith

fewer : (k n : ℕ) → n < 16 ^ suc k → n / 16 < 16 ^ k
fewer k n small = omega (arith, pow-suc 16 k)

-- with zeros in front they are the digits as formatted
padded_onto : (k i n : ℕ) (acc : List ℕ) → 0 < k → k ≤ i → n < 16 ^ k
    → replicate (k + length acc - length (digits_onto i 16 false n acc)) 48 ++ digits_onto i 16 false n acc ≡ hex_onto k n acc
padded_onto zero i n acc some fits small = absurd (omega arith)
padded_onto (suc k) zero n acc some fits small = absurd (omega arith)
padded_onto (suc k) (suc i) n acc some fits small = elim (cases_lt n 16) [
  | inl one ↦
      let high : n / 16 ≡ 0 = omega arith in
      let last = hex_digit (n % 16) ∷ acc in
      let left : suc k + length acc - length last ≡ k = omega arith in
      ap (λ ds. replicate (suc k + length acc - length ds) 48 ++ ds) (onto_last i n acc high)
      ∙ ap (λ j. replicate j 48 ++ last) left
      ∙ sym (hex_onto-zeros k last)
      ∙ ap (λ m. hex_onto k m last) (sym high)
  | inr more ↦
      let last = hex_digit (n % 16) ∷ acc in
      let rest = digits_onto i 16 false (n / 16) last in
      let left : suc k + length acc ≡ k + length last = omega arith in
      ap (λ ds. replicate (suc k + length acc - length ds) 48 ++ ds) (onto_step i n acc (λ e. absurd (omega arith)))
      ∙ ap (λ j. replicate (j - length rest) 48 ++ rest) left
      ∙ padded_onto k i (n / 16) last (some_more k n small more) (omega arith) (fewer k n small)
]

-- the two digits of the lowest byte
hex_onto-byte : (k m b : ℕ) (acc : List ℕ) → b < 256 → hex_onto (suc (suc k)) (256 * m + b) acc ≡ hex_onto k m (hex_digit (b / 16) ∷ hex_digit (b % 16) ∷ acc)
hex_onto-byte k m b acc small =
    let rest : (256 * m + b) / 16 / 16 ≡ m = omega arith in
    let high : (256 * m + b) / 16 % 16 ≡ b / 16 = omega arith in
    let low : (256 * m + b) % 16 ≡ b % 16 = omega arith in
    ap (λ j. hex_onto k j (hex_digit ((256 * m + b) / 16 % 16) ∷ hex_digit ((256 * m + b) % 16) ∷ acc)) rest
    ∙ ap (λ d. hex_onto k m (hex_digit d ∷ hex_digit ((256 * m + b) % 16) ∷ acc)) high
    ∙ ap (λ d. hex_onto k m (hex_digit (b / 16) ∷ hex_digit d ∷ acc)) low

zeros_before : (ds : List ℕ) → number_padding (format_spec 32 0 4 16 (2 ^ 64 - 1)) false [] (length ds) ≡ 16 - length ds
unfolding char_count
zeros_before ds = omega arith

-- what `{:016x}` writes
padded_16 : (ds : List ℕ) → padded_integral (format_spec 32 0 4 16 (2 ^ 64 - 1)) false [] ds ≡ replicate (16 - length ds) 48 ++ ds
unfolding padded_integral char_count
padded_16 ds = rw (append-nil ds, zeros_before ds) refl

digits_onto-nil : (n : ℕ) → digits 16 false n ≡ digits_onto 64 16 false n []
unfolding digits
digits_onto-nil n = refl

padded_hex : (n : ℕ) → n < 16 ^ 16 → padded_integral (format_spec 32 0 4 16 (2 ^ 64 - 1)) false [] (digits 16 false n) ≡ hex_onto 16 n []
padded_hex n small =
    padded_16 (digits 16 false n)
    ∙ ap (λ ds. replicate (16 - length ds) 48 ++ ds) (digits_onto-nil n)
    ∙ padded_onto 16 64 n [] (omega arith) (omega arith) small

abbrev AreBytes : List ℕ → Type 0
AreBytes = AllByRecursion (λ b. b < 256)

AreBytes-append : (xs ys : List ℕ) → AreBytes xs → AreBytes ys → AreBytes (xs ++ ys)
AreBytes-append [] ys p q = q
AreBytes-append (x ∷ xs) ys p q = (p.0, AreBytes-append xs ys p.1 q)

word_bytes : (n : ℕ) → AreBytes (to_be_bytes w32 n)
word_bytes n = (omega arith, (omega arith, (omega arith, (omega arith, tt))))

digest_bytes-AreBytes : (h : List ℕ) (n : ℕ) → AreBytes (digest_bytes h n)
unfolding digest_bytes
digest_bytes-AreBytes h zero = tt
digest_bytes-AreBytes h (suc n) = AreBytes-append (digest_bytes h n) (to_be_bytes w32 (slice_index h n)) (digest_bytes-AreBytes h n) (word_bytes (slice_index h n))

sha256-AreBytes : (m : List ℕ) → AreBytes (sha256 m)
unfolding sha256
sha256-AreBytes m = digest_bytes-AreBytes (final_hash initial_hash_256 m) 8

-- the number of eight bytes has their digits
eight_bytes : (a b c d e f g h : ℕ) → AreBytes (a ∷ b ∷ c ∷ d ∷ e ∷ f ∷ g ∷ h ∷ []) → (n : ℕ)
    → n ≡ 256 * (256 * (256 * (256 * (256 * (256 * (256 * (256 * 0 + a) + b) + c) + d) + e) + f) + g) + h
    → (n < 16 ^ 16) × (hex_onto 16 n [] ≡ digest_digits (a ∷ b ∷ c ∷ d ∷ e ∷ f ∷ g ∷ h ∷ []))
eight_bytes a b c d e f g h (pa, (pb, (pc, (pd, (pe, (pf, (pg, (ph, end)))))))) n is =
    let m1 = 256 * 0 + a in
    let m2 = 256 * m1 + b in
    let m3 = 256 * m2 + c in
    let m4 = 256 * m3 + d in
    let m5 = 256 * m4 + e in
    let m6 = 256 * m5 + f in
    let m7 = 256 * m6 + g in (
      omega arith,
      ap (λ j. hex_onto 16 j []) is
          ∙ hex_onto-byte 14 m7 h [] ph
          ∙ hex_onto-byte 12 m6 g (digest_digits (h ∷ [])) pg
          ∙ hex_onto-byte 10 m5 f (digest_digits (g ∷ h ∷ [])) pf
          ∙ hex_onto-byte 8 m4 e (digest_digits (f ∷ g ∷ h ∷ [])) pe
          ∙ hex_onto-byte 6 m3 d (digest_digits (e ∷ f ∷ g ∷ h ∷ [])) pd
          ∙ hex_onto-byte 4 m2 c (digest_digits (d ∷ e ∷ f ∷ g ∷ h ∷ [])) pc
          ∙ hex_onto-byte 2 m1 b (digest_digits (c ∷ d ∷ e ∷ f ∷ g ∷ h ∷ [])) pb
          ∙ hex_onto-byte 0 0 a (digest_digits (b ∷ c ∷ d ∷ e ∷ f ∷ g ∷ h ∷ [])) pa,
    )

first_eight : (xs : List ℕ) → 8 ≤ length xs → AreBytes xs
    → padded_integral (format_spec 32 0 4 16 (2 ^ 64 - 1)) false [] (digits 16 false (from_be_bytes w64 (take 8 xs))) ≡ take 16 (digest_digits xs)
first_eight [] some h = absurd (omega arith)
first_eight (a ∷ []) some h = absurd (omega arith)
first_eight (a ∷ b ∷ []) some h = absurd (omega arith)
first_eight (a ∷ b ∷ c ∷ []) some h = absurd (omega arith)
first_eight (a ∷ b ∷ c ∷ d ∷ []) some h = absurd (omega arith)
first_eight (a ∷ b ∷ c ∷ d ∷ e ∷ []) some h = absurd (omega arith)
first_eight (a ∷ b ∷ c ∷ d ∷ e ∷ f ∷ []) some h = absurd (omega arith)
first_eight (a ∷ b ∷ c ∷ d ∷ e ∷ f ∷ g ∷ []) some h = absurd (omega arith)
first_eight (a ∷ b ∷ c ∷ d ∷ e ∷ f ∷ g ∷ h ∷ rest) some (pa, (pb, (pc, (pd, (pe, (pf, (pg, (ph, more)))))))) =
    let n = from_be_bytes w64 (a ∷ b ∷ c ∷ d ∷ e ∷ f ∷ g ∷ h ∷ []) in
    let is = eight_bytes a b c d e f g h (pa, (pb, (pc, (pd, (pe, (pf, (pg, (ph, tt)))))))) n (omega arith) in
    padded_hex n is.0 ∙ is.1

-- the number that the first eight bytes are is formatted as the first 16 digits
pub hash_digits : (bytes : List ℕ)
    → padded_integral (format_spec 32 0 4 16 (2 ^ 64 - 1)) false [] (digits 16 false (from_be_bytes w64 (take 8 (sha256 bytes)))) ≡ take 16 (digest_digits (sha256 bytes))
hash_digits bytes = first_eight (sha256 bytes) (omega (arith, length-sha256 bytes)) (sha256-AreBytes bytes)
