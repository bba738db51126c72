-- Parts come out whole, and no two lists of parts have the same bytes.
use Rattle.std.proofs.Common.{◌≡◌, ◌≢◌, ℕ, ◌+◌, ◌^◌, ◌<◌, List, [], ◌∷◌, ◌++◌, length, take, drop, refl, sym, ap, subst, ◌∙◌, arith, append_assoc, append-nil, length-append, map, Bor, Ok}
use Rattle.std.proofs.lemmas.List.{take_at, drop_at, map-append}
use Rattle.std.proofs.lemmas.List.Elements.{All-cons, All-head, All-nil, All-tail}
use Rattle.std.proofs.lemmas.Nat.{from_be_bytes-to_be_bytes_8}
use Rattle.std.specs.Int.{from_be_bytes, to_be_bytes, w64}
use Rattle.std.specs.List.{All}
use Rattle.base64.proofs.EngineFacts.{decode_of-encode_of}
use Rattle.base64.specs.Engines.{standard}
use Rattle.base64.specs.GeneralPurpose.{IsBytes, decode_of, encode_of}
use Rattle.agent_core.specs.Parts.{joined, packed_bytes, part_of}

-- if the bytes of a part and bytes after them equal those of another part and bytes after them, the parts are equal, and so are the bytes after
pub unjoined : (p q r s : List ℕ) → length p < 2 ^ 64 → length q < 2 ^ 64 → part_of p ++ r ≡ part_of q ++ s → (p ≡ q) × (r ≡ s)
unjoined p q r s p_fits q_fits e =
    let sizes : to_be_bytes w64 (length p) ≡ to_be_bytes w64 (length q) = ap (take 8) e in
    let same : length q ≡ length p =
    sym (from_be_bytes-to_be_bytes_8 (length q) q_fits) ∙ ap (from_be_bytes w64) (sym sizes) ∙ from_be_bytes-to_be_bytes_8 (length p) p_fits in
    let tails : p ++ r ≡ q ++ s = ap (drop 8) e in
    let first : p ≡ q = sym (take_at p r (length p) refl) ∙ ap (take (length p)) tails ∙ take_at q s (length p) same in
    let after : r ≡ s = sym (drop_at p r (length p) refl) ∙ ap (drop (length p)) tails ∙ drop_at q s (length p) same in
    (first, after)

-- a part has fewer than 2^64 bytes
abbrev fits : List ℕ → Type 0
fits p = length p < 2 ^ 64

-- no two lists of parts have the same bytes
pub joined-once : (ps qs : List (List ℕ)) → All (λ p. length p < 2 ^ 64) ps → All (λ p. length p < 2 ^ 64) qs → joined ps ≡ joined qs → ps ≡ qs
joined-once [] [] ps_fit qs_fit e = refl
joined-once [] (q ∷ qs) ps_fit qs_fit e = absurd (cc)
joined-once (p ∷ ps) [] ps_fit qs_fit e = absurd (cc)
joined-once (p ∷ ps) (q ∷ qs) ps_fit qs_fit e =
    let both = unjoined p q (joined ps) (joined qs) (All-head fits p ps ps_fit) (All-head fits q qs qs_fit) e in
    ap (λ x. x ∷ ps) both.0 ∙ ap (λ xs. q ∷ xs) (joined-once ps qs (All-tail fits p ps ps_fit) (All-tail fits q qs qs_fit) both.1)

-- each of some parts is no longer than their bytes
pub all-fit : (ps : List (List ℕ)) → length (joined ps) < 2 ^ 64 → All (λ p. length p < 2 ^ 64) ps
all-fit [] short = All-nil fits
all-fit (p ∷ ps) short =
    let both : length (part_of p) + length (joined ps) < 2 ^ 64 = subst (λ n. n < 2 ^ 64) (length-append (part_of p) (joined ps)) short in
    let size : length (part_of p) ≡ length (to_be_bytes w64 (length p)) + length p = length-append (to_be_bytes w64 (length p)) p in
    All-cons fits p ps (omega arith) (all-fit ps (omega arith))

-- bytes that are those of parts are those of no others
pub other_parts : (bytes : List ℕ) (ps qs : List (List ℕ)) → length bytes < 2 ^ 64 → bytes ≡ joined ps → ps ≢ qs → bytes ≢ joined qs
other_parts bytes ps qs short is other same =
    let ps_short : length (joined ps) < 2 ^ 64 = subst (λ z. length z < 2 ^ 64) is short in
    let qs_short : length (joined qs) < 2 ^ 64 = subst (λ z. length z < 2 ^ 64) same short in
    other (joined-once ps qs (all-fit ps ps_short) (all-fit qs qs_short) (sym is ∙ same))

-- bytes are those of a part alone if none come after it
pub alone : (bytes part rest : List ℕ) → bytes ≡ part_of part ++ rest → length rest ≡ 0 → bytes ≡ part_of part
alone bytes part [] is none = is ∙ append-nil (part_of part)
alone bytes part (x ∷ rest) is none = absurd (omega (arith, none))

-- and not if some come
pub not_alone : (bytes part rest body : List ℕ) → length bytes < 2 ^ 64 → bytes ≡ part_of part ++ rest → 0 < length rest → bytes ≢ part_of body
not_alone bytes part rest body short is some same =
    let whole : length (part_of part) + length rest < 2 ^ 64 = subst (λ n. n < 2 ^ 64) (ap length is ∙ length-append (part_of part) rest) short in
    let other : length (part_of body) < 2 ^ 64 = subst (λ z. length z < 2 ^ 64) same short in
    let part_size : length (part_of part) ≡ length (to_be_bytes w64 (length part)) + length part = length-append (to_be_bytes w64 (length part)) part in
    let body_size : length (part_of body) ≡ length (to_be_bytes w64 (length body)) + length body = length-append (to_be_bytes w64 (length body)) body in
    let both = unjoined part body rest [] (omega arith) (omega arith) (sym is ∙ same ∙ sym (append-nil (part_of body))) in
    let none : length rest ≡ 0 = ap length both.1 in
    absurd (omega (arith, some, none))

-- nor if no part comes first
pub none_alone : (bytes body : List ℕ) → ((part rest : List ℕ) → bytes ≢ part_of part ++ rest) → bytes ≢ part_of body
none_alone bytes body none same = none body [] (same ∙ sym (append-nil (part_of body)))

-- one more part comes last
pub joined-more : (ps : List (List ℕ)) (p : List ℕ) → joined (ps ++ p ∷ []) ≡ joined ps ++ part_of p
joined-more [] p = append-nil (part_of p)
joined-more (q ∷ ps) p = ap (λ z. part_of q ++ z) (joined-more ps p) ∙ sym (append_assoc (part_of q) (joined ps) (part_of p))

-- what is left of parts after the first of them is parts
pub left : (done ps : List (List ℕ)) (rest : List ℕ) → length (joined ps) < 2 ^ 64 → joined ps ≡ joined done ++ rest → (more : List (List ℕ)) × (rest ≡ joined more)
left [] ps rest short e = (ps, sym e)
left (d ∷ done) [] rest short e = absurd (cc)
left (d ∷ done) (p ∷ ps) rest small e =
    let same : part_of p ++ joined ps ≡ part_of d ++ (joined done ++ rest) = e ∙ append_assoc (part_of d) (joined done) rest in
    let mine : length (part_of p) + length (joined ps) < 2 ^ 64 = subst (λ n. n < 2 ^ 64) (length-append (part_of p) (joined ps)) small in
    let theirs : length (part_of d) + length (joined done ++ rest) < 2 ^ 64 =
    subst (λ n. n < 2 ^ 64) (ap length same ∙ length-append (part_of d) (joined done ++ rest)) small in
    let p_size : length (part_of p) ≡ length (to_be_bytes w64 (length p)) + length p = length-append (to_be_bytes w64 (length p)) p in
    let d_size : length (part_of d) ≡ length (to_be_bytes w64 (length d)) + length d = length-append (to_be_bytes w64 (length d)) d in
    left done ps rest (omega arith) (unjoined p d (joined ps) (joined done ++ rest) (omega arith) (omega arith) same).1

-- if bytes are left that do not begin with the bytes of a part, the whole is not the bytes of parts
pub no_parts : (done ps : List (List ℕ)) (rest : List ℕ) → length (joined ps) < 2 ^ 64 → 0 < length rest → ((part more : List ℕ) → rest ≢ part_of part ++ more) → joined ps ≢ joined done ++ rest
no_parts done ps rest short some none e =
    let l = left done ps rest short e in
    none_left l.0 rest some none l.1
  where
    none_left : (more : List (List ℕ)) (rest : List ℕ) → 0 < length rest → ((part more : List ℕ) → rest ≢ part_of part ++ more) → rest ≡ joined more → ⊥
    none_left [] rest some none e =
        let empty : length rest ≡ 0 = ap length e in
        absurd (omega arith)
    none_left (p ∷ ps) rest some none e = none p (joined ps) e

-- the parts that were read, before the first
pub read-none : (xs : List (Bor (List ℕ))) (bytes : List ℕ) → xs ≡ [] → bytes ≡ joined (map (λ p. p.now) xs) ++ bytes
read-none xs bytes e = rw e refl

-- and after one more
pub read-more : (xs ys : List (Bor (List ℕ))) (p : Bor (List ℕ)) (bytes rest after : List ℕ) → bytes ≡ joined (map (λ p. p.now) xs) ++ rest → rest ≡ part_of p.now ++ after → ys ≡ xs ++ p ∷ []
    → bytes ≡ joined (map (λ p. p.now) ys) ++ after
read-more xs ys p bytes rest after was first is =
    was ∙ ap (λ z. joined (map (λ p. p.now) xs) ++ z) first ∙ sym (append_assoc (joined (map (λ p. p.now) xs)) (part_of p.now) after)
    ∙ ap (λ z. z ++ after) (sym (joined-more (map (λ p. p.now) xs) p.now) ∙ ap joined (sym (map-append (λ p. p.now) xs (p ∷ [])) ∙ ap (map (λ p. p.now)) (sym is)))

-- no two lists of bytes have the same text
pub unpacked-once : (a b : List ℕ) → IsBytes a → IsBytes b → packed_bytes a ≡ packed_bytes b → a ≡ b
unpacked-once a b bytes_a bytes_b e =
    let texts : encode_of standard a ≡ encode_of standard b = ap (drop 1) e in
    let same : Ok a ≡ Ok b = sym (decode_of-encode_of standard a refl bytes_a) ∙ ap (decode_of standard) texts ∙ decode_of-encode_of standard b refl bytes_b in
    cc
