-- Requests and answers that are passed on whole come out whole.
use Rattle.std.proofs.Common.{◌≡◌, ◌≢◌, ◌==◌, not, ℕ, ◌+◌, ◌-◌, ◌*◌, ◌/◌, ◌%◌, ◌<◌, ◌≤◌, Bool, true, false, ◌&&◌, Bor, List, [], ◌∷◌, ◌++◌, length, get_or, take, drop, map, Option, Some, None, IfSome, IfNone, decimal, refl, sym, ap, ◌∙◌, ⊎_elim, true≢false, arith, append_assoc, append-nil, codes}
use Rattle.std.proofs.lemmas.Bool.{cases_Bool, leb-true, and_parts, cond-true, cond-false, not-true}
use Rattle.std.proofs.lemmas.Fmt.{decimal_injective}
use Rattle.std.proofs.lemmas.List.{length-map, map-append, take_all, take_more}
use Rattle.agent_core.specs.Packs.{is_marked, is_within, marked, packed}
use Rattle.agent_core.specs.Parts.{is_reserved, joined, packed_bytes, part_of, text_of_body, text_of_parts}
use Rattle.change_core.specs.Address.{address_text}
use Rattle.agent_core.specs.Passing.{AreParts, answer_parts, answer_text, flat, named, next_fields, request_parts, request_text, status_in}
use Rattle.agent_core.specs.declared.passing.Field.{Field}
use Rattle.agent_core.proofs.Packing.{decimal_three, is_within-true}
use Rattle.agent_core.proofs.Parting.{joined-once, unpacked-once}

-- more fields come after others
flat-append : (fs gs : List (List ℕ × List ℕ)) → flat (fs ++ gs) ≡ flat fs ++ flat gs
flat-append [] gs = refl
flat-append (f ∷ fs) gs = ap (λ z. f.0 ∷ f.1 ∷ z) (flat-append fs gs)

-- fields have twice as many parts
length-flat : (fs : List (List ℕ × List ℕ)) → length (flat fs) ≡ 2 * length fs
length-flat [] = refl
length-flat (f ∷ fs) =
    let rest = length-flat fs in
    omega arith

-- an odd number of parts is not that of fields
pub not_flat : (parts : List (Bor (List ℕ))) (fields : List (List ℕ × List ℕ)) → length parts % 2 ≢ 0 → map (λ p. p.now) parts ≢ flat fields
not_flat parts fields odd e =
    let size : length parts ≡ 2 * length fields = sym (length-map parts (λ p. p.now)) ∙ ap length e ∙ length-flat fields in
    odd (omega arith)

-- two more of these
take-two : (xs : List (Bor (List ℕ))) (k : ℕ) (d e : Bor (List ℕ)) → k + 1 < length xs → take (k + 2) xs ≡ take k xs ++ get_or xs k d ∷ get_or xs (k + 1) e ∷ []
take-two xs k d e lt =
    let second : take (k + 1 + 1) xs ≡ take (k + 1) xs ++ get_or xs (k + 1) e ∷ [] = take_more xs (k + 1) e lt in
    let first : take (k + 1) xs ≡ take k xs ++ get_or xs k d ∷ [] = take_more xs k d (omega arith) in
    let sum : k + 2 ≡ k + 1 + 1 = omega arith in
    ap (λ n. take n xs) sum ∙ second ∙ ap (λ z. z ++ get_or xs (k + 1) e ∷ []) first
    ∙ append_assoc (take k xs) (get_or xs k d ∷ []) (get_or xs (k + 1) e ∷ [])

-- one more field is read
pub read_field : (parts : List (Bor (List ℕ))) (xs : List Field) (i : ℕ) (d e : Bor (List ℕ)) (f : Field) → 2 * i + 1 < length parts
    → f.name ≡ get_or parts (2 * i) d → f.value ≡ get_or parts (2 * i + 1) e
    → map (λ p. p.now) (take (2 * i) parts) ≡ flat (map named xs) → map (λ p. p.now) (take (2 * (i + 1)) parts) ≡ flat (map named (xs ++ f ∷ []))
read_field parts xs i d e f lt name value so_far =
    let sum : 2 * (i + 1) ≡ 2 * i + 2 = omega arith in
    let two : take (2 * i + 2) parts ≡ take (2 * i) parts ++ f.name ∷ f.value ∷ [] =
    take-two parts (2 * i) d e lt ∙ ap (λ p. take (2 * i) parts ++ p ∷ get_or parts (2 * i + 1) e ∷ []) (sym name)
    ∙ ap (λ p. take (2 * i) parts ++ f.name ∷ p ∷ []) (sym value) in
    ap (λ n. map (λ p. p.now) (take n parts)) sum ∙ ap (map (λ p. p.now)) two
    ∙ map-append (λ p. p.now) (take (2 * i) parts) (f.name ∷ f.value ∷ [])
    ∙ ap (λ z. z ++ f.name.now ∷ f.value.now ∷ []) so_far
    ∙ sym (ap flat (map-append named xs (f ∷ [])) ∙ flat-append (map named xs) (named f ∷ []))

-- all fields are read
pub read_all : (parts : List (Bor (List ℕ))) (xs : List Field) (i : ℕ) → length parts ≤ 2 * i
    → map (λ p. p.now) (take (2 * i) parts) ≡ flat (map named xs) → map (λ p. p.now) parts ≡ flat (map named xs)
read_all parts xs i all so_far = sym (ap (map (λ p. p.now)) (take_all (2 * i) parts all)) ∙ so_far

-- the bytes of a request, which were appended one part after the other
pub request_bytes : (m t b fields : List ℕ) (all : List (List ℕ × List ℕ)) → fields ≡ joined (flat all)
    → ((part_of m ++ part_of t) ++ part_of b) ++ fields ≡ joined (request_parts m t b all)
request_bytes m t b fields all is =
    append_assoc (part_of m ++ part_of t) (part_of b) fields ∙ append_assoc (part_of m) (part_of t) (part_of b ++ fields)
    ∙ ap (λ z. part_of m ++ (part_of t ++ (part_of b ++ z))) is

-- parts come after others
joined-append : (ps qs : List (List ℕ)) → joined ps ++ joined qs ≡ joined (ps ++ qs)
joined-append [] qs = refl
joined-append (p ∷ ps) qs = append_assoc (part_of p) (joined ps) (joined qs) ∙ ap (λ z. part_of p ++ z) (joined-append ps qs)

-- more fields of a request come after the others
pub request-more : (m t b : List ℕ) (fs gs : List (List ℕ × List ℕ))
    → joined (request_parts m t b fs) ++ joined (flat gs) ≡ joined (request_parts m t b (fs ++ gs))
request-more m t b fs gs =
    joined-append (request_parts m t b fs) (flat gs) ∙ ap (λ z. joined (m ∷ t ∷ b ∷ z)) (sym (flat-append fs gs))

-- the bytes of an answer, which were appended so
pub answer_bytes : (status : ℕ) (b fields : List ℕ) (all : List (List ℕ × List ℕ)) → fields ≡ joined (flat all)
    → packed_bytes ((part_of (decimal status) ++ part_of b) ++ fields) ≡ answer_text status b all
answer_bytes status b fields all is =
    ap packed_bytes (append_assoc (part_of (decimal status)) (part_of b) fields ∙ ap (λ z. part_of (decimal status) ++ (part_of b ++ z)) is)

-- no field comes after others
pub no_next : (old : List ℕ) → old ≡ old ++ joined (flat (next_fields None))
no_next old = sym (append-nil old)

-- one field comes after others
pub one_next : (old value : List ℕ) (a : ℕ) → value ≡ address_text a
    → (old ++ part_of (codes "x-ringpop-next")) ++ part_of value ≡ old ++ joined (flat (next_fields (Some a)))
one_next old value a is =
    append_assoc old (part_of (codes "x-ringpop-next")) (part_of value)
    ∙ ap (λ z. old ++ (part_of (codes "x-ringpop-next") ++ z)) (ap part_of is ∙ sym (append-nil (part_of (address_text a))))

-- no two lists of fields have the same parts
flat-once : (fs gs : List (List ℕ × List ℕ)) → flat fs ≡ flat gs → fs ≡ gs
flat-once [] [] e = refl
flat-once [] (g ∷ gs) e = absurd (cc)
flat-once (f ∷ fs) [] e = absurd (cc)
flat-once ((n, v) ∷ fs) ((m, w) ∷ gs) e =
    let rest : fs ≡ gs = flat-once fs gs (ap (drop 2) e) in
    let name : n ≡ m = ap (λ ps. get_or ps 0 []) e in
    let value : v ≡ w = ap (λ ps. get_or ps 1 []) e in
    cc

-- no two lists of parts have the same text
text-once : (ps qs : List (List ℕ)) → AreParts ps → AreParts qs → text_of_parts ps ≡ text_of_parts qs → ps ≡ qs
text-once ps qs p q e = joined-once ps qs p.0 q.0 (unpacked-once (joined ps) (joined qs) p.1 q.1 e)

-- no two requests have the same text
pub request-once : (method target body : List ℕ) (fields : List (List ℕ × List ℕ)) (method2 target2 body2 : List ℕ) (fields2 : List (List ℕ × List ℕ))
    → AreParts (request_parts method target body fields) → AreParts (request_parts method2 target2 body2 fields2)
    → request_text method target body fields ≡ request_text method2 target2 body2 fields2
    → (method ≡ method2) × (target ≡ target2) × (body ≡ body2) × (fields ≡ fields2)
request-once m t b fs n u c gs p q e =
    let same = text-once (request_parts m t b fs) (request_parts n u c gs) p q e in
    (ap (λ ps. get_or ps 0 []) same, ap (λ ps. get_or ps 1 []) same, ap (λ ps. get_or ps 2 []) same, flat-once fs gs (ap (drop 3) same))

-- no two answers have the same text
pub answer-once : (status : ℕ) (body : List ℕ) (fields : List (List ℕ × List ℕ)) (status2 : ℕ) (body2 : List ℕ) (fields2 : List (List ℕ × List ℕ))
    → status ≤ 599 → status2 ≤ 599 → AreParts (answer_parts status body fields) → AreParts (answer_parts status2 body2 fields2)
    → answer_text status body fields ≡ answer_text status2 body2 fields2
    → (status ≡ status2) × (body ≡ body2) × (fields ≡ fields2)
answer-once s b fs r c gs s_high r_high p q e =
    let same = text-once (answer_parts s b fs) (answer_parts r c gs) p q e in
    (decimal_injective s r (omega arith) (omega arith) (ap (λ ps. get_or ps 0 []) same), ap (λ ps. get_or ps 1 []) same, flat-once fs gs (ap (drop 2) same))

-- the text of a body alone is no request's
pub body-no_request : (text method target body : List ℕ) (fields : List (List ℕ × List ℕ)) → AreParts (text ∷ []) → AreParts (request_parts method target body fields)
    → text_of_body text ≢ request_text method target body fields
body-no_request text m t b fs one parts e = ⊎_elim
    (λ (reserved : is_reserved text ≡ true).
    let same = text-once (text ∷ []) (request_parts m t b fs) one parts (sym (cond-true _ (text_of_parts (text ∷ [])) text reserved) ∙ e) in
    absurd (cc))
    (λ (free : is_reserved text ≡ false).
    let starts : is_reserved text ≡ true = ap is_reserved (sym (cond-false _ (text_of_parts (text ∷ [])) text free) ∙ e) in
    absurd (cc))
    (cases_Bool _)

-- a text that starts with the byte 3 is not that of an answer to a body alone
pub packed-no_parts : (status : ℕ) (is_json : Bool) (body parts : List ℕ) → packed status is_json body ≢ packed_bytes parts
packed-no_parts status is_json body parts e = ⊎_elim
    (λ (plain : ((status == 200) && (not is_json && not (is_marked body))) ≡ true).
    let unmarked : is_marked body ≡ false = not-true _ (and_parts _ _ (and_parts _ _ plain).1).1 in
    let is : is_marked body ≡ true = ap is_marked (sym (cond-true _ body (marked status is_json body) plain) ∙ e) in
    absurd (cc))
    (λ (marks : ((status == 200) && (not is_json && not (is_marked body))) ≡ false).
    no_mark is_json (sym (cond-false _ body (marked status is_json body) marks) ∙ e))
    (cases_Bool _)
  where
    no_mark : (json : Bool) → marked status json body ≢ packed_bytes parts
    no_mark true e =
        let mark : false ≡ true = ap is_reserved e in
        true≢false (sym mark)
    no_mark false e =
        let mark : false ≡ true = ap is_reserved e in
        true≢false (sym mark)

-- the status that its digits write
status_in-decimal : (status : ℕ) → 200 ≤ status → status ≤ 599 → status_in (decimal status) ≡ Some status
status_in-decimal status low high =
    let sum : 100 * (48 + status / 100 - 48) + 10 * (48 + status / 10 % 10 - 48) + (48 + status % 10 - 48) ≡ status = omega arith in
    rw (
      decimal_three status (omega arith) (omega arith),
      is_within-true 50 53 (48 + status / 100) (omega arith) (omega arith),
      is_within-true 48 57 (48 + status / 10 % 10) (omega arith) (omega arith),
      is_within-true 48 57 (48 + status % 10) (omega arith) (omega arith),
    )
    (ap Some sum)

-- and the digits that write a status
pub decimal-status_in : (digits : List ℕ) (status : ℕ) → status_in digits ≡ Some status → digits ≡ decimal status
decimal-status_in [] status e = absurd (cc)
decimal-status_in (a ∷ []) status e = absurd (cc)
decimal-status_in (a ∷ b ∷ []) status e = absurd (cc)
decimal-status_in (a ∷ b ∷ c ∷ d ∷ rest) status e = absurd (cc)
decimal-status_in (a ∷ b ∷ c ∷ []) status e = ⊎_elim
    (λ (are : (is_within 50 53 a && (is_within 48 57 b && is_within 48 57 c)) ≡ true).
    let sum : Some (100 * (a - 48) + 10 * (b - 48) + (c - 48)) ≡ Some status = sym (cond-true _ _ None are) ∙ e in
    let is : 100 * (a - 48) + 10 * (b - 48) + (c - 48) ≡ status = cc in
    let firsts = and_parts _ _ (and_parts _ _ are).0 in
    let others = and_parts _ _ (and_parts _ _ are).1 in
    let bs = and_parts _ _ others.0 in
    let cs = and_parts _ _ others.1 in
    digits-of status a b c is (leb-true 50 a firsts.0) (leb-true a 53 firsts.1) (leb-true 48 b bs.0) (leb-true b 57 bs.1) (leb-true 48 c cs.0) (leb-true c 57 cs.1))
    (λ (other : (is_within 50 53 a && (is_within 48 57 b && is_within 48 57 c)) ≡ false).
    let none : None ≡ Some status = sym (cond-false _ (Some (100 * (a - 48) + 10 * (b - 48) + (c - 48))) None other) ∙ e in
    absurd (cc))
    (cases_Bool _)
  where
    digits-of : (s a b c : ℕ) → 100 * (a - 48) + 10 * (b - 48) + (c - 48) ≡ s → 50 ≤ a → a ≤ 53 → 48 ≤ b → b ≤ 57 → 48 ≤ c → c ≤ 57 → a ∷ b ∷ c ∷ [] ≡ decimal s
    digits-of s a b c is a_low a_high b_low b_high c_low c_high =
        let first : 48 + s / 100 ≡ a = omega arith in
        let second : 48 + s / 10 % 10 ≡ b = omega arith in
        let third : 48 + s % 10 ≡ c = omega arith in
        sym (decimal_three s (omega arith) (omega arith) ∙ ap (λ x. x ∷ (48 + s / 10 % 10) ∷ (48 + s % 10) ∷ []) first
        ∙ ap (λ x. a ∷ x ∷ (48 + s % 10) ∷ []) second ∙ ap (λ x. a ∷ b ∷ x ∷ []) third)

-- the status whose digits these are, if there is one
pub digits_of : (r : Option ℕ) (digits : List ℕ) → r ≡ status_in digits → IfSome r (λ status. digits ≡ decimal status)
digits_of None digits e = tt
digits_of (Some status) digits e = decimal-status_in digits status (sym e)

-- and if there is none
pub no_digits : (r : Option ℕ) (digits : List ℕ) → r ≡ status_in digits → IfNone r ((status : ℕ) → 200 ≤ status → status ≤ 599 → digits ≢ decimal status)
no_digits (Some status) digits e = tt
no_digits None digits e = λ status low high same.
    let some : status_in digits ≡ Some status = ap status_in same ∙ status_in-decimal status low high in
    absurd (cc)
