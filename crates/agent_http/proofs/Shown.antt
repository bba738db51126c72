-- The fields of responses.
use Rattle.std.proofs.Common.{◌≡◌, ◌≢◌, ◌∙◌, ◌+◌, ◌<◌, ◌≤◌, ◌^◌, ℕ, List, [], ◌∷◌, ◌++◌, Option, Some, ap, get_or, length, map, subst, sym, take}
use Rattle.std.proofs.lemmas.List.{get_or-map, length-map, map-append, take_all, take_more}
use Rattle.std.proofs.lemmas.List.Elements.{All-get_or, All-push}
use Rattle.std.specs.List.{All}
use Rattle.std.specs.Prelude.{IfSome}
use Rattle.base64.specs.GeneralPurpose.{IsBytes}
use Rattle.http1.specs.Fields.{Header}
use Rattle.http_header.specs.FieldValue.{FieldValue}
use Rattle.http_server.specs.declared.response.Response.{Response}
use Rattle.http_server.specs.Response.{IsResponse, fields, fields_of}
use Rattle.agent_core.specs.Parts.{joined, packed_bytes}
use Rattle.agent_core.specs.Passing.{AreParts, answer_parts, named}
use Rattle.agent_core.specs.declared.passing.Field.{Field}
use Rattle.agent_core.proofs.Parting.{all-fit, unpacked-once}
use Rattle.agent_core.proofs.Passed.{answer-once}
use Rattle.agent_http.specs.Replies.{HasAnswer, HasNoAnswer, IsField, lower}

-- what is said of a value that is there
pub of_some : {A : Type 0} (P : A → Type 0) (r : Option A) (a : A) → r ≡ Some a → IfSome r P → P a
of_some P r a is said = subst (λ it. IfSome it P) is said

-- fields after others
pub fields_more : (old more new : List (List ℕ × FieldValue)) → new ≡ old ++ more → fields new ≡ fields old ++ fields more
fields_more old more new is = ap fields is ∙ map-append (λ h. (h.0, h.1.bytes)) old more

-- these are fields of HTTP, and are shown so
abbrev pub AreShown : List Field → List (List ℕ × FieldValue) → Type 0
AreShown given shown = All IsField (map named given) × (fields shown ≡ map lower (map named given))

-- one more is shown
pub one_shown : (given : List Field) (i : ℕ) (d : Field) (header : List ℕ × FieldValue) (old new : List (List ℕ × FieldValue)) → i < length given
    → AreShown (take i given) old → IsField (named (get_or given i d)) × ((header.0, header.1.bytes) ≡ lower (named (get_or given i d)))
    → new ≡ old ++ header ∷ [] → AreShown (take (i + 1) given) new
one_shown given i d header old new lt so_far is grown =
    let before = map named (take i given) in
    let field = get_or given i d in
    let more : map named (take (i + 1) given) ≡ before ++ named field ∷ [] =
    ap (map named) (take_more given i d lt) ∙ map-append named (take i given) (field ∷ []) in (
      subst (All IsField) (sym more) (All-push IsField before (named field) so_far.0 is.0),
      fields_more old (header ∷ []) new grown ∙ ap (λ z. z ++ (header.0, header.1.bytes) ∷ []) so_far.1
          ∙ ap (λ x. map lower before ++ x ∷ []) is.1
          ∙ sym (map-append lower before (named field ∷ [])) ∙ ap (map lower) (sym more),
    )

-- all are
pub all_shown : (given : List Field) (n : ℕ) (shown : List (List ℕ × FieldValue)) → length given ≤ n → AreShown (take n given) shown → AreShown given shown
all_shown given n shown all so_far = subst (λ (it : List Field). AreShown it shown) (take_all n given all) so_far

-- one is no field of HTTP
pub not_shown : (given : List Field) (i : ℕ) (d : Field) → i < length given → ¬ (IsField (named (get_or given i d))) → ¬ (All IsField (map named given))
not_shown given i d lt none all =
    let within : i < length (map named given) = subst (λ n. i < n) (sym (length-map given named)) lt in
    none (subst IsField (get_or-map named given i d (named d) lt) (All-get_or IsField (map named given) i (named d) within all))

-- a response with these fields, and then with more
pub grown : (status : ℕ) (told more : List Header) (body : List ℕ) (old new : Response) → IsResponse status told body old
    → new.status ≡ old.status → new.body ≡ old.body → fields_of new ≡ fields_of old ++ more → IsResponse status (told ++ more) body new
grown status told more body old new is same_status same_body longer = record {
  status = same_status ∙ is.status;
  headers = longer ∙ ap (λ z. z ++ more) is.headers;
  body = body_of is.body same_body;
}
  where
    body_of : old.body.items ≡ body → new.body ≡ old.body → new.body.items ≡ body
    body_of was same = cc

-- a text has the answer whose parts it packs
pub has_answer : (text bytes : List ℕ) (status : ℕ) (body : List ℕ) (told : List Header) → text ≡ packed_bytes bytes → IsBytes bytes
    → bytes ≡ joined (answer_parts status body told) → 200 ≤ status → status ≤ 599 → All IsField told → HasAnswer text status body told
has_answer text bytes status body told is octets came low high names = record {
  packed = is ∙ ap packed_bytes came;
  bytes = subst IsBytes came octets;
  least = low;
  greatest = high;
  names = names;
}

-- it has none if a field of the only one is none of HTTP
pub no_answer : (text bytes : List ℕ) (status : ℕ) (body : List ℕ) (told : List Header) → length bytes < 2 ^ 64 → text ≡ packed_bytes bytes → IsBytes bytes
    → bytes ≡ joined (answer_parts status body told) → status ≤ 599 → ¬ (All IsField told) → HasNoAnswer text
no_answer text bytes status body told short is octets came high none s b fs has =
    let same : joined (answer_parts s b fs) ≡ bytes = unpacked-once (joined (answer_parts s b fs)) bytes has.bytes octets (sym has.packed ∙ is) in
    let mine : AreParts (answer_parts status body told) =
    (all-fit (answer_parts status body told) (subst (λ (z : List ℕ). length z < 2 ^ 64) came short), subst IsBytes came octets) in
    let theirs : AreParts (answer_parts s b fs) =
    (all-fit (answer_parts s b fs) (subst (λ (z : List ℕ). length z < 2 ^ 64) (sym same) short), has.bytes) in
    let once = answer-once status body told s b fs high has.greatest mine theirs (sym (is ∙ ap packed_bytes came) ∙ has.packed) in
    none (subst (All IsField) (sym once.2) has.names)

-- nor if it packs no parts of an answer
pub unread : (text bytes : List ℕ) → text ≡ packed_bytes bytes → IsBytes bytes
    → ((status : ℕ) (body : List ℕ) (told : List Header) → 200 ≤ status → status ≤ 599 → bytes ≢ joined (answer_parts status body told)) → HasNoAnswer text
unread text bytes is octets none s b fs has =
    none s b fs has.least has.greatest (sym (unpacked-once (joined (answer_parts s b fs)) bytes has.bytes octets (sym has.packed ∙ is)))
