-- The compact text of a value is UTF-8 and reads back as the value: where its strings are texts, its numbers whole and its members in order.
use Rattle.std.proofs.Common.{◌≡◌, ℕ, zero, suc, max, ◌^◌, ◌<◌, ◌≤◌, Bool, true, false, List, [], ◌∷◌, Some, IsUtf8, refl, sym, ap, ap₂, ◌∙◌, append-nil, arith}
use Rattle.std.specs.Prelude.{option_map, IsAscii}
use Rattle.std.specs.List.{AllByRecursion}
use Rattle.std.proofs.lemmas.Str.{IsUtf8-append, IsUtf8-nil, IsUtf8-from_ascii}
use Rattle.std.proofs.lemmas.Fmt.{IsAscii-decimal}
use Rattle.json.specs.Json as json
use Rattle.json.specs.Lex.{tokens}
use Rattle.json.specs.Tree as tree
use Rattle.json.specs.Tree.{json_tokens, HasNumbers, ItemsHaveNumbers, MembersHaveNumbers}
use Rattle.json.proofs.Printed.Decimals.{IsNumber-decimal}
use Rattle.json.proofs.Printed.Tokens.{tokens-print}
use Rattle.json.proofs.Printed.Trees.{ArePrintable-json_tokens, value-json_tokens}
use Rattle.json.proofs.Printed.Utf8.{IsUtf8-are_ascii, IsUtf8-quoted, IsUtf8-boolean}
use Rattle.serde_json.specs.Data.{Num, unsigned, negative, float, Data, null, boolean, number, string, array, object, Items, no_items, item, Members, no_members, member, put, depth, items_depth, members_depth}
use Rattle.serde_json.specs.Read.{read, max_depth, of_json, of_items, of_members}
use Rattle.serde_json.specs.Written.{outline, items_outline, members_outline, comma_if, compact_text, items_text, members_text}
use Rattle.serde_json.proofs.Numbers.{number_of-decimal}
use Rattle.serde_json.proofs.Texts.{print-outline}

-- the members, put in again one after another
abbrev pub put_again : Members → Members → Members
put_again no_members found = found
put_again (member k d ms) found = put_again ms (put k d found)

abbrev pub IsWhole : Num → Type 0
IsWhole (unsigned n) = n < 2 ^ 64
IsWhole (negative z) = ⊥
IsWhole (float x) = ⊥

-- strings are texts, numbers are whole and fit, and members are in order
abbrev mutual
  pub IsPrinted : Data → Type 0
  IsPrinted null = Unit {0}
  IsPrinted (boolean b) = Unit {0}
  IsPrinted (number n) = IsWhole n
  IsPrinted (string s) = IsUtf8 s
  IsPrinted (array ds) = ArePrinted ds
  IsPrinted (object ms) = MembersArePrinted ms × (put_again ms no_members ≡ ms)

  pub ArePrinted : Items → Type 0
  ArePrinted no_items = Unit {0}
  ArePrinted (item d ds) = IsPrinted d × ArePrinted ds

  pub MembersArePrinted : Members → Type 0
  MembersArePrinted no_members = Unit {0}
  MembersArePrinted (member k d ms) = IsUtf8 k × IsPrinted d × MembersArePrinted ms

-- ---- the tokens

mutual
  has_numbers : (d : Data) → IsPrinted d → HasNumbers (outline d)
  has_numbers null h = tt
  has_numbers (boolean b) h = tt
  has_numbers (number (unsigned n)) h = IsNumber-decimal n h
  has_numbers (number (negative z)) h = absurd h
  has_numbers (number (float x)) h = absurd h
  has_numbers (string s) h = tt
  has_numbers (array ds) h = items_have_numbers ds h
  has_numbers (object ms) h = members_have_numbers ms h.0

  items_have_numbers : (ds : Items) → ArePrinted ds → ItemsHaveNumbers (items_outline ds)
  items_have_numbers no_items h = tt
  items_have_numbers (item d ds) h = (has_numbers d h.0, items_have_numbers ds h.1)

  members_have_numbers : (ms : Members) → MembersArePrinted ms → MembersHaveNumbers (members_outline ms)
  members_have_numbers no_members h = tt
  members_have_numbers (member k d ms) h = (has_numbers d h.1, members_have_numbers ms h.2)

mutual
  depth-outline : (d : Data) → tree.depth (outline d) ≡ depth d
  depth-outline null = refl
  depth-outline (boolean b) = refl
  depth-outline (number n) = refl
  depth-outline (string s) = refl
  depth-outline (array ds) = ap suc (depth-items ds)
  depth-outline (object ms) = ap suc (depth-members ms)

  depth-items : (ds : Items) → tree.items_depth (items_outline ds) ≡ items_depth ds
  depth-items no_items = refl
  depth-items (item d ds) = ap₂ max (depth-outline d) (depth-items ds)

  depth-members : (ms : Members) → tree.members_depth (members_outline ms) ≡ members_depth ms
  depth-members no_members = refl
  depth-members (member k d ms) = ap₂ max (depth-outline d) (depth-members ms)

mutual
  of_json-outline : (d : Data) → IsPrinted d → of_json (outline d) ≡ Some d
  of_json-outline null h = refl
  of_json-outline (boolean b) h = refl
  of_json-outline (number (unsigned n)) h = ap (option_map number) (number_of-decimal n h)
  of_json-outline (number (negative z)) h = absurd h
  of_json-outline (number (float x)) h = absurd h
  of_json-outline (string s) h = refl
  of_json-outline (array ds) h = ap (option_map array) (of_items-outline ds h)
  of_json-outline (object ms) h = ap (option_map object) (of_members-outline ms no_members h.0 ∙ ap Some h.1)

  of_items-outline : (ds : Items) → ArePrinted ds → of_items (items_outline ds) ≡ Some ds
  of_items-outline no_items h = refl
  of_items-outline (item d ds) h = rw (of_json-outline d h.0) (ap (option_map (item d)) (of_items-outline ds h.1))

  of_members-outline : (ms found : Members) → MembersArePrinted ms → of_members (members_outline ms) found ≡ Some (put_again ms found)
  of_members-outline no_members found h = refl
  of_members-outline (member k d ms) found h = rw (of_json-outline d h.1) (of_members-outline ms (put k d found) h.2)

pub read_back : (d : Data) → IsPrinted d → depth d ≤ max_depth → read (compact_text d) ≡ Some d
read_back d h shallow =
    let ts = json_tokens (outline d) in
    let lexed : tokens (compact_text d) ≡ ts = ap tokens (sym (print-outline d)) ∙ tokens-print ts (ArePrintable-json_tokens (outline d) (has_numbers d h)) in
    let parsed : json.value max_depth ts ≡ Some (outline d, []) = ap (json.value max_depth) (sym (append-nil ts)) ∙ value-json_tokens (outline d) max_depth [] (omega (arith, depth-outline d)) in
    rw (lexed, parsed) (of_json-outline d h)

-- ---- the bytes

ascii_list : (xs : List ℕ) → AllByRecursion (λ b. b < 128) xs → IsAscii xs
ascii_list [] h i = omega arith
ascii_list (x ∷ xs) h zero = omega (arith, h.0)
ascii_list (x ∷ xs) h (suc i) = ascii_list xs h.1 i

pub IsUtf8-small : (xs : List ℕ) → AllByRecursion (λ b. b < 128) xs → IsUtf8 xs
IsUtf8-small xs h = IsUtf8-from_ascii xs (ascii_list xs h)

ascii_before : (x : ℕ) (xs : List ℕ) → x < 128 → IsUtf8 xs → IsUtf8 (x ∷ xs)
ascii_before x xs small h = IsUtf8-append (x ∷ []) xs (IsUtf8-small (x ∷ []) (small, tt)) h

IsUtf8-comma : (later : Bool) → IsUtf8 (comma_if later)
IsUtf8-comma true = IsUtf8-are_ascii _ refl
IsUtf8-comma false = IsUtf8-nil

mutual
  pub text_is_utf8 : (d : Data) → IsPrinted d → IsUtf8 (compact_text d)
  text_is_utf8 null h = IsUtf8-are_ascii _ refl
  text_is_utf8 (boolean b) h = IsUtf8-boolean b
  text_is_utf8 (number (unsigned n)) h = IsUtf8-from_ascii _ (IsAscii-decimal n h)
  text_is_utf8 (number (negative z)) h = absurd h
  text_is_utf8 (number (float x)) h = absurd h
  text_is_utf8 (string s) h = IsUtf8-quoted s h
  text_is_utf8 (array ds) h = ascii_before 91 _ (omega arith) (items_are_utf8 false ds h)
  text_is_utf8 (object ms) h = ascii_before 123 _ (omega arith) (members_are_utf8 false ms h.0)

  items_are_utf8 : (later : Bool) (ds : Items) → ArePrinted ds → IsUtf8 (items_text later ds)
  items_are_utf8 later no_items h = IsUtf8-are_ascii (93 ∷ []) refl
  items_are_utf8 later (item d ds) h = IsUtf8-append _ _ (IsUtf8-comma later) (IsUtf8-append _ _ (text_is_utf8 d h.0) (items_are_utf8 true ds h.1))

  members_are_utf8 : (later : Bool) (ms : Members) → MembersArePrinted ms → IsUtf8 (members_text later ms)
  members_are_utf8 later no_members h = IsUtf8-are_ascii (125 ∷ []) refl
  members_are_utf8 later (member k d ms) h =
      IsUtf8-append _ _ (IsUtf8-comma later) (IsUtf8-append _ _ (IsUtf8-quoted k h.0) (ascii_before 58 _ (omega arith) (IsUtf8-append _ _ (text_is_utf8 d h.1) (members_are_utf8 true ms h.2))))
