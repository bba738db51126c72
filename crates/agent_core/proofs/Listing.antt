-- The keys of things, one after the other.
use Rattle.std.proofs.Common.{◌≡◌, ◌≢◌, ℕ, suc, ◌+◌, ◌<◌, ◌≤◌, true, false, Some, IsUtf8, subst, List, [], ◌∷◌, ◌++◌, length, get_or, take, drop, map, Result, Ok, Err, IfOk, IfErr, refl, sym, ap, ◌∙◌, add-one, append_assoc, arith}
use Rattle.std.proofs.Math.Seq.{drop-cons}
use Rattle.std.proofs.lemmas.Bool.{false_from_ne_true, le-leb, lt-leb}
use Rattle.std.proofs.lemmas.List.{length-append, length-take, take_all}
use Rattle.std.proofs.lemmas.Str.{IsUtf8-from_is_utf8, is_utf8-from_IsUtf8}
use Rattle.std.specs.Str.{is_utf8}
use Rattle.std.specs.Str.Lines.{lines}
use Rattle.serde_json.specs.Find.{as_array}
use Rattle.serde_json.specs.Read.{read}
use Rattle.agent_core.specs.declared.refusals.KeyFault.TheVariants.{NotUtf8}
use Rattle.agent_core.specs.declared.refusals.Part.TheVariants.{Body}
use Rattle.agent_core.specs.declared.refusals.Refusal.{Refusal}
use Rattle.agent_core.specs.declared.refusals.Refusal.TheVariants.{BadKey, Malformed, ManyKeys, Memory}
use Rattle.agent_core.specs.Requests.{bytes_at, element_at, few_keys, is_list, key_before, keys_from, keys_in, keys_of_data, keys_of_items, line_at, text_at}
use Rattle.serde_json.specs.Data.{Data}
use Rattle.serde_json.specs.View.{items_of}
use Rattle.agent_core.specs.Requests.{elements}

-- these keys before others, or the first fault of those
abbrev pub keys_before : List (List ℕ) → Result (List (List ℕ)) Refusal → Result (List (List ℕ)) Refusal
keys_before keys (Err e) = Err e
keys_before keys (Ok more) = Ok (keys ++ more)

-- one more key stands before the others
more_before : (keys : List (List ℕ)) (key : List ℕ) (r : Result (List (List ℕ)) Refusal) → keys_before keys (key_before (Ok key) r) ≡ keys_before (keys ++ key ∷ []) r
more_before keys key (Err e) = refl
more_before keys key (Ok more) = ap Ok (sym (append_assoc keys (key ∷ []) more))

here : {X : Type 0} (vs : List X) (i : ℕ) (v : X) → i < length vs → v ≡ get_or vs i v → drop i vs ≡ v ∷ drop (i + 1) vs
here vs i v lt is = rw add-one (drop-cons vs i v lt ∙ ap (λ x. x ∷ drop (suc i) vs) (sym is))

module _ {X A : Type 0} (f : X → A) (key : ℕ → A → Result (List ℕ) Refusal) (vs : List X) where
  -- the keys so far stand before those that are left
  abbrev pub SoFar : ℕ → List (List ℕ) → Type 0
  SoFar i keys = keys_from key 1 (map f vs) ≡ keys_before keys (keys_from key (length keys + 1) (map f (drop i vs)))

  -- the one at i, and those after it
  split : (i : ℕ) (v : X) (keys : List (List ℕ)) → i < length vs → v ≡ get_or vs i v → SoFar i keys
      → keys_from key 1 (map f vs) ≡ keys_before keys (key_before (key (length keys + 1) (f v)) (keys_from key (length keys + 1 + 1) (map f (drop (i + 1) vs))))
  split i v keys lt is so_far = so_far ∙ ap (λ xs. keys_before keys (keys_from key (length keys + 1) (map f xs))) (here vs i v lt is)

  -- the key at i is read
  pub reads : (i : ℕ) (v : X) (keys : List (List ℕ)) (k : List ℕ) → i < length vs → v ≡ get_or vs i v → SoFar i keys
      → key (length keys + 1) (f v) ≡ Ok k → SoFar (i + 1) (keys ++ k ∷ [])
  reads i v keys k lt is so_far good =
      let rest = map f (drop (i + 1) vs) in
      split i v keys lt is so_far
      ∙ ap (λ r. keys_before keys (key_before r (keys_from key (length keys + 1 + 1) rest))) good
      ∙ more_before keys k (keys_from key (length keys + 1 + 1) rest)
      ∙ ap (λ n. keys_before (keys ++ k ∷ []) (keys_from key (n + 1) rest)) (sym (length-append keys (k ∷ [])))

  -- the one at i is at fault
  pub fails : (i : ℕ) (v : X) (keys : List (List ℕ)) (e : Refusal) → i < length vs → v ≡ get_or vs i v → SoFar i keys
      → key (length keys + 1) (f v) ≡ Err e → keys_from key 1 (map f vs) ≡ Err e
  fails i v keys e lt is so_far bad =
      split i v keys lt is so_far
      ∙ ap (λ r. keys_before keys (key_before r (keys_from key (length keys + 1 + 1) (map f (drop (i + 1) vs))))) bad

-- the elements of a list
pub elements_of : (ds : List Data) → elements (items_of ds) ≡ ds
elements_of [] = refl
elements_of (d ∷ ds) = ap (λ xs. d ∷ xs) (elements_of ds)

-- ---- at most 4,096

-- no more than 4,096 of the first 4,097 are all
pub all_of : {A : Type 0} (xs some : List A) → some ≡ take 4097 xs → length some ≤ 4096 → some ≡ xs
all_of xs some is few =
    let size : length some ≡ length (take 4097 xs) = ap length is in
    let least = length-take 4097 xs in
    is ∙ take_all 4097 xs (omega arith)

pub few_keys-few : {A : Type 0} (key : ℕ → A → Result (List ℕ) Refusal) (xs : List A) → length xs ≤ 4096 → few_keys key xs ≡ keys_from key 1 xs
few_keys-few key xs few = rw (le-leb (length xs) 4096 few) refl

pub few_keys-many : {A : Type 0} (key : ℕ → A → Result (List ℕ) Refusal) (xs : List A) → 4096 < length xs → few_keys key xs ≡ Err ManyKeys
few_keys-many key xs many = rw (lt-leb (length xs) 4096 many) refl

-- more than 4,096 of the first 4,097 are of more than 4,096
pub more_of : {A : Type 0} (xs some : List A) → some ≡ take 4097 xs → 4096 < length some → 4096 < length xs
more_of xs some is many =
    let size : length some ≡ length (take 4097 xs) = ap length is in
    let least = length-take 4097 xs in
    omega arith

-- ---- what is said of a result, where another definition has the same value

pub ok_as : {X : Type 0} (r a b : Result X Refusal) → a ≡ b → IfOk r (λ x. b ≡ Ok x) → IfOk r (λ x. a ≡ Ok x)
ok_as {X} r a b e h = subst (λ (w : Result X Refusal). IfOk r (λ x. w ≡ Ok x)) (sym e) h

pub err_as : {X : Type 0} (r a b : Result X Refusal) → a ≡ b → IfErr r (λ x. x ≢ Memory → b ≡ Err x) → IfErr r (λ x. x ≢ Memory → a ≡ Err x)
err_as {X} r a b e h = subst (λ (w : Result X Refusal). IfErr r (λ x. x ≢ Memory → w ≡ Err x)) (sym e) h

-- ---- bodies

pub keys_in-list : (body : List ℕ) → IsUtf8 body → is_list body ≡ true → keys_in body ≡ keys_of_data (read body)
keys_in-list body text list = rw (is_utf8-from_IsUtf8 body text, list) refl

pub keys_in-lines : (body : List ℕ) → IsUtf8 body → is_list body ≡ false → keys_in body ≡ few_keys line_at (lines body)
keys_in-lines body text list = rw (is_utf8-from_IsUtf8 body text, list) refl

pub keys_in-none : (body : List ℕ) → ¬ IsUtf8 body → keys_in body ≡ Err (Malformed Body)
keys_in-none body h = rw (false_from_ne_true (is_utf8 body) (λ t. h (IsUtf8-from_is_utf8 body t))) refl

-- a line's bytes
pub bytes_at-text : (place : ℕ) (bytes : List ℕ) → IsUtf8 bytes → bytes_at place bytes ≡ text_at place bytes
bytes_at-text place bytes text = rw (is_utf8-from_IsUtf8 bytes text) refl

pub bytes_at-none : (place : ℕ) (bytes : List ℕ) → ¬ IsUtf8 bytes → bytes_at place bytes ≡ Err (BadKey place NotUtf8)
bytes_at-none place bytes h = rw (false_from_ne_true (is_utf8 bytes) (λ t. h (IsUtf8-from_is_utf8 bytes t))) refl

-- a JSON list
pub keys_of_data-list : (text : List ℕ) (value : Data) (ds : List Data) → read text ≡ Some value → as_array value ≡ Some (items_of ds)
    → keys_of_data (read text) ≡ few_keys element_at ds
keys_of_data-list text value ds is list = ap keys_of_data is ∙ ap keys_of_items list ∙ ap (few_keys element_at) (elements_of ds)
