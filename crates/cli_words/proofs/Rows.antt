-- The rows of a parse hold what its entries do.
use Rattle.std.proofs.Common.{◌≡◌, ◌∙◌, refl, ap, sym, List, [], ◌∷◌, Option, Some, None, map, find, option_map, option_and_then, slice_get}
use Rattle.std.specs.Borrow.{Bor}
use Rattle.std.specs.Str.{bytes_eq}
use Rattle.clap.specs.Facts.{Entry}
use Rattle.clap.specs.Values.{read_as}
use Rattle.clap.specs.Walk.{row_of, row_text}
use Rattle.clap.specs.Words.{Row, Text, all_of, first_of, first_value, matched_of, one_of, one_text, raw_values, rows_of}
use Rattle.clap.specs.declared.parser.matches.Found.{Found}
use Rattle.clap.specs.declared.parser.matches.MatchedArg.{MatchedArg}
use Rattle.clap.proofs.WalkLemmas.{find-map}

abbrev found_entry : Found → Text → Option Entry
found_entry f id = find (λ e. bytes_eq e.0.now id) f.entries.items

found_row : (f : Found) (id : Text) → option_map row_of (found_entry f id) ≡ find (λ r. bytes_eq r.id id) (rows_of f)
found_row f id = find-map (λ r. bytes_eq r.id id) row_of f.entries.items

first_text : (xs : List (Bor Text)) → slice_get (map (λ s. s.now) xs) 0 ≡ option_map (λ s. s.now) (slice_get xs 0)
first_text [] = refl
first_text (x ∷ xs) = refl

-- as text, the first value, as the typed getters read it, and all
pub first_is : (f : Found) (id : Text) → first_of id (rows_of f) ≡ first_value f id
first_is f id = ap (option_and_then (λ (r : Row). slice_get r.values 0)) (sym (found_row f id)) ∙ go (found_entry f id)
  where
    go : (o : Option Entry) → option_and_then (λ (r : Row). slice_get r.values 0) (option_map row_of o)
        ≡ option_and_then (λ (a : MatchedArg). option_map (λ s. s.now) (slice_get a.vals.items 0)) (option_map (λ e. e.1) o)
    go None = refl
    go (Some e) = first_text e.1.vals.items

pub one_is : (f : Found) (id : Text) → one_of id (rows_of f) ≡ one_text f id
one_is f id = ap (option_and_then row_text) (sym (found_row f id)) ∙ go (found_entry f id)
  where
    first : (e : Entry) (xs : List (Bor Text)) → option_map (read_as e.1.reading) (slice_get (map (λ s. s.now) xs) 0)
        ≡ option_map (λ s. read_as e.1.reading s.now) (slice_get xs 0)
    first e [] = refl
    first e (x ∷ xs) = refl

    go : (o : Option Entry) → option_and_then row_text (option_map row_of o)
        ≡ option_and_then (λ (a : MatchedArg). option_map (λ s. read_as a.reading s.now) (slice_get a.vals.items 0)) (option_map (λ e. e.1) o)
    go None = refl
    go (Some e) = first e e.1.vals.items

pub all_is : (f : Found) (id : Text) → all_of id (rows_of f) ≡ option_map raw_values (matched_of f id)
all_is f id = ap (option_map (λ (r : Row). r.values)) (sym (found_row f id)) ∙ go (found_entry f id)
  where
    go : (o : Option Entry) → option_map (λ (r : Row). r.values) (option_map row_of o) ≡ option_map raw_values (option_map (λ e. e.1) o)
    go None = refl
    go (Some e) = refl
