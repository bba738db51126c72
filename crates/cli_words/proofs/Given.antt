-- What is given in the words is one thing at most, and why they are refused.
use Rattle.std.proofs.Common.{◌≡◌, ◌∙◌, ◌<◌, ◌≤◌, ℕ, Bool, List, Result, Ok, Err, Option, Some, None, IfErr, IfSome, IsErrAnd, IsSome, IsSomeAnd}
use Rattle.std.proofs.Common.{◌≢◌, ap, arith, codes, get_or, length, map, refl, subst, sym}
use Rattle.std.proofs.Math.Dec.{leb}
use Rattle.std.proofs.lemmas.Bool.{le-leb}
use Rattle.std.proofs.lemmas.List.{get_or-map, length-map}
use Rattle.std.specs.Bool.{then_some}
use Rattle.std.specs.Borrow.{Bor}
use Rattle.std.specs.List.{Any}
use Rattle.std.specs.Str.Parse.{ExplainsUnsignedError, HasUnsignedDigitsIfOk, ParsesUnsigned}
use Rattle.std.specs.declared.num.ParseIntError.{ParseIntError}
use Rattle.clap.specs.Words.{ReadsOne, Row, Text, first_of, one_text, rows_of}
use Rattle.clap.specs.declared.parser.matches.Found.{Found}
use Rattle.cli_words.specs.Faults.{IsRefusalOf, fault_at}
use Rattle.cli_words.specs.Whole.{HasAgent, HasBadAddress, IsAgentRefusal, IsBadArgument, IsNoAddress, IsNoAddressAt, IsRefusalBy, IsWhole}
use Rattle.cli_words.specs.Words.{IsNumberAt}
use Rattle.cli_words.specs.declared.faults.WordsError.{WordsError}
use Rattle.cli_words.specs.declared.faults.WordsError.TheVariants.{Usage, BadAddress, BadAddressAt, OutOfMemory}
use Rattle.cli_words.proofs.Rows.{one_is}

-- how a text is read as a `u64`
abbrev GivesNumber : Text → Result ℕ ParseIntError → Type 0
GivesNumber text r = ParsesUnsigned 64 10 text r × ExplainsUnsignedError 10 text r × HasUnsignedDigitsIfOk text r

-- what is read is the number that is given
pub number_is : (f : Found) (id : Text) (o : Option ℕ) → (one_text f id ≡ None → o ≡ None) → ((t : Text) → one_text f id ≡ Some t → ReadsOne GivesNumber t o)
    → IfSome o (IsNumberAt (rows_of f) id)
number_is f id None none value = tt
number_is f id (Some n) none value = go (one_text f id) refl
  where
    go : (text : Option Text) → one_text f id ≡ text → IsNumberAt (rows_of f) id n
    go None e = let never : Some n ≡ None = none e in cc
    go (Some t) e = record { text = t; given = one_is f id ∙ e; reads = (value t e).0 }

-- and a number that is given is read
pub number_read : (f : Found) (id : Text) (o : Option ℕ) → ((t : Text) → one_text f id ≡ Some t → ReadsOne GivesNumber t o)
    → (n : ℕ) → IsNumberAt (rows_of f) id n → o ≡ Some n
number_read f id None value n at = absurd ((value at.text (sym (one_is f id) ∙ at.given)).1.0 at.reads.0)
number_read f id (Some m) value n at = ap Some ((value at.text (sym (one_is f id) ∙ at.given)).0.1 ∙ sym at.reads.1)

-- a number within the bound passes its test
pub some_within : (o : Option ℕ) (test : Bool) (m n most : ℕ) → o ≡ then_some test m → test ≡ leb m most → Some m ≡ Some n → n ≤ most → o ≡ Some n
some_within o test m n most is tests same within =
    let equal : m ≡ n = cc in
    let at_most : m ≤ most = omega arith in
    is ∙ ap (λ (b : Bool). then_some b m) (tests ∙ le-leb m most at_most) ∙ same

-- a text of no address is one of these
pub bad_among : (texts : List (Bor Text)) (k : ℕ) (d : Bor Text) → k < length texts → IsNoAddress (get_or texts k d).now
    → Any IsNoAddress (map (λ s. s.now) texts)
bad_among texts k d lt no_address =
    let text = (get_or texts k d).now in
    (k, text, omega (arith, length-map texts (λ (s : Bor Text). s.now)), get_or-map (λ s. s.now) texts k d text lt, no_address)

-- an error that is handed on
pub handed_on : {T : Type 0} (r : Result T WordsError) (f : WordsError) (P : WordsError → Type 0) → IsErrAnd r (λ e. e ≡ f) → P f → IfErr r P
handed_on (Ok x) f P is p = tt
handed_on (Err e) f P is p = subst P (sym is) p

-- what is none is not there
pub not_there : {T : Type 0} (o : Option T) → o ≡ None → IsSome o → ⊥
not_there None e is = cc
not_there (Some x) e is = cc

-- a refusal is one of more words, and of more addresses that are none
pub refusal_of : (whole more bad worse : Type 0) → (more → whole) → (bad → worse) → (f : WordsError) → IsRefusalOf whole bad f → IsRefusalOf more worse f
refusal_of whole more bad worse as_whole as_bad (Usage e) is = λ x. is (as_whole x)
refusal_of whole more bad worse as_whole as_bad BadAddress is = as_bad is
refusal_of whole more bad worse as_whole as_bad (BadAddressAt argument) is = is
refusal_of whole more bad worse as_whole as_bad OutOfMemory is = tt

pub refused_of : {T : Type 0} (whole more bad worse : Type 0) → (more → whole) → (bad → worse) → (r : Result T WordsError) → IfErr r (IsRefusalOf whole bad)
    → IfErr r (IsRefusalOf more worse)
refused_of whole more bad worse as_whole as_bad (Ok x) is = tt
refused_of whole more bad worse as_whole as_bad (Err f) is = refusal_of whole more bad worse as_whole as_bad f is

-- where a word is absent, any refusal of its absence is one
pub absent_of : (whole bad : Type 0) → (whole → ⊥) → (f : WordsError) → IsRefusalOf ⊥ ⊥ f → IsRefusalOf whole bad f
absent_of whole bad lacks = refusal_of ⊥ whole ⊥ bad lacks (λ x. absurd x)

-- so it is of `agent`'s
pub absent_of_agent : (whole : Type 0) (rows : List Row) → (whole → ⊥) → (f : WordsError) → IsRefusalOf ⊥ ⊥ f → IsAgentRefusal whole rows f
absent_of_agent whole rows lacks (Usage e) is = lacks
absent_of_agent whole rows lacks BadAddress is = absurd is
absent_of_agent whole rows lacks (BadAddressAt argument) is = absurd is
absent_of_agent whole rows lacks OutOfMemory is = tt

-- a word that is the text of no address is refused as one
pub bad_address : (rows : List Row) (name text : Text) (whole : Type 0) → first_of name rows ≡ Some text → (f : WordsError) → (f ≡ BadAddress) × IsNoAddress text
    → IsRefusalOf whole (IsNoAddressAt rows name) f
bad_address rows name text whole first f is =
    let none : IsNoAddressAt rows name = subst (λ (o : Option Text). IsSomeAnd o IsNoAddress) (sym first) is.1 in
    subst (λ (g : WordsError). IsRefusalOf whole (IsNoAddressAt rows name) g) (sym is.0) none

-- an error of one of `agent`'s arguments, which it names
pub named_as : (whole more bad : Type 0) (rows : List Row) (argument : Bor Text) → (more → whole) → (bad → IsBadArgument rows argument.now) → (f : WordsError)
    → IsRefusalOf whole bad f → IsAgentRefusal more rows (fault_at argument f)
named_as whole more bad rows argument as_whole as_bad (Usage e) is = λ x. is (as_whole x)
named_as whole more bad rows argument as_whole as_bad BadAddress is = as_bad is
named_as whole more bad rows argument as_whole as_bad (BadAddressAt other) is = absurd is
named_as whole more bad rows argument as_whole as_bad OutOfMemory is = tt

-- an error of `agent`'s arguments is one of the subcommand of that name
pub refused_agent : (rows : List Row) (name : Text) → name ≡ codes "agent" → (f : WordsError) → IsAgentRefusal (HasAgent rows) rows f → IsRefusalBy (Some (name, rows)) f
refused_agent rows name is_agent (Usage e) is = λ has. is (has.agent is_agent)
refused_agent rows name is_agent BadAddress is = absurd is
refused_agent rows name is_agent (BadAddressAt argument) is = (is_agent, is)
refused_agent rows name is_agent OutOfMemory is = tt

-- and so is an error of another subcommand's
pub refused_other : (rows : List Row) (name : Text) → name ≢ codes "agent" → (f : WordsError) → IsRefusalOf (IsWhole name rows) (HasBadAddress rows) f
    → IsRefusalBy (Some (name, rows)) f
refused_other rows name is_other (Usage e) is = is
refused_other rows name is_other BadAddress is = (is_other, is)
refused_other rows name is_other (BadAddressAt argument) is = absurd is
refused_other rows name is_other OutOfMemory is = tt

-- and so is the error with which it was read
pub named_by : {T U : Type 0} (whole more bad : Type 0) (rows : List Row) (argument : Bor Text) → (more → whole) → (bad → IsBadArgument rows argument.now)
    → (read : Result T WordsError) → IfErr read (IsRefusalOf whole bad) → (f : WordsError) → IsErrAnd read (λ e. f ≡ fault_at argument e)
    → (r : Result U WordsError) → IsErrAnd r (λ e. e ≡ f) → IfErr r (IsAgentRefusal more rows)
named_by whole more bad rows argument as_whole as_bad (Ok x) is f f_is r r_is = absurd f_is
named_by whole more bad rows argument as_whole as_bad (Err e) is f f_is r r_is =
    handed_on r f (IsAgentRefusal more rows) r_is (subst (IsAgentRefusal more rows) (sym f_is) (named_as whole more bad rows argument as_whole as_bad e is))
