-- The turns of a script, one after another.
use Rattle.std.proofs.Common.{◌≡◌, ℕ, ◌+◌, ◌≤◌, true, false, List, [], ◌∷◌, ◌++◌, length, length-append, Option, Some, None, Ok, Err, Vec, Global, refl, sym, ap, subst, ◌∙◌, append_assoc, append-nil, arith}
use Rattle.std.specs.Prelude.{IfSome}
use Rattle.std.specs.Io.KnownBytes.{Appends}
use Rattle.change_core.specs.Numbers.{greatest_number}
use Rattle.wire_json.specs.Input.{AppendsPrefix}
use Rattle.cli_core.specs.declared.scripts.faults.ScriptError.{ScriptError}
use Rattle.cli_core.specs.declared.scripts.faults.SimError.{SimError}
use Rattle.cli_core.specs.declared.scripts.faults.SimError.TheVariants.{AtLine, CannotWrite}
use Rattle.cli_core.specs.Counted.{ReadsLine}
use Rattle.cli_core.specs.Input.{lines_of}
use Rattle.cli_core.specs.Simulated.{Simulated}
use Rattle.cli_core.specs.ScriptRuns.{AnswersAll, AnswersLine, Completes, IsCountedLine, IsLineRefused, IsRefusedAt, Stops, Turns}
use Rattle.cli_core.proofs.Scripting.{answers_more, appends_more, appends_nothing, refused_first}

-- ---- one turn

pub turn_refused : {H : Type 0} (hash_of : H → List ℕ → ℕ) (s then : Simulated H) (known left written : Option (List ℕ)) (number : ℕ) (v : Vec ℕ Global) (f : ScriptError)
    → IfSome known (λ xs. ReadsLine xs (Ok (Some v)) left) → IsLineRefused hash_of s v.items f → IsCountedLine number f
    → IfSome known (λ xs. Turns hash_of s xs written number (Err (AtLine number f)) then left written)
turn_refused hash_of s then None left written number v f h is counted = tt
turn_refused hash_of s then (Some xs) left written number v f h is counted =
    let (rest, e, lines) = h in
    (refl, subst (λ (ls : List (List ℕ)). IsRefusedAt hash_of s ls f) (sym lines) (refused_first hash_of s v.items (lines_of rest) f is), counted, refl)

pub turn_done : {H : Type 0} (hash_of : H → List ℕ → ℕ) (s then : Simulated H) (known left written now : Option (List ℕ)) (number : ℕ) (v : Vec ℕ Global) (text : List ℕ)
    → IfSome known (λ xs. ReadsLine xs (Ok (Some v)) left) → AnswersLine hash_of s v.items text then → Appends written now (text ++ 10 ∷ [])
    → IfSome known (λ xs. Turns hash_of s xs written number (Ok true) then left now)
turn_done hash_of s then None left written now number v text h is a = tt
turn_done hash_of s then (Some xs) left written now number v text h is a = let (rest, e, lines) = h in (v.items, text, rest, e, lines, is, a)

pub turn_unwritten : {H : Type 0} (hash_of : H → List ℕ → ℕ) (s then : Simulated H) (known left written now : Option (List ℕ)) (number : ℕ) (v : Vec ℕ Global) (text : List ℕ)
    → IfSome known (λ xs. ReadsLine xs (Ok (Some v)) left) → AnswersLine hash_of s v.items text then → AppendsPrefix written now (text ++ 10 ∷ []) → number ≤ greatest_number
    → IfSome known (λ xs. Turns hash_of s xs written number (Err CannotWrite) then left now)
turn_unwritten hash_of s then None left written now number v text h is a few = tt
turn_unwritten hash_of s then (Some xs) left written now number v text h is a few = let (rest, e, lines) = h in (v.items, text, lines_of rest, then, lines, is, a, few)

-- ---- all turns

-- of the known input, the lines before this number are answered, and the answers are written
pub record HasAnswered {H : Type 0} (hash_of : H → List ℕ → ℕ) (start : Simulated H) (known left old written : Option (List ℕ)) (number : ℕ) (s : Simulated H) : Type 0 where
  pub is : IfSome known (λ input. (rest : List ℕ) × (before : List (List ℕ)) × (output : List ℕ) × (left ≡ Some rest) × (lines_of input ≡ before ++ lines_of rest)
      × AnswersAll hash_of start before output s × (number ≡ length before + 1) × Appends old written output)

pub starts : {H : Type 0} (hash_of : H → List ℕ → ℕ) (start s : Simulated H) (known old : Option (List ℕ)) → s ≡ start → HasAnswered hash_of start known known old old 1 s
starts hash_of start s None old e = record { is = tt }
starts hash_of start s (Some input) old e = record { is = (input, [], [], refl, refl, (refl, e), refl, appends_nothing old) }

pub goes : {H : Type 0} (hash_of : H → List ℕ → ℕ) (start : Simulated H) (known left new old written now : Option (List ℕ)) (number : ℕ) (s then : Simulated H)
    → HasAnswered hash_of start known left old written number s → IfSome left (λ xs. Turns hash_of s xs written number (Ok true) then new now)
    → HasAnswered hash_of start known new old now (number + 1) then
goes hash_of start None left new old written now number s then p h = record { is = tt }
goes hash_of start (Some input) left new old written now number s then p h =
    let (rest, before, output, is, lines, answers, place, appended) = p.is in
    let (line, text, after, left_is, first, answered, more) = rw is at h in
    record {
      is = (
        after,
        before ++ line ∷ [],
        output ++ (text ++ 10 ∷ []),
        left_is,
        lines ∙ ap (λ ls. before ++ ls) first ∙ sym (append_assoc before (line ∷ []) (lines_of after)),
        answers_more hash_of start s then before line output text answers answered,
        omega (arith, length-append before (line ∷ [])),
        appends_more old written now output (text ++ 10 ∷ []) appended more,
      );
    }

pub ends : {H : Type 0} (hash_of : H → List ℕ → ℕ) (start : Simulated H) (known left new old written now : Option (List ℕ)) (number : ℕ) (s then : Simulated H)
    → HasAnswered hash_of start known left old written number s → number ≤ greatest_number + 1 → IfSome left (λ xs. Turns hash_of s xs written number (Ok false) then new now)
    → Completes hash_of start known old now
ends hash_of start None left new old written now number s then p few h = tt
ends hash_of start (Some input) left new old written now number s then p few h =
    let (rest, before, output, is, lines, answers, place, appended) = p.is in
    let (none, same, kept) = rw is at h in
    let all : lines_of input ≡ before = lines ∙ ap (λ xs. before ++ lines_of xs) none ∙ append-nil before in (
      output,
      record {
        last = s;
        answers = subst (λ (ls : List (List ℕ)). AnswersAll hash_of start ls output s) (sym all) answers;
        counted = omega (arith, ap length all);
      },
      subst (λ (w : Option (List ℕ)). Appends old w output) (sym same) appended,
    )

stops_known : {H : Type 0} (hash_of : H → List ℕ → ℕ) (start : Simulated H) (input rest : List ℕ) (before : List (List ℕ)) (output : List ℕ) (new old written now : Option (List ℕ)) (number : ℕ) (s then : Simulated H) (e : SimError)
    → lines_of input ≡ before ++ lines_of rest → AnswersAll hash_of start before output s → number ≡ length before + 1 → Appends old written output → Turns hash_of s rest written number (Err e) then new now
    → Stops hash_of start e (Some input) old now
stops_known hash_of start input rest before output new old written now number s then (AtLine n f) lines answers place appended h =
    let (same, is, counted, kept) = h in (
      output,
      record { before = before; left = lines_of rest; then = s; lines = lines; answers = answers; place = same ∙ place; is = is; counted = counted },
      subst (λ (w : Option (List ℕ)). Appends old w output) (sym kept) appended,
    )
stops_known hash_of start input rest before output new old written now number s then CannotWrite lines answers place appended h =
    let (line, text, left, next, first, answered, part, few) = h in (
      output,
      text,
      written,
      record {
        before = before;
        line = line;
        left = left;
        then = s;
        last = next;
        lines = lines ∙ ap (λ ls. before ++ ls) first;
        answers = answers;
        answer = answered;
        counted = omega arith;
      },
      appended,
      part,
    )

pub stops : {H : Type 0} (hash_of : H → List ℕ → ℕ) (start : Simulated H) (known left new old written now : Option (List ℕ)) (number : ℕ) (s then : Simulated H) (e : SimError)
    → HasAnswered hash_of start known left old written number s → IfSome left (λ xs. Turns hash_of s xs written number (Err e) then new now)
    → Stops hash_of start e known old now
stops hash_of start None left new old written now number s then (AtLine n f) p h = tt
stops hash_of start None left new old written now number s then CannotWrite p h = tt
stops hash_of start (Some input) left new old written now number s then e p h =
    let (rest, before, output, is, lines, answers, place, appended) = p.is in
    stops_known hash_of start input rest before output new old written now number s then e lines answers place appended (rw is at h)
