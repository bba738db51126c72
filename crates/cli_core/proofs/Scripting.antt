-- A script, line by line.
use Rattle.std.proofs.Common.{ℕ, ◌≤◌, List, [], ◌∷◌, ◌++◌, length, Option, Some, None, Ok, Err, refl, sym, ap, subst, ◌∙◌, append_assoc, append-nil, inr}
use Rattle.std.specs.Prelude.{IfErr, IsOkUnless, Result}
use Rattle.std.specs.Io.KnownBytes.{Appends}
use Rattle.wire_json.specs.Lines.{max_line}
use Rattle.cli_core.specs.declared.scripts.answers.Answer.{Answer}
use Rattle.cli_core.specs.declared.scripts.lines.Command.{Command}
use Rattle.cli_core.specs.declared.scripts.lines.Command.TheVariants as command
use Rattle.cli_core.specs.declared.scripts.faults.ScriptError.{ScriptError}
use Rattle.cli_core.specs.declared.scripts.faults.ScriptError.TheVariants as fault
use Rattle.cli_core.specs.Simulated.{Simulated, Obeys}
use Rattle.cli_core.specs.ScriptLines.{IsCommand}
use Rattle.cli_core.specs.ScriptRuns.{AnswersAll, AnswersLine, IsLineRefused, IsRefusedAt}

-- ---- one line that is answered

-- the command was done, and its answer has no text
pub untold_line : {H X : Type 0} (hash_of : H → List ℕ → ℕ) (s then : Simulated H) (line : List ℕ) (c : Command) (answer : Answer) (r : Result X ScriptError) → length line ≤ max_line → IsCommand c line
    → Obeys hash_of s c answer then → IsOkUnless r fault.OutOfMemory → IfErr r (λ f. IsLineRefused hash_of s line f)
untold_line hash_of s then line c answer (Ok x) short is o e = tt
untold_line hash_of s then line c answer (Err f) short is o e = rw e (short, c, is, inr (answer, then, o))

-- what is wrong with a line that was read is wrong with the first of the lines
pub refused_first : {H : Type 0} (hash_of : H → List ℕ → ℕ) (s : Simulated H) (line : List ℕ) (lines : List (List ℕ)) (f : ScriptError) → IsLineRefused hash_of s line f → IsRefusedAt hash_of s (line ∷ lines) f
refused_first hash_of s line lines fault.ReadFailed h = tt
refused_first hash_of s line lines fault.OutOfMemory h = tt
refused_first hash_of s line lines other h = h

-- ---- what is written

pub appends_nothing : (old : Option (List ℕ)) → Appends old old []
appends_nothing None = tt
appends_nothing (Some xs) = sym (append-nil xs)

pub appends_more : (old mid new : Option (List ℕ)) (a b : List ℕ) → Appends old mid a → Appends mid new b → Appends old new (a ++ b)
appends_more None mid new a b p q = tt
appends_more (Some xs) None new a b p q = absurd p
appends_more (Some xs) (Some ys) None a b p q = absurd q
appends_more (Some xs) (Some ys) (Some zs) a b p q = q ∙ ap (λ w. w ++ b) p ∙ append_assoc xs a b

-- one line more
pub answers_more : {H : Type 0} (hash_of : H → List ℕ → ℕ) (old mid new : Simulated H) (lines : List (List ℕ)) (line output text : List ℕ)
    → AnswersAll hash_of old lines output mid → AnswersLine hash_of mid line text new → AnswersAll hash_of old (lines ++ line ∷ []) (output ++ (text ++ 10 ∷ [])) new
answers_more {H} hash_of old mid new [] line output text p q =
    (text, [], new, subst (λ (s : Simulated H). AnswersLine hash_of s line text new) p.1 q, (refl, refl), ap (λ z. z ++ (text ++ 10 ∷ [])) p.0 ∙ sym (append-nil (text ++ 10 ∷ [])))
answers_more {H} hash_of old mid new (l ∷ ls) line output text p q =
    let (first, rest, next, is, others, e) = p in
    (first, rest ++ (text ++ 10 ∷ []), next, is, answers_more hash_of next mid new ls line rest text others q, ap (λ z. z ++ (text ++ 10 ∷ [])) e ∙ append_assoc (first ++ 10 ∷ []) rest (text ++ 10 ∷ []))
