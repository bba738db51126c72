-- The commands of each first word.
use Rattle.std.proofs.Common.{◌≡◌, ℕ, List, refl}
use Rattle.change_core.specs.declared.changes.Change.{Change}
use Rattle.cli_core.specs.declared.scripts.lines.Question.TheVariants as question
use Rattle.cli_core.specs.declared.scripts.lines.Verb.{Verb}
use Rattle.cli_core.specs.declared.scripts.lines.Verb.TheVariants as verb
use Rattle.cli_core.specs.declared.scripts.lines.Command.{Command}
use Rattle.cli_core.specs.declared.scripts.lines.Command.TheVariants.{Ask, Send}
use Rattle.cli_core.specs.ScriptLines.{IsVisible, Addresses, CountsOwners, HasArguments, IsAddressed, IsChange, verb_of, verb_word}
use Rattle.cli_core.proofs.ScriptWords.{visible_tested}

pub visible_verb : (v : Verb) → IsVisible (verb_word v)
visible_verb verb.Node = visible_tested (verb_word verb.Node) refl
visible_verb verb.At = visible_tested (verb_word verb.At) refl
visible_verb verb.Take = visible_tested (verb_word verb.Take) refl
visible_verb verb.Leave = visible_tested (verb_word verb.Leave) refl
visible_verb verb.Rejoin = visible_tested (verb_word verb.Rejoin) refl
visible_verb verb.Expire = visible_tested (verb_word verb.Expire) refl
visible_verb verb.Members = visible_tested (verb_word verb.Members) refl
visible_verb verb.Digest = visible_tested (verb_word verb.Digest) refl
visible_verb verb.Owners = visible_tested (verb_word verb.Owners) refl
visible_verb verb.Send = visible_tested (verb_word verb.Send) refl
visible_verb verb.Deliver = visible_tested (verb_word verb.Deliver) refl
visible_verb verb.Restart = visible_tested (verb_word verb.Restart) refl

-- where the words behind a first word are refused, no command has them

pub no_take : (line : List ℕ) → ((a : ℕ) (change : Change) → Addresses a (IsChange change) line → ⊥) → (c : Command) → verb_of c ≡ verb.Take → HasArguments c line → ⊥
no_take line none (Ask a (question.Take change)) e h = none a change h
no_take line none c e h = absurd cc

pub no_owners : (line : List ℕ) → ((a count : ℕ) (key : List ℕ) → CountsOwners a count key line → ⊥) → (c : Command) → verb_of c ≡ verb.Owners → HasArguments c line → ⊥
no_owners line none (Ask a (question.Owners count key)) e h = none a count key.now h
no_owners line none c e h = absurd cc

pub no_send : (line : List ℕ) → ((a b : ℕ) → Addresses a (IsAddressed b) line → ⊥) → (c : Command) → verb_of c ≡ verb.Send → HasArguments c line → ⊥
no_send line none (Send a target) e h = none a target h
no_send line none (Ask a (question.Take change)) e h = absurd cc
no_send line none c e h = absurd cc
