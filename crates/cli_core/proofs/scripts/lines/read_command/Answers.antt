use Rattle.std.proofs.Common.{sym, subst, ◌∙◌}
use Rattle.cli_core.specs.ScriptLines.{IsVisible, HasArguments, verb_of, verb_word}
use Rattle.cli_core.proofs.ScriptVerbs.{visible_verb}
use Rattle.cli_core.proofs.ScriptWords.{none_not_some, same_from_some}
use Rattle.cli_core.proofs.scripts.lines.read_command.Goals as goal

pub returns-in_err-word-clause-none : goal.returns-in_err-word-clause-none
returns-in_err-word-clause-none c = λ q d h.
    let (rest, e, args) = h in
    absurd (c.in_err-word.ensures.exact (verb_word (verb_of d)) rest (visible_verb (verb_of d)) e)

pub returns-in_err-text-clause-none : goal.returns-in_err-text-clause-none
returns-in_err-text-clause-none c = λ q d h.
    let (rest, e, args) = h in
    let parts = c.in_ok-word.ensures.exact (verb_word (verb_of d)) rest (visible_verb (verb_of d)) e in
    absurd (c.in_err-text.ensures.exact (subst IsVisible (sym parts.0) (visible_verb (verb_of d))))

pub returns-in_err-verb-clause-none : goal.returns-in_err-verb-clause-none
returns-in_err-verb-clause-none c = λ q d h.
    let (rest, e, args) = h in
    let parts = c.in_ok-word.ensures.exact (verb_word (verb_of d)) rest (visible_verb (verb_of d)) e in
    none_not_some (verb_of d) ((c.in_err-verb.ensures (verb_of d)).1 (c.in_ok-text.ensures.read ∙ parts.0))

pub returns-clause-none : goal.returns-clause-none
returns-clause-none c = λ q d h.
    let (rest, e, args) = h in
    let parts = c.in_ok-word.ensures.exact (verb_word (verb_of d)) rest (visible_verb (verb_of d)) e in
    let same = same_from_some c.in_ok-verb.verb (verb_of d) ((c.in_ok-verb.ensures (verb_of d)).1 (c.in_ok-text.ensures.read ∙ parts.0)) in
    c.read_arguments.ensures.none q d (sym same) (subst (HasArguments d) (sym parts.1) args)
