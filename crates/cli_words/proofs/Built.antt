-- What the builders of a command make of its rules.
use Rattle.std.proofs.Common.{◌≡◌, ◌∙◌, ◌&&◌, ◌++◌, Bool, true, false, not, refl, ap, ap₂, sym, subst, List, [], ◌∷◌, append-nil, append_assoc}
use Rattle.std.proofs.Common.{Result, Ok, Err, IfOk, IsOkAnd, is_some}
use Rattle.std.specs.Borrow.{Bor}
use Rattle.std.specs.declared.alloc.AllocError.{AllocError}
use Rattle.clap.specs.Words.{AddsArg, AddsInTurn, AddsRequirements, AddsSubcommand, App, Rule, Text, app_of, is_simple, new_app, rule_of, with_rule, with_subcommand}
use Rattle.clap.specs.Walk.{is_empty, is_simple_arg}
use Rattle.clap.specs.declared.builder.arg.Arg.{Arg}
use Rattle.clap.specs.declared.builder.arg.ArgPredicate.{ArgPredicate}
use Rattle.clap.specs.declared.builder.command.Command.{Command}
use Rattle.clap.proofs.WalkLemmas.{both}
use Rattle.clap.proofs.SimpleLemmas.{is_false, not_empty, plain_fields}
use Rattle.cli_words.specs.CommandLine.{leaf, ringpop_app, subcommand, with_another}

-- an argument that is simple is not global
simple_local : (a : Arg) → is_simple_arg a ≡ true → a.global ≡ false
simple_local a e =
    let b = (both (is_empty a.overrides.items) _ e).1 in
    let c = (both (is_empty a.default_vals_ifs.items) _ b).1 in
    let d = (both (is_empty a.groups.items) _ c).1 in
    let f = (both (not (is_some a.val_delim)) _ d).1 in
    let g = (both (not (is_some a.terminator)) _ f).1 in
    let h = (both (not a.allow_hyphen_values) _ g).1 in
    let i = (both (not a.allow_negative_numbers) _ h).1 in
    let j = (both (not a.require_equals) _ i).1 in
    is_false _ (both (not a.last) _ j).1

-- a command with one argument more has its rule, the last
pub rule_added : (old new : Command) (a : Arg) (s : App) (r : Rule) → AddsArg old a new → app_of old ≡ s → rule_of a ≡ r
    → r.is_simple ≡ true → app_of new ≡ with_rule s r
rule_added old new a s r added is rule simple =
    added.shape (simple_local a (ap (λ (r : Rule). r.is_simple) rule ∙ simple)) ∙ ap₂ with_rule is rule

-- and one with one subcommand more its words
pub subcommand_added : (old sub new : Command) (s t : App) → AddsSubcommand old sub new → app_of old ≡ s → app_of sub ≡ t
    → t.top.is_plain ≡ true → app_of new ≡ with_subcommand s t.top
subcommand_added old sub new s t added is under plain =
    added.shape (plain_fields sub (ap (λ (a : App). a.top.is_plain) under ∙ plain)).globals
    ∙ ap₂ with_subcommand is (ap (λ (a : App). a.top) under)

-- the parse of the program's words is the one that clap's definitions give
pub ringpop_is_simple : is_simple ringpop_app ≡ true
ringpop_is_simple = refl

none_free : (a b c : Bool) → a && (b && (false && c)) ≡ false
none_free true true c = refl
none_free true false c = refl
none_free false b c = refl

-- an argument that requires another has a rule on it
pub rule_needing : (a b : Arg) (need : ArgPredicate × Bor Text) (r : Rule) → AddsRequirements a b (need ∷ []) → rule_of a ≡ r
    → rule_of b ≡ with_another r
rule_needing a b need r needs rule =
    let some : is_empty b.needs.items ≡ false = ap is_empty needs.1 ∙ not_empty a.needs.items need in
    let rest = is_empty a.r_ifs.items && (is_empty a.r_ifs_all.items && (is_empty a.r_unless.items && is_empty a.r_unless_all.items)) in
    ap rule_of needs.0
    ∙ ap (λ (f : Bool). record (rule_of a) { is_free = f })
    (ap (λ (e : Bool). not a.exclusive && (is_empty a.conflicts.items && (e && rest))) some
    ∙ none_free (not a.exclusive) (is_empty a.conflicts.items) rest)
    ∙ ap with_another rule

-- these arguments have these rules, in their order, and each is simple
abbrev pub HaveRules : List Arg → List Rule → Type 0
HaveRules [] [] = Unit {0}
HaveRules [] (r ∷ rs) = ⊥
HaveRules (x ∷ xs) [] = ⊥
HaveRules (x ∷ xs) (r ∷ rs) = (rule_of x ≡ r) × (r.is_simple ≡ true) × HaveRules xs rs

abbrev with_rules : App → List Rule → App
with_rules s rs = record s { top = record s.top { rules = s.top.rules ++ rs } }

-- a command with arguments added in turn has their rules, in their order, behind its own
rules_added : (old new : Command) (xs : List Arg) (rs : List Rule) (s : App) → AddsInTurn AddsArg old xs new → app_of old ≡ s → HaveRules xs rs
    → app_of new ≡ with_rules s rs
rules_added old new [] [] s added is have =
    ap app_of (sym added) ∙ is ∙ ap (λ (l : List Rule). record s { top = record s.top { rules = l } }) (sym (append-nil s.top.rules))
rules_added old new [] (r ∷ rs) s added is have = absurd have
rules_added old new (x ∷ xs) [] s added is have = absurd have
rules_added old new (x ∷ xs) (r ∷ rs) s added is have =
    let next = rule_added old added.0 x s r added.1 is have.0 have.1 in
    rules_added added.0 new xs rs (with_rule s r) added.2 next have.2
    ∙ ap (λ (l : List Rule). record s { top = record s.top { rules = l } }) (append_assoc s.top.rules (r ∷ []) rs)

-- so a new command with these arguments is a subcommand with these rules
pub leaf_if_built : (items xs : List Arg) (name : Text) (rs : List Rule) (new : Result Command AllocError)
    → IfOk new (λ c. (bare : Command) × (app_of bare ≡ new_app name) × AddsInTurn AddsArg bare items c) → items ≡ xs → HaveRules xs rs
    → IfOk new (λ c. app_of c ≡ leaf (subcommand name rs))
leaf_if_built items xs name rs (Ok new) built are have =
    rules_added built.0 new xs rs (new_app name) (subst (λ (l : List Arg). AddsInTurn AddsArg built.0 l new) are built.2) built.1 have
leaf_if_built items xs name rs (Err e) built are have = tt

-- the same of one argument
pub rule_if_added : (old : Command) (a : Arg) (s : App) (r : Rule) (new : Result Command AllocError) → IfOk new (AddsArg old a) → app_of old ≡ s
    → rule_of a ≡ r → r.is_simple ≡ true → IfOk new (λ c. app_of c ≡ with_rule s r)
rule_if_added old a s r (Ok new) added is rule simple = rule_added old new a s r added is rule simple
rule_if_added old a s r (Err e) added is rule simple = tt

-- and of one subcommand, where each command is the result of a call
pub subcommand_if_added : (old sub new : Result Command AllocError) (s t : App) → IfOk new (λ c. IsOkAnd old (λ x. IsOkAnd sub (λ y. AddsSubcommand x y c)))
    → IfOk old (λ c. app_of c ≡ s) → IfOk sub (λ c. app_of c ≡ t) → t.top.is_plain ≡ true → IfOk new (λ c. app_of c ≡ with_subcommand s t.top)
subcommand_if_added (Ok old) (Ok sub) (Ok new) s t added is under plain = subcommand_added old sub new s t added is under plain
subcommand_if_added (Ok old) (Err e) (Ok new) s t added is under plain = absurd added
subcommand_if_added (Err e) sub (Ok new) s t added is under plain = absurd added
subcommand_if_added old sub (Err e) s t added is under plain = tt
