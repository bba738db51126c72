-- A line is one command at most.
use Rattle.std.proofs.Common.{◌≡◌, ℕ, Option, Some, None, List, ◌∷◌, ◌++◌, length, eqb, cond, refl, sym, ap, subst, ◌∙◌, get_or}
use denote.Ref.{Bor}
use Rattle.change_core.specs.declared.changes.Change.{Change}
use Rattle.change_core.specs.Address.{address_text}
use Rattle.change_core.specs.Numeral.{number_text}
use Rattle.change_core.specs.Status.{status_word}
use Rattle.change_core.proofs.DigestTexts.{same_from_address_text}
use Rattle.change_core.proofs.NumberTexts.{same_from_number_text}
use Rattle.change_core.proofs.OneText.{status_word-one}
use Rattle.change_core.proofs.Precedence.{same_change}
use Rattle.cli_core.specs.declared.scripts.lines.Birth.{Birth}
use Rattle.cli_core.specs.declared.scripts.lines.Question.TheVariants as question
use Rattle.cli_core.specs.declared.scripts.lines.Verb.{Verb}
use Rattle.cli_core.specs.declared.scripts.lines.Verb.TheVariants as verb
use Rattle.cli_core.specs.declared.scripts.lines.Command.{Command}
use Rattle.cli_core.specs.declared.scripts.lines.Command.TheVariants.{Node, At, Ask, Send, Deliver, Restart}
use Rattle.cli_core.specs.ScriptLines.{Addresses, CountsOwners, HasArguments, IsAddressed, IsBirth, IsChange, IsCommand, IsLast, IsNumber, IsSameCommand, IsVisible, IsWeighted, IsWeightWord, Leads, verb_of, verb_word}
use Rattle.change_core.specs.Numbers.{greatest_number}
use Rattle.cli_core.proofs.ScriptVerbs.{visible_verb}
use Rattle.cli_core.proofs.ScriptWords.{before_space, behind_space, no_space_in_word, none_not_some, same_from_some, space_after_word, visible_address, visible_number, visible_status}

-- ---- words

-- a line is split at its first space in one way
split_once : (word other rest left : List ℕ) → IsVisible word → IsVisible other → word ++ 32 ∷ rest ≡ other ++ 32 ∷ left → (word ≡ other) × (rest ≡ left)
split_once word other rest left h g e =
    let line = word ++ 32 ∷ rest in
    let first = space_after_word line word rest h refl in
    let second = space_after_word line other left g e in
    let long : length word ≡ length other = same_from_some (length word) (length other) (sym first ∙ second) in (
      sym (before_space line word rest (length word) refl refl) ∙ before_space line other left (length word) e long,
      sym (behind_space line word rest (length word) refl refl) ∙ behind_space line other left (length word) e long,
    )

-- what two readings of a line say behind one word
pub record BothLead (word other : List ℕ) (P Q : List ℕ → Type 0) : Type 0 where
  pub same : word ≡ other
  pub rest : List ℕ
  pub one : P rest
  pub two : Q rest

leads_once : (word other line : List ℕ) (P Q : List ℕ → Type 0) → IsVisible word → IsVisible other → Leads word P line → Leads other Q line → BothLead word other P Q
leads_once word other line P Q h g l m =
    let parts = split_once word other l.0 m.0 h g (sym l.1 ∙ m.1) in
    record { same = parts.0; rest = l.0; one = l.2; two = subst Q (sym parts.1) m.2 }

last_once : (word other line : List ℕ) (behind left : Option (List ℕ)) → IsVisible word → IsVisible other → IsLast word behind line → IsLast other left line
    → (word ≡ other) × (behind ≡ left)
last_once word other line None None h g l m = (sym l ∙ m, refl)
last_once word other line None (Some y) h g l m =
    absurd (none_not_some (length other) (sym (no_space_in_word line (subst IsVisible (sym l) h)) ∙ space_after_word line other y g m))
last_once word other line (Some x) None h g l m =
    absurd (none_not_some (length word) (sym (no_space_in_word line (subst IsVisible (sym m) g)) ∙ space_after_word line word x h l))
last_once word other line (Some x) (Some y) h g l m =
    let parts = split_once word other x y h g (sym l ∙ m) in
    (parts.0, ap (λ (z : List ℕ). Some z) parts.1)

weight_once : (w v : ℕ) (behind : Option (List ℕ)) → IsWeightWord w behind → IsWeightWord v behind → w ≡ v
weight_once w v None h g = h ∙ sym g
weight_once w v (Some word) h g = same_from_number_text w v (sym h.1 ∙ g.1)

weighted_once : (word other line : List ℕ) (w v : ℕ) → IsVisible word → IsVisible other → IsWeighted word w line → IsWeighted other v line
    → (word ≡ other) × (w ≡ v)
weighted_once word other line w v h g l m =
    let parts = last_once word other line l.0 m.0 h g l.1 m.1 in
    (parts.0, weight_once w v l.0 l.2 (subst (IsWeightWord v) (sym parts.1) m.2))

-- ---- arguments

same_birth : (b c : Birth) → b.address ≡ c.address → b.incarnation ≡ c.incarnation → b.weight ≡ c.weight → b ≡ c
same_birth b c p q r = λ i. record { address = p i; incarnation = q i; weight = r i }

birth_once : (b c : Birth) (line : List ℕ) → IsBirth b line → IsBirth c line → b ≡ c
birth_once b c line h g =
    let both =
    leads_once (address_text b.address) (address_text c.address) line (IsWeighted (number_text b.incarnation) b.weight) (IsWeighted (number_text c.incarnation) c.weight)
    (visible_address b.address) (visible_address c.address) h.2 g.2 in
    let parts =
    weighted_once (number_text b.incarnation) (number_text c.incarnation) both.rest b.weight c.weight (visible_number b.incarnation) (visible_number c.incarnation) both.one both.two in
    same_birth b c (same_from_address_text b.address c.address both.same) (same_from_number_text b.incarnation c.incarnation parts.0) parts.1

change_once : (c d : Change) (line : List ℕ) → IsChange c line → IsChange d line → c ≡ d
change_once c d line h g =
    let addresses =
    leads_once (address_text c.address) (address_text d.address) line (Leads (number_text c.incarnation) (IsWeighted (status_word c.status) c.weight))
    (Leads (number_text d.incarnation) (IsWeighted (status_word d.status) d.weight)) (visible_address c.address) (visible_address d.address) h.2 g.2 in
    let incarnations =
    leads_once (number_text c.incarnation) (number_text d.incarnation) addresses.rest (IsWeighted (status_word c.status) c.weight) (IsWeighted (status_word d.status) d.weight)
    (visible_number c.incarnation) (visible_number d.incarnation) addresses.one addresses.two in
    let parts =
    weighted_once (status_word c.status) (status_word d.status) incarnations.rest c.weight d.weight (visible_status c.status) (visible_status d.status) incarnations.one incarnations.two in
    same_change c d (same_from_address_text c.address d.address addresses.same) (same_from_number_text c.incarnation d.incarnation incarnations.same)
    (status_word-one c.status d.status parts.0) parts.1

addressed_once : (a b : ℕ) (line : List ℕ) → IsAddressed a line → IsAddressed b line → a ≡ b
addressed_once a b line h g = same_from_address_text a b (sym h.1 ∙ g.1)

number_once : (m n : ℕ) (line : List ℕ) → IsNumber greatest_number m line → IsNumber greatest_number n line → m ≡ n
number_once m n line h g = same_from_number_text m n (sym h.1 ∙ g.1)

addresses_once : (a b : ℕ) (line : List ℕ) (P Q : List ℕ → Type 0) → Addresses a P line → Addresses b Q line → BothLead (address_text a) (address_text b) P Q
addresses_once a b line P Q h g = leads_once (address_text a) (address_text b) line P Q (visible_address a) (visible_address b) h.1 g.1

owners_once : (a b m n : ℕ) (key other line : List ℕ) → CountsOwners a m key line → CountsOwners b n other line → (a ≡ b) × (m ≡ n) × (key ≡ other)
owners_once a b m n key other line h g =
    let both = addresses_once a b line _ _ h g in
    let parts = leads_once (number_text m) (number_text n) both.rest (λ rest. rest ≡ key) (λ rest. rest ≡ other) (visible_number m) (visible_number n) both.one.1 both.two.1 in
    (same_from_address_text a b both.same, same_from_number_text m n parts.same, sym parts.one ∙ parts.two)

-- ---- first words

-- the verb of a length and a first byte
abbrev verb_at : ℕ → ℕ → Option Verb
verb_at n x =
    cond (eqb n 2) (Some verb.At) (
    cond (eqb n 4) (cond (eqb x 110) (Some verb.Node) (cond (eqb x 116) (Some verb.Take) (Some verb.Send))) (
    cond (eqb n 5) (Some verb.Leave) (
    cond (eqb n 6) (cond (eqb x 114) (Some verb.Rejoin) (cond (eqb x 101) (Some verb.Expire) (cond (eqb x 100) (Some verb.Digest) (Some verb.Owners))))
    (cond (eqb x 109) (Some verb.Members) (cond (eqb x 100) (Some verb.Deliver) (Some verb.Restart)))
    )
    )
    )

verb_back : (v : Verb) → verb_at (length (verb_word v)) (get_or (verb_word v) 0 0) ≡ Some v
verb_back verb.Node = refl
verb_back verb.At = refl
verb_back verb.Take = refl
verb_back verb.Leave = refl
verb_back verb.Rejoin = refl
verb_back verb.Expire = refl
verb_back verb.Members = refl
verb_back verb.Digest = refl
verb_back verb.Owners = refl
verb_back verb.Send = refl
verb_back verb.Deliver = refl
verb_back verb.Restart = refl

verb_once : (v w : Verb) → verb_word v ≡ verb_word w → v ≡ w
verb_once v w e = same_from_some v w (sym (verb_back v) ∙ (ap (λ xs. verb_at (length xs) (get_or xs 0 0)) e ∙ verb_back w))

-- ---- commands

-- a command by its first word, so that two commands of one word have one shape
data Begins : Verb → Command → Type 0 where
  node : (b : Birth) → Begins verb.Node (Node b)
  at : (m : ℕ) → Begins verb.At (At m)
  take : (a : ℕ) (c : Change) → Begins verb.Take (Ask a (question.Take c))
  leave : (a : ℕ) → Begins verb.Leave (Ask a question.Leave)
  rejoin : (a : ℕ) → Begins verb.Rejoin (Ask a question.Rejoin)
  expire : (a : ℕ) → Begins verb.Expire (Ask a question.Expire)
  members : (a : ℕ) → Begins verb.Members (Ask a question.Members)
  digest : (a : ℕ) → Begins verb.Digest (Ask a question.Digest)
  owners : (a m : ℕ) (key : Bor (List ℕ)) → Begins verb.Owners (Ask a (question.Owners m key))
  send : (a b : ℕ) → Begins verb.Send (Send a b)
  deliver : (n : ℕ) → Begins verb.Deliver (Deliver n)
  restart : (b : Birth) → Begins verb.Restart (Restart b)

begins : (c : Command) → Begins (verb_of c) c
begins (Node b) = node b
begins (At m) = at m
begins (Ask a (question.Take c)) = take a c
begins (Ask a question.Leave) = leave a
begins (Ask a question.Rejoin) = rejoin a
begins (Ask a question.Expire) = expire a
begins (Ask a question.Members) = members a
begins (Ask a question.Digest) = digest a
begins (Ask a (question.Owners m key)) = owners a m key
begins (Send a b) = send a b
begins (Deliver n) = deliver n
begins (Restart b) = restart b

same_take : (a b : ℕ) (c d : Change) → a ≡ b → c ≡ d → Ask a (question.Take c) ≡ Ask b (question.Take d)
same_take a b c d p q = λ i. Ask (p i) (question.Take (q i))

same_send : (a b x y : ℕ) → a ≡ b → x ≡ y → Send a x ≡ Send b y
same_send a b x y p q = λ i. Send (p i) (q i)

arguments_once : (v : Verb) (c d : Command) (line : List ℕ) → Begins v c → Begins v d → HasArguments c line → HasArguments d line → IsSameCommand c d
arguments_once v c d line (node b) (node e) h g = ap Node (birth_once b e line h g)
arguments_once v c d line (at m) (at n) h g = ap At (number_once m n line h g)
arguments_once v c d line (take a x) (take b y) h g =
    let both = addresses_once a b line (IsChange x) (IsChange y) h g in
    same_take a b x y (same_from_address_text a b both.same) (change_once x y both.rest both.one both.two)
arguments_once v c d line (leave a) (leave b) h g = ap (λ x. Ask x question.Leave) (addressed_once a b line h g)
arguments_once v c d line (rejoin a) (rejoin b) h g = ap (λ x. Ask x question.Rejoin) (addressed_once a b line h g)
arguments_once v c d line (expire a) (expire b) h g = ap (λ x. Ask x question.Expire) (addressed_once a b line h g)
arguments_once v c d line (members a) (members b) h g = ap (λ x. Ask x question.Members) (addressed_once a b line h g)
arguments_once v c d line (digest a) (digest b) h g = ap (λ x. Ask x question.Digest) (addressed_once a b line h g)
arguments_once v c d line (owners a m key) (owners b n other) h g = owners_once a b m n key.now other.now line h g
arguments_once v c d line (send a x) (send b y) h g =
    let both = addresses_once a b line (IsAddressed x) (IsAddressed y) h g in
    same_send a b x y (same_from_address_text a b both.same) (addressed_once x y both.rest both.one both.two)
arguments_once v c d line (deliver m) (deliver n) h g = ap Deliver (number_once m n line h g)
arguments_once v c d line (restart b) (restart e) h g = ap Restart (birth_once b e line h g)

pub command_once : (c d : Command) (line : List ℕ) → IsCommand c line → IsCommand d line → IsSameCommand c d
command_once c d line h g =
    let both =
    leads_once (verb_word (verb_of c)) (verb_word (verb_of d)) line (HasArguments c) (HasArguments d) (visible_verb (verb_of c)) (visible_verb (verb_of d)) h g in
    let verbs = verb_once (verb_of c) (verb_of d) both.same in
    arguments_once (verb_of c) c d both.rest (begins c) (subst (λ v. Begins v d) (sym verbs) (begins d)) both.one both.two
