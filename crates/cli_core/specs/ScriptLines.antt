-- The command of a line of a script.
use Rattle.std.specs.Prelude.{◌≡◌, ℕ, ◌<◌, ◌≤◌, All, Option, Some, None, List, ◌∷◌, ◌++◌, codes}
use Rattle.change_core.specs.declared.changes.Change.{Change}
use Rattle.change_core.specs.Address.{IsAddress, address_text}
use Rattle.change_core.specs.Numbers.{IsWeight, greatest_number, most_members}
use Rattle.change_core.specs.Numeral.{number_text}
use Rattle.change_core.specs.Status.{status_word}
use Rattle.cli_core.specs.declared.scripts.lines.Birth.{Birth}
use Rattle.cli_core.specs.declared.scripts.lines.Question.TheVariants as question
use Rattle.cli_core.specs.declared.scripts.lines.Verb.{Verb}
use Rattle.cli_core.specs.declared.scripts.lines.Verb.TheVariants as verb
use Rattle.cli_core.specs.declared.scripts.lines.Command.{Command}
use Rattle.cli_core.specs.declared.scripts.lines.Command.TheVariants.{Node, At, Ask, Send, Deliver, Restart}

-- bytes of ASCII above the space: none of them is one
abbrev pub IsVisible : List ℕ → Type 0
IsVisible = All (λ x. (32 < x) × (x < 128))

-- a word and a space, and then what P says
abbrev pub Leads : List ℕ → (List ℕ → Type 0) → List ℕ → Type 0
Leads word P line = (rest : List ℕ) × (line ≡ word ++ 32 ∷ rest) × P rest

-- the last word, and the bytes after its space if there is one
abbrev pub IsLast : List ℕ → Option (List ℕ) → List ℕ → Type 0
IsLast word None line = line ≡ word
IsLast word (Some behind) line = line ≡ word ++ 32 ∷ behind

-- a weight's word, which may be left out if the weight is 1
abbrev pub IsWeightWord : ℕ → Option (List ℕ) → Type 0
IsWeightWord weight None = weight ≡ 1
IsWeightWord weight (Some word) = IsWeight weight × (word ≡ number_text weight)

-- a word, and the weight after it if there is one
abbrev pub IsWeighted : List ℕ → ℕ → List ℕ → Type 0
IsWeighted word weight line = (behind : Option (List ℕ)) × IsLast word behind line × IsWeightWord weight behind

-- an address, an incarnation and a weight
abbrev pub IsBirth : Birth → List ℕ → Type 0
IsBirth birth line =
    IsAddress birth.address × (birth.incarnation ≤ greatest_number) × Leads (address_text birth.address) (IsWeighted (number_text birth.incarnation) birth.weight) line

-- an address, an incarnation, a status and a weight
abbrev pub IsChange : Change → List ℕ → Type 0
IsChange c line =
    IsAddress c.address × (c.incarnation ≤ greatest_number)
    × Leads (address_text c.address) (Leads (number_text c.incarnation) (IsWeighted (status_word c.status) c.weight)) line

-- a number that is no greater than this one
abbrev pub IsNumber : ℕ → ℕ → List ℕ → Type 0
IsNumber most n line = (n ≤ most) × (line ≡ number_text n)

-- the address alone
abbrev pub IsAddressed : ℕ → List ℕ → Type 0
IsAddressed a line = IsAddress a × (line ≡ address_text a)

-- an address, and then what P says
abbrev pub Addresses : ℕ → (List ℕ → Type 0) → List ℕ → Type 0
Addresses a P line = IsAddress a × Leads (address_text a) P line

-- an address, how many owners, and the key, which is the rest after their spaces
abbrev pub CountsOwners : ℕ → ℕ → List ℕ → List ℕ → Type 0
CountsOwners a count key = Addresses a (λ line. (count ≤ most_members) × Leads (number_text count) (λ rest. rest ≡ key) line)

-- the first word of a command
abbrev pub verb_word : Verb → List ℕ
verb_word verb.Node = codes "node"
verb_word verb.At = codes "at"
verb_word verb.Take = codes "take"
verb_word verb.Leave = codes "leave"
verb_word verb.Rejoin = codes "rejoin"
verb_word verb.Expire = codes "expire"
verb_word verb.Members = codes "members"
verb_word verb.Digest = codes "digest"
verb_word verb.Owners = codes "owners"
verb_word verb.Send = codes "send"
verb_word verb.Deliver = codes "deliver"
verb_word verb.Restart = codes "restart"

-- the first word of a command
abbrev pub verb_of : Command → Verb
verb_of (Node birth) = verb.Node
verb_of (At moment) = verb.At
verb_of (Ask a (question.Take change)) = verb.Take
verb_of (Ask a question.Leave) = verb.Leave
verb_of (Ask a question.Rejoin) = verb.Rejoin
verb_of (Ask a question.Expire) = verb.Expire
verb_of (Ask a question.Members) = verb.Members
verb_of (Ask a question.Digest) = verb.Digest
verb_of (Ask a (question.Owners count key)) = verb.Owners
verb_of (Send a target) = verb.Send
verb_of (Deliver number) = verb.Deliver
verb_of (Restart birth) = verb.Restart

-- the bytes after its space
abbrev pub HasArguments : Command → List ℕ → Type 0
HasArguments (Node birth) = IsBirth birth
HasArguments (At moment) = IsNumber greatest_number moment
HasArguments (Ask a (question.Take change)) = Addresses a (IsChange change)
HasArguments (Ask a question.Leave) = IsAddressed a
HasArguments (Ask a question.Rejoin) = IsAddressed a
HasArguments (Ask a question.Expire) = IsAddressed a
HasArguments (Ask a question.Members) = IsAddressed a
HasArguments (Ask a question.Digest) = IsAddressed a
HasArguments (Ask a (question.Owners count key)) = CountsOwners a count key.now
HasArguments (Send a target) = Addresses a (IsAddressed target)
HasArguments (Deliver number) = IsNumber greatest_number number
HasArguments (Restart birth) = IsBirth birth

-- the line is this command
abbrev pub IsCommand : Command → List ℕ → Type 0
IsCommand c = Leads (verb_word (verb_of c)) (HasArguments c)

-- the same command; of keys the bytes are compared
abbrev pub IsSameCommand : Command → Command → Type 0
IsSameCommand (Ask a (question.Owners m key)) (Ask b (question.Owners n other)) = (a ≡ b) × (m ≡ n) × (key.now ≡ other.now)
IsSameCommand c d = c ≡ d
