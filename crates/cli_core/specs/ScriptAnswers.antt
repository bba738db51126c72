-- An answer as a line, without its newline.
use Rattle.std.specs.Prelude.{ℕ, List, [], ◌∷◌, ◌++◌, codes}
use Rattle.std.specs.List.{flat_map}
use Rattle.change_core.specs.Address.{address_text}
use Rattle.change_core.specs.Digest.{digest_digits}
use Rattle.change_core.specs.Members.{change_text}
use Rattle.change_core.specs.Numeral.{number_text}
use Rattle.node_core.specs.declared.events.StopCause.{StopCause}
use Rattle.node_core.specs.declared.events.StopCause.TheVariants as cause
use Rattle.node_core.specs.declared.events.Stopped.{Stopped}
use Rattle.node_core.specs.declared.events.Taken.{Taken}
use Rattle.cli_core.specs.declared.scripts.answers.Answer.{Answer}
use Rattle.cli_core.specs.declared.scripts.answers.Answer.TheVariants.{Done, Taken as WasTaken, Answered, Stopped as WasStopped, Said, AlreadyLeft, NotLeft, Exhausted, Nothing, Members, Digest, Owners, Message, Lost}

-- the word of what stops a batch
abbrev pub cause_word : StopCause → List ℕ
cause_word cause.Exhausted = codes "Exhausted"
cause_word cause.Full = codes "Full"
cause_word cause.Memory = codes "Memory"

-- how many changes altered an entry, and how many of them were refuted
abbrev pub taken_text : Taken → List ℕ
taken_text t = codes "taken " ++ (number_text t.applied ++ 32 ∷ number_text t.refuted)

-- the word `message` and the number of one
abbrev pub message_text : ℕ → List ℕ
message_text n = codes "message " ++ number_text n

-- how many changes were processed, and why no more
abbrev pub stopped_text : Stopped → List ℕ
stopped_text s = codes "stopped " ++ (number_text s.taken ++ 32 ∷ cause_word s.cause)

-- an address with a space before it
abbrev pub spaced : ℕ → List ℕ
spaced a = 32 ∷ address_text a

-- the addresses, with a space between each two
abbrev pub owners_text : List ℕ → List ℕ
owners_text [] = codes "none"
owners_text (a ∷ others) = address_text a ++ flat_map spaced others

-- an answer as a line, without its newline
abbrev pub answer_text : Answer → List ℕ
answer_text Done = codes "ok"
answer_text (WasTaken taken) = taken_text taken
answer_text (Answered taken number) = taken_text taken ++ 32 ∷ message_text number
answer_text (WasStopped stopped) = stopped_text stopped
answer_text (Said change) = change_text change
answer_text AlreadyLeft = codes "AlreadyLeft"
answer_text NotLeft = codes "NotLeft"
answer_text Exhausted = codes "Exhausted"
answer_text Nothing = codes "none"
answer_text (Members text) = text
answer_text (Digest digest) = digest_digits digest.bytes
answer_text (Owners owners) = owners_text owners
answer_text (Message number) = message_text number
answer_text Lost = codes "lost"
