-- The effect of the threads of a server on its node.
use Rattle.std.specs.Prelude.{◌≡◌, ◌⊎◌, ℕ, ◌+◌, ◌<◌, ◌≤◌, Bool, List, [], ◌∷◌, ◌++◌, Option, Some, None, Result, Ok, Err, Vec, take, IfSome}
use Rattle.std.specs.Io.KnownBytes.{Appends}
use Rattle.std.specs.Global.{Global}
use Rattle.change_core.specs.declared.addresses.Address.{Address}
use Rattle.turn_lock.specs.declared.errors.LockError.{LockError}
use Rattle.peer_core.specs.declared.errors.ClusterError.{ClusterError}
use Rattle.peer_core.specs.declared.rounds.Round.{Round}
use Rattle.peer_core.specs.Acts.{Act, OfActs, Chain, Nothing}
use Rattle.peer_core.specs.Correcting.{IsCorrectingRound}
use Rattle.peer_core.specs.Healing.{Heals, IsHealing, after_round, heals_first}
use Rattle.peer_core.specs.Joining.{IsJoin}
use Rattle.peer_core.specs.Parts.{let_in}
use Rattle.peer_core.specs.Rounds.{IsRound}
use Rattle.peer_core.specs.Handling.{Handled, Handlings, between}
use Rattle.peer_core.specs.Links.{any_answer}
use Rattle.line_service.specs.Answering.{Hears, Responds, StaysSilent}
use Rattle.server.specs.declared.healing.HealingPlan.{HealingPlan}
use Rattle.line_service.specs.declared.inputs.Input.{Input}
use Rattle.line_service.specs.declared.inputs.Input.TheVariants as input

-- the bytes of an answer's line
abbrev pub bytes_of : Option (Vec ℕ Global) → Option (List ℕ)
bytes_of None = None
bytes_of (Some line) = Some line.items

-- the bytes that are sent for an answer's line, or for none
abbrev pub sent_for : Option (List ℕ) → List ℕ
sent_for (Some line) = line ++ 10 ∷ []
sent_for None = []

-- What the clock of a server's rounds may report after a moment that it reported last: another moment, and a rest since then for a number of
-- milliseconds. Each belongs to the moment before it, so none serves for two rounds.
pub record RoundTimes : Type 1 where
  pub told : ℕ → ℕ → Type 0
  pub rested : ℕ → ℕ → Type 0

-- any moment may be reported but an earlier one, and a rest may have lasted for any time
abbrev pub any_times : RoundTimes
any_times = record { told = λ last now. last ≤ now; rested = λ last period. Unit {0} }

-- the hosts that a server joins while it makes rounds
abbrev pub hosts_of : Option (Vec Address Global) → List Address
hosts_of None = []
hosts_of (Some hosts) = hosts.items

-- from which moment on hosts are joined first, if there are any
abbrev pub first_join : List Address → Option ℕ
first_join [] = None
first_join (host ∷ hosts) = Some 0

-- from which moment on they are joined again after a join at this moment with this result: a second later; never, if a host has answered
abbrev pub next_join : ℕ → Result ℕ ClusterError → Option ℕ
next_join now (Ok count) = None
next_join now (Err error) = Some (now + 1000)

module _ {H : Type 0} where
  -- healing after a round at this moment, over a link whose answers may be any, whatever the result
  abbrev pub IsOneHealing : ℕ → Heals → OfActs H
  IsOneHealing now h acts = (r : Result Bool ClusterError) × IsHealing any_answer now h.hosts (after_round h).0 r acts

  -- the first 4,096 of the hosts are joined at this moment, over a link whose answers may be any; and from which moment on they are again
  abbrev pub JoinsAt : ℕ → List Address → Option ℕ → OfActs H
  JoinsAt now hosts next acts = (r : Result ℕ ClusterError) × IsJoin any_answer now (take 4096 hosts) r acts × (next ≡ next_join now r)

module _ {H : Type 0} (Time : RoundTimes) where
  -- if hosts are to be joined from some moment on, they are joined at a moment that the clock told after the last round, unless it is an earlier one
  abbrev pub JoinsIfDue : List Address → ℕ → Option ℕ → Option ℕ → OfActs H
  JoinsIfDue hosts last None next acts = Nothing acts × (next ≡ None)
  JoinsIfDue hosts last (Some due) next acts =
      (now : ℕ) × Time.told last now × (((now < due) × Nothing acts × (next ≡ Some due)) ⊎ ((due ≤ now) × JoinsAt now hosts next acts))

  -- after a rest for this period since the last moment a round at the next one that the clock told, over a link whose answers may be any, whatever the
  -- result
  abbrev pub IsOneRound : ℕ → ℕ → ℕ → OfActs H
  IsOneRound period last now acts = Time.rested last period × Time.told last now × ((r : Result Round ClusterError) × IsRound any_answer now r acts)

  -- the same of a round that corrects its target
  abbrev pub IsOneCorrectingRound : ℕ → ℕ → ℕ → OfActs H
  IsOneCorrectingRound period last now acts = Time.rested last period × Time.told last now × ((r : Result Round ClusterError) × IsCorrectingRound any_answer now r acts)

  -- rounds alone, the last of them at the moment named next, 0 if there is none, and joins when they are due, the first of them from this moment on
  pub data MakesRounds (period : ℕ) (hosts : List Address) (first : Option ℕ) : ℕ → Option ℕ → List (Act H) → Type 0 where
    none : MakesRounds period hosts first 0 first []
    round : {last : ℕ} {due : Option ℕ} {acts : List (Act H)} (now : ℕ) (next : List (Act H))
        → MakesRounds period hosts first last due acts → IsOneRound period last now next → MakesRounds period hosts first now due (acts ++ next)
    join : {last : ℕ} {due : Option ℕ} {acts : List (Act H)} (later : Option ℕ) (next : List (Act H))
        → MakesRounds period hosts first last due acts → JoinsIfDue hosts last due later next → MakesRounds period hosts first last later (acts ++ next)

  -- the same with rounds that correct their targets, and healing after each of them, at its moment and from where the one before left it: they lead
  -- from the first state of healing to the second
  pub data HealsRounds (period : ℕ) (hosts : List Address) (start : Heals) (first : Option ℕ) : Heals → ℕ → Option ℕ → List (Act H) → Type 0 where
    none : HealsRounds period hosts start first start 0 first []
    round : {h : Heals} {last : ℕ} {due : Option ℕ} {acts : List (Act H)} (now : ℕ) (next healing : List (Act H)) → HealsRounds period hosts start first h last due acts
        → IsOneCorrectingRound period last now next → IsOneHealing now h healing
        → HealsRounds period hosts start first (after_round h).1 now due (acts ++ (next ++ healing))
    join : {h : Heals} {last : ℕ} {due : Option ℕ} {acts : List (Act H)} (later : Option ℕ) (next : List (Act H)) → HealsRounds period hosts start first h last due acts
        → JoinsIfDue hosts last due later next → HealsRounds period hosts start first h last later (acts ++ next)

  -- what the thread of the rounds does with this period and these hosts: rounds, where the server heals each with healing after it, and between
  -- them joins when they are due. There may be none
  abbrev pub AreRounds : ℕ → List Address → Option HealingPlan → OfActs H
  AreRounds period hosts None acts = (last : ℕ) × (due : Option ℕ) × MakesRounds period hosts (first_join hosts) last due acts
  AreRounds period hosts (Some plan) acts =
      (h : Heals) × (last : ℕ) × (due : Option ℕ) × HealsRounds period hosts (heals_first plan.own plan.hosts.items) (first_join hosts) h last due acts

module _ {H : Type 0} where
  -- the answer to an input is this line, or none; if the input needs no answer, no call is made
  abbrev pub IsTreated : (H → List ℕ → ℕ) → Handlings → ℕ → Input → Option (List ℕ) → OfActs H
  IsTreated hash_of Handles now heard (Some line) acts = Responds hash_of any_answer Handles now heard line acts
  IsTreated hash_of Handles now input.Nothing None acts = Handles.never × Nothing acts
  IsTreated hash_of Handles now heard None acts = (r : Result (Unit {0}) LockError) × StaysSilent hash_of any_answer Handles now heard (let_in r) acts

  -- something came over a connection, and was treated so at some moment
  abbrev pub IsConnection : (H → List ℕ → ℕ) → Handlings → OfActs H
  IsConnection hash_of Handles acts = (now : ℕ) × (heard : Input) × (line : Option (List ℕ)) × IsTreated hash_of Handles now heard line acts

  -- as many connections, each by the handler as the one before left it
  abbrev pub ServesEach : {A : Type 0} → (H → List ℕ → ℕ) → Handled A → ℕ → A → A → OfActs H
  ServesEach hash_of handled = Chain (λ old new. IsConnection hash_of (between handled old new))

  -- An input was treated so at some moment. If the stream over which it was heard is given back, what was written to it since is the answer's line
  -- and a newline, or nothing.
  pub record IsAnsweredOver {S : Type 0} (contents : S → Option (List ℕ)) (hash_of : H → List ℕ → ℕ) (Handles : Handlings) (stream : S) (heard : Input) (left : Option S) (acts : List (Act H)) : Type 0 where
    pub now : ℕ
    pub line : Option (List ℕ)
    pub treated : IsTreated hash_of Handles now heard line acts
    pub written : IfSome left (λ s. Appends (contents stream) (contents s) (sent_for line))

  -- the first line of what the stream had left was heard, and answered over the stream as reading it left it
  abbrev pub IsConnectionOver : {S : Type 0} → (S → Option (List ℕ)) → (S → Option (List ℕ)) → (H → List ℕ → ℕ) → Handlings → S → Option S → OfActs H
  IsConnectionOver {S} remaining contents hash_of Handles stream left acts =
      (heard : Input) × Hears (remaining stream) heard × (read : S) × IsAnsweredOver contents hash_of Handles read heard left acts
