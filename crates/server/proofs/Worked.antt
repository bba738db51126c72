-- What a thread of a server does to the node, connection by connection and round by round.
use Rattle.std.proofs.Common.{◌≡◌, ◌<◌, ℕ, Bool, List, [], ◌++◌, Option, Some, None, IfNone, IfSome, Result, Ok, Err, Vec, length, min, take, ap, ◌∙◌, refl, subst, sym, inl, inr, arith}
use Rattle.std.specs.Global.{Global}
use Rattle.std.specs.Io.KnownBytes.{Appends}
use Rattle.std.proofs.Math.Nat.{min_comm}
use Rattle.std.proofs.lemmas.List.{take_min}
use Rattle.message_core.specs.declared.errors.WireError.TheVariants as wire
use Rattle.locked_node.specs.declared.node.LockedNode.{LockedNode}
use Rattle.locked_node.specs.Passes.{NodePass}
use Rattle.peer_core.specs.declared.errors.ClusterError.{ClusterError}
use Rattle.peer_core.specs.declared.rounds.Round.{Round}
use Rattle.message_core.specs.declared.messages.Message.{Message}
use Rattle.peer_core.specs.Acts.{Act, OfActs, Makes, Times}
use Rattle.peer_core.specs.Correcting.{IsCorrectingRound}
use Rattle.peer_core.specs.Healing.{Heals, IsHealing, after_round, heals_first}
use Rattle.peer_core.specs.Joining.{IsJoin}
use Rattle.peer_core.specs.Members.{Caller, Done}
use Rattle.peer_core.specs.Parts.{Part, Does, let_in}
use Rattle.peer_core.specs.Rounds.{IsRound}
use Rattle.peer_core.proofs.Acts.{chain_still, makes_as, makes_none, makes_then}
use Rattle.peer_core.proofs.HandlingCounts.{serves_shared}
use Rattle.peer_core.specs.Links.{any_answer}
use Rattle.peer_core.specs.Handling.{Handlings, MayHandle, between, handled_shared, shared}
use Rattle.line_service.specs.Answering.{AnswersInput, Hears, IsSame, IsSilent, Responds, StaysSilent}
use Rattle.change_core.specs.declared.addresses.Address.{Address}
use Rattle.server.specs.Working.{AreRounds, HealsRounds, IsAnsweredOver, IsConnection, IsConnectionOver, IsOneCorrectingRound, IsOneHealing, IsOneRound, IsTreated, JoinsAt, JoinsIfDue, MakesRounds, RoundTimes, ServesEach, bytes_of, first_join, next_join, sent_for}
use Rattle.server.specs.declared.healing.HealingPlan.{HealingPlan}
use Rattle.line_service.specs.declared.inputs.Input.{Input}
use Rattle.line_service.specs.declared.inputs.Input.TheVariants as input

module _ {H L : Type 0} where
  -- one call after another leaves the same node, pass and link
  pub then_same : {a b c : Caller H L} → IsSame a b → IsSame b c → IsSame a c
  then_same ab bc = record { node = bc.node ∙ ab.node; pass = bc.pass ∙ ab.pass; link = bc.link ∙ ab.link }

  pub done_same : {A : Type 0} {P : Part H A} {r : Result A ClusterError} {a b : Caller H L} → Done P r a b → IsSame a b
  done_same d = record { node = d.node; pass = d.pass; link = d.link }

  -- what is done to the node of the one is done to that of the other
  pub by_same : {a b : Caller H L} {Calls : OfActs H} {p q : NodePass H} → IsSame a b → Makes b.node Calls p q → Makes a.node Calls p q
  by_same {Calls = Calls} {p = p} {q = q} same m = subst (λ (n : LockedNode H). Makes n Calls p q) same.node m

module _ {H : Type 0} (locked : LockedNode H) (Time : RoundTimes) where
  -- a round is one, whatever it came to
  pub a_round : (period last now : ℕ) (r : Result Round ClusterError) (p q : NodePass H) → Time.rested last period → Time.told last now
      → Does locked (IsRound any_answer now) r p q → Makes locked (IsOneRound Time period last now) p q
  a_round period last now r p q rested told d = makes_as (IsOneRound Time period last now) (λ acts h. (rested, told, (r, h))) d.makes

  -- and so is one that corrects its target
  pub a_correcting_round : (period last now : ℕ) (r : Result Round ClusterError) (p q : NodePass H) → Time.rested last period → Time.told last now
      → Does locked (IsCorrectingRound any_answer now) r p q → Makes locked (IsOneCorrectingRound Time period last now) p q
  a_correcting_round period last now r p q rested told d = makes_as (IsOneCorrectingRound Time period last now) (λ acts h. (rested, told, (r, h))) d.makes

  -- and so is what heals after one
  pub a_healing : (now : ℕ) (h : Heals) (r : Result Bool ClusterError) (p q : NodePass H)
      → Does locked (IsHealing any_answer now h.hosts (after_round h).0) r p q → Makes locked (IsOneHealing now h) p q
  a_healing now h r p q d = makes_as (IsOneHealing now h) (λ acts k. (r, k)) d.makes

  -- the first 4,096 of the hosts, or all
  pub first_few : (n : ℕ) (hosts all : List Address) → n ≡ min (length hosts) 4096 → hosts ≡ all → take n hosts ≡ take 4096 all
  first_few n hosts all is same =
      let turned : min (length hosts) 4096 ≡ min 4096 (length hosts) = min_comm (length hosts) 4096 in
      ap (λ (k : ℕ). take k hosts) (is ∙ turned) ∙ take_min 4096 hosts ∙ ap (λ (xs : List Address). take 4096 xs) same

  -- hosts were joined, whatever it came to
  pub a_join : (now : ℕ) (hosts asked : List Address) (r : Result ℕ ClusterError) (next : Option ℕ) (p q : NodePass H) → asked ≡ take 4096 hosts
      → next ≡ next_join now r → Does locked (IsJoin any_answer now asked) r p q → Makes locked (JoinsAt now hosts next) p q
  a_join now hosts asked r next p q first at d =
      makes_as (JoinsAt now hosts next) (λ acts h. (r, subst (λ (xs : List Address). IsJoin any_answer now xs r acts) first h, at)) d.makes

  module _ (hosts : List Address) (last : ℕ) (due next : Option ℕ) where
    -- no hosts are to be joined
    pub no_join : (p : NodePass H) → due ≡ None → next ≡ None → Makes locked (JoinsIfDue Time hosts last due next) p p
    no_join p is to =
        makes_as (JoinsIfDue Time hosts last due next) (λ acts n. subst (λ (x : Option ℕ). JoinsIfDue Time hosts last x next acts) (sym is) (n, to)) (makes_none locked p)

    -- it is too early
    pub not_yet : (from now : ℕ) (p : NodePass H) → due ≡ Some from → next ≡ due → Time.told last now → now < from → Makes locked (JoinsIfDue Time hosts last due next) p p
    not_yet from now p is to told early =
        makes_as (JoinsIfDue Time hosts last due next)
        (λ acts n. subst (λ (x : Option ℕ). JoinsIfDue Time hosts last x next acts) (sym is) (now, told, inl (early, n, to ∙ is))) (makes_none locked p)

  module _ (period : ℕ) (hosts : List Address) where
    -- no round was made yet
    pub rounds_none : (first : Option ℕ) (last : ℕ) (due : Option ℕ) (p : NodePass H) → last ≡ 0 → due ≡ first → Makes locked (MakesRounds Time period hosts first last due) p p
    rounds_none first last due p z e = makes_as (MakesRounds Time period hosts first last due)
        (λ acts n. subst (λ (xs : List (Act H)). MakesRounds Time period hosts first last due xs) (sym n)
        (subst (λ (x : ℕ). MakesRounds {H = H} Time period hosts first x due []) (sym z)
        (subst (λ (x : Option ℕ). MakesRounds {H = H} Time period hosts first 0 x []) (sym e) MakesRounds.none))) (makes_none locked p)

    -- a round more was made
    pub rounds_more : (first : Option ℕ) (last now : ℕ) (due : Option ℕ) (p q s : NodePass H) → Makes locked (MakesRounds Time period hosts first last due) p q
        → Makes locked (IsOneRound Time period last now) q s → Makes locked (MakesRounds Time period hosts first now due) p s
    rounds_more first last now due p q s before round = makes_as (MakesRounds Time period hosts first now due)
        (λ acts k. subst (λ (xs : List (Act H)). MakesRounds Time period hosts first now due xs) (sym k.2) (MakesRounds.round now k.1 k.3 k.4)) (makes_then before round)

    -- a join more was due
    pub rounds_join : (first : Option ℕ) (last : ℕ) (due later : Option ℕ) (p q s : NodePass H) → Makes locked (MakesRounds Time period hosts first last due) p q
        → Makes locked (JoinsIfDue Time hosts last due later) q s → Makes locked (MakesRounds Time period hosts first last later) p s
    rounds_join first last due later p q s before join = makes_as (MakesRounds Time period hosts first last later)
        (λ acts k. subst (λ (xs : List (Act H)). MakesRounds Time period hosts first last later xs) (sym k.2) (MakesRounds.join later k.1 k.3 k.4)) (makes_then before join)

    -- and the same with healing after each of them
    pub heals_none : (start h : Heals) (first : Option ℕ) (last : ℕ) (due : Option ℕ) (p : NodePass H) → h ≡ start → last ≡ 0 → due ≡ first
        → Makes locked (HealsRounds Time period hosts start first h last due) p p
    heals_none start h first last due p e z d = makes_as (HealsRounds Time period hosts start first h last due)
        (λ acts n. subst (λ (xs : List (Act H)). HealsRounds Time period hosts start first h last due xs) (sym n)
        (subst (λ (x : Heals). HealsRounds {H = H} Time period hosts start first x last due []) (sym e)
        (subst (λ (x : ℕ). HealsRounds {H = H} Time period hosts start first start x due []) (sym z)
        (subst (λ (x : Option ℕ). HealsRounds {H = H} Time period hosts start first start 0 x []) (sym d) HealsRounds.none)))) (makes_none locked p)

    pub heals_more : (start h next : Heals) (first : Option ℕ) (last now : ℕ) (due : Option ℕ) (p q s t : NodePass H) → next ≡ (after_round h).1
        → Makes locked (HealsRounds Time period hosts start first h last due) p q → Makes locked (IsOneCorrectingRound Time period last now) q s
        → Makes locked (IsOneHealing now h) s t → Makes locked (HealsRounds Time period hosts start first next now due) p t
    heals_more start h next first last now due p q s t e before round healing = makes_as (HealsRounds Time period hosts start first next now due)
        (λ acts k. subst (λ (xs : List (Act H)). HealsRounds Time period hosts start first next now due xs) (sym (k.2 ∙ ap (λ (ys : List (Act H)). k.0 ++ ys) k.4.2))
        (subst (λ (x : Heals). HealsRounds Time period hosts start first x now due (k.0 ++ (k.4.0 ++ k.4.1))) (sym e) (HealsRounds.round now k.4.0 k.4.1 k.3 k.4.3 k.4.4)))
        (makes_then before (makes_then round healing))

    pub heals_join : (start h : Heals) (first : Option ℕ) (last : ℕ) (due later : Option ℕ) (p q s : NodePass H) → Makes locked (HealsRounds Time period hosts start first h last due) p q
        → Makes locked (JoinsIfDue Time hosts last due later) q s → Makes locked (HealsRounds Time period hosts start first h last later) p s
    heals_join start h first last due later p q s before join = makes_as (HealsRounds Time period hosts start first h last later)
        (λ acts k. subst (λ (xs : List (Act H)). HealsRounds Time period hosts start first h last later xs) (sym k.2) (HealsRounds.join later k.1 k.3 k.4)) (makes_then before join)

    -- rounds alone are a server's that does not heal
    pub plain_rounds : (last : ℕ) (due : Option ℕ) (p q : NodePass H) → Makes locked (MakesRounds Time period hosts (first_join hosts) last due) p q
        → Makes locked (AreRounds Time period hosts None) p q
    plain_rounds last due p q m = makes_as (AreRounds Time period hosts None) (λ acts k. (last, due, k)) m

    -- rounds with what heals after each are a healing server's
    pub heals_plan : (plan : HealingPlan) (h : Heals) (last : ℕ) (due : Option ℕ) (p q : NodePass H)
        → Makes locked (HealsRounds Time period hosts (heals_first plan.own plan.hosts.items) (first_join hosts) h last due) p q
        → Makes locked (AreRounds Time period hosts (Some plan)) p q
    heals_plan plan h last due p q m = makes_as (AreRounds Time period hosts (Some plan)) (λ acts k. (h, last, due, k)) m

    -- none were made by any server
    pub no_rounds : (healing : Option HealingPlan) (p : NodePass H) → Makes locked (AreRounds Time period hosts healing) p p
    no_rounds None p = plain_rounds 0 _ p p (rounds_none _ 0 _ p refl refl)
    no_rounds (Some plan) p = heals_plan plan _ 0 _ p p (heals_none _ _ _ 0 _ p refl refl refl)

    -- what is made by a server that heals so
    pub rounds_as : (healing known : Option HealingPlan) (p q : NodePass H) → healing ≡ known → Makes locked (AreRounds Time period hosts known) p q
        → Makes locked (AreRounds Time period hosts healing) p q
    rounds_as healing known p q e m = subst (λ (x : Option HealingPlan). Makes locked (AreRounds Time period hosts x) p q) (sym e) m

-- nothing heard may be all that comes of any bytes: the stream failed
hears_nothing : (known : Option (List ℕ)) → Hears known input.Nothing
hears_nothing None = inl (Err wire.Io, None, tt, refl)
hears_nothing (Some xs) = inl (Err wire.Io, Some xs, (0, omega arith, omega arith, refl), refl)

module _ {H : Type 0} (hash_of : H → List ℕ → ℕ) (Handles : Handlings) (now : ℕ) (locked : LockedNode H) where
  -- how an input was treated that a line answers, or none
  abbrev IsTreatedBy : Input → Option (List ℕ) → OfActs H
  IsTreatedBy heard line = IsTreated hash_of Handles now heard line

  silently : (heard : Input) (p q : NodePass H) → IsSilent hash_of any_answer Handles now heard locked p q → Makes locked (IsTreatedBy heard None) p q
  silently (input.Message message) p q t = makes_as (IsTreatedBy (input.Message message) None) (λ acts h. (t.0, h)) t.1.makes
  silently (input.Refused why) p q t = makes_as (IsTreatedBy (input.Refused why) None) (λ acts h. (t.0, h)) t.1.makes
  silently input.Nothing p q (never, same) =
      subst (λ (x : NodePass H). Makes locked (IsTreatedBy input.Nothing None) p x) (sym same) (makes_as (IsTreatedBy input.Nothing None) (λ acts n. (never, n)) (makes_none locked p))

  module _ {S : Type 0} (contents : S → Option (List ℕ)) (stream : S) (heard : Input) where
    answered_over : (line : Option (List ℕ)) (left : Option S) (p q : NodePass H) → IfSome left (λ s. Appends (contents stream) (contents s) (sent_for line))
        → Makes locked (IsTreatedBy heard line) p q → Makes locked (IsAnsweredOver contents hash_of Handles stream heard left) p q
    answered_over line left p q wrote m = makes_as (IsAnsweredOver contents hash_of Handles stream heard left) (λ acts h. record { now = now; line = line; treated = h; written = wrote }) m

    -- a line was sent with a newline, or it was not sent whole; or there was none
    pub over_answered : (line : Option (Vec ℕ Global)) (left : Option S) (p q : NodePass H) → IfSome left (λ s. Appends (contents stream) (contents s) (sent_for (bytes_of line)))
        → IfSome line (λ v. Makes locked (Responds hash_of any_answer Handles now heard v.items) p q) → IfNone line (IsSilent hash_of any_answer Handles now heard locked p q)
        → Makes locked (IsAnsweredOver contents hash_of Handles stream heard left) p q
    over_answered (Some v) left p q wrote sent silent = answered_over (Some v.items) left p q wrote sent
    over_answered None left p q wrote sent silent = answered_over None left p q wrote (silently heard p q silent)

module _ {H : Type 0} (hash_of : H → List ℕ → ℕ) (Handles : Handlings) (locked : LockedNode H) {S : Type 0} (remaining contents : S → Option (List ℕ)) (stream : S) where
  -- something was heard and answered
  pub over_heard : (heard : Input) (at read : S) (left : Option S) (p q : NodePass H) → at ≡ stream → Hears (remaining at) heard
      → Makes locked (IsAnsweredOver contents hash_of Handles read heard left) p q → Makes locked (IsConnectionOver remaining contents hash_of Handles stream left) p q
  over_heard heard at read left p q e hears m =
      makes_as (IsConnectionOver remaining contents hash_of Handles stream left) (λ acts h. (heard, subst (λ (s : S). Hears (remaining s) heard) e hears, read, h)) m

  -- nothing was heard
  pub over_quiet : (p : NodePass H) → Handles.never → Makes locked (IsConnectionOver remaining contents hash_of Handles stream None) p p
  over_quiet p never =
      makes_as (IsConnectionOver remaining contents hash_of Handles stream None)
      (λ acts n. (input.Nothing, hears_nothing (remaining stream), stream, record { now = 0; line = None; treated = (never, n); written = tt })) (makes_none locked p)

  -- either is a connection
  pub a_connection : (left : Option S) (p q : NodePass H) → Makes locked (IsConnectionOver remaining contents hash_of Handles stream left) p q
      → Makes locked (IsConnection hash_of Handles) p q
  a_connection left p q m = makes_as (IsConnection hash_of Handles) (λ acts h. (h.3.now, h.0, h.3.line, h.3.treated)) m

-- an input that was answered over a stream is a connection
pub an_answer : {H S : Type 0} (hash_of : H → List ℕ → ℕ) (Handles : Handlings) (locked : LockedNode H) (contents : S → Option (List ℕ)) (stream : S) (heard : Input) (left : Option S)
    (p q : NodePass H) → Makes locked (IsAnsweredOver contents hash_of Handles stream heard left) p q → Makes locked (IsConnection hash_of Handles) p q
an_answer hash_of Handles locked contents stream heard left p q m = makes_as (IsConnection hash_of Handles) (λ acts h. (h.now, heard, h.line, h.treated)) m

-- a handler that is shared is unchanged after a connection
module _ {H A : Type 0} (hash_of : H → List ℕ → ℕ) (Handles : A → MayHandle) (start is : A) (now : ℕ) where
  input_shared : (heard : Input) (r : Result Message ClusterError) (acts : List (Act H)) → AnswersInput hash_of any_answer (between (handled_shared Handles) start is) now heard r acts
      → (is ≡ start) × AnswersInput hash_of any_answer (shared (Handles start)) now heard r acts
  input_shared (input.Message message) r acts h = serves_shared hash_of any_answer Handles start is message now r acts h
  input_shared (input.Refused why) r acts h = (h.0, (tt, h.1))
  input_shared input.Nothing r acts h = absurd h

  silent_shared : (heard : Input) (r : Result (Unit {0}) ClusterError) (acts : List (Act H)) → StaysSilent hash_of any_answer (between (handled_shared Handles) start is) now heard r acts
      → (is ≡ start) × StaysSilent hash_of any_answer (shared (Handles start)) now heard r acts
  silent_shared heard (Ok u) acts (inl h) = absurd h
  silent_shared heard (Err e) acts (inl h) = let (same, made) = input_shared heard (Err e) acts h in (same, inl made)
  silent_shared heard r acts (inr (answer, (first, next, all, h, sends))) =
      let (same, made) = input_shared heard (Ok answer) first h in (same, inr (answer, (first, next, all, made, sends)))

  treated_shared : (heard : Input) (line : Option (List ℕ)) (acts : List (Act H)) → IsTreated hash_of (between (handled_shared Handles) start is) now heard line acts
      → (is ≡ start) × IsTreated hash_of (shared (Handles start)) now heard line acts
  treated_shared heard (Some line) acts (answer, (first, next, all, h, sends)) =
      let (same, made) = input_shared heard (Ok answer) first h in (same, (answer, (first, next, all, made, sends)))
  treated_shared (input.Message message) None acts (r, h) = let (same, made) = silent_shared (input.Message message) (let_in r) acts h in (same, (r, made))
  treated_shared (input.Refused why) None acts (r, h) = let (same, made) = silent_shared (input.Refused why) (let_in r) acts h in (same, (r, made))
  treated_shared input.Nothing None acts (never, none) = (never, (tt, none))

connection_shared : {H A : Type 0} (hash_of : H → List ℕ → ℕ) (Handles : A → MayHandle) (start is : A) (acts : List (Act H))
    → IsConnection hash_of (between (handled_shared Handles) start is) acts → (is ≡ start) × IsConnection hash_of (shared (Handles start)) acts
connection_shared hash_of Handles start is acts (now, heard, line, h) =
    let (same, treated) = treated_shared hash_of Handles start is now heard line acts h in (same, (now, heard, line, treated))

-- connections that were served by a shared handler
pub served_shared : {H A : Type 0} (hash_of : H → List ℕ → ℕ) (locked : LockedNode H) (end start : A) (Handles : A → MayHandle) (n : ℕ) (p q : NodePass H)
    → Makes locked (ServesEach hash_of (handled_shared Handles) n start end) p q → Makes locked (Times (IsConnection hash_of (shared (Handles start))) n) p q
served_shared hash_of locked end start Handles n p q m = makes_as (Times (IsConnection hash_of (shared (Handles start))) n)
    (λ acts h. (chain_still (λ old new. IsConnection hash_of (between (handled_shared Handles) old new)) (IsConnection hash_of (shared (Handles start))) start
    (λ is next c. connection_shared hash_of Handles start is next c) n end acts h).1) m
