-- The members of a node after a run are the members of its log.
use Rattle.std.proofs.Common.{◌≡◌, ℕ, List, [], ◌∷◌, ◌++◌, Option, Some, None, Ok, Err, Result, refl, sym, ◌∙◌, ap, map, take, subst}
use Rattle.std.proofs.lemmas.List.{take-map}
use Rattle.std.specs.Prelude.{IfOk, IfErr}
use Rattle.std.proofs.Common.{append-nil}
use Rattle.change_core.specs.declared.changes.Change.{Change}
use Rattle.change_core.specs.declared.changes.Sourced.{Sourced}
use Rattle.change_core.specs.Change.{change_of}
use Rattle.change_core.specs.Members.{members}
use Rattle.node_core.specs.declared.events.Event.{Event}
use Rattle.node_core.specs.declared.events.Event.TheVariants as call
use Rattle.node_core.specs.declared.events.Reply.{Reply}
use Rattle.node_core.specs.declared.events.Reply.TheVariants as answer
use Rattle.node_core.specs.declared.events.Received.{Received}
use Rattle.node_core.specs.declared.events.Received.TheVariants as received
use Rattle.node_core.specs.declared.events.NodeLost.TheVariants as lost
use Rattle.node_core.specs.declared.events.NodeOutcome.TheVariants as answered
use Rattle.node_core.specs.declared.errors.NodeError.{NodeError}
use Rattle.node_core.specs.declared.errors.NodeError.TheVariants as error
use Rattle.node_core.specs.declared.events.Taken.{Taken}
use Rattle.node_core.specs.declared.events.Stopped.{Stopped}
use Rattle.message_core.specs.declared.messages.Message.{Message}
use Rattle.message_core.specs.declared.messages.Content.{Content}
use Rattle.message_core.specs.declared.messages.Content.TheVariants as content
use Rattle.node_core.specs.Log.{log_given}
use Rattle.node_core.specs.Messages.{carried}
use Rattle.node_core.specs.Node.{Node, at_moment}
use Rattle.node_core.specs.Run.{log_step, log, MembersAreLog, given_in, said_in, change_in}
use Rattle.node_core.specs.Step.{NodeStep}
use Rattle.node_core.specs.Receiving.{AnswerStep, ReceiveStep, MakeStep}
use Rattle.node_core.specs.Probes.{put_in, ended}
use Rattle.node_core.specs.Taking.{TakeStep, TakesAll, TakesFirst, taken_of, took_all}
use Rattle.node_core.proofs.Greatest.{Agree, greatest-members, members_same}
use Rattle.node_core.proofs.Log.{IsSettled, agree-append, agree-log_given, took_all_members, took_all-own, settled-by}

-- new goes by the same address as old, and its members are those of a log
pub record Follows {H : Type 0} (old : Node H) (L : List Change) (new : Node H) : Type 0 where
  pub own_is : new.own ≡ old.own
  pub members_is : new.members ≡ members L

Follows-is : {H : Type 0} (old new after : Node H) (L : List Change) → new ≡ after → Follows old L after → Follows old L new
Follows-is {H} old new after L e f = subst (λ (n : Node H). Follows old L n) (sym e) f

-- taken changes, with nothing said besides
Follows-took : {H : Type 0} (old start new : Node H) (ss : List Sourced) → IsSettled old → start.own ≡ old.own → start.members ≡ old.members
    → new ≡ took_all start ss → Follows old (log_given old.own old.members (map change_of ss) ++ []) new
Follows-took {H} old start new ss settled o m e =
    let kept : IsSettled start = subst (λ (M : List Change). members M ≡ M) (sym m) settled in
    record {
      own_is = ap (λ (n : Node H). n.own) e ∙ took_all-own start ss ∙ o;
      members_is = ap (λ (n : Node H). n.members) e ∙ took_all_members start ss kept
          ∙ ap (λ (x : ℕ). members (log_given x start.members (map change_of ss))) o
          ∙ ap (λ (M : List Change). members (log_given old.own M (map change_of ss))) m
          ∙ ap members (sym (append-nil (log_given old.own old.members (map change_of ss))));
    }

Follows-TakeStep : {H : Type 0} (old new : Node H) (given : List Sourced) (moment : ℕ) (taken : Taken) → IsSettled old
    → TakeStep old given moment (Ok taken) new → Follows old (log_given old.own old.members (map change_of given) ++ []) new
Follows-TakeStep old new given moment taken settled step =
    Follows-took old (at_moment old moment) new given settled refl refl step.new_is

Follows-stopped : {H : Type 0} (old new : Node H) (given : List Sourced) (moment : ℕ) (stopped : Stopped) → IsSettled old
    → TakeStep old given moment (Err stopped) new → Follows old (log_given old.own old.members (take stopped.taken (map change_of given)) ++ []) new
Follows-stopped old new given moment stopped settled step =
    subst (λ (cs : List Change). Follows old (log_given old.own old.members cs ++ []) new) (sym (take-map change_of stopped.taken given))
    (Follows-took old (at_moment old moment) new (take stopped.taken given) settled refl refl step.new_is)

-- a batch is a step by what is known of either result
pub TakeStep-of : {H : Type 0} (old new : Node H) (given : List Sourced) (moment : ℕ) (result : Result Taken Stopped)
    → IfOk result (λ taken. TakesAll (at_moment old moment) given taken new) → IfErr result (λ stopped. TakesFirst (at_moment old moment) given stopped new)
    → TakeStep old given moment result new
TakeStep-of old new given moment (Ok taken) all first = all
TakeStep-of old new given moment (Err stopped) all first = first

-- the members after a batch are those of what it took, put into the log
pub TakeStep_members : {H : Type 0} (old new : Node H) (given : List Sourced) (moment : ℕ) (result : Result Taken Stopped) → IsSettled old
    → TakeStep old given moment result new → new.members ≡ members (log_given old.own old.members (taken_of given result))
TakeStep_members old new given moment (Ok taken) settled step =
    (Follows-TakeStep old new given moment taken settled step).members_is ∙ ap members (append-nil (log_given old.own old.members (map change_of given)))
TakeStep_members old new given moment (Err stopped) settled step =
    (Follows-stopped old new given moment stopped settled step).members_is
    ∙ ap members (append-nil (log_given old.own old.members (take stopped.taken (map change_of given))))

-- nothing was put in, where the members are the old ones
Follows-kept : {H : Type 0} (old new after : Node H) → IsSettled old → after.own ≡ old.own → after.members ≡ old.members → new ≡ after → Follows old (old.members ++ []) new
Follows-kept {H} old new after settled o m e =
    record {
      own_is = ap (λ (n : Node H). n.own) e ∙ o;
      members_is = ap (λ (n : Node H). n.members) e ∙ m ∙ sym settled ∙ ap members (sym (append-nil old.members));
    }

-- one change was put in
Follows-altered : {H : Type 0} (old new after : Node H) (c : Change) → after.own ≡ old.own → after.members ≡ members (old.members ++ c ∷ []) → new ≡ after
    → Follows old (old.members ++ c ∷ []) new
Follows-altered {H} old new after c o m e =
    record { own_is = ap (λ (n : Node H). n.own) e ∙ o; members_is = ap (λ (n : Node H). n.members) e ∙ m }

-- a change of another was put in, if there is one
Follows-put_in : {H : Type 0} (old new start : Node H) (change : Option Change) → IsSettled old → start.own ≡ old.own → start.members ≡ old.members
    → new ≡ ended (put_in start change) → Follows old (old.members ++ change_in change) new
Follows-put_in old new start None settled o m e = Follows-kept old new (ended start) settled o m e
Follows-put_in {H} old new start (Some c) settled o m e =
    Follows-altered old new (ended (put_in start (Some c))) c o (ap (λ (M : List Change). members (M ++ c ∷ [])) m) e

Follows-answer : {H : Type 0} (old mid new : Node H) (source : ℕ) (b : Content) (reply : Message) (L : List Change) → Follows old L mid → AnswerStep mid source b reply new → Follows old L new
Follows-answer {H} old mid new source (content.Join news) reply L f step = Follows-is old new mid L step.1 f
Follows-answer {H} old mid new source (content.Ping news) reply L f step =
    record { own_is = ap (λ (n : Node H). n.own) step.1 ∙ f.own_is; members_is = ap (λ (n : Node H). n.members) step.1 ∙ f.members_is }
Follows-answer old mid new source other reply L f step = elim step [ ]

Follows-ReceiveStep : {H : Type 0} (hash_of : H → List ℕ → ℕ) (old new : Node H) (message : Message) (moment : ℕ) (r : Received) → IsSettled old
    → ReceiveStep old message moment r new → Follows old (log_step old.own old.members (call.Receive message moment) (answer.Receive r)) new
Follows-ReceiveStep hash_of old new message moment (received.Done taken) settled step =
    Follows-TakeStep old new (carried message.content) moment taken settled step.2
Follows-ReceiveStep hash_of old new message moment (received.Answer taken reply) settled step =
    Follows-answer old step.0 new message.source message.content reply _ (Follows-TakeStep old step.0 (carried message.content) moment taken settled step.1) step.2
Follows-ReceiveStep hash_of old new message moment (received.NoAnswer taken) settled step =
    Follows-TakeStep old new (carried message.content) moment taken settled step.1
Follows-ReceiveStep hash_of old new message moment (received.Stopped stopped) settled step =
    Follows-stopped old new (carried message.content) moment stopped settled step.1
Follows-ReceiveStep hash_of old new message moment received.NotGossip settled step =
    Follows-kept old new old settled refl refl step.1

Follows-MakeStep : {H : Type 0} (old new after : Node H) (m : Message) (result : Result Message NodeError) → IsSettled old → after.own ≡ old.own → after.members ≡ old.members
    → MakeStep old m after result new → Follows old (old.members ++ []) new
Follows-MakeStep old new after m (Ok made) settled o e step = Follows-kept old new after settled o e step.1
Follows-MakeStep old new after m (Err error.Memory) settled o e step = Follows-kept old new old settled refl refl step
Follows-MakeStep old new after m (Err other) settled o e step = elim step [ ]

module _ {H : Type 0} (hash_of : H → List ℕ → ℕ) (old : Node H) (settled : IsSettled old) where
  same : (new : Node H) → new ≡ old → Follows old (old.members ++ []) new
  same new e = Follows-kept old new old settled refl refl e

  pub Follows-step : (event : Event) (reply : Reply) (new : Node H) → NodeStep hash_of old event reply new → Follows old (log_step old.own old.members event reply) new
  Follows-step (call.Take given moment) (answer.Take (Ok taken)) new step = Follows-TakeStep old new given moment taken settled step
  Follows-step (call.Take given moment) (answer.Take (Err stopped)) new step = Follows-stopped old new given moment stopped settled step
  Follows-step (call.Receive message moment) (answer.Receive r) new step = Follows-ReceiveStep hash_of old new message moment r settled step
  Follows-step call.JoinMessage (answer.JoinMessage result) new step = Follows-MakeStep old new _ _ result settled refl refl step
  Follows-step (call.PingTo target) (answer.PingTo result) new step = Follows-MakeStep old new _ _ result settled refl refl step
  Follows-step (call.PingReqTo helper target) (answer.PingReqTo result) new step = Follows-MakeStep old new _ _ result settled refl refl step
  Follows-step (call.PingReqAckTo requester target reached) (answer.PingReqAckTo result) new step = Follows-MakeStep old new _ _ result settled refl refl step
  Follows-step call.Leave (answer.Leave (Ok change)) new step = Follows-altered old new _ change refl refl step.2
  Follows-step call.Leave (answer.Leave (Err error.AlreadyLeft)) new step = same new step.1
  Follows-step call.Leave (answer.Leave (Err error.Memory)) new step = same new step.1
  Follows-step call.Rejoin (answer.Rejoin (Ok change)) new step = Follows-altered old new _ change refl refl step.3
  Follows-step call.Rejoin (answer.Rejoin (Err error.NotLeft)) new step = same new step.1
  Follows-step call.Rejoin (answer.Rejoin (Err error.Exhausted)) new step = same new step.2
  Follows-step call.Rejoin (answer.Rejoin (Err error.Memory)) new step = same new step.2
  Follows-step (call.Expire moment) (answer.Expire (Ok None)) new step = Follows-kept old new (at_moment old moment) settled refl refl step.1
  Follows-step (call.Expire moment) (answer.Expire (Ok (Some change))) new step = Follows-altered old new _ change refl refl step.3
  Follows-step (call.Expire moment) (answer.Expire (Err error.Memory)) new step = same new step.1
  Follows-step call.Probe (answer.Probe (Ok (Some pick))) new step = Follows-kept old new _ settled refl refl step.2
  Follows-step call.Probe (answer.Probe (Ok None)) new step = same new step.3
  Follows-step call.Probe (answer.Probe (Err error.Busy)) new step = same new step.1
  Follows-step call.Probe (answer.Probe (Err error.Spent)) new step = same new step.2
  Follows-step call.Probe (answer.Probe (Err error.Memory)) new step = same new step.3
  Follows-step (call.Acked number) (answer.Acked (Ok done)) new step = Follows-kept old new (ended old) settled refl refl step.1
  Follows-step (call.Acked number) (answer.Acked (Err error.StaleProbe)) new step = same new step.1
  Follows-step (call.Lost number moment) (answer.Lost (Ok (lost.Ask helpers))) new step = Follows-kept old new _ settled refl refl step.3
  Follows-step (call.Lost number moment) (answer.Lost (Ok (lost.Suspect change))) new step =
      Follows-put_in old new (at_moment old moment) change settled refl refl step.3.new_is
  Follows-step (call.Lost number moment) (answer.Lost (Err error.StaleProbe)) new step = same new step.1
  Follows-step (call.Lost number moment) (answer.Lost (Err error.Memory)) new step = same new step.3
  Follows-step (call.HelperSaid number helper said moment) (answer.HelperSaid (Ok answered.Waiting)) new step = Follows-kept old new _ settled refl refl step.1
  Follows-step (call.HelperSaid number helper said moment) (answer.HelperSaid (Ok answered.Reached)) new step = Follows-kept old new _ settled refl refl step.1
  Follows-step (call.HelperSaid number helper said moment) (answer.HelperSaid (Ok (answered.Suspect change))) new step =
      Follows-put_in old new (at_moment old moment) change settled refl refl step.3.new_is
  Follows-step (call.HelperSaid number helper said moment) (answer.HelperSaid (Ok answered.Inconclusive)) new step = Follows-kept old new _ settled refl refl step.1
  Follows-step (call.HelperSaid number helper said moment) (answer.HelperSaid (Err error.StaleProbe)) new step = same new step.1
  Follows-step (call.HelperSaid number helper said moment) (answer.HelperSaid (Err error.NotAsked)) new step = same new step.1
  Follows-step (call.HelperSaid number helper said moment) (answer.HelperSaid (Err error.Memory)) new step = same new step.4
  Follows-step call.Own (answer.Own change) new step = same new step.1
  Follows-step (call.Member a) (answer.Member entry) new step = same new step.1
  Follows-step call.Len (answer.Len n) new step = same new step.1
  Follows-step (call.Owner key) (answer.Owner owner) new step = same new step.1
  Follows-step (call.Owners key n) (answer.Owners result) new step = same new step.1
  Follows-step call.Members (answer.Members result) new step = same new step.1
  Follows-step call.DigestText (answer.DigestText result) new step = same new step.1
  Follows-step call.Digest (answer.Digest result) new step = same new step.1
  Follows-step call.Running (answer.Running running) new step = same new step.1
  Follows-step event reply new step = elim step [ ]

agree-log_step : (own : ℕ) (L L' : List Change) (event : Event) (reply : Reply) → Agree L L' → Agree (log_step own L event reply) (log_step own L' event reply)
agree-log_step own L L' event reply h =
    agree-append (log_given own L (given_in event reply)) (log_given own L' (given_in event reply)) (said_in reply) (agree-log_given own L L' (given_in event reply) h)

pub agree-log : (own : ℕ) (L L' : List Change) (events : List Event) (replies : List Reply) → Agree L L' → Agree (log own L events replies) (log own L' events replies)
agree-log own L L' [] replies h = h
agree-log own L L' (event ∷ events) [] h = h
agree-log own L L' (event ∷ events) (reply ∷ replies) h =
    agree-log own (log_step own L event reply) (log_step own L' event reply) events replies (agree-log_step own L L' event reply h)

pub members_are_log : {H : Type 0} (hash_of : H → List ℕ → ℕ) → MembersAreLog hash_of
members_are_log {H} hash_of old new [] [] settled run = ap (λ (n : Node H). n.members) run ∙ sym settled
members_are_log hash_of old new [] (reply ∷ replies) settled run = absurd run
members_are_log hash_of old new (event ∷ events) [] settled run = absurd run
members_are_log {H} hash_of old new (event ∷ events) (reply ∷ replies) settled run =
    let mid : Node H = run.0 in
    let L = log_step old.own old.members event reply in
    let f : Follows old L mid = Follows-step hash_of old settled event reply mid run.1 in
    members_are_log hash_of mid new events replies (settled-by mid L f.members_is) run.2
    ∙ ap (λ (o : ℕ). members (log o mid.members events replies)) f.own_is
    ∙ ap (λ (M : List Change). members (log old.own M events replies)) f.members_is
    ∙ members_same (log old.own (members L) events replies) (log old.own L events replies) (agree-log old.own (members L) L events replies (greatest-members L))
