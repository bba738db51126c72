-- In a run of a script each node holds what its log comes to.
use Rattle.std.proofs.Common.{◌≡◌, ℕ, Bool, true, false, cond, eqb, List, [], ◌∷◌, ◌++◌, Option, Some, None, Ok, Err, refl, sym, ◌∙◌, ap, subst, map, append-nil, append_assoc}
use Rattle.std.specs.Prelude.{take}
use Rattle.std.proofs.lemmas.Bool.{eq-eqb, eqb-true, eqb-false, ne_eqb}
use Rattle.change_core.specs.declared.changes.Change.{Change}
use Rattle.change_core.specs.Members.{members, digest_text}
use Rattle.change_core.proofs.Members.{members-same, members-IsMemberList}
use Rattle.hash_ring.specs.Points.{owners}
use Rattle.hash_ring.specs.Serving.{servers_of}
use Rattle.node_core.specs.declared.errors.NodeError.TheVariants as refused
use Rattle.node_core.specs.declared.events.Event.{Event}
use Rattle.node_core.specs.declared.events.Event.TheVariants as call
use Rattle.node_core.specs.declared.events.Received.{Received}
use Rattle.node_core.specs.declared.events.Received.TheVariants as received
use Rattle.node_core.specs.declared.events.Reply.{Reply}
use Rattle.node_core.specs.declared.events.Reply.TheVariants as reply
use Rattle.node_core.specs.Log.{log_given}
use Rattle.node_core.specs.Messages.{digest_of}
use Rattle.node_core.specs.Node.{Node, birth}
use Rattle.node_core.specs.Run.{log_step, given_in, said_in}
use Rattle.node_core.specs.Step.{NodeStep}
use Rattle.node_core.specs.Itself.{IsItself}
use Rattle.node_core.specs.Calls.{OfEvent, WithReply}
use Rattle.node_core.proofs.Following.{Follows, Follows-step, agree-log}
use Rattle.node_core.proofs.Greatest.{greatest-members, members_same}
use Rattle.node_core.proofs.Itself.{calls_leave_itself}
use Rattle.node_core.proofs.Log.{settled-by}
use Rattle.cli_core.specs.declared.scripts.answers.Answer.{Answer}
use Rattle.cli_core.specs.declared.scripts.answers.Answer.TheVariants as answer
use Rattle.cli_core.specs.declared.scripts.lines.Birth.{Birth}
use Rattle.cli_core.specs.declared.scripts.lines.Command.{Command}
use Rattle.cli_core.specs.declared.scripts.lines.Command.TheVariants.{Node as Makes, At, Ask, Send, Deliver, Restart}
use Rattle.cli_core.specs.declared.scripts.lines.Question.{Question}
use Rattle.cli_core.specs.declared.scripts.lines.Question.TheVariants as question
use Rattle.cli_core.specs.declared.scripts.messages.Sent.{Sent}
use Rattle.cli_core.specs.Input.{lines_of}
use Rattle.change_core.specs.Digest.{digest_digits}
use Rattle.cli_core.specs.ScriptAnswers.{answer_text, owners_text}
use Rattle.cli_core.specs.ScriptRuns.{AnswersAll}
use Rattle.cli_core.specs.Simulated.{Simulated, Obeys, NodeAnswers, GoesOn, Comes, beginning, created_in, node_at, with_node, of_itself}
use Rattle.laws.specs.Scripts.{Played, IsPlay, RunsArePlays, ScriptsAgree, IsLook, output_of, log_asked, log_delivered, log_delivered_to, log_after, log_at}

module _ {H : Type 0} (hash_of : H → List ℕ → ℕ) where
  -- runs as plays

  plays_of : (old new : Simulated H) (lines : List (List ℕ)) (output : List ℕ) → AnswersAll hash_of old lines output new
      → (plays : List (Played H)) × IsPlay hash_of old plays × (map (λ (p : Played H). p.line) plays ≡ lines) × (output ≡ output_of plays)
  plays_of old new [] output run = ([], tt, refl, run.0)
  plays_of old new (line ∷ lines) output (text, rest, mid, (short, c, ans, is, obeys, text_is), more, all) =
      let tail = plays_of mid new lines rest more in (
        record { line = line; command = c; answer = ans; after = mid } ∷ tail.0,
        (short, is, obeys, tail.1),
        ap (λ (l : List (List ℕ)). line ∷ l) tail.2,
        all ∙ ap (λ (t : List ℕ). (t ++ 10 ∷ []) ++ rest) text_is ∙ ap (λ (r : List ℕ). (answer_text ans ++ 10 ∷ []) ++ r) tail.3,
      )

  pub runs_are_plays : RunsArePlays hash_of
  runs_are_plays start input output run = plays_of start run.last (lines_of input) output run.answers

  -- a node of a script holds what this log comes to, and is made with the script's hash and number of points
  record IsOf (s : Simulated H) (a : ℕ) (log : List Change) (node : Node H) : Type 0 where
    pub own : node.own ≡ a
    pub holds : node.members ≡ members log
    pub hashed : node.hash ≡ s.hash
    pub points : node.config.replicas ≡ s.replicas

  abbrev AreOf : Simulated H → ℕ → List Change → Type 0
  AreOf s a log = (node : Node H) → node_at s.nodes a ≡ Some node → IsOf s a log node

  -- a call of a node puts into its log what it puts into its members
  by_step : (s : Simulated H) (a : ℕ) (log : List Change) (old new : Node H) (e : Event) (r : Reply) → IsOf s a log old → NodeStep hash_of old e r new → IsOf s a (log_step a log e r) new
  by_step s a log old new e r is step =
      let follows : Follows old (log_step old.own old.members e r) new = Follows-step hash_of old (settled-by old log is.holds) e r new step in
      let itself : IsItself old new = calls_leave_itself hash_of old new (OfEvent e) (WithReply r) step in
      record {
        own = itself.own_stays ∙ is.own;
        holds = follows.members_is ∙ ap (λ (o : ℕ). members (log_step o old.members e r)) is.own ∙ ap (λ (M : List Change). members (log_step a M e r)) is.holds
            ∙ members_same (log_step a (members log) e r) (log_step a log e r) (agree-log a (members log) log (e ∷ []) (r ∷ []) (greatest-members log));
        hashed = ap (λ (h : H). h) itself.hash_stays ∙ is.hashed;
        points = ap (λ c. c.replicas) itself.config_stays ∙ is.points;
      }

  -- where it puts in nothing, the log stays
  by_quiet : (s : Simulated H) (a : ℕ) (log : List Change) (old new : Node H) (e : Event) (r : Reply) → given_in e r ≡ [] → said_in r ≡ [] → IsOf s a log old → NodeStep hash_of old e r new → IsOf s a log new
  by_quiet s a log old new e r none silent is step =
      subst (λ (l : List Change). IsOf s a l new)
      (ap (λ (cs : List Change). log_given a log cs ++ said_in r) none ∙ ap (λ (cs : List Change). log ++ cs) silent ∙ append-nil log)
      (by_step s a log old new e r is step)

  by_question : (s : Simulated H) (a : ℕ) (log : List Change) (old new : Node H) (q : Question) (ans : Answer) → IsOf s a log old
      → NodeAnswers hash_of s.moment old q ans new → IsOf s a (log_asked a s.moment q ans log) new
  by_question s a log old new (question.Take c) (answer.Taken taken) is step = by_step s a log old new (call.Take (of_itself c ∷ []) s.moment) (reply.Take (Ok taken)) is step
  by_question s a log old new (question.Take c) (answer.Stopped stopped) is step = by_step s a log old new (call.Take (of_itself c ∷ []) s.moment) (reply.Take (Err stopped)) is step
  by_question s a log old new question.Leave (answer.Said c) is step = by_step s a log old new call.Leave (reply.Leave (Ok c)) is step
  by_question s a log old new question.Leave answer.AlreadyLeft is step = by_quiet s a log old new call.Leave (reply.Leave (Err refused.AlreadyLeft)) refl refl is step
  by_question s a log old new question.Rejoin (answer.Said c) is step = by_step s a log old new call.Rejoin (reply.Rejoin (Ok c)) is step
  by_question s a log old new question.Rejoin answer.NotLeft is step = by_quiet s a log old new call.Rejoin (reply.Rejoin (Err refused.NotLeft)) refl refl is step
  by_question s a log old new question.Rejoin answer.Exhausted is step = by_quiet s a log old new call.Rejoin (reply.Rejoin (Err refused.Exhausted)) refl refl is step
  by_question s a log old new question.Expire (answer.Said c) is step = by_step s a log old new (call.Expire s.moment) (reply.Expire (Ok (Some c))) is step
  by_question s a log old new question.Expire answer.Nothing is step = by_quiet s a log old new (call.Expire s.moment) (reply.Expire (Ok None)) refl refl is step
  by_question s a log old new question.Members (answer.Members text) is step = by_quiet s a log old new call.DigestText (reply.DigestText (Ok text)) refl refl is step
  by_question s a log old new question.Digest (answer.Digest digest) is step = by_quiet s a log old new call.Digest (reply.Digest (Ok digest)) refl refl is step
  by_question s a log old new (question.Owners count key) (answer.Owners named) is step = by_quiet s a log old new (call.Owners key.now count) (reply.Owners (Ok named)) refl refl is step
  by_question s a log old new q ans is step = elim step [ ]

  -- the nodes of a script

  at_with : (nodes : List (Node H)) (a b : ℕ) (old new : Node H) → node_at nodes a ≡ Some old → new.own ≡ a → node_at (with_node nodes a new) b ≡ cond (eqb b a) (Some new) (node_at nodes b)
  at_with [] a b old new there own = cc
  at_with (n ∷ ns) a b old new there own = by_head (eqb n.own a) refl (λ k. at_with ns a b old new k own)
    where
      same : (c : Bool) → eqb b a ≡ c → (x : Option (Node H)) (y : Option (Node H)) → (eqb b a ≡ false → x ≡ y) → cond (eqb a b) (Some new) x ≡ cond (eqb b a) (Some new) y
      same true e x y other = ap (λ t. cond t (Some new) x) (eq-eqb a b (sym (eqb-true b a e))) ∙ sym (ap (λ t. cond t (Some new) y) e)
      same false e x y other = ap (λ t. cond t (Some new) x) (ne_eqb a b (λ k. eqb-false b a e (sym k))) ∙ other e ∙ sym (ap (λ t. cond t (Some new) y) e)

      by_head : (t : Bool) → eqb n.own a ≡ t → (node_at ns a ≡ Some old → node_at (with_node ns a new) b ≡ cond (eqb b a) (Some new) (node_at ns b))
          → node_at (cond t (new ∷ ns) (n ∷ with_node ns a new)) b ≡ cond (eqb b a) (Some new) (node_at (n ∷ ns) b)
      by_head true e again =
          ap (λ (o : ℕ). cond (eqb o b) (Some new) (node_at ns b)) own
          ∙ same (eqb b a) refl (node_at ns b) (node_at (n ∷ ns) b)
          (λ k. sym (ap (λ t. cond t (Some n) (node_at ns b)) (ne_eqb n.own b (λ j. eqb-false b a k (sym j ∙ eqb-true n.own a e)))))
      by_head false e again = by_b (eqb n.own b) refl
        where
          left : node_at ns a ≡ Some old
          left = sym (ap (λ t. cond t (Some n) (node_at ns a)) e) ∙ there

          by_b : (t : Bool) → eqb n.own b ≡ t → cond t (Some n) (node_at (with_node ns a new) b) ≡ cond (eqb b a) (Some new) (cond t (Some n) (node_at ns b))
          by_b true k = sym (ap (λ t. cond t (Some new) (Some n)) (ne_eqb b a (λ j. eqb-false n.own a e (eqb-true n.own b k ∙ j))))
          by_b false k = again left

  at_more : (nodes : List (Node H)) (n : Node H) (b : ℕ) → (n.own ≡ b → node_at nodes b ≡ None) → node_at (nodes ++ n ∷ []) b ≡ cond (eqb b n.own) (Some n) (node_at nodes b)
  at_more [] n b absent = by_b (eqb b n.own) refl
    where
      by_b : (t : Bool) → eqb b n.own ≡ t → cond (eqb n.own b) (Some n) None ≡ cond t (Some n) None
      by_b true e = ap (λ t. cond t (Some n) None) (eq-eqb n.own b (sym (eqb-true b n.own e)))
      by_b false e = ap (λ t. cond t (Some n) None) (ne_eqb n.own b (λ k. eqb-false b n.own e (sym k)))
  at_more (m ∷ ms) n b absent = by_m (eqb m.own b) refl (λ h. at_more ms n b h)
    where
      by_m : (t : Bool) → eqb m.own b ≡ t → ((n.own ≡ b → node_at ms b ≡ None) → node_at (ms ++ n ∷ []) b ≡ cond (eqb b n.own) (Some n) (node_at ms b))
          → cond t (Some m) (node_at (ms ++ n ∷ []) b) ≡ cond (eqb b n.own) (Some n) (cond t (Some m) (node_at ms b))
      by_m true e again =
          sym (ap (λ t. cond t (Some n) (Some m)) (ne_eqb b n.own (λ k. let no : None ≡ Some m = sym (absent (sym k)) ∙ ap (λ t. cond t (Some m) (node_at ms b)) e in cc)))
      by_m false e again = again (λ k. sym (ap (λ t. cond t (Some m) (node_at ms b)) e) ∙ absent k)

  -- commands

  own_at : (nodes : List (Node H)) (a : ℕ) (n : Node H) → node_at nodes a ≡ Some n → n.own ≡ a
  own_at [] a n is = cc
  own_at (m ∷ ms) a n is = by_head (eqb m.own a) refl is (λ k. own_at ms a n k)
    where
      by_head : (t : Bool) → eqb m.own a ≡ t → cond t (Some m) (node_at ms a) ≡ Some n → (node_at ms a ≡ Some n → n.own ≡ a) → n.own ≡ a
      by_head true e k again = let same : m ≡ n = cc in ap (λ (x : Node H). x.own) (sym same) ∙ eqb-true m.own a e
      by_head false e k again = again k

  -- the nodes of a script hold what their logs come to
  abbrev Good : Simulated H → (ℕ → List Change) → Type 0
  Good s logs = (a : ℕ) → AreOf s a (logs a)

  -- the same script, but for what is no part of a node
  record SameKind (old new : Simulated H) : Type 0 where
    pub hash : new.hash ≡ old.hash
    pub replicas : new.replicas ≡ old.replicas

  moved : (old new : Simulated H) (a : ℕ) (log : List Change) (node : Node H) → SameKind old new → IsOf old a log node → IsOf new a log node
  moved old new a log node same is = record { own = is.own; holds = is.holds; hashed = is.hashed ∙ sym same.hash; points = is.points ∙ sym same.replicas }

  same_kind : (old new : Simulated H) (nodes : List (Node H)) (messages : List Sent) (moment : ℕ)
      → new ≡ record { hash = old.hash; replicas = old.replicas; moment = moment; nodes = nodes; messages = messages } → SameKind old new
  same_kind old new nodes messages moment is = record { hash = ap (λ (s : Simulated H). s.hash) is; replicas = ap (λ (s : Simulated H). s.replicas) is }

  cond-same : (t : Bool) (log : List Change) → cond t log log ≡ log
  cond-same true log = refl
  cond-same false log = refl

  -- one node is another than before
  chosen : (old new : Simulated H) (a b : ℕ) (x : Node H) (log one : List Change) → SameKind old new → node_at new.nodes a ≡ cond (eqb a b) (Some x) (node_at old.nodes a)
      → (a ≡ b → IsOf old a one x) → AreOf old a log → AreOf new a (cond (eqb a b) one log)
  chosen old new a b x log one same found here rest node e = by_b (eqb a b) refl (sym found ∙ e)
    where
      by_b : (t : Bool) → eqb a b ≡ t → cond t (Some x) (node_at old.nodes a) ≡ Some node → IsOf new a (cond t one log) node
      by_b true k h = let is : x ≡ node = cc in subst (λ (n : Node H). IsOf new a one n) is (moved old new a one x same (here (eqb-true a b k)))
      by_b false k h = moved old new a log node same (rest node h)

  goes : (old new : Simulated H) (b : ℕ) (P : Node H → Node H → Type 0) (nodes : List (Node H)) (logs one : ℕ → List Change) → Good old logs → GoesOn old.nodes b P nodes
      → new.nodes ≡ nodes → SameKind old new → ((before after : Node H) → P before after → IsOf old b (logs b) before → IsOf old b (one b) after)
      → (a : ℕ) → AreOf new a (cond (eqb a b) (one a) (logs a))
  goes old new b P nodes logs one good (before, after, there, p, is) new_is same step a =
      let stepped : IsOf old b (one b) after = step before after p (good b before there) in
      chosen old new a b after (logs a) (one a) same
      (ap (λ (ns : List (Node H)). node_at ns a) (new_is ∙ is) ∙ at_with old.nodes b a before after there stepped.own)
      (λ k. subst (λ (x : ℕ). IsOf old x (one x) after) (sym k) stepped) (good a)

  initial_node_is : (s : Simulated H) (b : Birth) → IsOf s b.address (birth b.address b.incarnation b.weight ∷ []) (created_in s b)
  initial_node_is s b = record { own = refl; holds = sym (members-IsMemberList (birth b.address b.incarnation b.weight ∷ []) (tt, tt)); hashed = refl; points = refl }

  abbrev logs_after : Simulated H → Command → Answer → (ℕ → List Change) → ℕ → List Change
  logs_after old c ans logs a = log_after a old c ans (logs a)

  abbrev Obeyed : Simulated H → Command → Answer → Simulated H → Type 0
  Obeyed old c ans new = (logs : ℕ → List Change) → Good old logs → Good new (logs_after old c ans logs) × SameKind old new

  -- the same nodes, and logs that stay
  unmoved : (old new : Simulated H) (logs more : ℕ → List Change) → Good old logs → new.nodes ≡ old.nodes → SameKind old new → ((a : ℕ) → more a ≡ logs a) → Good new more
  unmoved old new logs more good nodes same stay a node e =
      subst (λ (l : List Change). IsOf new a l node) (sym (stay a)) (moved old new a (logs a) node same (good a node (ap (λ (ns : List (Node H)). node_at ns a) (sym nodes) ∙ e)))

  -- a message is delivered
  delivered : (old new : Simulated H) (n : ℕ) (sent : Sent) (result : Received) (ans : Answer) (nodes : List (Node H)) (messages : List Sent) (logs : ℕ → List Change) → Good old logs
      → Comes hash_of old n sent result nodes
      → new ≡ record { hash = old.hash; replicas = old.replicas; moment = old.moment; nodes = nodes; messages = messages }
      → ((before after : Node H) → NodeStep hash_of before (call.Receive sent.message old.moment) (reply.Receive result) after → IsOf old sent.to (logs sent.to) before
      → IsOf old sent.to (log_delivered sent.to old.moment sent ans (logs sent.to)) after)
      → Good new (logs_after old (Deliver n) ans logs) × SameKind old new
  delivered old new n sent result ans nodes messages logs good (found, gone) is step =
      let same : SameKind old new = same_kind old new nodes messages old.moment is in (
        λ a. subst (λ (o : Option Sent). AreOf new a (log_delivered_to a old.moment o ans (logs a))) (sym found)
            (goes old new sent.to _ nodes logs (λ x. log_delivered x old.moment sent ans (logs x)) good gone (ap (λ (s : Simulated H). s.nodes) is) same step a),
        same,
      )

  by_command : (old new : Simulated H) (c : Command) (ans : Answer) → Obeys hash_of old c ans new → Obeyed old c ans new
  by_command old new (Makes b) answer.Done (absent, few, is) logs good =
      let same : SameKind old new = same_kind old new (old.nodes ++ created_in old b ∷ []) old.messages old.moment is in (
        λ a. chosen old new a b.address (created_in old b) (logs a) (birth b.address b.incarnation b.weight ∷ []) same
            (ap (λ (s : Simulated H). node_at s.nodes a) is ∙ at_more old.nodes (created_in old b) a (λ k. subst (λ (x : ℕ). node_at old.nodes x ≡ None) k absent))
            (λ k. subst (λ (x : ℕ). IsOf old x (birth b.address b.incarnation b.weight ∷ []) (created_in old b)) (sym k) (initial_node_is old b)) (good a),
        same,
      )
  by_command old new (At moment) answer.Done is logs good =
      let same : SameKind old new = same_kind old new old.nodes old.messages moment is in
      (unmoved old new logs logs good (ap (λ (s : Simulated H). s.nodes) is) same (λ a. refl), same)
  by_command old new (Ask b q) ans (nodes, gone, is) logs good =
      let same : SameKind old new = same_kind old new nodes old.messages old.moment is in (
        goes old new b (λ before after. NodeAnswers hash_of old.moment before q ans after) nodes logs (λ x. log_asked x old.moment q ans (logs x)) good gone
            (ap (λ (s : Simulated H). s.nodes) is) same (λ before after step k. by_question old b (logs b) before after q ans k step),
        same,
      )
  by_command old new (Send b target) (answer.Message number) (nodes, message, gone, few, numbered, is) logs good =
      let same : SameKind old new = same_kind old new nodes _ old.moment is in (
        λ a. subst (λ (l : List Change). AreOf new a l) (cond-same (eqb a b) (logs a))
            (goes old new b _ nodes logs logs good gone (ap (λ (s : Simulated H). s.nodes) is) same
            (λ before after step k. by_quiet old b (logs b) before after (call.PingTo target) (reply.PingTo (Ok message)) refl refl k step) a),
        same,
      )
  by_command old new (Deliver n) answer.Lost (sent, found, none, is) logs good =
      let same : SameKind old new = record { hash = ap (λ (s : Simulated H). s.hash) is; replicas = ap (λ (s : Simulated H). s.replicas) is } in (
        unmoved old new logs (logs_after old (Deliver n) answer.Lost logs) good (ap (λ (s : Simulated H). s.nodes) is) same
            (λ a. ap (λ (o : Option Sent). log_delivered_to a old.moment o answer.Lost (logs a)) found ∙ cond-same (eqb a sent.to) (logs a)),
        same,
      )
  by_command old new (Deliver n) (answer.Taken taken) (sent, nodes, comes, is) logs good =
      delivered old new n sent (received.Done taken) (answer.Taken taken) nodes old.messages logs good comes is
      (λ before after step k. by_step old sent.to (logs sent.to) before after (call.Receive sent.message old.moment) (reply.Receive (received.Done taken)) k step)
  by_command old new (Deliver n) (answer.Answered taken number) (sent, nodes, message, comes, few, numbered, is) logs good =
      delivered old new n sent (received.Answer taken message) (answer.Answered taken number) nodes _ logs good comes is
      (λ before after step k. by_step old sent.to (logs sent.to) before after (call.Receive sent.message old.moment) (reply.Receive (received.Answer taken message)) k step)
  by_command old new (Deliver n) (answer.Stopped stopped) (sent, nodes, comes, is) logs good =
      delivered old new n sent (received.Stopped stopped) (answer.Stopped stopped) nodes old.messages logs good comes is
      (λ before after step k. by_step old sent.to (logs sent.to) before after (call.Receive sent.message old.moment) (reply.Receive (received.Stopped stopped)) k step)
  by_command old new (Deliver n) answer.Nothing (sent, nodes, comes, is) logs good =
      delivered old new n sent received.NotGossip answer.Nothing nodes old.messages logs good comes is
      (λ before after step k. by_quiet old sent.to (logs sent.to) before after (call.Receive sent.message old.moment) (reply.Receive received.NotGossip) refl refl k step)
  by_command old new (Restart b) answer.Done (nodes, gone, is) logs good =
      let same : SameKind old new = same_kind old new nodes old.messages old.moment is in (
        goes old new b.address _ nodes logs (λ x. birth b.address b.incarnation b.weight ∷ []) good gone (ap (λ (s : Simulated H). s.nodes) is) same
            (λ before after step k. subst (λ (x : Node H). IsOf old b.address (birth b.address b.incarnation b.weight ∷ []) x) (sym step.1) (initial_node_is old b)),
        same,
      )
  by_command old new c ans obeys logs good = elim obeys [ ]

  -- a play in two parts

  record PlaysOn (start : Simulated H) (logs : ℕ → List Change) (first rest : List (Played H)) : Type 0 where
    pub then : Simulated H
    pub on : IsPlay hash_of then rest
    pub good : Good then (λ a. log_at a start (logs a) first)
    pub same : SameKind start then

  plays_on : (start : Simulated H) (logs : ℕ → List Change) (first rest : List (Played H)) → Good start logs → IsPlay hash_of start (first ++ rest) → PlaysOn start logs first rest
  plays_on start logs [] rest good play = record { then = start; on = play; good = good; same = record { hash = refl; replicas = refl } }
  plays_on start logs (p ∷ ps) rest good (short, is, obeys, more) =
      let one = by_command start p.after p.command p.answer obeys logs good in
      let tail = plays_on p.after (logs_after start p.command p.answer logs) ps rest one.0 more in
      record { then = tail.then; on = tail.on; good = tail.good; same = record { hash = tail.same.hash ∙ one.1.hash; replicas = tail.same.replicas ∙ one.1.replicas } }

  -- what is answered to a look is the definitions' text of the members
  abbrev text_by : H → ℕ → List Change → Question → List ℕ
  text_by hash replicas M question.Members = digest_text M
  text_by hash replicas M question.Digest = digest_digits (digest_of M).bytes
  text_by hash replicas M (question.Owners count key) = owners_text (take count (owners (hash_of hash) replicas (servers_of M) key.now))
  text_by hash replicas M other = []

  looked : (now : ℕ) (before after : Node H) (q : Question) (ans : Answer) → IsLook q → NodeAnswers hash_of now before q ans after
      → answer_text ans ≡ text_by before.hash before.config.replicas before.members q
  looked now before after question.Members (answer.Members text) look step = step.0
  looked now before after question.Digest (answer.Digest digest) look step = ap (λ d. digest_digits d.bytes) step.0
  looked now before after (question.Owners count key) (answer.Owners named) look step = ap owners_text step.0
  looked now before after question.Members ans look step = elim step [ ]
  looked now before after question.Digest ans look step = elim step [ ]
  looked now before after (question.Owners count key) ans look step = elim step [ ]
  looked now before after q ans look step = elim look [ ]

  -- what one line is answered
  answered : (s : Simulated H) (logs : ℕ → List Change) (p : Played H) (rest : List (Played H)) (a : ℕ) (q : Question) → Good s logs → IsPlay hash_of s (p ∷ rest)
      → p.command ≡ Ask a q → IsLook q → answer_text p.answer ≡ text_by s.hash s.replicas (members (logs a)) q
  answered s logs p rest a q good (short, is, obeys, more) asked look =
      by_ask (subst (λ (c : Command). Obeys hash_of s c p.answer p.after) asked obeys)
    where
      by_ask : Obeys hash_of s (Ask a q) p.answer p.after → answer_text p.answer ≡ text_by s.hash s.replicas (members (logs a)) q
      by_ask (nodes, (before, after, there, step, placed), new_is) =
          let held = good a before there in
          looked s.moment before after q p.answer look step
          ∙ ap (λ (h : H). text_by h before.config.replicas before.members q) held.hashed
          ∙ ap (λ (r : ℕ). text_by s.hash r before.members q) held.points
          ∙ ap (λ (M : List Change). text_by s.hash s.replicas M q) held.holds

  pub scripts_agree : ScriptsAgree hash_of
  scripts_agree hash replicas first between rest p q a b asked play of_p of_q look same =
      let start : Simulated H = beginning hash replicas in
      let nobody : Good start (λ x. []) = λ x node e. cc in
      let one = plays_on start (λ x. []) first (p ∷ (between ++ q ∷ rest)) nobody play in
      let two = plays_on start (λ x. []) (first ++ p ∷ between) (q ∷ rest) nobody
      (subst (λ (l : List (Played H)). IsPlay hash_of start l) (sym (append_assoc first (p ∷ between) (q ∷ rest))) play) in
      let P : List Change = log_at a start [] first in
      let Q : List Change = log_at b start [] (first ++ p ∷ between) in
      answered one.then (λ x. log_at x start [] first) p (between ++ q ∷ rest) a asked one.good one.on of_p look
      ∙ ap (λ (h : H). text_by h one.then.replicas (members P) asked) (one.same.hash ∙ sym two.same.hash)
      ∙ ap (λ (r : ℕ). text_by two.then.hash r (members P) asked) (one.same.replicas ∙ sym two.same.replicas)
      ∙ ap (λ (M : List Change). text_by two.then.hash two.then.replicas M asked) (members-same P Q same)
      ∙ sym (answered two.then (λ x. log_at x start [] (first ++ p ∷ between)) q rest b asked two.good two.on of_q look)
