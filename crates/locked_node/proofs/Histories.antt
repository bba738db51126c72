-- A call more keeps a history legal, and what a call and a closing show by it.
use Rattle.std.proofs.Common.{◌≡◌, ℕ, ◌+◌, List, [], ◌∷◌, ◌++◌, refl, sym, ap, ◌∙◌, subst, arith}
use Rattle.std.proofs.lemmas.List.{append_assoc, length-append}
use Rattle.std.proofs.lemmas.List.Elements.{All-weaker}
use Rattle.std.specs.List.{filter_map}
use Rattle.turn_lock.specs.declared.kept.Turn.{Turn}
use Rattle.turn_lock.specs.History.{turn, GrownBy, GoesOn}
use Rattle.turn_lock.specs.Passes as lock
use Rattle.turn_lock.proofs.Histories.{grown_one, grown_twice}
use Rattle.turn_lock.proofs.Passes.{outside_name}
use Rattle.node_core.specs.Agreement.{IsNodeOf}
use Rattle.node_core.specs.Calls.{Call, OfEvent, OfView, Answer, WithReply, WithView, CallStep}
use Rattle.node_core.specs.Invariant.{IsNode, IsSeen}
use Rattle.node_core.specs.Itself.{IsItself}
use Rattle.node_core.specs.Node.{Node, Seen}
use Rattle.node_core.specs.Run.{IsRun}
use Rattle.node_core.proofs.Invariant.{all_calls_keep_it}
use Rattle.node_core.proofs.Itself.{run_itself}
use Rattle.node_core.proofs.RunLoop.{IsNodeOf-run}
use Rattle.locked_node.specs.declared.node.LockedNode.{LockedNode}
use Rattle.locked_node.specs.History.{CallEntry, entry_of, event_in, reply_in, History, LegalHistory, HistoriesKeepIt, StandsFor, log_of}
use Rattle.locked_node.specs.Passes.{NodePass, opening_of, CallsShowLegal, ClosingShowsLegal, HasSeenLegal, IsCalled, MadeInTurn}

module _ {H : Type 0} (hash_of : H → List ℕ → ℕ) where
  pub legal_push : (opening : Node H) (history : History H) (before : Node H) (n : ℕ) (call : Call) (answer : Answer H) (after : Node H)
      → LegalHistory hash_of opening history before → CallStep hash_of before call answer after
      → LegalHistory hash_of opening (history ++ turn n (entry_of call answer after) ∷ []) after
  legal_push opening [] before n call answer after legal step = (subst (λ (x : Node H). CallStep hash_of x call answer after) legal step, refl)
  legal_push opening (t ∷ ts) before n call answer after legal step = (legal.0, legal_push t.entry.after ts before n call answer after legal.1 step)

  -- each call keeps what holds of a node
  pub histories_keep_it : HistoriesKeepIt hash_of
  histories_keep_it opening last [] kept legal = (kept, subst (λ (n : Node H). IsNode n) (sym legal) kept)
  histories_keep_it opening last (t ∷ ts) kept legal =
      let rest = histories_keep_it t.entry.after last ts (all_calls_keep_it hash_of opening t.entry.after t.entry.call t.entry.answer kept legal.0) legal.1 in
      ((kept, rest.0), rest.1)

  -- a run of the events of a history
  abbrev IsRunOf : Node H → History H → Node H → Type 0
  IsRunOf opening history last =
      IsRun hash_of opening (filter_map (λ (t : Turn (CallEntry H)). event_in t.entry.call) history) (filter_map (λ (t : Turn (CallEntry H)). reply_in t.entry.answer) history) last

  -- a call is a step of a run, or a view, which changes nothing
  run_more : (old mid new : Node H) (n : ℕ) (call : Call) (answer : Answer H) (history : History H)
      → CallStep hash_of old call answer mid → IsRunOf mid history new → IsRunOf old (turn n (entry_of call answer mid) ∷ history) new
  run_more old mid new n (OfEvent event) (WithReply reply) history step run = (mid, step, run)
  run_more old mid new n OfView (WithView result) history step run = subst (λ (x : Node H). IsRunOf x history new) step.1 run
  run_more old mid new n call answer history step run = elim step [ ]

  -- a legal history is a run of its events
  legal_run : (opening : Node H) (history : History H) (last : Node H) → LegalHistory hash_of opening history last → IsRunOf opening history last
  legal_run opening [] last legal = legal
  legal_run opening (t ∷ ts) last legal = run_more opening t.entry.after last t.pass t.entry.call t.entry.answer ts legal.0 (legal_run t.entry.after ts last legal.1)

  -- a history is of one node
  pub history_itself : (opening : Node H) (history : History H) (last : Node H) → LegalHistory hash_of opening history last → IsItself opening last
  history_itself opening history last legal =
      run_itself hash_of opening (filter_map (λ (t : Turn (CallEntry H)). event_in t.entry.call) history) (filter_map (λ (t : Turn (CallEntry H)). reply_in t.entry.answer) history) last
      (legal_run opening history last legal)

  pub IsNodeOf-history : (opening now : Seen H) (history : History H) → StandsFor hash_of opening history now → IsSeen hash_of now → IsNodeOf hash_of now (log_of opening.node history)
  IsNodeOf-history opening now history stands whole = IsNodeOf-run hash_of opening now _ _ stands.0 whole (legal_run opening.node history now.node stands.1)

  -- the pass was `old`, then `entered`, and `new` as it left
  pub called : (locked : LockedNode H) (old entered new : NodePass H) (held : Seen H) (call : Call) (answer : Answer H) (after : Node H)
      → lock.IsSamePass old entered → lock.left_of entered + 1 ≡ lock.left_of old → GoesOn (lock.number_of old) (lock.seen entered) (lock.seen old)
      → lock.calls_of entered ≡ lock.calls_of old → StandsFor hash_of (opening_of locked) (lock.seen entered) held
      → CallStep hash_of held.node call answer after
      → lock.IsOutside locked.lock new → lock.IsSamePass entered new → lock.left_of new ≡ lock.left_of entered
      → lock.seen new ≡ lock.seen entered ++ turn (lock.number_of entered) (entry_of call answer after) ∷ []
      → lock.calls_of new ≡ lock.calls_of entered ++ entry_of call answer after ∷ []
      → IsCalled hash_of locked old new call answer
  called locked old entered new held call answer after same left goes calls stands step outside same_2 left_2 saw calls_2 =
      let n : ℕ = lock.number_of old in
      let e : CallEntry H = entry_of call answer after in
      let opening : Node H = (opening_of locked).node in
      let pushed : LegalHistory hash_of opening (lock.seen entered ++ turn n e ∷ []) after = legal_push opening (lock.seen entered) held.node n call answer after stands.1 step in
      let saw_own : lock.seen new ≡ lock.seen entered ++ turn n e ∷ [] = saw ∙ ap (λ (k : ℕ). lock.seen entered ++ turn k e ∷ []) same.1 in
      record {
        named = sym same.0 ∙ (sym same_2.0 ∙ outside_name locked.lock new outside);
        before = held.node;
        after = after;
        between = goes.0;
        of_others = goes.2;
        opened = stands.0;
        itself = history_itself opening (lock.seen entered ++ turn n e ∷ []) after pushed;
        legal_before = subst (λ (l : History H). LegalHistory hash_of opening l held.node) goes.1 stands.1;
        step = step;
        seen_is = saw_own ∙ ap (λ (l : History H). l ++ turn n e ∷ []) goes.1;
        legal = subst (λ (l : History H). LegalHistory hash_of opening l after) (sym saw_own) pushed;
        made = record {
          same = (same_2.0 ∙ same.0, same_2.1 ∙ same.1);
          grown = subst (λ (l : History H). GrownBy n (e ∷ []) l (lock.seen old)) (sym saw_own)
              (grown_twice n [] (e ∷ []) (lock.seen old) (lock.seen entered) (lock.seen entered ++ turn n e ∷ []) goes (grown_one n e (lock.seen entered)));
          calls = calls_2 ∙ ap (λ (es : List (CallEntry H)). es ++ e ∷ []) calls;
          turns = omega (arith, left, left_2);
          fits = λ _ _. outside;
        };
      }

-- two steps of a pass are one
pub made_in_turn : {H : Type 0} → MadeInTurn H
made_in_turn {H} locked old mid new es fs a b =
    record {
      same = (b.same.0 ∙ a.same.0, b.same.1 ∙ a.same.1);
      grown = grown_twice (lock.number_of old) es fs (lock.seen old) (lock.seen mid) (lock.seen new) a.grown
          (subst (λ (n : ℕ). GrownBy n fs (lock.seen new) (lock.seen mid)) a.same.1 b.grown);
      calls = b.calls ∙ ap (λ (l : List (CallEntry H)). l ++ fs) a.calls ∙ append_assoc (lock.calls_of old) es fs;
      turns = omega (arith, length-append es fs, a.turns, b.turns);
      fits = λ h. b.fits (a.fits h);
    }

module _ {H : Type 0} (hash_of : H → List ℕ → ℕ) where
  -- a legal history is legal up to any call
  legal_beginning : (opening last : Node H) (first rest : History H) → LegalHistory hash_of opening (first ++ rest) last
      → (mid : Node H) × LegalHistory hash_of opening first mid
  legal_beginning opening last [] rest legal = (opening, refl)
  legal_beginning opening last (t ∷ ts) rest legal =
      let more = legal_beginning t.entry.after last ts rest legal.1 in (more.0, (legal.0, more.1))

  pub calls_show_legal : CallsShowLegal hash_of
  calls_show_legal locked old new call answer called =
      legal_beginning (opening_of locked).node called.before (lock.seen old) called.between called.legal_before

  pub closing_shows_legal : ClosingShowsLegal hash_of
  closing_shows_legal locked passes now closed =
      let opening : Node H = (opening_of locked).node in
      All-weaker (λ (p : NodePass H). GoesOn (lock.number_of p) closed.history (lock.seen p)) (HasSeenLegal hash_of locked)
      (λ p goes. legal_beginning opening now.node (lock.seen p) goes.0 (subst (λ (l : History H). LegalHistory hash_of opening l now.node) goes.1 closed.legal))
      passes closed.whole.begins
