-- What is read of a member never goes back, since what is held of it rises.
use Rattle.std.proofs.Common.{◌≡◌, ℕ, Bool, true, false, cond, eqb, List, [], ◌∷◌, ◌++◌, Option, Some, None, refl, sym, ◌∙◌, ap, subst, inl, inr, map, filter}
use Rattle.std.specs.Prelude.{option_map}
use Rattle.std.proofs.lemmas.Bool.{eqb-true}
use Rattle.change_core.specs.declared.changes.Change.{Change}
use Rattle.change_core.specs.declared.changes.Entry.{Entry}
use Rattle.change_core.specs.Change.{Exceeds, exceeds, entry_of as entry_in}
use Rattle.change_core.specs.Members.{greatest}
use Rattle.change_core.proofs.Members.{members-IsMemberList}
use Rattle.change_core.proofs.Precedence.{Exceeds-irrefl, Exceeds-true, Exceeds-false, same_from_neither}
use Rattle.node_core.specs.Calls.{Call, OfEvent, OfView, Answer, WithReply, WithView, CallStep}
use Rattle.node_core.specs.Node.{Node}
use Rattle.node_core.proofs.Listed.{address-greatest}
use Rattle.node_core.proofs.Log.{IsSettled}
use Rattle.turn_lock.specs.declared.kept.Turn.{Turn}
use Rattle.turn_lock.specs.History.{turn, entries_of}
use Rattle.locked_node.specs.History.{History, LegalHistory}
use Rattle.laws.proofs.Rising.{Rises, rises-then, rises-step, settled-step}
use Rattle.laws.specs.Reading.{HistoriesReadForward, IsNoOlder, read}

-- what is no less than another change of its address is that change, or exceeds it
no_older : (a : ℕ) (held now : Change) → now.address ≡ held.address → (Exceeds held now → ⊥) → IsNoOlder a (entry_in held) (entry_in now)
no_older a held now same no_less = by_test (exceeds now held) refl
  where
    by_test : (b : Bool) → exceeds now held ≡ b → IsNoOlder a (entry_in held) (entry_in now)
    by_test true e = inr (Exceeds-true now held e)
    by_test false e = inl (ap entry_in (same_from_neither now held same (Exceeds-false now held e) no_less))

module _ {H : Type 0} (hash_of : H → List ℕ → ℕ) where
  -- a history in two parts
  legal_parts : (opening last : Node H) (first rest : History H) → LegalHistory hash_of opening (first ++ rest) last
      → (mid : Node H) × LegalHistory hash_of opening first mid × LegalHistory hash_of mid rest last
  legal_parts opening last [] rest legal = (opening, refl, legal)
  legal_parts opening last (t ∷ ts) rest legal = let r = legal_parts t.entry.after last ts rest legal.1 in (r.0, (legal.0, r.1), r.2)

  settled_call : (old new : Node H) (call : Call) (answer : Answer H) → IsSettled old → CallStep hash_of old call answer new → IsSettled new
  settled_call old new (OfEvent event) (WithReply reply) settled step = settled-step hash_of old new event reply settled step
  settled_call old new OfView (WithView result) settled step = subst (λ (n : Node H). IsSettled n) (sym step.1) settled
  settled_call old new call answer settled step = elim step [ ]

  stays : (node : Node H) (a : ℕ) (held : Change) → greatest node.members a ≡ Some held → Rises node.members node.members a held
  stays node a held e = record { now = held; now_is = e; no_less = Exceeds-irrefl held }

  rises_call : (old new : Node H) (call : Call) (answer : Answer H) (a : ℕ) (held : Change) → IsSettled old → CallStep hash_of old call answer new
      → greatest old.members a ≡ Some held → Rises old.members new.members a held
  rises_call old new (OfEvent event) (WithReply reply) a held settled step e = rises-step hash_of old new event reply a held settled step e
  rises_call old new OfView (WithView result) a held settled step e = subst (λ (n : Node H). Rises old.members n.members a held) (sym step.1) (stays old a held e)
  rises_call old new call answer a held settled step e = elim step [ ]

  settled_history : (old new : Node H) (history : History H) → IsSettled old → LegalHistory hash_of old history new → IsSettled new
  settled_history old new [] settled legal = subst (λ (n : Node H). IsSettled n) (sym legal) settled
  settled_history old new (t ∷ ts) settled legal =
      settled_history t.entry.after new ts (settled_call old t.entry.after t.entry.call t.entry.answer settled legal.0) legal.1

  rises_history : (old new : Node H) (history : History H) (a : ℕ) (held : Change) → IsSettled old → LegalHistory hash_of old history new
      → greatest old.members a ≡ Some held → Rises old.members new.members a held
  rises_history old new [] a held settled legal e = subst (λ (n : Node H). Rises old.members n.members a held) (sym legal) (stays old a held e)
  rises_history old new (t ∷ ts) a held settled legal e =
      let one = rises_call old t.entry.after t.entry.call t.entry.answer a held settled legal.0 e in
      rises-then old.members t.entry.after.members new.members a held one
      (rises_history t.entry.after new ts a one.now (settled_call old t.entry.after t.entry.call t.entry.answer settled legal.0) legal.1 one.now_is)

  -- the entry that was read is held
  held_as : (node : Node H) (a : ℕ) (e : Entry) (o : Option Change) → greatest node.members a ≡ o → Some e ≡ option_map entry_in o
      → (held : Change) × (greatest node.members a ≡ Some held) × (entry_in held ≡ e)
  held_as node a e None is r = cc
  held_as node a e (Some held) is r = (held, is, cc)

  pub histories_read_forward : HistoriesReadForward hash_of
  histories_read_forward opening last first between rest n m a earlier found x y kept legal =
      let before = legal_parts opening last first (turn n (read a (Some earlier) x) ∷ (between ++ turn m (read a found y) ∷ rest)) legal in
      let after = legal_parts x last between (turn m (read a found y) ∷ rest) before.2.1 in
      let settled : IsSettled before.0 = settled_history opening before.0 first (members-IsMemberList opening.members kept.one_each) before.1 in
      let held = held_as before.0 a earlier (greatest before.0.members a) refl before.2.0.0 in
      let risen : Rises before.0.members after.0.members a held.0 =
      rises_history before.0 after.0 between a held.0 settled (subst (λ (z : Node H). LegalHistory hash_of z between after.0) before.2.0.1 after.1) held.1 in (
        entry_in risen.now,
        after.2.0.0 ∙ ap (option_map entry_in) risen.now_is,
        subst (λ (e : Entry). IsNoOlder a e (entry_in risen.now)) held.2
            (no_older a held.0 risen.now (address-greatest after.0.members a risen.now risen.now_is ∙ sym (address-greatest before.0.members a held.0 held.1)) risen.no_less),
      )

-- where a pass made an entry, the history has it as a turn of the pass, between what the pass made before and after
module _ {E : Type 0} where
  pub record TurnIn (n : ℕ) (history : List (Turn E)) (es : List E) (e : E) (fs : List E) : Type 0 where
    pub before : List (Turn E)
    pub after : List (Turn E)
    pub parts : history ≡ before ++ turn n e ∷ after
    pub made_after : entries_of n after ≡ fs

  pub turn_in : (n : ℕ) (history : List (Turn E)) (es : List E) (e : E) (fs : List E) → entries_of n history ≡ es ++ e ∷ fs → TurnIn n history es e fs
  turn_in n [] [] e fs is = cc
  turn_in n [] (x ∷ xs) e fs is = cc
  turn_in n (t ∷ ts) es e fs is = by_pass es (eqb n t.pass) refl is (λ xs again. turn_in n ts xs e fs again)
    where
      skip : (xs ys : List E) → TurnIn n ts xs e fs → TurnIn n (t ∷ ts) ys e fs
      skip xs ys r = record { before = t ∷ r.before; after = r.after; parts = ap (λ (l : List (Turn E)). t ∷ l) r.parts; made_after = r.made_after }

      by_pass : (xs : List E) (b : Bool) → eqb n t.pass ≡ b
          → map (λ (u : Turn E). u.entry) (cond b (t ∷ filter (λ (u : Turn E). eqb n u.pass) ts) (filter (λ (u : Turn E). eqb n u.pass) ts)) ≡ xs ++ e ∷ fs
          → ((ys : List E) → entries_of n ts ≡ ys ++ e ∷ fs → TurnIn n ts ys e fs)
          → TurnIn n (t ∷ ts) xs e fs
      by_pass xs false k is again = skip xs xs (again xs is)
      by_pass [] true k is again =
          let head : t.entry ≡ e = cc in
          record {
            before = [];
            after = ts;
            parts = ap (λ (u : Turn E). u ∷ ts) (ap (λ (m : ℕ). turn m t.entry) (sym (eqb-true n t.pass k)) ∙ ap (λ (x : E). turn n x) head);
            made_after = cc;
          }
      by_pass (x ∷ xs) true k is again = skip xs (x ∷ xs) (again xs cc)
