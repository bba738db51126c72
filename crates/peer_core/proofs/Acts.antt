-- Acts one after the other.
use Rattle.std.proofs.Common.{◌≡◌, ℕ, ◌+◌, ◌∙◌, refl, sym, subst, arith, Result, Ok, Err, List, [], ◌∷◌, ◌++◌, append-nil}
use Rattle.std.specs.Prelude.{IfErr, IsErrAnd}
use Rattle.std.proofs.lemmas.List.{map-append}
use Rattle.node_core.specs.Calls.{Call, Answer}
use Rattle.locked_node.specs.declared.node.LockedNode.{LockedNode}
use Rattle.locked_node.specs.History.{CallEntry, entry_of}
use Rattle.locked_node.specs.Passes.{NodePass, Made, IsCalled}
use Rattle.locked_node.proofs.Histories.{made_in_turn}
use Rattle.peer_core.specs.Acts.{Act, OfActs, Chain, Just, Nothing, Then, Times, acts_of, Makes}

-- what a `?` returns, where the error is known
pub said_so : {T E : Type 0} (P : E → Type 0) (r : Result T E) (e : E) → IsErrAnd r (λ x. x ≡ e) → P e → IfErr r P
said_so P (Ok x) e is h = tt
said_so P (Err x) e is h = subst P (sym is) h

module _ {H : Type 0} where
  pub made_none : (locked : LockedNode H) (p : NodePass H) → Made locked p p []
  made_none locked p = record {
    same = (refl, refl);
    grown = ([], sym (append-nil _), refl);
    calls = sym (append-nil _);
    turns = omega arith;
    fits = λ h. h;
  }

  pub makes_none : (locked : LockedNode H) (p : NodePass H) → Makes locked Nothing p p
  makes_none locked p = record { entries = []; made = made_none locked p; so = refl }

  -- one call is one act
  pub makes_one : {hash_of : H → List ℕ → ℕ} {locked : LockedNode H} {p q : NodePass H} {call : Call} {answer : Answer H}
      → IsCalled hash_of locked p q call answer → Makes locked (Just (call, answer)) p q
  makes_one {call = call} {answer = answer} c = record { entries = entry_of call answer c.after ∷ []; made = c.made; so = refl }

  -- acts, and then others
  pub makes_then : {locked : LockedNode H} {P Q : OfActs H} {p q r : NodePass H} → Makes locked P p q → Makes locked Q q r → Makes locked (Then P Q) p r
  makes_then {locked} {P} {Q} {p} {q} {r} a b = record {
    entries = a.entries ++ b.entries;
    made = made_in_turn locked p q r a.entries b.entries a.made b.made;
    so = (acts_of a.entries, acts_of b.entries, map-append (λ (e : CallEntry H). (e.call, e.answer)) a.entries b.entries, a.so, b.so);
  }

  -- the same acts, of which more is said
  pub makes_as : {locked : LockedNode H} {P : OfActs H} {p q : NodePass H} (Q : OfActs H)
      → ((acts : List (Act H)) → P acts → Q acts) → Makes locked P p q → Makes locked Q p q
  makes_as Q f m = record { entries = m.entries; made = m.made; so = f (acts_of m.entries) m.so }

  -- none was made yet
  pub chain_none : {A : Type 0} (locked : LockedNode H) (One : A → A → OfActs H) (s : A) (p : NodePass H) → Makes locked (Chain One 0 s s) p p
  chain_none locked One s p = makes_as (Chain One 0 s s) (λ acts n. subst (λ (xs : List (Act H)). Chain One 0 s s xs) (sym n) Chain.none) (makes_none locked p)

  -- one more was made
  pub chain_more : {A : Type 0} (locked : LockedNode H) (One : A → A → OfActs H) (n : ℕ) (r s t : A) (p q u : NodePass H)
      → Makes locked (Chain One n r s) p q → Makes locked (One s t) q u → Makes locked (Chain One (n + 1) r t) p u
  chain_more locked One n r s t p q u before next =
      makes_as (Chain One (n + 1) r t) (λ acts k. subst (λ (xs : List (Act H)). Chain One (n + 1) r t xs) (sym k.2) (Chain.more k.3 k.4)) (makes_then before next)

  -- acts that leave what they start from as it is have no state, and of each more is said
  pub chain_still : {A : Type 0} (One : A → A → OfActs H) (More : OfActs H) (start : A)
      → ((is : A) (acts : List (Act H)) → One start is acts → (is ≡ start) × More acts)
      → (n : ℕ) (end : A) (acts : List (Act H)) → Chain One n start end acts → (end ≡ start) × Times More n acts
  chain_still One More start f n end acts Chain.none = (refl, Chain.none)
  chain_still {A} One More start f n end acts (Chain.more {s = s} {acts = first} {next = next} before one) =
      let (same, times) = chain_still One More start f _ s first before in
      let (left, said) = f end next (subst (λ (x : A). One x end next) same one) in (left, Chain.more times said)
