-- The suspicion that a lost probe ends with.
use Rattle.std.proofs.Common.{◌≡◌, ◌≢◌, ℕ, ◌<◌, List, Option, Some, None, refl, sym, ◌∙◌, ap, subst, inl, inr, arith}
use Rattle.std.specs.Prelude.{option_map}
use Rattle.std.specs.Option.{option_and_then}
use Rattle.change_core.specs.Change.{Exceeds, entry_of}
use Rattle.change_core.specs.declared.changes.Change.{Change}
use Rattle.change_core.specs.declared.changes.Entry.{Entry}
use Rattle.change_core.specs.declared.statuses.Status.{Status}
use Rattle.change_core.specs.declared.statuses.Status.TheVariants.{Alive, Suspect, Faulty, Leave, Tombstone}
use Rattle.change_core.specs.Members.{greatest}
use Rattle.change_core.specs.Status.{rank}
use Rattle.detector_core.specs.declared.asked.Outcome.TheVariants as outcome
use Rattle.detector_core.specs.declared.asked.Said.{Said}
use Rattle.detector_core.specs.Probing.{OpenedProbe, ProbeState, after_saying, left_running}
use Rattle.member_core.specs.declared.verdicts.Verdict.TheVariants.{Take}
use Rattle.member_core.specs.Membership.{judged}
use Rattle.node_core.specs.Edits.{membership_of}
use Rattle.node_core.specs.Parts.{Parts, AreParts, node_of}
use Rattle.node_core.specs.Probes.{suspicion_in, suspicion_of}
use Rattle.node_core.proofs.Editing.{judged-known}
use Rattle.node_core.proofs.Listed.{address-greatest}

-- what is held of a target when it is suspected
pub record IsSuspected (M : List Change) (target : ℕ) (c : Change) : Type 0 where
  pub held : Change
  pub held_is : greatest M target ≡ Some held
  pub alive : held.status ≡ Alive
  pub same : c ≡ record held { status = Suspect }

pub suspicion-some : (M : List Change) (target : ℕ) (c : Change) → suspicion_in (greatest M target) ≡ Some c → IsSuspected M target c
suspicion-some M target c e = by_held (greatest M target) refl e
  where
    by_status : (h : Change) → greatest M target ≡ Some h → (s : Status) → h.status ≡ s → suspicion_of h s ≡ Some c → IsSuspected M target c
    by_status h g Alive f j = let same : record h { status = Suspect } ≡ c = cc in record { held = h; held_is = g; alive = f; same = sym same }
    by_status h g Suspect f j = cc
    by_status h g Faulty f j = cc
    by_status h g Leave f j = cc
    by_status h g Tombstone f j = cc

    by_held : (o : Option Change) → greatest M target ≡ o → suspicion_in o ≡ Some c → IsSuspected M target c
    by_held None g k = cc
    by_held (Some h) g k = by_status h g h.status refl k

-- it is taken
pub suspicion-judged : {H : Type 0} (hash_of : H → List ℕ → ℕ) (p : Parts H) → AreParts hash_of p → (target : ℕ) (c : Change) → target ≢ p.members.own.address
    → suspicion_in (greatest p.members.members target) ≡ Some c → judged (membership_of (node_of p)) c ≡ Take c
suspicion-judged hash_of p parts target c other e =
    let s = suspicion-some p.members.members target c e in
    let about : c.address ≡ target = ap (λ (x : Change). x.address) s.same ∙ address-greatest p.members.members target s.held s.held_is in
    judged-known hash_of p parts c s.held (λ own. other (sym about ∙ own)) (ap (greatest p.members.members) about ∙ s.held_is)
    (subst (λ (x : Change). Exceeds x s.held) (sym s.same) (inr (refl, inl (subst (λ (t : Status). rank t < 1) (sym s.alive) (omega arith)))))

-- what is found of an entry that is alive is its suspicion
pub suspicion-entry : (M : List Change) (target : ℕ) (e : Entry) → option_map entry_of (greatest M target) ≡ Some e → e.status ≡ Alive
    → Some (record { address = target; incarnation = e.incarnation; status = Suspect; weight = e.weight }) ≡ suspicion_in (greatest M target)
suspicion-entry M target e found alive = by_held (greatest M target) refl found
  where
    by_held : (o : Option Change) → greatest M target ≡ o → option_map entry_of o ≡ Some e
        → Some (record { address = target; incarnation = e.incarnation; status = Suspect; weight = e.weight }) ≡ suspicion_in o
    by_held None g k = cc
    by_held (Some h) g k =
        let same : entry_of h ≡ e = cc in
        let status : h.status ≡ Alive = ap (λ (x : Entry). x.status) same ∙ alive in
        let made : record { address = target; incarnation = e.incarnation; status = Suspect; weight = e.weight } ≡ record h { status = Suspect }
        = ap (λ (a : ℕ). record { address = a; incarnation = e.incarnation; status = Suspect; weight = e.weight }) (sym (address-greatest M target h g))
        ∙ ap (λ (x : Entry). record { address = h.address; incarnation = x.incarnation; status = Suspect; weight = x.weight }) (sym same) in
        ap (λ (c : Change). Some c) made ∙ ap (suspicion_of h) (sym status)

-- a word after which nobody is waited for ends the probe
module _ (s : ProbeState) (helper : ℕ) (said : Said) where
  pub after_saying-reached : after_saying s helper said outcome.Reached ≡ record s { running = None }
  after_saying-reached = ap (λ (o : Option OpenedProbe). record s { running = o }) (by_running s.running)
    where
      by_running : (o : Option OpenedProbe) → option_and_then (left_running outcome.Reached helper said) o ≡ None
      by_running None = refl
      by_running (Some a) = refl

  pub after_saying-suspect : after_saying s helper said outcome.Suspect ≡ record s { running = None }
  after_saying-suspect = ap (λ (o : Option OpenedProbe). record s { running = o }) (by_running s.running)
    where
      by_running : (o : Option OpenedProbe) → option_and_then (left_running outcome.Suspect helper said) o ≡ None
      by_running None = refl
      by_running (Some a) = refl

  pub after_saying-inconclusive : after_saying s helper said outcome.Inconclusive ≡ record s { running = None }
  after_saying-inconclusive = ap (λ (o : Option OpenedProbe). record s { running = o }) (by_running s.running)
    where
      by_running : (o : Option OpenedProbe) → option_and_then (left_running outcome.Inconclusive helper said) o ≡ None
      by_running None = refl
      by_running (Some a) = refl
