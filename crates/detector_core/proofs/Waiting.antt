-- A probe that waits for nobody has asked nobody yet, after each call too.
use Rattle.std.proofs.Common.{◌≡◌, ◌≢◌, ℕ, ◌&&◌, ◌||◌, length, Bool, true, false, cond, eqb, List, [], ◌∷◌, map, Option, Some, None, Ok, Err, refl, sym, ◌∙◌, ap, subst, arith}
use Rattle.std.specs.Prelude.{◌↔◌, IfSome, filter, is_none, min}
use Rattle.std.specs.List.{list_any, reduce}
use Rattle.std.specs.Option.{option_and_then, option_map}
use Rattle.std.proofs.lemmas.Bool.{and_parts, eq-eqb, eqb-true}
use Rattle.rand_pcg.specs.Lcg.{Lcg}
use Rattle.detector_core.specs.declared.asked.AskedHelper.{AskedHelper}
use Rattle.detector_core.specs.declared.asked.Outcome.{Outcome}
use Rattle.detector_core.specs.declared.asked.Outcome.TheVariants as outcome
use Rattle.detector_core.specs.declared.asked.Said.{Said}
use Rattle.detector_core.specs.declared.prober.Lost.TheVariants.{Ask}
use Rattle.detector_core.specs.declared.prober.Probe.{Probe}
use Rattle.detector_core.specs.declared.prober.Running.{Running}
use Rattle.detector_core.specs.declared.errors.DetectorError.TheVariants as refusals
use Rattle.detector_core.specs.Helpers.{first_waiting, missed, noted, is_reached, outcome_after, unanswered, verdict, waits}
use Rattle.detector_core.specs.Picks.{IsPick, WasLost, running_of}
use Rattle.detector_core.specs.Probing.{IsProbing, ProbeState, OpenedProbe, unasked_target, would_say, after_saying, left_running}

-- one that has not answered is waited for
first_some : (asked : List AskedHelper) → list_any (λ q. is_none q.said) asked ≡ true → first_waiting asked ≢ None
first_some [] e h = cc
first_some (q ∷ qs) e h = by_said (is_none q.said) (first_some qs) e h
  where
    by_said : (b : Bool) → (list_any (λ (x : AskedHelper). is_none x.said) qs ≡ true → first_waiting qs ≢ None) → (b || list_any (λ (x : AskedHelper). is_none x.said) qs) ≡ true
        → reduce min (map (λ (x : AskedHelper). x.helper) (cond b (q ∷ filter (λ (x : AskedHelper). is_none x.said) qs) (filter (λ (x : AskedHelper). is_none x.said) qs))) ≡ None → ⊥
    by_said true rest k j = cc
    by_said false rest k j = rest k j

pub probed-pick : (pingable : List ℕ) (s : ProbeState) (pick : Probe) (new : ProbeState) → IsPick pingable s pick new → IsProbing new
probed-pick pingable s pick new is = record {
  numbered = omega (arith, is.within, is.number, ap (λ (x : ProbeState). x.last) is.left);
  different = is.different;
  waited = λ p e h.
      let running : Some (record { target = pick.target; asked = [] }) ≡ Some p = sym (ap (λ (x : ProbeState). x.running) is.left) ∙ e in
      let same : [] ≡ p.asked = cc in sym same;
}

module _ (s : ProbeState) (probed : IsProbing s) where
  -- one that has just asked helpers
  pub probed-asked : (target : ℕ) (helpers : List ℕ) (generator : Lcg) (asked : List AskedHelper) → asked ≡ unanswered helpers
      → IsProbing (record s { generator = generator; running = Some (record { target = target; asked = asked }) })
  probed-asked target helpers generator asked are = record {
    numbered = probed.numbered;
    different = probed.different;
    waited = λ p e h. let same : asked ≡ p.asked = cc in by_asked helpers p.asked (sym are ∙ same) h;
  }
    where
      by_asked : (hs : List ℕ) (now : List AskedHelper) → unanswered hs ≡ now → first_waiting now ≡ None → now ≡ []
      by_asked [] now e h = sym e
      by_asked (x ∷ xs) now e h = absurd (first_some (unanswered (x ∷ xs)) refl (ap first_waiting e ∙ h))

  pub probed-lost : (pingable : List ℕ) (target : ℕ) (helpers : List ℕ) (new : ProbeState) → WasLost pingable target s (Ask helpers) new → IsProbing new
  probed-lost pingable target helpers new lost = subst IsProbing (sym lost.left) (probed-asked target helpers new.generator (unanswered helpers) refl)

  waiting_tests : (b c : Bool) (o : Outcome) → cond b (cond c (Ok o) (Err refusals.NotAsked)) (Err refusals.StaleProbe) ≡ Ok outcome.Waiting → o ≡ outcome.Waiting
  waiting_tests true true o e = cc
  waiting_tests true false o e = cc
  waiting_tests false c o e = cc

  waiting_word : (b : Bool) (o : Outcome) → cond b outcome.Reached o ≡ outcome.Waiting → o ≡ outcome.Waiting
  waiting_word true o e = cc
  waiting_word false o e = e

  waiting_verdict : (b c : Bool) → cond b outcome.Waiting (cond c outcome.Suspect outcome.Inconclusive) ≡ outcome.Waiting → b ≡ true
  waiting_verdict true c e = refl
  waiting_verdict false true e = cc
  waiting_verdict false false e = cc

  pub probed-waiting : (number helper : ℕ) (said : Said) → would_say s number helper said ≡ Ok outcome.Waiting → IsProbing (after_saying s helper said outcome.Waiting)
  probed-waiting number helper said word = record {
    numbered = probed.numbered;
    different = probed.different;
    waited = λ p e h. by_running s.running refl p e h;
  }
    where
      by_running : (o : Option OpenedProbe) → s.running ≡ o → (p : OpenedProbe) → option_and_then (left_running outcome.Waiting helper said) o ≡ Some p → first_waiting p.asked ≡ None → p.asked ≡ []
      by_running None r p e h = cc
      by_running (Some a) r p e h =
          let same : map (noted helper said) a.asked ≡ p.asked = cc in
          let told : would_say (record s { running = Some a }) number helper said ≡ Ok outcome.Waiting
          = subst (λ (o : Option OpenedProbe). would_say (record s { running = o }) number helper said ≡ Ok outcome.Waiting) r word in
          let whole : outcome_after a.asked helper said ≡ outcome.Waiting = waiting_tests (eqb number s.last) (waits a.asked helper) (outcome_after a.asked helper said) told in
          let silent : list_any (λ q. is_none q.said) (map (noted helper said) a.asked) ≡ true
          = waiting_verdict _ (list_any missed (map (noted helper said) a.asked)) (waiting_word (is_reached said) (verdict (map (noted helper said) a.asked)) whole) in
          absurd (first_some (map (noted helper said) a.asked) silent (ap first_waiting same ∙ h))

  -- a prober whose probe has ended
  pub probed-ended : IsProbing (record s { running = None })
  probed-ended = record { numbered = probed.numbered; different = probed.different; waited = λ p e. cc }

  -- one that has noted a word and waits for more
  pub probed-noted : (number helper : ℕ) (said : Said) (a : OpenedProbe) (asked : List AskedHelper) → s.running ≡ Some a → would_say s number helper said ≡ Ok outcome.Waiting
      → asked ≡ map (noted helper said) a.asked → IsProbing (record s { running = Some (record { target = a.target; asked = asked }) })
  probed-noted number helper said a asked runs word are =
      let more = ap (λ (o : Option OpenedProbe). option_and_then (left_running outcome.Waiting helper said) o) runs in
      let same : option_and_then (left_running outcome.Waiting helper said) s.running ≡ Some (record { target = a.target; asked = asked })
      = more ∙ ap (λ (qs : List AskedHelper). Some (record { target = a.target; asked = qs })) (sym are) in
      subst (λ (o : Option OpenedProbe). IsProbing (record s { running = o })) same (probed-waiting number helper said word)

  -- the probe that runs has asked nobody exactly where it waits for nobody
  pub unasked_waits : (r : Option Running) → r ≡ running_of s → IfSome r (λ r. (r.waiting ≡ None) ↔ (unasked_target s r.number ≡ Some r.target))
  unasked_waits r e = subst (λ (o : Option Running). IfSome o (λ r. (r.waiting ≡ None) ↔ (unasked_target s r.number ≡ Some r.target))) (sym e) (by_running s.running refl)
    where
      is_met : (b : Bool) (target : ℕ) → cond b (Some target) None ≡ Some target → b ≡ true
      is_met true target e = refl
      is_met false target e = cc

      none : (asked : List AskedHelper) → length asked ≡ 0 → asked ≡ []
      none [] e = refl
      none (q ∷ qs) e = absurd (omega (arith, e))

      none_asked : (n : ℕ) (asked : List AskedHelper) (target : ℕ) → cond (eqb n s.last && eqb (length asked) 0) (Some target) None ≡ Some target → asked ≡ []
      none_asked n asked target e =
          none asked (eqb-true (length asked) 0 (and_parts (eqb n s.last) (eqb (length asked) 0) (is_met (eqb n s.last && eqb (length asked) 0) target e)).1)

      by_running : (o : Option OpenedProbe) → s.running ≡ o
          → IfSome (option_map (λ (a : OpenedProbe). record { number = s.last; target = a.target; waiting = first_waiting a.asked }) o)
          (λ (r : Running). (r.waiting ≡ None) ↔ (option_and_then (λ (a : OpenedProbe). cond (eqb r.number s.last && eqb (length a.asked) 0) (Some a.target) None) o ≡ Some r.target))
      by_running None runs = tt
      by_running (Some a) runs = (
        λ e. (λ j. cond (eq-eqb s.last s.last refl j && eqb (length (probed.waited a runs e j)) 0) (Some a.target) None),
        λ e. ap first_waiting (none_asked s.last a.asked a.target e),
      )
