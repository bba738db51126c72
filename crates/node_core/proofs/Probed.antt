-- A probe is of another than the node itself, after each call too.
use Rattle.std.proofs.Common.{◌≡◌, ◌≢◌, ℕ, ◌&&◌, Bool, true, false, cond, not, eqb, List, [], length, Option, Some, None, refl, sym, ◌∙◌, ap}
use Rattle.std.specs.Prelude.{Contains}
use Rattle.std.specs.Option.{option_and_then}
use Rattle.std.proofs.lemmas.Bool.{eqb-false, not-true}
use Rattle.change_core.specs.Members.{serving}
use Rattle.change_core.proofs.Ascends.{In-Contains}
use Rattle.change_core.proofs.Order.{in_filter}
use Rattle.detector_core.specs.declared.asked.Outcome.TheVariants as outcome
use Rattle.detector_core.specs.declared.asked.Said.{Said}
use Rattle.detector_core.specs.declared.prober.Lost.TheVariants.{Ask}
use Rattle.detector_core.specs.declared.prober.Probe.{Probe}
use Rattle.detector_core.specs.Picks.{IsPick, WasLost}
use Rattle.detector_core.specs.Probing.{ProbeState, OpenedProbe, running_target, unasked_target, after_saying, left_running}
use Rattle.node_core.specs.Node.{Node, pingable}

-- a probe that runs is of another
abbrev pub IsOfOther : ℕ → ProbeState → Type 0
IsOfOther own s = (p : OpenedProbe) → s.running ≡ Some p → p.target ≢ own

chosen : (o : Option OpenedProbe) (test : OpenedProbe → Bool) (target : ℕ) → option_and_then (λ a. cond (test a) (Some a.target) None) o ≡ Some target
    → (a : OpenedProbe) × (o ≡ Some a) × (a.target ≡ target)
chosen None test target e = cc
chosen (Some a) test target e = by_test (test a) e
  where
    by_test : (b : Bool) → cond b (Some a.target) None ≡ Some target → (x : OpenedProbe) × (Some a ≡ Some x) × (x.target ≡ target)
    by_test true k = let same : a.target ≡ target = cc in (a, refl, same)
    by_test false k = cc

module _ (own : ℕ) (s : ProbeState) (others : IsOfOther own s) where
  pub running_other : (number target : ℕ) → running_target s number ≡ Some target → target ≢ own
  running_other number target e k =
      let r = chosen s.running (λ a. eqb number s.last) target e in others r.0 r.1 (r.2 ∙ k)

  pub unasked_other : (number target : ℕ) → unasked_target s number ≡ Some target → target ≢ own
  unasked_other number target e k =
      let r = chosen s.running (λ a. eqb number s.last && eqb (length a.asked) 0) target e in others r.0 r.1 (r.2 ∙ k)

  pub others-lost : (pingable : List ℕ) (target : ℕ) (helpers : List ℕ) (new : ProbeState) → target ≢ own → WasLost pingable target s (Ask helpers) new → IsOfOther own new
  others-lost pingable target helpers new other lost p e k =
      let running : Some (record { target = target; asked = _ }) ≡ Some p = sym (ap (λ (x : ProbeState). x.running) lost.left) ∙ e in
      let same : target ≡ p.target = cc in other (same ∙ k)

  pub others-waiting : (helper : ℕ) (said : Said) → IsOfOther own (after_saying s helper said outcome.Waiting)
  others-waiting helper said p e k = by_running s.running refl e
    where
      by_running : (o : Option OpenedProbe) → s.running ≡ o → option_and_then (left_running outcome.Waiting helper said) o ≡ Some p → ⊥
      by_running None r j = cc
      by_running (Some a) r j = let same : a.target ≡ p.target = cc in others a r (same ∙ k)

-- a pingable one is another
pub pingable_other : {H : Type 0} (node : Node H) (a : ℕ) → Contains (pingable node) a → a ≢ node.own
pingable_other node a h =
    eqb-false a node.own (not-true (eqb a node.own) (in_filter (λ b. not (eqb b node.own)) a (serving node.members) (In-Contains a (pingable node) h)).1)

pub others-pick : {H : Type 0} (node : Node H) (pick : Probe) (new : ProbeState) → IsPick (pingable node) node.probing pick new → IsOfOther node.own new
others-pick node pick new is p e k =
    let running : Some (record { target = pick.target; asked = [] }) ≡ Some p = sym (ap (λ (x : ProbeState). x.running) is.left) ∙ e in
    let same : pick.target ≡ p.target = cc in pingable_other node pick.target is.target (same ∙ k)
