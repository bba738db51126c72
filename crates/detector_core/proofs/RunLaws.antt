-- Two probers that agree: what one picks, asks and answers the other does.
use Rattle.std.specs.Option.{option_and_then}
use Rattle.std.proofs.Common.{◌≡◌, ℕ, List, Some, None, Option, [], arith, refl, sym, ap, ◌∙◌, ◌+◌}
use Rattle.detector_core.specs.Choices.{sample}
use Rattle.detector_core.specs.Helpers.{others, unanswered}
use Rattle.detector_core.specs.Order.{drawn_turn}
use Rattle.detector_core.specs.Probing.{ProbeState, choices, OpenedProbe, would_say, left_running, running_target}
use Rattle.detector_core.specs.Picks.{PicksAreOne, LossesAreOne, WordsAreOne, AcksAreOne}
use Rattle.detector_core.specs.declared.prober.Lost.TheVariants.{Ask, NoHelper}

abbrev target_or : ℕ → Option (ℕ × List ℕ) → ℕ
target_or d None = d
target_or d (Some next) = next.0

abbrev left_or : List ℕ → Option (ℕ × List ℕ) → List ℕ
left_or d None = d
left_or d (Some next) = next.1

pub picks_are_one : PicksAreOne
picks_are_one pingable s t s' t' p q agree one drawn other drawn' =
    let same = sym drawn ∙ (λ j. drawn_turn pingable (agree.rest j) (agree.coming j)) ∙ drawn' in
    let target : p.target ≡ q.target = ap (λ r. target_or 0 r.0) same in
    let number : p.number ≡ q.number = one.number ∙ ap (λ n. n + 1) agree.last ∙ sym other.number in (
      (λ j. record { number = number j; target = target j }),
      record {
        last = ap (λ s. s.last) one.left ∙ ap (λ n. n + 1) agree.last ∙ sym (ap (λ s. s.last) other.left);
        helpers = ap (λ s. s.helpers) one.left ∙ agree.helpers ∙ sym (ap (λ s. s.helpers) other.left);
        rest = ap (λ r. left_or [] r.0) same;
        coming = ap (λ r. r.1) same;
        running = ap (λ s. s.running) one.left ∙ (λ j. Some (record { target = target j; asked = [] })) ∙ sym (ap (λ s. s.running) other.left);
      },
    )

pub losses_are_one : LossesAreOne
losses_are_one pingable target s t s' t' NoHelper NoHelper agree one drawn other drawn' = (
  refl,
  record {
    last = ap (λ s. s.last) one.1 ∙ agree.last ∙ sym (ap (λ s. s.last) other.1);
    helpers = ap (λ s. s.helpers) one.1 ∙ agree.helpers ∙ sym (ap (λ s. s.helpers) other.1);
    rest = ap (λ s. s.rest) one.1 ∙ agree.rest ∙ sym (ap (λ s. s.rest) other.1);
    coming = ap choices one.1 ∙ agree.coming ∙ sym (ap choices other.1);
    running = ap (λ s. s.running) one.1 ∙ sym (ap (λ s. s.running) other.1);
  },
)
losses_are_one pingable target s t s' t' NoHelper (Ask helpers) agree one drawn other drawn' = absurd (nobody agree.helpers)
  where
    nobody : s.helpers ≡ t.helpers → ⊥
    nobody same = omega (arith, one.0, other.somebody, same)
losses_are_one pingable target s t s' t' (Ask helpers) NoHelper agree one drawn other drawn' = absurd (nobody agree.helpers)
  where
    nobody : s.helpers ≡ t.helpers → ⊥
    nobody same = omega (arith, other.0, one.somebody, same)
losses_are_one pingable target s t s' t' (Ask helpers) (Ask more) agree one drawn other drawn' =
    let same = sym drawn ∙ (λ j. sample (others pingable target) (agree.helpers j) (agree.coming j)) ∙ drawn' in
    let asked : helpers ≡ more = ap (λ r. r.0) same in (
      ap Ask asked,
      record {
        last = ap (λ s. s.last) one.left ∙ agree.last ∙ sym (ap (λ s. s.last) other.left);
        helpers = ap (λ s. s.helpers) one.left ∙ agree.helpers ∙ sym (ap (λ s. s.helpers) other.left);
        rest = ap (λ s. s.rest) one.left ∙ agree.rest ∙ sym (ap (λ s. s.rest) other.left);
        coming = ap (λ r. r.1) same;
        running = ap (λ s. s.running) one.left ∙ (λ j. Some (record { target = target; asked = unanswered (asked j) })) ∙ sym (ap (λ s. s.running) other.left);
      },
    )

-- the prober with another's last number and running probe
abbrev standing : ProbeState → ℕ → Option OpenedProbe → ProbeState
standing s last running = record s { last = last; running = running }

pub words_are_one : WordsAreOne
words_are_one number helper said s t agree = (
  (λ j. would_say (standing s (agree.last j) (agree.running j)) number helper said),
  λ o. record {
    last = agree.last;
    helpers = agree.helpers;
    rest = agree.rest;
    coming = agree.coming;
    running = ap (λ r. option_and_then (left_running o helper said) r) agree.running;
  },
)

pub acks_are_one : AcksAreOne
acks_are_one number s t agree = (
  (λ j. running_target (standing s (agree.last j) (agree.running j)) number),
  record { last = agree.last; helpers = agree.helpers; rest = agree.rest; coming = agree.coming; running = refl },
)
