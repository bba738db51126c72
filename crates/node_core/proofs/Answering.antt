-- What the parts of a node answer is what the node answers, and what an answer leaves of them.
use Rattle.std.proofs.Common.{◌≡◌, ℕ, List, [], Option, None, Some, Ok, refl, sym, ◌∙◌, ap, subst}
use Rattle.std.specs.Prelude.{MatchOption}
use Rattle.detector_core.specs.declared.asked.Outcome.{Outcome}
use Rattle.detector_core.specs.declared.asked.Outcome.TheVariants as outcome
use Rattle.detector_core.specs.declared.asked.Said.{Said}
use Rattle.detector_core.specs.declared.prober.Lost.TheVariants.{Ask}
use Rattle.detector_core.specs.declared.prober.Probe.{Probe}
use Rattle.detector_core.specs.Picks.{IsPick, WasLost}
use Rattle.detector_core.specs.Probing.{ProbeState, after_saying, unasked_target, would_say}
use Rattle.gossip_core.specs.Dissemination.{Dissemination, after_issue}
use Rattle.gossip_core.specs.Pending.{issued}
use Rattle.node_core.specs.Invariant.{IsNode}
use Rattle.node_core.specs.Node.{pingable}
use Rattle.node_core.specs.Parts.{Parts, AreParts, node_of, seen_in}
use Rattle.node_core.proofs.Invariant.{ended_kept, probing_kept, told_kept}
use Rattle.node_core.proofs.Issuing.{after_issue-nothing}
use Rattle.detector_core.proofs.Waiting.{probed-lost, probed-pick, probed-waiting}
use Rattle.node_core.proofs.Probed.{others-lost, others-pick, others-waiting, unasked_other}
use Rattle.node_core.proofs.Suspecting.{after_saying-reached, after_saying-suspect, after_saying-inconclusive}

module _ {H : Type 0} (hash_of : H → List ℕ → ℕ) (p : Parts H) (parts : AreParts hash_of p) where
  -- another prober in the place of the one that there was
  pub AreParts-probing : (probing : ProbeState) → IsNode (record (node_of p) { probing = probing }) → AreParts hash_of (record p { probing = probing })
  AreParts-probing probing kept = record { kept = kept; membership = parts.membership; most = parts.most; ring_is = parts.ring_is; rising = parts.rising }

  pub AreParts-ended : (probing : ProbeState) → probing ≡ record p.probing { running = None } → AreParts hash_of (record p { probing = probing })
  AreParts-ended probing e =
      AreParts-probing probing (subst (λ (s : ProbeState). IsNode (record (node_of p) { probing = s })) (sym e) (ended_kept (node_of p) parts.kept))

  pub AreParts-picked : (o : Option Probe) (probing : ProbeState) → MatchOption o (probing ≡ p.probing) (λ q. IsPick (pingable (node_of p)) p.probing q probing)
      → AreParts hash_of (record p { probing = probing })
  AreParts-picked None probing e = AreParts-probing probing (subst (λ (s : ProbeState). IsNode (record (node_of p) { probing = s })) (sym e) parts.kept)
  AreParts-picked (Some q) probing e =
      AreParts-probing probing (probing_kept (node_of p) parts.kept probing (others-pick (node_of p) q probing e) (probed-pick (pingable (node_of p)) p.probing q probing e)
      (ap (λ (s : ProbeState). s.helpers) e.left))

  pub AreParts-asked : (number target : ℕ) (helpers : List ℕ) (probing : ProbeState) → unasked_target p.probing number ≡ Some target
      → WasLost (pingable (node_of p)) target p.probing (Ask helpers) probing → AreParts hash_of (record p { probing = probing })
  AreParts-asked number target helpers probing e lost =
      AreParts-probing probing (probing_kept (node_of p) parts.kept probing
      (others-lost p.members.own.address p.probing parts.kept.others (pingable (node_of p)) target helpers probing (unasked_other p.members.own.address p.probing parts.kept.others number target e) lost)
      (probed-lost p.probing parts.kept.probed (pingable (node_of p)) target helpers probing lost) (ap (λ (s : ProbeState). s.helpers) lost.left))

  pub AreParts-noted : (number helper : ℕ) (said : Said) (o : Outcome) (probing : ProbeState) → would_say p.probing number helper said ≡ Ok o
      → probing ≡ after_saying p.probing helper said o → AreParts hash_of (record p { probing = probing })
  AreParts-noted number helper said outcome.Waiting probing say e =
      AreParts-probing probing (subst (λ (s : ProbeState). IsNode (record (node_of p) { probing = s })) (sym e)
      (probing_kept (node_of p) parts.kept _ (others-waiting p.members.own.address p.probing parts.kept.others helper said)
      (probed-waiting p.probing parts.kept.probed number helper said say) refl))
  AreParts-noted number helper said outcome.Reached probing say e = AreParts-ended probing (e ∙ after_saying-reached p.probing helper said)
  AreParts-noted number helper said outcome.Suspect probing say e = AreParts-ended probing (e ∙ after_saying-suspect p.probing helper said)
  AreParts-noted number helper said outcome.Inconclusive probing say e = AreParts-ended probing (e ∙ after_saying-inconclusive p.probing helper said)

  -- another pending list in the place of the one that there was
  AreParts-gossip : (gossip : Dissemination) → IsNode (record (node_of p) { gossip = gossip }) → AreParts hash_of (record p { gossip = gossip })
  AreParts-gossip gossip kept = record { kept = kept; membership = parts.membership; most = parts.most; ring_is = parts.ring_is; rising = parts.rising }

  pub AreParts-issued : (target : ℕ) (gossip : Dissemination) → gossip ≡ after_issue p.gossip target p.config.per_message → AreParts hash_of (record p { gossip = gossip })
  AreParts-issued target gossip e =
      AreParts-gossip gossip (subst (λ (g : Dissemination). IsNode (record (node_of p) { gossip = g })) (sym e) (told_kept (node_of p) parts.kept target))

  -- an issue of nothing changes nothing
  pub seen_in-unissued : (target : ℕ) (gossip : Dissemination) → gossip ≡ after_issue p.gossip target p.config.per_message
      → issued target p.config.per_message p.gossip.pending ≡ [] → seen_in (record p { gossip = gossip }) ≡ seen_in p
  seen_in-unissued target gossip e none =
      ap (λ (g : Dissemination). seen_in (record p { gossip = g })) (e ∙ after_issue-nothing p.gossip target p.config.per_message parts.kept.unspent none)
