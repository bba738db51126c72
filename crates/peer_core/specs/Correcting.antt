-- A round of gossip that corrects its target: as a round; and if the target's Ack has another incarnation or status of the node than the node's
-- own entry then, the target gets a Join, whose one change is that entry.
use Rattle.std.specs.Prelude.{ℕ, Option, Some, None}
use Rattle.change_core.specs.declared.addresses.Address.{Address}
use Rattle.detector_core.specs.declared.prober.Probe.{Probe}
use Rattle.peer_core.specs.declared.hearing.Heard.{Heard}
use Rattle.peer_core.specs.declared.rounds.Round.{Round}
use Rattle.peer_core.specs.declared.rounds.Round.TheVariants.{Idle}
use Rattle.peer_core.specs.Asking.{Pinged}
use Rattle.peer_core.specs.Links.{MayAnswer}
use Rattle.peer_core.specs.Meeting.{Corrects}
use Rattle.peer_core.specs.Parts.{Part, Asks, Gives, Next}
use Rattle.peer_core.specs.Rounds.{Begins, Expires, HearsTarget}

module _ {H : Type 0} (Came : MayAnswer) (now : ℕ) where
  -- the target is corrected by its answer, after a round that ended so
  abbrev pub CorrectsAfter : Address → Heard → Round → Part H Round
  CorrectsAfter a what round = Next (Corrects Came now a what) (λ joined. Gives round)

  -- the target was pinged: the probe is completed as in a round, and then the target is corrected
  abbrev pub HearsAndCorrects : Probe → Heard → Part H Round
  HearsAndCorrects probe what = Next (HearsTarget Came now probe what) (CorrectsAfter probe.target what)

  -- the target of a probe is pinged once, the probe completed, and the target corrected
  abbrev pub ProbesAndCorrects : Probe → Part H Round
  ProbesAndCorrects probe = Next (Asks (Pinged Came probe.target)) (HearsAndCorrects probe)

  -- no member can be probed, or the probe is completed and its target corrected
  abbrev pub GoesAndCorrects : Option Probe → Part H Round
  GoesAndCorrects None = Gives Idle
  GoesAndCorrects (Some probe) = ProbesAndCorrects probe

  -- a round at this moment that corrects its target
  abbrev pub IsCorrectingRound : Part H Round
  IsCorrectingRound = Next (Expires now) (λ u. Next (Begins Came now) GoesAndCorrects)
