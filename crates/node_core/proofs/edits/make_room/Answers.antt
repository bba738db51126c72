use Rattle.std.proofs.Common.{◌≡◌, true, false, ap, subst, sym, ◌∙◌}
use Rattle.std.specs.Prelude.{Option}
use Rattle.std.specs.Option.{option_map_or}
use Rattle.change_core.specs.declared.changes.Change.{Change}
use Rattle.change_core.specs.declared.changes.Entry.{Entry}
use Rattle.node_core.specs.Node.{has_deadline, is_timed}
use Rattle.node_core.proofs.Editing.{HasTimer-held}
use Rattle.node_core.proofs.edits.make_room.Goals as goal

pub reserve_timer-requires : goal.reserve_timer-requires
reserve_timer-requires g c = record {
  timed = λ timed waits. HasTimer-held c.args.members.now.own.address c.args.members.now.members c.args.timers.now.timers c.args.news.now.change c.requires.timed
      (subst (λ (own : Change). is_timed own.address c.args.news.now.change ≡ true) c.own-own.ensures.own timed)
      (ap (λ (held : Option Entry). option_map_or (λ e. has_deadline e.status) held false) (sym c.get-held.ensures) ∙ waits);
}
