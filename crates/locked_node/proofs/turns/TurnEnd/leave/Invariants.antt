use Rattle.locked_node.proofs.turns.TurnEnd.leave.Given as goal

abbrev pub ghost-leave : goal.ghost-leave
ghost-leave g a = g.entry
