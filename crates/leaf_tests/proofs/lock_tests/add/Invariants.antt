use Rattle.leaf_tests.proofs.lock_tests.add.Given as goal

abbrev pub ghost-leave : goal.ghost-leave
ghost-leave g a = a.added
