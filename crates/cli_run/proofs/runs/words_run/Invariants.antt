use Rattle.cli_run.proofs.runs.words_run.Given as goal

-- the cluster of the arguments
abbrev pub ghosts-cluster_words_run : goal.ghosts-cluster_words_run
ghosts-cluster_words_run g a = record { cluster = a.words.now.cluster }
