-- That the words which are taken by the table of the command line are some: by clap's definitions, computed.
use Rattle.std.proofs.Common.{◌≡◌, refl, codes, true, [], ◌∷◌}
use Rattle.clap.proofs.OnLiterals.{clap_on_literals}
use Rattle.clap.specs.Words.{takes}
use Rattle.cli_words.specs.CommandLine.{ringpop_app}

fold_taken : takes ringpop_app (codes "ringpop" ∷ codes "fold" ∷ []) ≡ true
unfolding clap_on_literals
fold_taken = refl

owner_taken : takes ringpop_app (codes "ringpop" ∷ codes "owner" ∷ codes "--n" ∷ codes "2" ∷ codes "trip-42" ∷ []) ≡ true
unfolding clap_on_literals
owner_taken = refl

tell_taken : takes ringpop_app (codes "ringpop" ∷ codes "tell" ∷ codes "127.0.0.1:7946" ∷ []) ≡ true
unfolding clap_on_literals
tell_taken = refl
