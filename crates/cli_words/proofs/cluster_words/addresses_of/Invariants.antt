use Rattle.std.proofs.Common.{◌≡◌, map, take}
use Rattle.change_core.specs.Address.{address_text}
use Rattle.cli_words.proofs.cluster_words.addresses_of.Given as goal

-- the texts so far are those of the addresses
abbrev pub invariant-loop-text : goal.invariant-loop-text
invariant-loop-text l = map (λ s. s.now) (take l.text-index l.texts) ≡ map address_text l.addresses.items
