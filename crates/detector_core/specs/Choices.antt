-- The source of random choices: the generator Pcg32 (O'Neill, PCG), started from a seed.
use Rattle.std.specs.Prelude.{ℕ, List, take}
use Rattle.rand_core.specs.Stream.{Stream}
use Rattle.rand_core.specs.Steps.{stream_of, steps_u32}
use Rattle.rand_core.specs.Pcg32Seed.{pcg32_seed}
use Rattle.rand_pcg.specs.Lcg.{Lcg}
use Rattle.rand_pcg.specs.Pcg.{pcg32, pcg32_of_seed}
use Rattle.rand.specs.Shuffle.{shuffled}

-- all that a generator will answer from now on
abbrev pub choices_of : Lcg → Stream
choices_of generator = stream_of (steps_u32 pcg32) generator

-- the generator that is started from a seed
abbrev pub seeded : ℕ → Lcg
seeded seed = pcg32_of_seed (pcg32_seed 16 seed)

-- a new order of the members, and the choices left: the Fisher-Yates shuffle
abbrev pub new_order : List ℕ → Stream → List ℕ × Stream
new_order members choices = shuffled members 0 choices

-- the first `count` of a new order of the members, and the choices left
abbrev pub sample : List ℕ → ℕ → Stream → List ℕ × Stream
sample members count choices = (take count (new_order members choices).0, (new_order members choices).1)
