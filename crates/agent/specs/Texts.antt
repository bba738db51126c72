-- What an agent writes.
use Rattle.std.specs.Prelude.{ℕ, List, [], ◌∷◌, ◌++◌, codes}
use Rattle.change_core.specs.Address.{address_text}

-- the line that a node at an address serves
abbrev pub serving_line : ℕ → List ℕ
serving_line a = codes "serving " ++ (address_text a ++ 10 ∷ [])

-- the whole output of an agent that was told to stop and has stopped
abbrev pub agent_text : ℕ → List ℕ
agent_text a = serving_line a ++ (codes "done" ++ 10 ∷ [])
