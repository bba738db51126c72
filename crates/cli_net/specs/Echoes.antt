-- The handler of a server's requests.
use Rattle.std.specs.Prelude.{◌≡◌, ℕ, List, ◌∷◌, ◌++◌, Ok, Err}
use Rattle.change_core.specs.Address.{address_text}
use Rattle.peer_core.specs.Handling.{MayHandle}
use Rattle.peer_core.specs.declared.errors.HandlerFault.TheVariants.{Failed, Memory}

-- a node's address, a space and the body
abbrev pub echo_text : ℕ → List ℕ → List ℕ
echo_text a body = address_text a ++ 32 ∷ body

-- the echo of the node at this address, or out of memory for it
abbrev pub MayEcho : ℕ → MayHandle
MayEcho a keys body (Ok text) = text ≡ echo_text a body
MayEcho a keys body (Err Memory) = Unit {0}
MayEcho a keys body (Err Failed) = ⊥
