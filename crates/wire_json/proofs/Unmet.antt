-- The parts that a message is asked to have, up to the first fault.
use Rattle.std.proofs.Common.{List, [], ◌∷◌, ◌++◌, inl, inr}
use Rattle.serde_json.specs.Data.{Data}
use Rattle.message_core.specs.declared.errors.WireError.{WireError}
use Rattle.wire_json.specs.MessageFaults.{Part, FirstUnmet}

-- a fault of the first parts asked for is one of all
pub unmet_before : (ps qs : List Part) (v : Data) (e : WireError) → FirstUnmet ps v e → FirstUnmet (ps ++ qs) v e
unmet_before [] qs v e h = absurd h
unmet_before (p ∷ ps) qs v e (inl here) = inl here
unmet_before (p ∷ ps) qs v e (inr later) = inr (later.0, unmet_before ps qs v e later.1)
