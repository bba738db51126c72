-- The results of a handler for a request, how often it was called for them, and the messages for them.
use Rattle.std.specs.Prelude.{◌≡◌, ℕ, List, Result, Ok, Err}
use Rattle.message_core.specs.declared.kinds.Reason.TheVariants as reason
use Rattle.message_core.specs.declared.messages.Content.{Content}
use Rattle.message_core.specs.declared.messages.Content.TheVariants.{Reply, Refused}
use Rattle.peer_core.specs.declared.errors.HandlerFault.{HandlerFault}
use Rattle.peer_core.specs.declared.errors.HandlerFault.TheVariants.{Failed, Memory}

-- the results that a request with these keys and this body may have, errors included; only a call of a handler can show one
abbrev pub MayHandle : Type 1
MayHandle = List (List ℕ) → List ℕ → Result (List ℕ) HandlerFault → Type 0

-- one call of a handler, from its state before to that after: the keys, the body, and the result
abbrev pub Handled : Type 0 → Type 1
Handled A = List (List ℕ) → List ℕ → Result (List ℕ) HandlerFault → A → A → Type 0

-- What was asked of a handler: once, a request of these keys and this body, with this result; or never anything.
pub record Handlings : Type 1 where
  pub once : MayHandle
  pub never : Type 0

-- between these two states of a handler
abbrev pub between : {A : Type 0} → Handled A → A → A → Handlings
between handled old new = record { once = λ keys body answer. handled keys body answer old new; never = new ≡ old }

-- of a handler that others may call at the same time: its results are known, and not how often it was called
abbrev pub shared : MayHandle → Handlings
shared Handled = record { once = Handled; never = Unit {0} }

-- one call of such a handler: as far as contracts see, it leaves it unchanged
abbrev pub handled_shared : {A : Type 0} → (A → MayHandle) → Handled A
handled_shared Handles keys body answer old new = (new ≡ old) × Handles old keys body answer

-- the content of a message for a handler's result
abbrev pub handled_as : Result (List ℕ) HandlerFault → Content
handled_as (Ok text) = Reply text
handled_as (Err Failed) = Refused reason.Failed
handled_as (Err Memory) = Refused reason.Memory
