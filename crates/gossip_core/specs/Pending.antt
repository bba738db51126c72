-- The pending list: the changes that a node still passes on, one for each address, in the order in which their addresses came. The rule is
-- this project's own, after SWIM (DSN 2002), section 4.1, where updates ride on pings a multiple of log n times each, and after
-- ringpop-go's package swim.
use Rattle.std.specs.Prelude.{ℕ, ◌+◌, ◌*◌, ◌==◌, ◌<◌, ◌≡◌, ◌≢◌, Bool, not, List, [], ◌∷◌, length, map, filter, take, nat_lt, if◌then◌else◌, All, AllPairs}
use Rattle.std.specs.Int.Digits.{digits_of}
use Rattle.std.specs.List.{list_any}
use Rattle.indexmap.specs.IndexMap.{IndexMap, keys, values}
use Rattle.change_core.specs.declared.changes.Sourced.{Sourced}
use Rattle.gossip_core.specs.declared.pending.Pending.{Pending}

-- the number of decimal digits; 0 has one
abbrev pub digit_count : ℕ → ℕ
digit_count n = if n == 0 then 1 else length (digits_of 10 n)

-- how often a change is issued while n members serve: the factor times the decimal digits of n
abbrev pub limit_for : ℕ → ℕ → ℕ
limit_for factor n = factor * digit_count n

-- the address that a pending change is about
abbrev pub subject : Pending → ℕ
subject p = p.sourced.change.address

-- a change that has not been issued
abbrev pub fresh : Sourced → Pending
fresh s = record { sourced = s; count = 0 }

-- a change about an address replaces the one before it, or else goes last, and has not been issued
abbrev pub put_pending : List Pending → Sourced → List Pending
put_pending [] s = fresh s ∷ []
put_pending (p ∷ ps) s = if s.change.address == subject p then fresh s ∷ ps else p ∷ put_pending ps s

-- a change is not sent back to the node that it came from
abbrev pub may_go_to : ℕ → Pending → Bool
may_go_to target p = not (p.sourced.source == target)

-- the first k that may go to the target
abbrev pub issued : ℕ → ℕ → List Pending → List Sourced
issued target k ps = map (λ p. p.sourced) (take k (filter (may_go_to target) ps))

-- a change about the same address is among the first k that may go to the target
abbrev pub is_issued : ℕ → ℕ → List Pending → Pending → Bool
is_issued target k ps p = list_any (λ s. s.change.address == subject p) (issued target k ps)

-- issued again
abbrev pub once_more : Pending → Pending
once_more p = record p { count = p.count + 1 }

-- the count of each that is among the first k that may go to the target rises by 1, and the others are unchanged
abbrev pub counted : ℕ → ℕ → List Pending → List Pending
counted target k ps = map (λ p. if is_issued target k ps p then once_more p else p) ps

-- those that have not reached the limit
abbrev pub below : ℕ → List Pending → List Pending
below limit ps = filter (λ p. nat_lt p.count limit) ps

-- none is about the address
abbrev pub NoneAbout : ℕ → List Pending → Type 0
NoneAbout a ps = All (λ p. subject p ≢ a) ps

-- no two are about one address
abbrev pub OnePerAddress : List Pending → Type 0
OnePerAddress ps = AllPairs (λ p q. subject p ≢ subject q) ps

-- each has been issued less often than the limit
abbrev pub AllBelow : ℕ → List Pending → Type 0
AllBelow limit ps = All (λ p. p.count < limit) ps

-- a map that keeps each change under its address
abbrev pub IsByAddress : {S : Type 0} → IndexMap ℕ Pending S → Type 0
IsByAddress m = map subject (values m) ≡ keys m
