-- A pass's seat at the steps between, and all passes together. No contract that another crate reads cites these.
use Rattle.std.specs.Prelude.{◌≡◌, ℕ, ◌≤◌, List, [], ◌∷◌, ◌++◌, length, Option, Some, All}
use Rattle.atomic_table.specs.Seated.{TableId}
use Rattle.atomic_table.specs.declared.shared.Seat.{Seat}
use Rattle.turn_lock.specs.declared.kept.Turn.{Turn}
use Rattle.turn_lock.specs.declared.lock.TurnLock.{TurnLock}
use Rattle.turn_lock.specs.declared.pass.Pass.{Pass}
use Rattle.turn_lock.specs.declared.table.Known.{Known}
use Rattle.turn_lock.specs.declared.table.View.{View}
use Rattle.turn_lock.specs.History.{turn, GoesOn, entries_of}
use Rattle.turn_lock.specs.Passes.{IsPassOf, opening_of, seen}
use Rattle.turn_lock.specs.Rule.{known, outside, unused, waiting, inside, ticket_of, times}

module _ {S E : Type 0} where
  -- the pass is this lock's, and holds this ticket
  abbrev pub IsWaiting : TurnLock S E → ℕ → Pass S E → Type 0
  IsWaiting lock ticket p = IsPassOf lock p × (p.seat.me ≡ (waiting (opening_of lock) p.number (seen p) p.seat.me.0.used ticket, []))

  -- the pass's ticket is served, and the slot is its own, with a state that represents what it has seen
  abbrev pub IsServed : (S → List (Turn E) → S → Type 0) → TurnLock S E → Pass S E → Type 0
  IsServed stands_for lock p = IsPassOf lock p
      × ((y : S) × (p.seat.me ≡ (inside (opening_of lock) p.number (seen p) p.seat.me.0.used (ticket_of p.seat.me.0.stage), (0, Some y) ∷ [])) × stands_for (opening_of lock) (seen p) y)

  -- the pass has put back into the slot a state that represents what it has seen and this entry after it
  abbrev pub IsToGive : (S → List (Turn E) → S → Type 0) → TurnLock S E → Option E → Pass S E → Type 0
  IsToGive stands_for lock told p = (e : E) × (told ≡ Some e)
      × ((y : S) × (p.seat.me ≡ (inside (opening_of lock) p.number (seen p) p.seat.me.0.used (ticket_of p.seat.me.0.stage), (0, Some y) ∷ []))
      × stands_for (opening_of lock) (seen p ++ turn p.number e ∷ []) y)

  -- a seat of the table that represents all passes; none has seen anything or drawn a ticket
  abbrev pub IsFirstSeat : TableId → S → ℕ → Seat (Option S) (View S E) → Type 0
  IsFirstSeat table o passes seat = (seat.table_id ≡ table) × (seat.me ≡ (outside o (unused passes) 0, []))

  -- a seat of the table that is outside, and represents as many passes as there are
  abbrev pub IsLastSeat : TableId → S → ℕ → Seat (Option S) (View S E) → Type 0
  IsLastSeat table o passes seat = (seat.table_id ≡ table) × (seat.me.0 ≡ outside o seat.me.0.parts seat.me.0.used) × (passes ≤ length seat.me.0.parts)

  -- a pass of the lock with this name and table, which has seen nothing
  abbrev pub IsDealt : TableId → S → ℕ → ℕ → Pass S E → Type 0
  IsDealt table o name turns p = (p.name ≡ name) × (p.left ≡ turns) × (p.seat.table_id ≡ table) × (p.seat.me ≡ (outside o (known p.number [] ∷ []) 0, []))

  -- a pass of the table, which holds nothing of it
  abbrev pub IsReady : TableId → S → Pass S E → Type 0
  IsReady table o p = (p.seat.table_id ≡ table) × (p.seat.me ≡ (outside o (known p.number (seen p) ∷ []) p.seat.me.0.used, []))

  -- the knowledge of a seat about a pass that it represents
  abbrev pub part_of : Pass S E → Known E
  part_of p = known p.number (seen p)

  -- the state represents a history that extends what these passes have seen, and has entries of no other pass
  abbrev pub HasAll : (S → List (Turn E) → S → Type 0) → S → List (Known E) → S → Type 0
  HasAll stands_for o ps state = (log : List (Turn E)) × stands_for o log state × All (λ (p : Known E). GoesOn p.number log p.seen) ps × ((n : ℕ) → times n ps ≡ 0 → entries_of n log ≡ [])
