-- What the layer above needs to know of a pass whose seat it does not look into.
use Rattle.std.proofs.Common.{◌≡◌}
use Rattle.turn_lock.specs.declared.lock.TurnLock.{TurnLock}
use Rattle.turn_lock.specs.declared.pass.Pass.{Pass}
use Rattle.turn_lock.specs.Passes.{lock_name, name_of, IsOutside}

module _ {S E : Type 0} where
  pub outside_name : (lock : TurnLock S E) (p : Pass S E) → IsOutside lock p → lock_name p ≡ name_of lock
  unfolding IsOutside
  outside_name lock p h = h.0.0
