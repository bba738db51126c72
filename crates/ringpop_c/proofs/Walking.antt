-- What the proofs by hand of a node's slot and of a view's share. A box and a full slot own the same by the same machine value, so that what
-- lies in the box is never looked at.
pub use mathlib.Core.Path.{◌≡◌, refl, sym, ap, ◌∙◌, subst}
pub use mathlib.Core.List.{List, [], ◌∷◌}
pub use mir.Val.{Val, vnull}
pub use base.Logic.{emp, id⊢}
pub use base.Fml.{ftrue, fsep}
pub use contract.Monad.{fact}
pub use types.Kit.{‵, raw, ◌⊛◌, ◌$◌, ◌∵◌, !, qed, move, drop, use1, join, split, rewrite, fsplit, fjoin, suffices, done, fpack, feq_i, at_ret, fpick, feq_l}
pub use types.Part.{whole, sub, agg}
pub use types.Run.{stop, fld, no_more, and_then, of_opd, returns, enter, lit, first, blocks, exec}
pub use types.ByLocal.{alloc_all, pass_all, free_all, look_at, get, get_in, sets, env, lands_last, lands_as}
pub use denote.Exit.{yes}
pub use denote.Signature.{plain, type_at}
pub use denote.Steps.{heard, nothing, peeks, only}
pub use denote.Triple.Walked.{says, Stays, stay_dropped, walk_of, ends_at, Goes-dropped}
pub use Rattle.std.proofs.raw_atomic.Walks.{proved}
pub use Rattle.std.specs.Prelude.{Option, Some, None, IsSome}
pub use lib.Dec.{lit<}
pub use denote.RattleType.{Valss, RattleType}
pub use denote.RawPtr.{RawPtr, null_ptr}
pub use denote.Struct.Owning.{shape, to}
pub use denote.Struct.Struct.{within}
pub use contract.BorrowLft.{⊑_refl}
pub use contract.Running.{tables}
pub use denote.Laws.{Is, shows}
pub use Rattle.std_heap.specs.contracts.GlobalAllocator.TheImpl.{ghosts}
pub use mir.Syntax.{Dict, dnil, impl, tnil}
use lib.Dec.{T}
use mir.Syntax.{ty_ptr}
use mir.Val.{has_ty, WT}
use denote.Param.{layout}
use denote.RawPtr.{Ptr, ptr_val, block_ptr}
use Rattle.std.specs.Global.{Global}
use Rattle.std_heap.specs.contracts.Global as Heap
use Rattle.std_heap.proofs.Global.TheLaws as heap

-- what a full handle holds
pub found : {X : Type 0} (o : Option X) → IsSome o → (x : X) × (o ≡ Some x)
found (Some x) full = (x, refl)
found None full = absurd (subst T (sym full) tt)

-- a pointer's machine value is one of a pointer, at null too
pub points : (p : Ptr) → T (has_ty ty_ptr (ptr_val p)) × WT (ptr_val p)
points (block_ptr b o) = (tt, tt)
points null_ptr = (tt, record { fits = lit< tt })

-- and the heap's is one of it
pub of_heap : (g : Global) → T (has_ty (layout Heap.the_row) (heap.lowered g)) × WT (heap.lowered g)
of_heap g = (tt, ((tt, tt), tt))
