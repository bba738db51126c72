-- `from_box` takes the box apart: a full slot owns by the pointer and the allocator what the box owned.
use Rattle.ringpop_c.proofs.Walking.{refl, List, [], ◌∷◌, Val, emp, id⊢, ftrue, fsep, ‵, raw, ◌⊛◌, ◌$◌, ◌∵◌, !, qed, move, drop, use1, join, split, rewrite, fsplit, fjoin, suffices, done, whole, sub, agg, stop, fld, no_more, and_then, of_opd, returns, enter, alloc_all, pass_all, free_all, look_at, get, get_in, sets, yes, plain, nothing, says, Stays, stay_dropped, walk_of, ends_at, Goes-dropped, proved, Some, points, of_heap, ⊑_refl, Is, shows, RattleType, peeks, only, ap, subst, Dict, dnil, impl, tnil, lands_as, ghosts}
use Rattle.std_heap.specs.contracts.Global as Heap
use Rattle.std_alloc.specs.contracts.boxed.Box as boxed
use Rattle.ringpop_c.proofs.Boxes.{lets_go, takes_apart}
use Rattle.ringpop_c.proofs.ringpop_c++slots++BoxedView+Destruct.drop.Met as drop-met
use Rattle.ringpop_c.proofs.ringpop_c++slots++BoxedView+Destruct.drop.Symbol as drop-sym
use Rattle.ringpop_c.specs.contracts.slots.BoxedView as Boxed
use Rattle.ringpop_c.proofs.slots.BoxedView.TheLaws as boxed_laws
use Rattle.ringpop_c.specs.contracts.slots.ViewSlot.{the_row as Slot}
use Rattle.ringpop_c.specs.contracts.slots.ViewSlot.from_box as f
use Rattle.ringpop_c.proofs.slots.ViewSlot.TheLaws.{lowered, lowers, the_row_laws as laws}
use Rattle.ringpop_c.proofs.slots.ViewSlot.from_box.Statement.{statement}
use Rattle.ringpop_c.proofs.slots.ViewSlot.from_box.Code as code

abbrev Full : RattleType
Full = boxed.the_row Boxed.the_row Heap.the_row ghosts

-- the slot of the same box
abbrev full : Full.Denot → Slot.Denot
full b = record { ptr = b.ptr; alloc = b.alloc; value = Some b.value }

abbrev drops : Dict
drops = impl (drop-sym.symbol ∷ []) tnil dnil

abbrev stayed : Stays f.ended.signature.params f.ended.kept
stayed = (stay_dropped (plain (λ _. Full)) yes, tt)

pub from_box_spec : {M : Type 1} → statement M
from_box_spec 𝓤 𝓛 𝓜 𝓡 wired =
    let c = f.clauses 𝓛 𝓜.mem 𝓡.returns in
    proved 𝓛 f.ended stayed c 𝓜 𝓡 (Goes-dropped 𝓛 0 (plain (λ _. Full)) yes (λ κs x w. refl), tt)
    f.Key.name code.function (code.unfolded 𝓤 𝓛.H 𝓜 𝓡 wired)
    (λ κs. ((λ b. lowered (full b) ∷ []), tt)) (λ κs. ((λ b vs is. lowers.val_is (full b) vs is), tt)) (λ κs qs bounds a _ are.
    let b = a.0 in let w : Val = lowered (full b) in
    let y : (walk_of 𝓛 f.ended stayed c).Ghost = ((κs, qs, bounds, a, (w ∷ [], tt)), tt) in
    let fits = ((laws.lawful 𝓛).typed (full b) (w ∷ []) are.0).0 in
    let dropped = code.calls-ringpop_c::ringpop_c++slots++BoxedView+Destruct::drop 𝓡.env wired in
    qed 𝓛 ((‵ ftrue ⊛ ‵ (fsep (Full.own_val b (w ∷ [])) ftrue)) ∷ raw (emp 𝓤) ∷ []) ∵
    split ! $ drop ! $ fsplit ! $ move ! (1 ∷ 2 ∷ []) $ drop ! $ drop ! $
    enter ! _ _ _ _ _ $ alloc_all ! (λ l. pass_all ! refl (fits, tt) $ sets ! (of_opd ! (get ! refl)) refl fits $
    -- [the box; the locals]
    takes_apart 𝓛 𝓜 𝓡 Boxed.the_row (⊑_refl []) boxed_laws.the_row_laws (code.calls-std_heap::GlobalAllocator::allocate 𝓡.env wired)
    (code.calls-std_heap::GlobalAllocator::deallocate 𝓡.env wired) (code.calls-std_heap::GlobalAllocator::grow 𝓡.env wired)
    (code.calls-std_heap::GlobalAllocator::shrink 𝓡.env wired) (code.calls-ringpop_c::Destruct++none::drop 𝓡.env wired)
    ! (code.calls-std_alloc::boxed::Box::into_raw_with_allocator 𝓡.env wired) drops
    (lets_go 𝓛 𝓜 𝓡 Boxed.the_row drop-sym.name drops (drop-sym.as_method 𝓡.env dropped _ refl) (drop-met.met 𝓤 𝓛 𝓜 𝓡 dropped)) b w (and_then ! (get ! refl) (no_more !)) (λ u r.
    let s : Slot.Denot = record { ptr = r.0; alloc = r.1; value = Some b.value } in let v : Val = lowered s in
    fjoin ! $ use1 𝓛 (‵ (Slot.own_val s (u ∷ []))) (id⊢ 𝓤 _) $ peeks ! Slot (Is Slot) (shows 𝓛 Slot) s (u ∷ []) (λ is.
    let e = lowers.val_is s (u ∷ []) is in
    let word = ((laws.lawful 𝓛).typed s (v ∷ []) (subst (λ (vs : List Val). Is Slot s vs) e is)).0 in
    rewrite ! 0 (λ (vs : List Val). ‵ (Slot.own_val s vs)) e refl $ lands_as ! (ap only e) refl word $
    -- [what the slot owns; the locals]
    sets ! (of_opd ! (get_in ! (fld ! refl (stop !)) (sub ! 0 refl (whole !)))) refl (points s.ptr) $
    sets ! (of_opd ! (get_in ! (fld ! refl (stop !)) (sub ! 1 refl (whole !)))) refl (of_heap s.alloc) $
    sets ! (of_opd ! (get ! refl)) refl (points s.ptr) $
    sets ! (agg ! (and_then ! (get ! refl) (and_then ! (get ! refl) (no_more !)))) refl word $
    returns ! (look_at ! 0 refl) $ free_all ! refl $
    suffices ! _ (ends_at 𝓛 f.ended stayed c y v s (tt, tt) (tt, tt)) $ says ! refl $
    nothing ! $ nothing ! $ fjoin ! $ join ! $ nothing ! $ join ! $ done !))))
