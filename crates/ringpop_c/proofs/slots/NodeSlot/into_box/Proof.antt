-- `into_box` puts a box together of a full slot's pointer and allocator: it owns what the slot owned.
use Rattle.ringpop_c.proofs.Walking.{refl, List, [], ◌∷◌, Val, ftrue, fsep, fact, ‵, raw, ◌⊛◌, ◌$◌, ◌∵◌, !, qed, move, drop, join, split, rewrite, fsplit, fjoin, suffices, done, whole, sub, stop, fld, no_more, and_then, of_opd, returns, enter, alloc_all, pass_all, free_all, look_at, get, get_in, sets, yes, plain, type_at, heard, nothing, says, Stays, stay_dropped, walk_of, ends_at, Goes-dropped, proved, Option, Some, IsSome, found, points, of_heap, ⊑_refl, tables, Is, shows, peeks, sym, ap, ◌∙◌, env, lands_last, at_ret, fpick, feq_l, first, blocks, exec, ghosts}
use Rattle.std_heap.specs.contracts.Global as Heap
use Rattle.std_heap.proofs.Global.TheLaws as heap
use Rattle.std_alloc.proofs.boxed.Box.TheLaws as boxes
use Rattle.ringpop_c.proofs.Boxes.{puts_together}
use Rattle.ringpop_c.specs.Owned.{HeldNode}
use Rattle.ringpop_c.specs.contracts.slots.BoxedNode as Boxed
use Rattle.ringpop_c.proofs.slots.BoxedNode.TheLaws as boxed_laws
use Rattle.ringpop_c.specs.contracts.slots.NodeSlot.{the_row as Slot}
use Rattle.ringpop_c.specs.contracts.slots.NodeSlot.into_box as f
use Rattle.ringpop_c.proofs.slots.NodeSlot.TheLaws.{lowered, lowers, the_row_laws as laws}
use Rattle.ringpop_c.proofs.slots.NodeSlot.into_box.Statement.{statement}
use Rattle.ringpop_c.proofs.slots.NodeSlot.into_box.Code as code

abbrev stayed : Stays f.ended.signature.params f.ended.kept
stayed = (stay_dropped (plain (λ _. Slot)) yes, tt)

pub into_box_spec : {M : Type 1} → statement M
into_box_spec 𝓤 𝓛 𝓜 𝓡 wired =
    let c = f.clauses 𝓛 𝓜.mem 𝓡.returns in let 𝓣 = tables 𝓤 𝓛.H 𝓜 𝓡 𝓡.env in
    proved 𝓛 f.ended stayed c 𝓜 𝓡 (Goes-dropped 𝓛 0 (plain (λ _. Slot)) yes (λ κs x w. refl), tt)
    f.Key.name code.function (code.unfolded 𝓤 𝓛.H 𝓜 𝓡 wired)
    (λ κs. ((λ s. lowered s ∷ []), tt)) (λ κs. (lowers.val_is, tt)) (λ κs qs bounds a _ are.
    let s = a.0 in let w : Val = lowered s in
    let y : (walk_of 𝓛 f.ended stayed c).Ghost = ((κs, qs, bounds, a, (w ∷ [], tt)), tt) in
    let fits = ((laws.lawful 𝓛).typed s (w ∷ []) are.0).0 in
    let Full = type_at f.signature.result κs in
    qed 𝓛 ((‵ ftrue ⊛ ‵ (fsep (Slot.own_val s (w ∷ [])) ftrue)) ∷ raw (fact 𝓤 (IsSome s.value)) ∷ []) ∵
    move ! (1 ∷ []) $ heard ! (IsSome s.value) (λ full. split ! $ drop ! $ fsplit ! $
    let held = found s.value full in let x = held.0 in
    rewrite ! 0 (λ (u : Option HeldNode). ‵ (Slot.own_val (record { ptr = s.ptr; alloc = s.alloc; value = u }) (w ∷ []))) held.1 refl $
    move ! (1 ∷ []) $ drop ! $ fsplit ! $ fpick ! (λ vss. fsplit ! $ feq_l ! (λ _. fsplit ! $ feq_l ! (λ _. fsplit ! $
    peeks ! Heap.the_row (Is Heap.the_row) (shows 𝓛 Heap.the_row) s.alloc vss.1.0 (λ is.
    rewrite ! 0 (λ (vs : List Val). ‵ (Heap.the_row.own_val s.alloc vs)) (heap.lowers.val_is s.alloc vss.1.0 is) refl $
    move ! (1 ∷ []) $ drop ! $
    -- [the heap; what the slot owned; the locals]
    enter ! _ _ _ _ _ $ alloc_all ! (λ l. pass_all ! refl (fits, tt) $
    sets ! (of_opd ! (get_in ! (fld ! refl (stop !)) (sub ! 0 refl (whole !)))) refl (points s.ptr) $
    sets ! (of_opd ! (get_in ! (fld ! refl (stop !)) (sub ! 1 refl (whole !)))) refl (of_heap s.alloc) $
    first ! $ blocks ! $ sets ! (of_opd ! (get ! refl)) refl (points s.ptr) $
    puts_together 𝓛 𝓜 𝓡 Boxed.the_row (⊑_refl []) boxed_laws.the_row_laws (code.calls-std_heap::GlobalAllocator::allocate 𝓡.env wired)
    (code.calls-std_heap::GlobalAllocator::deallocate 𝓡.env wired) (code.calls-std_heap::GlobalAllocator::grow 𝓡.env wired)
    (code.calls-std_heap::GlobalAllocator::shrink 𝓡.env wired) (code.calls-ringpop_c::Destruct++none::drop 𝓡.env wired)
    ! (code.calls-std_alloc::boxed::Box::from_raw 𝓡.env wired) s.alloc s.ptr x (and_then ! (get ! refl) (and_then ! (get ! refl) (no_more !))) (λ u b same.
    peeks ! Full (Is Full) (shows 𝓛 Full) b (u ∷ []) (λ is_box.
    let typed = (((boxes.the_row_laws Boxed.the_row Heap.the_row ghosts boxed_laws.the_row_laws heap.the_row_laws).lawful 𝓛).typed b (u ∷ []) is_box).0 in
    lands_last ! refl typed $ exec ! 𝓣.C 𝓣.Λ (env code.Mir.locals l) code.Mir.t-4 (at_ret _ ((walk_of 𝓛 f.ended stayed c).post y)) $
    sets ! (of_opd ! (get ! refl)) refl typed $ returns ! (look_at ! 0 refl) $ free_all ! refl $
    suffices ! _ (ends_at 𝓛 f.ended stayed c y u b (tt, tt) (tt, tt)) $ says ! (held.1 ∙ ap Some (sym same)) $
    nothing ! $ nothing ! $ fjoin ! $ join ! $ nothing ! $ join ! $ done !)))))))))
