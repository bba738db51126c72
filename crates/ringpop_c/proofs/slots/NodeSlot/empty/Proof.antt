-- `empty` makes the null pointer, at which an empty slot owns nothing.
use Rattle.ringpop_c.proofs.Walking.{refl, [], ◌∷◌, List, Val, emp, id⊢, ftrue, fsep, ‵, raw, ◌⊛◌, ◌$◌, ◌∵◌, !, qed, move, drop, use1, join, split, fsplit, fjoin, suffices, done, agg, no_more, and_then, returns, enter, alloc_all, pass_all, free_all, look_at, get, sets, yes, plain, nothing, says, Stays, stay_dropped, walk_of, ends_at, Goes-dropped, proved, None, of_heap, fpack, feq_i, lit, lit<, vnull, Valss, RawPtr, null_ptr, shape, to, within}
use Rattle.std_heap.specs.contracts.Global as Heap
use Rattle.std_heap.proofs.Global.TheLaws as heap
use Rattle.ringpop_c.specs.contracts.slots.NodeSlot.{the_row as Slot, the_type}
use Rattle.ringpop_c.specs.contracts.slots.NodeSlot.empty as f
use Rattle.ringpop_c.proofs.slots.NodeSlot.TheLaws.{lowered}
use Rattle.ringpop_c.proofs.slots.NodeSlot.empty.Statement.{statement}
use Rattle.ringpop_c.proofs.slots.NodeSlot.empty.Code as code

abbrev stayed : Stays f.ended.signature.params f.ended.kept
stayed = (stay_dropped (plain (λ _. Heap.the_row)) yes, tt)

pub empty_spec : {M : Type 1} → statement M
empty_spec 𝓤 𝓛 𝓜 𝓡 wired =
    let c = f.clauses 𝓛 𝓜.mem 𝓡.returns in
    proved 𝓛 f.ended stayed c 𝓜 𝓡 (Goes-dropped 𝓛 0 (plain (λ _. Heap.the_row)) yes (λ κs x w. refl), tt)
    f.Key.name code.function (code.unfolded 𝓤 𝓛.H 𝓜 𝓡 wired)
    (λ κs. ((λ g. heap.lowered g ∷ []), tt)) (λ κs. (heap.lowers.val_is, tt)) (λ κs qs bounds a _ are.
    let g = a.0 in let gs : List Val = heap.lowered g ∷ [] in
    let s : Slot.Denot = record { ptr = null_ptr; alloc = g; value = None } in let w : Val = lowered s in
    let y : (walk_of 𝓛 f.ended stayed c).Ghost = ((κs, qs, bounds, a, (gs, tt)), tt) in
    qed 𝓛 ((‵ ftrue ⊛ ‵ (fsep (Heap.the_row.own_val g gs) ftrue)) ∷ raw (emp 𝓤) ∷ []) ∵
    split ! $ drop ! $ fsplit ! $ move ! (1 ∷ 2 ∷ []) $ drop ! $ drop ! $ nothing ! $ nothing ! $
    -- [nothing for the box, and for the fields' end; what the heap owns]
    move ! (2 ∷ 0 ∷ []) $ fjoin ! $ feq_i ! (List Val) (vnull ∷ []) (vnull ∷ []) refl $ fjoin ! $ feq_i ! (List Val) (w ∷ []) (w ∷ []) refl $ fjoin ! $
    fpack ! (Valss (RawPtr ∷ Heap.the_row ∷ [])) (within (shape the_type) (to the_type s) (w ∷ [])) (vnull ∷ [], (gs, tt)) $ fjoin ! $
    use1 𝓛 (‵ (Slot.own_val s (w ∷ []))) (id⊢ 𝓤 _) $
    enter ! _ _ _ _ _ $ alloc_all ! (λ l. pass_all ! refl (of_heap g, tt) $
    sets ! (agg ! (and_then ! (lit ! tt) (and_then ! (get ! refl) (no_more !)))) refl (tt, (record { fits = lit< tt }, (((tt, tt), tt), tt))) $
    returns ! (look_at ! 0 refl) $ free_all ! refl $
    suffices ! _ (ends_at 𝓛 f.ended stayed c y w s (tt, tt) (tt, tt)) $ says ! refl $
    nothing ! $ nothing ! $ fjoin ! $ join ! $ nothing ! $ join ! $ done !))
