-- A box of what a slot holds is taken apart, and put together again: std's two calls for that as steps of a proof, at any type, with the heap for the
-- allocator. A call is passed a type without its names, which own the same, and `'static` for the lifetime that each type outlives.
use base.Fml.{Fml, ftrue, fsep, flft}
use base.Fraction.{full_share}
use base.Logic.{emp, id⊢, sep}
use contract.BorrowLft.{◌⊑◌, ⊑_refl}
use contract.Monad.{fact, fact_i}
use contract.Running.{MachineTables, Running, tables}
use denote.Builtin.{unit}
use denote.Exit.{no, yes}
use denote.Param.{arg, bounded, layout, param}
use denote.Param.Glue.{spent, Met}
use denote.Param.Glue as glue
use denote.Param.Laws.{Laws, arg_laws}
use denote.RattleType.{RattleType}
use denote.RawPtr.{Ptr, RawPtr, ptr_val}
use denote.Signature.{plain}
use denote.Steps.{heard, nothing}
use denote.Struct.Tuple.{Tuple}
use denote.Triple.Call.{calls_at, calls_at_last}
use denote.Triple.Carry.{beside, spared}
use denote.Triple.Clauses.{Ended, closing}
use denote.Triple.Spec.{Spec, Meets, triple_of}
use denote.Triple.Statement.{Contract}
use denote.Triple.Table.{framed, run_framed, widened}
use mathlib.Core.List.{List, [], ◌∷◌}
use mathlib.Core.Path.{◌≡◌, refl, sym}
use mir.Raw.{raw as unnamed}
use mir.Syntax.{Body, Callee, Dict, Opd as Operand, Place, a_type, call, dcons, dnil, impl, method, no_args, seq, tcons, tnil}
use mir.Val.{Val}
use prog.Erase.{raw-raw}
use prog.Model.{Model}
use prog.Routine.{◌≼⁺◌}
use prog.Wired.{Wired}
use prog.Wp.{Env, Loops}
use seplogic.Ra.Ura.{Ura}
use types.Kit.{Goal, Item, Post, Seq, Step, await, drop, done, fjoin, feq_i, join, later, lands, move, pick, qed, raw, rewrite, runs, settles, show, some, split, split3, step, use0, use1, ‵, ◌⊛◌, ◌$◌, ◌∵◌, ! }
use types.Logic.{Logic, sem}
use types.Run.{Opds}
use Rattle.std.specs.Box.Ownership.{box_owns}
use Rattle.std.specs.Global.{Global}
use Rattle.std_heap.specs.contracts.Global as Heap
use Rattle.std_heap.specs.contracts.GlobalAllocator.TheImpl.{ghosts, dict}
use Rattle.std_heap.proofs.Global.TheLaws as heap
use Rattle.std_heap.proofs.GlobalAllocator.TheImpl.Met as heap-met
use Rattle.std_heap.proofs.GlobalAllocator.allocate.Symbol as allocate
use Rattle.std_heap.proofs.GlobalAllocator.deallocate.Symbol as deallocate
use Rattle.std_heap.proofs.GlobalAllocator.grow.Symbol as grow
use Rattle.std_heap.proofs.GlobalAllocator.shrink.Symbol as shrink
use Rattle.std_alloc.specs.contracts.boxed.Box as boxed
use Rattle.std_alloc.specs.contracts.boxed.Box.from_raw as from_raw
use Rattle.std_alloc.proofs.boxed.Box.from_raw.Met as from_raw-met
use Rattle.std_alloc.proofs.boxed.Box.from_raw.Symbol as from_raw-key
use Rattle.std_alloc.specs.contracts.boxed.Box.into_raw_with_allocator as into_raw
use Rattle.std_alloc.proofs.boxed.Box.into_raw_with_allocator.Met as into_raw-met
use Rattle.std_alloc.proofs.boxed.Box.into_raw_with_allocator.Symbol as into_raw-key
use Rattle.ringpop_c.proofs.Destruct++none.drop.Symbol as no_drop

-- a type as a call is passed it
abbrev pub passed : RattleType → RattleType
passed R = arg (unnamed (layout R)) no R

passed_laws : (R : RattleType) → Laws R → Laws (passed R)
passed_laws R laws = arg_laws (unnamed (layout R)) no R laws (raw-raw (layout R))

abbrev pub the_heap : RattleType
the_heap = passed Heap.the_row

heap_laws : Laws the_heap
heap_laws = passed_laws Heap.the_row heap.the_row_laws

-- the heap needs no drop
abbrev pub heap_drop : Dict
heap_drop = impl (no_drop.symbol ∷ []) (tcons (layout the_heap) tnil) dnil

-- a box as such a call has it
abbrev pub Whole : RattleType → RattleType
Whole R = boxed.the_row (param 0 (passed R)) (param 1 the_heap) ghosts

-- what a box owns by its pointer
abbrev pub owned : (R : RattleType) → Global → Ptr → R.Denot → Fml
owned R g p x = box_owns (ghosts.dealloc_token g) (param 0 (passed R)) p x

module _ {M : Type 1} {𝓤 : Ura M} (𝓛 : Logic 𝓤) (𝓜 : Model 𝓤 𝓛.H) (𝓡 : Running 𝓤 𝓛.H 𝓜) (R : RattleType) where
  open 𝓛 use {H}

  abbrev 𝓣 : MachineTables 𝓤 H 𝓜
  𝓣 = tables 𝓤 H 𝓜 𝓡 𝓡.env

  -- ---- what a type's `drop` says, and that it lets go what a call is passed of the type
  abbrev Dropped : Ended
  Dropped = record { signature = record { lifetimes = 0; outlives = []; params = plain (λ _. R) ∷ []; result = plain (λ _. unit) }; kept = (yes, tt) }

  abbrev dropped : Spec 𝓤 Dropped.signature
  dropped = closing 𝓛 Dropped (λ κs a. record { ghost = Unit {0}; requires = λ _. emp 𝓤; ensures = λ _ r e. emp 𝓤 })

  pub lets_go : (s : Callee) (d : Dict) → 𝓡.env s ≼⁺ 𝓡.env (method d 0 no_args) → Meets 𝓛 Dropped.signature (𝓡.run (𝓡.env s)) dropped → Met 𝓛 𝓜 𝓡 𝓡.env (passed R) d
  lets_go s d wider met =
      let r = 𝓡.env (method d 0 no_args) in let fm = run_framed 𝓤 H 𝓜 𝓡 r in
      let lasting : Spec 𝓤 (glue.signature (passed R)) = λ κs a. record { ghost = Unit {0}; requires = λ _. sep 𝓤 (fact 𝓤 (κs.0 ⊑ R.lives)) (emp 𝓤); ensures = (dropped tt a).ensures } in
      beside 𝓛 (glue.signature (passed R)) (𝓡.run r) fm lasting (spent 𝓛 (passed R)) (λ κs a g. g) (λ κs a g. emp 𝓤)
      (λ κs a g. qed 𝓛 (raw ((lasting κs a).requires g) ∷ []) ∵ nothing ! $ move ! (1 ∷ 0 ∷ []) $ join ! $ done !)
      (λ κs a g v. qed 𝓛 (raw ((lasting κs a).ensures g v) ∷ raw (emp 𝓤) ∷ []) ∵ drop ! $ drop ! $
      show ! (λ (_ : Unit {0} × Unit {0}). sep 𝓤 (sem 𝓛 (fsep ftrue ftrue)) (emp 𝓤)) (tt, tt) $ nothing ! $ nothing ! $ fjoin ! $ nothing ! $ move ! (1 ∷ 0 ∷ []) $ join ! $ done !)
      (spared 𝓛 Dropped.signature (𝓡.run r) fm 1 (R.lives, tt) dropped (widened 𝓤 H (triple_of 𝓛 Dropped.signature dropped) 𝓜 𝓡 𝓡.env (𝓡.env s) r wider met))

  -- ---- the two calls
  abbrev Apart : Dict → Contract 𝓤
  Apart d = triple_of 𝓛 (into_raw.signature (passed R) the_heap ghosts dict heap_drop d) (into_raw.spec (passed R) the_heap ghosts dict heap_drop d 𝓛 𝓜.mem 𝓡.returns)

  abbrev apart : (d : Dict) → (Whole R).Denot → Val → (Apart d).Ghost
  apart d b v = ((([], ([], tt)), (full_share, (full_share, tt)), tt, (b, tt), (v ∷ [], tt)), tt)

  abbrev Together : Contract 𝓤
  Together = triple_of 𝓛 (from_raw.signature (passed R) the_heap ghosts dict heap_drop) (from_raw.spec (passed R) the_heap ghosts dict heap_drop 𝓛 𝓜.mem 𝓡.returns)

  abbrev together : Global → Ptr → R.Denot → Together.Ghost
  together g p x = ((([], ([], tt)), (full_share, (full_share, tt)), tt, (g, (p, tt)), (heap.lowered g ∷ [], (ptr_val p ∷ [], tt))), x)

  -- the tokens that a call wants and gives back, and that the two types outlive them
  abbrev tokens : Item 𝓤
  tokens = ‵ (flft [] full_share) ⊛ ‵ (flft [] full_share) ⊛ ‵ ftrue

  abbrev outlived : Item 𝓤 → Item 𝓤
  outlived i = raw (fact 𝓤 ([] ⊑ R.lives)) ⊛ raw (fact 𝓤 ([] ⊑ the_heap.lives)) ⊛ i

  module _ (lasts : [] ⊑ R.lives) where
    with_tokens : {K : Type 0} {Γ : List (Item 𝓤)} {G : Goal 𝓤 H} → K → Step K 𝓛 (tokens ∷ Γ) G Γ G
    with_tokens t = step (λ s. nothing t $ use0 𝓛 (‵ (flft [] full_share)) (𝓛.lfts.lft-nil full_share) $ join t $ use0 𝓛 (‵ (flft [] full_share)) (𝓛.lfts.lft-nil full_share) $ join t $ s)

    outlives : {K : Type 0} {i : Item 𝓤} {Γ : List (Item 𝓤)} {G : Goal 𝓤 H} → K → Step K 𝓛 (outlived i ∷ Γ) G (i ∷ Γ) G
    outlives t = step (λ s. use0 𝓛 (raw (fact 𝓤 ([] ⊑ the_heap.lives))) (fact_i 𝓤 _ (emp 𝓤) (⊑_refl [])) $ join t $ use0 𝓛 (raw (fact 𝓤 ([] ⊑ R.lives))) (fact_i 𝓤 _ (emp 𝓤) lasts) $ join t $ s)

    module _ (laws : Laws R) (allocates : Wired 𝓡.env allocate.code) (deallocates : Wired 𝓡.env deallocate.code) (grows : Wired 𝓡.env grow.code)
        (shrinks : Wired 𝓡.env shrink.code) (drops_none : Wired 𝓡.env no_drop.code) {K : Type 0} {Γ : List (Item 𝓤)} {E : Env 𝓤 H} {Λ : Loops 𝓤 H} {q : Post 𝓤 H} {xs : List Operand} {to : Place} where
      -- `into_raw_with_allocator`: what the box owned is owned by the pointer and the heap that are left of it
      pub takes_apart : K → Wired 𝓡.env into_raw-key.code → (d : Dict) → Met 𝓛 𝓜 𝓡 𝓡.env (passed R) d → {rest : Body} (b : (Whole R).Denot) (v : Val)
          → Opds K 𝓛 (raw ((Apart d).pre (apart d b v)) ∷ Γ) E xs (v ∷ [])
          → ((u : Val) (r : Ptr × Global) → Seq K 𝓛 (‵ ((Tuple (RawPtr ∷ Heap.the_row ∷ [])).own_val r (u ∷ [])) ∷ ‵ (owned R r.1 r.0 b.value) ∷ Γ) (lands 𝓣.C Λ E to u rest q))
          → Seq K 𝓛 (‵ ((Whole R).own_val b (v ∷ [])) ∷ Γ)
          (runs 𝓣.C Λ E (seq (call (into_raw-key.name (bounded (a_type ∷ a_type ∷ []) (passed R, (the_heap, tt)) (dcons dict (dcons heap_drop (dcons d dnil))))) xs to) rest) q)
      takes_apart t w d goes b v given k =
          nothing t $ move t (1 ∷ 0 ∷ []) $ fjoin t $ with_tokens t $ join t $ nothing t $ outlives t $ move t (1 ∷ 0 ∷ []) $ join t $
          use1 𝓛 (raw ((Apart d).pre (apart d b v))) (id⊢ 𝓤 _) $
          calls_at t (framed 𝓤 H 𝓜 𝓣) (Apart d) (into_raw-met.met 𝓤 𝓛 𝓜 𝓡 w (passed R) the_heap (passed_laws R laws) heap_laws ghosts dict heap_drop d
          (heap-met.passed 𝓡.env allocates deallocates grows shrinks M 𝓤 𝓛 𝓜 𝓡) (no_drop.glues 𝓡.env drops_none the_heap heap_laws M 𝓤 𝓛 𝓜 𝓡) goes) (apart d b v) given (λ u.
          use1 𝓛 (later (some (λ (r : Ptr × Global). (tokens ⊛ ‵ ((Tuple (RawPtr ∷ Heap.the_row ∷ [])).own_val r (u ∷ [])))
          ⊛ some (λ (_ : (Unit {0} × (Unit {0} × Unit {0})) × Unit {0}). ‵ (fsep (fsep ftrue (fsep ftrue ftrue)) ftrue) ⊛ (raw (fact 𝓤 (r.1 ≡ b.alloc)) ⊛ ‵ (owned R b.alloc r.0 b.value)))))) (id⊢ 𝓤 _) $
          await t tt $ pick t (λ r. split t $ move t (1 ∷ []) $ pick t (λ _. split3 t $ drop t $ heard t (r.1 ≡ b.alloc) (λ same.
          rewrite t 0 (λ (g : Global). ‵ (owned R g r.0 b.value)) (sym same) refl $ move t (1 ∷ []) $ split t $ drop t $ k u r))))

      -- `from_raw`, last in its block: what a pointer and the heap own is owned by the box that is made of them
      pub puts_together : K → Wired 𝓡.env from_raw-key.code → (g : Global) (p : Ptr) (x : R.Denot)
          → Opds K 𝓛 (raw (Together.pre (together g p x)) ∷ Γ) E xs (heap.lowered g ∷ ptr_val p ∷ [])
          → ((v : Val) (b : (Whole R).Denot) → b.value ≡ x → Seq K 𝓛 (‵ ((Whole R).own_val b (v ∷ [])) ∷ Γ) (settles E to v q))
          → Seq K 𝓛 (‵ (Heap.the_row.own_val g (heap.lowered g ∷ [])) ∷ ‵ (owned R g p x) ∷ Γ)
          (runs 𝓣.C Λ E (call (from_raw-key.name (bounded (a_type ∷ a_type ∷ []) (passed R, (the_heap, tt)) (dcons dict (dcons heap_drop dnil)))) xs to) q)
      puts_together t w g p x given k =
          nothing t $ feq_i t (List Val) (ptr_val p ∷ []) (ptr_val p ∷ []) refl $ fjoin t $ move t (1 ∷ 0 ∷ []) $ fjoin t $ with_tokens t $ join t $
          move t (1 ∷ []) $ outlives t $ move t (1 ∷ 0 ∷ []) $ join t $
          use1 𝓛 (raw (Together.pre (together g p x))) (id⊢ 𝓤 _) $
          calls_at_last t (framed 𝓤 H 𝓜 𝓣) Together (from_raw-met.met 𝓤 𝓛 𝓜 𝓡 w (passed R) the_heap (passed_laws R laws) heap_laws ghosts dict heap_drop
          (heap-met.passed 𝓡.env allocates deallocates grows shrinks M 𝓤 𝓛 𝓜 𝓡) (no_drop.glues 𝓡.env drops_none the_heap heap_laws M 𝓤 𝓛 𝓜 𝓡)) (together g p x) given (λ v.
          use1 𝓛 (later (some (λ (b : (Whole R).Denot). (tokens ⊛ ‵ ((Whole R).own_val b (v ∷ [])))
          ⊛ some (λ (_ : Unit {0} × (Unit {0} × Unit {0})). ‵ (fsep ftrue (fsep ftrue ftrue)) ⊛ (raw (fact 𝓤 (b.value ≡ x)) ⊛ raw (fact 𝓤 (b.alloc ≡ g))))))) (id⊢ 𝓤 _) $
          await t tt $ pick t (λ b. split t $ move t (1 ∷ []) $ pick t (λ _. split3 t $ drop t $ heard t (b.value ≡ x) (λ same. drop t $ split t $ drop t $ k v b same))))
