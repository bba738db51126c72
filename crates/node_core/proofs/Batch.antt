-- A batch, one change after another.
use Rattle.std.proofs.Common.{◌≡◌, ℕ, ◌+◌, ◌<◌, ◌≤◌, List, [], ◌∷◌, ◌++◌, map, take, drop, length, get_or, Some, None, refl, sym, ◌∙◌, ap, subst, arith}
use Rattle.std.proofs.lemmas.List.{take_more, drop_more}
use Rattle.std.proofs.lemmas.Option.{slice_get-get_or}
use Rattle.change_core.specs.declared.changes.Change.{Change}
use Rattle.change_core.specs.declared.changes.Sourced.{Sourced}
use Rattle.change_core.specs.Members.{greatest, members, alters}
use Rattle.node_core.specs.declared.taking.Effect.{Effect}
use Rattle.node_core.specs.declared.events.StopCause.{StopCause}
use Rattle.node_core.specs.declared.events.StopCause.TheVariants.{Memory}
use Rattle.change_core.specs.Refutation.{is_refuted, log_one}
use Rattle.change_core.specs.Change.{change_of}
use Rattle.node_core.specs.Log.{applied, refuted, one_if}
use Rattle.node_core.specs.Node.{Node}
use Rattle.node_core.specs.Taking.{alteration, took, took_all, NoneRefused, refusal, StopsFor, TakesOne, StopsOne, TakesFirst, WantsRoomFor, StopsForRoom, altered_in, refuted_by}
use Rattle.node_core.proofs.Greatest.{Agree, greatest-members}
use Rattle.node_core.proofs.Log.{IsSettled, agree-log_one, took_members, altered_by-own, settled-by}

took_all-push : {H : Type 0} (node : Node H) (ss : List Sourced) (s : Sourced) → took_all node (ss ++ s ∷ []) ≡ took (took_all node ss) s
took_all-push node [] s = refl
took_all-push node (t ∷ ss) s = took_all-push (took node t) ss s

NoneRefused-push : {H : Type 0} (node : Node H) (ss : List Sourced) (s : Sourced) → NoneRefused node ss → refusal (took_all node ss) s.change ≡ None → NoneRefused node (ss ++ s ∷ [])
NoneRefused-push node [] s h e = (e, tt)
NoneRefused-push node (t ∷ ss) s h e = (h.0, NoneRefused-push (took node t) ss s h.1 e)

applied-agree : (own : ℕ) (L L' : List Change) (cs : List Change) → Agree L L' → applied own L cs ≡ applied own L' cs
applied-agree own L L' [] h = refl
applied-agree own L L' (c ∷ cs) h =
    ap (λ g. one_if (alters g c) + applied own (log_one own L c) cs) (h c.address)
    ∙ ap (λ n. one_if (alters (greatest L' c.address) c) + n) (applied-agree own (log_one own L c) (log_one own L' c) cs (agree-log_one own L L' c h))

refuted-agree : (own : ℕ) (L L' : List Change) (cs : List Change) → Agree L L' → refuted own L cs ≡ refuted own L' cs
refuted-agree own L L' [] h = refl
refuted-agree own L L' (c ∷ cs) h =
    ap (λ g. one_if (is_refuted own g c) + refuted own (log_one own L c) cs) (h own)
    ∙ ap (λ n. one_if (is_refuted own (greatest L' own) c) + n) (refuted-agree own (log_one own L c) (log_one own L' c) cs (agree-log_one own L L' c h))

-- how far a batch has come: the first n are taken, and what was counted, with what is still to be, is all
pub record HasTaken {H : Type 0} (start : Node H) (given : List Sourced) (n counted refuting : ℕ) (node : Node H) : Type 0 where
  pub settled : IsSettled node
  pub own_is : node.own ≡ start.own
  pub node_is : node ≡ took_all start (take n given)
  pub none_refused : NoneRefused start (take n given)
  pub applied_is : counted + applied node.own node.members (map change_of (drop n given)) ≡ applied start.own start.members (map change_of given)
  pub refuted_is : refuting + refuted node.own node.members (map change_of (drop n given)) ≡ refuted start.own start.members (map change_of given)
  pub few : counted ≤ n
  pub fewer : refuting ≤ n

module _ {H : Type 0} (start : Node H) (given : List Sourced) where
  pub HasTaken-none : IsSettled start → HasTaken start given 0 0 0 start
  HasTaken-none settled = record {
    settled = settled;
    own_is = refl;
    node_is = refl;
    none_refused = tt;
    applied_is = omega arith;
    refuted_is = omega arith;
    few = omega arith;
    fewer = omega arith;
  }

  pub HasTaken-more : (n a r : ℕ) (node new : Node H) (s : Sourced) (effect : Effect) → n < length given → s ≡ get_or given n s → altered_in effect ≤ 1 → refuted_by effect ≤ 1
      → HasTaken start given n a r node → TakesOne node s effect new → HasTaken start given (n + 1) (a + altered_in effect) (r + refuted_by effect) new
  HasTaken-more n a r node new s effect within here one two so step =
      let prefix : take (n + 1) given ≡ take n given ++ s ∷ [] = take_more given n s within ∙ ap (λ (x : Sourced). take n given ++ x ∷ []) (sym here) in
      let back : drop n given ≡ s ∷ drop (n + 1) given = drop_more given n s within ∙ ap (λ (x : Sourced). x ∷ drop (n + 1) given) (sym here) in
      let members_are : new.members ≡ members (log_one node.own node.members s.change) = ap (λ (x : Node H). x.members) step.new_is ∙ took_members node s so.settled in
      let own_is : new.own ≡ node.own = ap (λ (x : Node H). x.own) step.new_is ∙ altered_by-own node (alteration node s) in
      let rest : List Change = map change_of (drop (n + 1) given) in
      let left : applied node.own node.members (map change_of (drop n given)) ≡ altered_in effect + applied new.own new.members rest
      = ap (λ (ss : List Sourced). applied node.own node.members (map change_of ss)) back
      ∙ ap (λ k. k + applied node.own (log_one node.own node.members s.change) rest) (sym step.applied_is)
      ∙ ap (λ k. altered_in effect + k)
      (sym (applied-agree node.own (members (log_one node.own node.members s.change)) (log_one node.own node.members s.change) rest (greatest-members (log_one node.own node.members s.change)))
      ∙ ap (λ (M : List Change). applied node.own M rest) (sym members_are) ∙ ap (λ (o : ℕ). applied o new.members rest) (sym own_is)) in
      let right : refuted node.own node.members (map change_of (drop n given)) ≡ refuted_by effect + refuted new.own new.members rest
      = ap (λ (ss : List Sourced). refuted node.own node.members (map change_of ss)) back
      ∙ ap (λ k. k + refuted node.own (log_one node.own node.members s.change) rest) (sym step.refuted_is)
      ∙ ap (λ k. refuted_by effect + k)
      (sym (refuted-agree node.own (members (log_one node.own node.members s.change)) (log_one node.own node.members s.change) rest (greatest-members (log_one node.own node.members s.change)))
      ∙ ap (λ (M : List Change). refuted node.own M rest) (sym members_are) ∙ ap (λ (o : ℕ). refuted o new.members rest) (sym own_is)) in
      record {
        settled = settled-by new (log_one node.own node.members s.change) members_are;
        own_is = own_is ∙ so.own_is;
        node_is = step.new_is ∙ ap (λ (x : Node H). took x s) so.node_is ∙ sym (took_all-push start (take n given) s) ∙ ap (took_all start) (sym prefix);
        none_refused = subst (λ (ss : List Sourced). NoneRefused start ss) (sym prefix)
            (NoneRefused-push start (take n given) s so.none_refused (subst (λ (x : Node H). refusal x s.change ≡ None) so.node_is step.none_refused));
        applied_is = omega (arith, left, so.applied_is);
        refuted_is = omega (arith, right, so.refuted_is);
        few = omega (arith, so.few);
        fewer = omega (arith, so.fewer);
      }

  pub TakesFirst-stop : (n a r : ℕ) (node new : Node H) (s : Sourced) (cause : StopCause) → n < length given → s ≡ get_or given n s → HasTaken start given n a r node → StopsOne node s cause new
      → TakesFirst start given (record { taken = n; cause = cause }) new
  TakesFirst-stop n a r node new s cause within here so step = record {
    next = s;
    next_is = slice_get-get_or given n s within ∙ ap (λ (x : Sourced). Some x) (sym here);
    none_refused = so.none_refused;
    stops = subst (λ (x : Node H). StopsFor x s cause) so.node_is step.stops;
    new_is = step.same ∙ so.node_is;
  }

  -- for lack of memory it stops where one change did
  pub StopsForRoom-stop : (n : ℕ) (node new : Node H) (s : Sourced) (cause : StopCause) → n < length given → s ≡ get_or given n s → StopsOne node s cause new
      → (cause ≡ Memory → WantsRoomFor node s) → StopsForRoom new given (record { taken = n; cause = cause })
  StopsForRoom-stop n node new s cause within here step wants lack next next_is =
      let found : Some s ≡ Some next = ap (λ (x : Sourced). Some x) here ∙ sym (slice_get-get_or given n s within) ∙ next_is in
      let same : s ≡ next = cc in
      subst (λ (x : Sourced). WantsRoomFor new x) same (subst (λ (x : Node H). WantsRoomFor x s) (sym step.same) (wants lack))
