-- Acts that each rest in one way on those before.
use Rattle.std.proofs.Common.{sym, subst, inl, inr, Result, Ok, Err, List, [], ◌∷◌, ◌++◌, append_assoc, append-nil}
use Rattle.node_core.specs.declared.errors.NodeError.{NodeError}
use Rattle.node_core.specs.declared.events.Event.{Event}
use Rattle.node_core.specs.declared.events.Reply.{Reply}
use Rattle.peer_core.specs.declared.errors.ClusterError.{ClusterError}
use Rattle.peer_core.specs.Acts.{Act, did, Just, Nothing}
use Rattle.peer_core.specs.Parts.{Part, Calls, Next, Tries}
use Rattle.peer_core.specs.Provenance.{EachRests}

module _ {H : Type 0} (On : List (Act H) → Act H → Type 0) where
  pub each_append : (before xs ys : List (Act H)) → EachRests On before xs → EachRests On (before ++ xs) ys → EachRests On before (xs ++ ys)
  each_append before [] ys h k = subst (λ (zs : List (Act H)). EachRests On zs ys) (append-nil before) k
  each_append before (x ∷ xs) ys h k =
      (h.0, each_append (before ++ x ∷ []) xs ys h.1 (subst (λ (zs : List (Act H)). EachRests On zs ys) (sym (append_assoc before (x ∷ []) xs)) k))

  pub none_rests : (before acts : List (Act H)) → Nothing acts → EachRests On before acts
  none_rests before acts e = subst (λ (xs : List (Act H)). EachRests On before xs) (sym e) tt

  pub one_rests : (before acts : List (Act H)) (act : Act H) → Just act acts → On before act → EachRests On before acts
  one_rests before acts act e h = subst (λ (xs : List (Act H)). EachRests On before xs) (sym e) (h, tt)

  pub next_rests : {A B : Type 0} (First : Part H A) (Rest : A → Part H B) (before acts : List (Act H)) (r : Result B ClusterError) → Next First Rest r acts
      → ((x : Result A ClusterError) (xs : List (Act H)) → First x xs → EachRests On before xs)
      → ((a : A) (xs ys : List (Act H)) → First (Ok a) xs → Rest a r ys → EachRests On (before ++ xs) ys) → EachRests On before acts
  next_rests First Rest before acts (Ok b) (inl h) f g = absurd h
  next_rests First Rest before acts (Err e) (inl h) f g = f (Err e) acts h
  next_rests First Rest before acts r (inr t) f g =
      subst (λ (xs : List (Act H)). EachRests On before xs) (sym t.1.2)
      (each_append before t.1.0 t.1.1 (f (Ok t.0) t.1.0 t.1.3) (g t.0 t.1.0 t.1.1 t.1.3 t.1.4))

  pub call_rests : {A : Type 0} (event : Event) (reply_of : A → Reply) (before : List (Act H)) → ((a : A) → On before (did event (reply_of a)))
      → (r : Result A ClusterError) (acts : List (Act H)) → Calls event reply_of r acts → EachRests On before acts
  call_rests event reply_of before f (Ok a) acts p = one_rests before acts (did event (reply_of a)) p (f a)
  call_rests event reply_of before f (Err e) acts p = none_rests before acts p.0

  pub try_rests : {A : Type 0} (event : Event) (reply_of : Result A NodeError → Reply) (before : List (Act H))
      → ((a : Result A NodeError) → On before (did event (reply_of a)))
      → (r : Result A ClusterError) (acts : List (Act H)) → Tries event reply_of r acts → EachRests On before acts
  try_rests event reply_of before f (Ok a) acts p = one_rests before acts (did event (reply_of (Ok a))) p (f (Ok a))
  try_rests event reply_of before f (Err e) acts (inl p) = none_rests before acts p.0
  try_rests event reply_of before f (Err e) acts (inr p) = one_rests before acts (did event (reply_of (Err p.0))) p.1 (f (Err p.0))
