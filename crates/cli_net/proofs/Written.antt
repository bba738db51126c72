-- What a server has written, line by line.
use Rattle.std.proofs.Common.{◌≡◌, ◌∙◌, ℕ, inl, subst, sym, List, [], ◌∷◌, ◌++◌, Option, Result, Ok, Err, IfErr, IsErrAnd}
use Rattle.std.proofs.KnownBytes.{Appends-trans}
use Rattle.std.specs.Prelude.{codes}
use Rattle.std.specs.Io.KnownBytes.{Appends}
use Rattle.wire_json.specs.Input.{AppendsPrefix}
use Rattle.wire_json.proofs.Writing.{prefix_more, prefix_then}
use Rattle.cli_net.specs.Service.{LeavesService, LeavesServing, serving_line, service_text}
use Rattle.cli_net.specs.declared.faults.ServeError.{ServeError}
use Rattle.cli_net.specs.declared.faults.ServeError.TheVariants as serve

-- a fault of the first line, as a fault of all
left_serving : (a : ℕ) (e : ServeError) (old new : Option (List ℕ)) → LeavesServing a e old new → LeavesService a e old new
left_serving a serve.CannotWrite old new h = prefix_more old new (serving_line a) (codes "done" ++ 10 ∷ []) h
left_serving a serve.OutOfMemory old new h = inl h
left_serving a serve.NoneJoined old new h = absurd h
left_serving a serve.CannotListen old new h = absurd h
left_serving a serve.NoThread old new h = absurd h
left_serving a serve.StillHeld old new h = absurd h
left_serving a serve.Miscounted old new h = absurd h

-- the first line was said, and then the last
pub said_both : (a : ℕ) (old mid new : Option (List ℕ)) → Appends old mid (serving_line a) → Appends mid new (codes "done" ++ 10 ∷ []) → Appends old new (service_text a)
said_both a old mid new first last = Appends-trans old mid new (serving_line a) (codes "done" ++ 10 ∷ []) first last

module _ {T : Type 0} (a : ℕ) (old mid new : Option (List ℕ)) where
  -- the first line was not said
  pub unsaid_first : (e : ServeError) (r : Result T ServeError) → IsErrAnd r (λ x. x ≡ e) → LeavesServing a e old new → IfErr r (λ x. LeavesService a x old new)
  unsaid_first e (Ok t) is h = tt
  unsaid_first e (Err x) is h = subst (λ y. LeavesService a y old new) (sym is) (left_serving a e old new h)

  -- the first line was said, and of the last a prefix
  pub unsaid_last : (e : ServeError) (r : Result T ServeError) → IsErrAnd r (λ x. x ≡ e) → Appends old mid (serving_line a) → AppendsPrefix mid new (codes "done" ++ 10 ∷ [])
      → e ≡ serve.CannotWrite → IfErr r (λ x. LeavesService a x old new)
  unsaid_last e (Ok t) is first prefix fault = tt
  unsaid_last e (Err x) is first prefix fault =
      subst (λ y. LeavesService a y old new) (sym (is ∙ fault)) (prefix_then old mid new (serving_line a) (codes "done" ++ 10 ∷ []) first prefix)
