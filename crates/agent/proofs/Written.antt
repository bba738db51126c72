-- The output of an agent, line by line.
use Rattle.std.proofs.Common.{ℕ, ap, refl, sym, List, [], ◌∷◌, ◌++◌, Option, Some, None, append-nil}
use Rattle.std.proofs.KnownBytes.{Appends-trans}
use Rattle.std.specs.Prelude.{codes}
use Rattle.std.specs.Io.KnownBytes.{Appends}
use Rattle.wire_json.specs.Input.{AppendsPrefix}
use Rattle.wire_json.proofs.Writing.{prefix_more, prefix_then, prefix_whole}
use Rattle.agent.specs.Texts.{agent_text, serving_line}

-- no output is a prefix of any text
pub prefix_none : (a : Option (List ℕ)) (xs : List ℕ) → AppendsPrefix a a xs
prefix_none None xs = tt
prefix_none (Some o) xs = ([], xs, refl, ap Some (sym (append-nil o)))

module _ (a : ℕ) (old mid new : Option (List ℕ)) where
  -- a prefix of the first line is a prefix of both lines
  pub prefix_first : AppendsPrefix old new (serving_line a) → AppendsPrefix old new (agent_text a)
  prefix_first front = prefix_more old new (serving_line a) (codes "done" ++ 10 ∷ []) front

  -- so is the whole first line
  pub first_alone : Appends old new (serving_line a) → AppendsPrefix old new (agent_text a)
  first_alone said = prefix_first (prefix_whole old new (serving_line a) said)

  -- and the first line with a prefix of the last
  pub prefix_last : Appends old mid (serving_line a) → AppendsPrefix mid new (codes "done" ++ 10 ∷ []) → AppendsPrefix old new (agent_text a)
  prefix_last first front = prefix_then old mid new (serving_line a) (codes "done" ++ 10 ∷ []) first front

  -- both lines were written
  pub said_both : Appends old mid (serving_line a) → Appends mid new (codes "done" ++ 10 ∷ []) → Appends old new (agent_text a)
  said_both first last = Appends-trans old mid new (serving_line a) (codes "done" ++ 10 ∷ []) first last
