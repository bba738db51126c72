-- The calls of a thread, one after the other.
use Rattle.std.proofs.Common.{◌≡◌, ◌∙◌, List, [], refl, subst, sym}
use Rattle.hash_ring.specs.declared.hash.Sha256Hash.{Sha256Hash}
use Rattle.locked_node.specs.History.{CallEntry}
use Rattle.locked_node.specs.declared.node.LockedNode.{LockedNode}
use Rattle.peer_core.specs.Acts.{Act, OfActs, Makes, Then, acts_of}
use Rattle.peer_core.proofs.Acts.{makes_as, makes_none, makes_then}
use Rattle.peer_core.proofs.Exchanges.{calls_agree}
use Rattle.agent_node.specs.Calling.{Calling, HasMade}

module _ (So : OfActs Sha256Hash) where
  -- no call
  pub made_none : (old new : Calling) → new ≡ old → So [] → HasMade So old new
  made_none old new same so =
      subst (HasMade So old) (sym same)
      (record { node = refl; makes = makes_as So (λ acts none. subst So (sym none) so) (makes_none old.node old.pass) })

  -- the same calls, of which more is said
  pub made_as : (First : OfActs Sha256Hash) (old new : Calling) → ((acts : List (Act Sha256Hash)) → First acts → So acts) → HasMade First old new → HasMade So old new
  made_as First old new more made = record { node = made.node; makes = makes_as So more made.makes }

-- calls, and then others
pub made_then : (First Next : OfActs Sha256Hash) (a b c : Calling) → HasMade First a b → HasMade Next b c → HasMade (Then First Next) a c
made_then First Next a b c first next = record {
  node = next.node ∙ first.node;
  makes = makes_then first.makes (subst (λ (it : LockedNode Sha256Hash). Makes it Next b.pass c.pass) first.node next.makes);
}

-- the same calls satisfy both
pub made_both : (So To : OfActs Sha256Hash) (a b : Calling) → HasMade So a b → HasMade To a b → HasMade (λ acts. So acts × To acts) a b
made_both So To a b h k = record {
  node = h.node;
  makes = record {
    entries = h.makes.entries;
    made = h.makes.made;
    so = (h.makes.so, subst (λ (es : List (CallEntry Sha256Hash)). To (acts_of es)) (calls_agree a.node a.pass b.pass k.makes.entries h.makes.entries k.makes.made h.makes.made) k.makes.so);
  };
}
