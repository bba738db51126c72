-- The digest of the members that a node holds, and of its ring.
use Rattle.std.specs.Prelude.{ℕ, List}
use Rattle.change_core.specs.Members.{members}
use Rattle.change_core.specs.declared.changes.Change.{Change}
use Rattle.node_core.specs.Messages.{digest_of}
use Rattle.agent_core.specs.Texts.{on_ring}

-- the digest of changes: that of the members that they come to
abbrev pub digest_by : List Change → List ℕ
digest_by changes = (digest_of (members changes)).bytes

-- the digest of the ring of a node that holds these members: it depends on those that serve, and their weights, alone
abbrev pub ring_digest : List Change → List ℕ
ring_digest held = digest_by (on_ring held)
