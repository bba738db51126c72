-- Rings and the texts of their digests.
use Rattle.std.proofs.Common.{◌≡◌, ◌∙◌, List, [], ◌∷◌, ap, map, refl, sym}
use Rattle.std.specs.List.{filter}
use Rattle.change_core.specs.Members.{digest_text, members}
use Rattle.change_core.specs.Status.{is_serving}
use Rattle.change_core.specs.declared.changes.Change.{Change}
use Rattle.change_core.proofs.DigestTexts.{same_from_digest_text}
use Rattle.hash_ring.specs.Serving as ring
use Rattle.agent_core.specs.Texts.{on_ring, server_of}

-- as servers they are what they are on the ring
same_servers : (cs : List Change) → map ring.server_of cs ≡ map ring.server_of (map server_of cs)
same_servers [] = refl
same_servers (c ∷ cs) = ap (λ xs. ring.server_of c ∷ xs) (same_servers cs)

servers_by_ring : (a : List Change) → ring.servers_of a ≡ map ring.server_of (on_ring (members a))
servers_by_ring a = same_servers (filter (λ (c : Change). is_serving c.status) (members a))

pub servers_once : (a b : List Change) → on_ring (members a) ≡ on_ring (members b) → ring.servers_of a ≡ ring.servers_of b
servers_once a b e = servers_by_ring a ∙ ap (map ring.server_of) e ∙ sym (servers_by_ring b)

pub ring_once : (a b : List Change) → digest_text (on_ring a) ≡ digest_text (on_ring b) → on_ring a ≡ on_ring b
ring_once a b e = same_from_digest_text (on_ring a) (on_ring b) e
