-- What a worker does to its node, message by message.
use Rattle.std.proofs.Common.{◌≡◌, ℕ, ◌+◌, List, subst}
use Rattle.message_core.specs.declared.messages.Message.{Message}
use Rattle.locked_node.specs.declared.node.LockedNode.{LockedNode}
use Rattle.locked_node.specs.Passes.{NodePass}
use Rattle.peer_core.specs.Acts.{OfActs, Makes}
use Rattle.peer_core.proofs.Acts.{chain_more, chain_none, chain_still, makes_as}
use Rattle.peer_core.specs.Handling.{Handled, MayHandle, between, handled_shared, shared}
use Rattle.peer_core.specs.Members.{Caller}
use Rattle.peer_core.proofs.HandlingCounts.{serves_shared}
use Rattle.peer_core.proofs.Served.{serves_as}
use Rattle.peer_core.specs.Links.{any_answer}
use Rattle.cluster_core.specs.Working.{HasWorked, IsMessageServed, Repeats, ServesEach, ServesOnce, any_text}

module _ {H A : Type 0} (locked : LockedNode H) (hash_of : H → List ℕ → ℕ) (handled : Handled A) where
  abbrev OneMessage : A → A → OfActs H
  OneMessage old new = IsMessageServed hash_of (between handled old new)

  pub none_yet : (s : A) (p : NodePass H) → Makes locked (ServesEach hash_of handled s s) p p
  none_yet s p = makes_as (ServesEach hash_of handled s s) (λ acts h. (0, h)) (chain_none locked OneMessage s p)

  -- a member of the node served one message more
  pub served_more : {L : Type 0} (message : Message) (start was is : A) (p : NodePass H) (old new : Caller H L) → old.node ≡ locked
      → Makes locked (ServesEach hash_of handled start was) p old.pass.now → ServesOnce hash_of (between handled was is) message old new
      → Makes locked (ServesEach hash_of handled start is) p new.pass.now
  served_more message start was is p old new same before d =
      let n : ℕ = before.so.0 in
      let next : Makes locked (OneMessage was is) old.pass.now new.pass.now =
      subst (λ (x : LockedNode H). Makes x (OneMessage was is) old.pass.now new.pass.now) same (makes_as (OneMessage was is) (λ acts h. (message, d.0, h)) d.1.does.makes) in
      makes_as (ServesEach hash_of handled start is) (λ acts h. (n + 1, h))
      (chain_more locked OneMessage n start was is p old.pass.now new.pass.now (record { entries = before.entries; made = before.made; so = before.so.1 }) next)

module _ {H A : Type 0} (locked : LockedNode H) (hash_of : H → List ℕ → ℕ) (end start : A) (Handles : A → MayHandle) (p q : NodePass H) where
  -- by a handler that is shared, it is not known how often
  pub worked_shared : Makes locked (ServesEach hash_of (handled_shared Handles) start end) p q
      → Makes locked (Repeats (IsMessageServed hash_of (shared (Handles start)))) p q
  worked_shared m = makes_as (Repeats (IsMessageServed hash_of (shared (Handles start))))
      (λ acts h. (
        h.0,
        (chain_still (λ (old new : A). IsMessageServed hash_of (between (handled_shared Handles) old new)) (IsMessageServed hash_of (shared (Handles start))) start
            (λ is next s.
            let (same, served) = serves_shared hash_of any_answer Handles start is s.0 0 s.1 next s.2 in (same, (s.0, s.1, served))) h.0 end acts h.1).1,
      )) m

  -- so a worker's promise names no handler
  pub has_worked : Makes locked (ServesEach hash_of (handled_shared Handles) start end) p q → HasWorked hash_of locked p q
  has_worked m = makes_as (Repeats (IsMessageServed hash_of (shared any_text)))
      (λ acts h. (
        h.0,
        (chain_still (λ (old new : A). IsMessageServed hash_of (between (handled_shared Handles) old new)) (IsMessageServed hash_of (shared any_text)) start
            (λ is next s. (
              (serves_shared hash_of any_answer Handles start is s.0 0 s.1 next s.2).0,
              (s.0, s.1, serves_as hash_of (between (handled_shared Handles) start is) (shared any_text) (λ keys body answer called. tt) (λ never. tt) any_answer s.0 0 s.0.content s.1 next s.2),
            )) h.0 end acts h.1).1,
      )) m
