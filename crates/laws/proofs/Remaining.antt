-- What a node has left to do, in messages of a round: each change that is news to it is taken and then passed on, and what is pending is passed on.
use Rattle.std.proofs.Common.{arith, ◌≡◌, ◌⊎◌, ℕ, ◌+◌, ◌-◌, ◌*◌, ◌/◌, ◌<◌, ◌≤◌, List, [], ◌∷◌, length, Option, refl, sym, ◌∙◌, ap, inl, inr}
use Rattle.std.proofs.Math.Nat.{add-mul, le-max_left, lt-div-mul-add, mul_assoc, mul-le-mul_right}
use Rattle.std.proofs.lemmas.Bool.{cases_lt}
use Rattle.change_core.specs.declared.statuses.Status.{Status}
use Rattle.change_core.specs.Ascending.{In}
use Rattle.gossip_core.specs.declared.pending.Pending.{Pending}
use Rattle.node_core.specs.Node.{Node}
use Rattle.laws.specs.Rounds.{Size, round_messages, quiet_after}
use Rattle.laws.proofs.Measure.{unsent-few}
use Rattle.laws.proofs.Moving.{IsClosed, Less, news_of, pending_of, unsent-falls, unsent_of}

-- messages of a round, and those that are left for what is pending
module _ (size : Size) where
  abbrev pub messages : ℕ
  messages = round_messages (length size.nodes)

  abbrev pub waits : List Pending → ℕ
  waits [] = 0
  waits (q ∷ qs) = messages

  pub waits-few : (qs : List Pending) → waits qs ≤ messages
  waits-few [] = omega arith
  waits-few (q ∷ qs) = omega arith

  pub waits-some : (q : Pending) (qs : List Pending) → In q qs → waits qs ≡ messages
  waits-some q [] h = absurd h
  waits-some q (r ∷ rs) h = refl

  -- this number of messages is left at most

  abbrev pub top : ℕ
  top = (size.news + size.pending) * size.limit + size.news * (2 * messages) + messages

  pub top-less : top < quiet_after size * messages
  top-less =
      let all : ℕ = (size.news + size.pending) * size.limit in
      let one : 1 ≤ messages = le-max_left 1 (2 * (length size.nodes - 2)) in
      let whole : all < all / messages * messages + messages = lt-div-mul-add (omega (arith, one)) in
      let first : (2 * size.news + all / messages + 2) * messages ≡ (2 * size.news + all / messages) * messages + 2 * messages = add-mul (2 * size.news + all / messages) 2 messages in
      let second : (2 * size.news + all / messages) * messages ≡ 2 * size.news * messages + all / messages * messages = add-mul (2 * size.news) (all / messages) messages in
      let third : size.news * (2 * messages) ≡ 2 * size.news * messages = sym (mul_assoc size.news 2 messages) ∙ ap (λ n. n * messages) (omega arith) in
      omega (arith, whole, first, second, third)

module _ {H : Type 0} (size : Size) (status_of : ℕ → Option Status) (closed : IsClosed size.changes status_of) where
  abbrev news : Option (Node H) → ℕ
  news o = news_of size status_of closed o

  abbrev unsent_by : Option (Node H) → ℕ
  unsent_by o = unsent_of size status_of closed o

  abbrev pending : Option (Node H) → List Pending
  pending o = pending_of size status_of closed o

  abbrev IsLess : Option (Node H) → Option (Node H) → Type 0
  IsLess o p = Less size status_of closed o p

  -- a node takes nothing that is news to it and passes nothing on
  pub record IsQuiet (o p : Option (Node H)) : Type 0 where
    pub no_news : news o ≤ news p
    pub no_less : unsent_by o ≤ unsent_by p

  -- a node is quiet in both of two parts in which it is

  pub quiet-first : (o p q : Option (Node H)) → IsLess o p → IsLess p q → IsQuiet o q → IsQuiet o p
  quiet-first o p q first second quiet =
      let first_news : news p ≤ news o = first.news in
      let second_news : news q ≤ news p = second.news in
      let fell : unsent_by q ≤ unsent_by p = unsent-falls size status_of closed p q second (omega (arith, first_news, quiet.no_news)) in
      record { no_news = omega (arith, second_news, quiet.no_news); no_less = omega (arith, fell, quiet.no_less) }

  pub quiet-rest : (o p q : Option (Node H)) → IsLess o p → IsLess p q → IsQuiet o q → IsQuiet p q
  quiet-rest o p q first second quiet =
      let first_news : news p ≤ news o = first.news in
      let second_news : news q ≤ news p = second.news in
      let fell : unsent_by p ≤ unsent_by o = unsent-falls size status_of closed o p first (omega (arith, second_news, quiet.no_news)) in
      record { no_news = omega (arith, first_news, quiet.no_news); no_less = omega (arith, fell, quiet.no_less) }

  pub quiet-or_not : (o p : Option (Node H)) → IsQuiet o p ⊎ (IsQuiet o p → ⊥)
  quiet-or_not o p = elim (cases_lt (news p) (news o)) [
    | inl took ↦ inr (λ quiet. absurd (omega (arith, took, quiet.no_news)))
    | inr no_news ↦ elim (cases_lt (unsent_by p) (unsent_by o)) [
      | inl fell ↦ inr (λ quiet. absurd (omega (arith, fell, quiet.no_less)))
      | inr no_less ↦ inl (record { no_news = no_news; no_less = no_less })
    ]
  ]

  -- what a node has left to do, in messages of a round

  abbrev pub left : Option (Node H) → ℕ
  left o = (news o * size.limit + unsent_by o) + news o * (2 * messages size) + waits size (pending o)

  pub left-top : (o p : Option (Node H)) → IsLess o p → news o ≤ size.news → length (pending o) ≤ size.pending → left p ≤ top size
  left-top o p less few_news few_pending =
      let fewer : news p ≤ news o = less.news in
      let work : news p * size.limit + unsent_by p ≤ news o * size.limit + unsent_by o = less.work in
      let unsent_few : unsent_by o ≤ length (pending o) * size.limit = unsent-few size.limit (pending o) in
      let to_take : news o * size.limit ≤ size.news * size.limit = mul-le-mul_right size.limit few_news in
      let to_pass : length (pending o) * size.limit ≤ size.pending * size.limit = mul-le-mul_right size.limit few_pending in
      let turns : news p * (2 * messages size) ≤ size.news * (2 * messages size) = mul-le-mul_right (2 * messages size) (omega (arith, fewer, few_news)) in
      let sum : (size.news + size.pending) * size.limit ≡ size.news * size.limit + size.pending * size.limit = add-mul size.news size.pending size.limit in
      let wait : waits size (pending p) ≤ messages size = waits-few size (pending p) in
      omega (arith, work, unsent_few, to_take, to_pass, turns, sum, wait)
