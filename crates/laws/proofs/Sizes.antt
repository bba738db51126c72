-- The size of a cluster from the entries that its nodes hold.
use Rattle.std.proofs.Common.{arith, ◌≡◌, ◌≢◌, ℕ, ◌+◌, ◌*◌, ◌≤◌, List, ◌++◌, length, map, Option, Some, None, sym, ◌∙◌, ap, subst, inl, inr}
use Rattle.std.specs.List.{count_by}
use Rattle.std.proofs.lemmas.List.{length-append, length-map}
use Rattle.std.proofs.lemmas.List.Sums.{count_by-le-length}
use Rattle.change_core.specs.declared.changes.Change.{Change}
use Rattle.change_core.specs.declared.statuses.Status.{Status}
use Rattle.change_core.specs.Ascending.{In}
use Rattle.change_core.specs.Members.{addresses, is_news}
use Rattle.change_core.specs.Refutation.{refutation}
use Rattle.change_core.proofs.Members.{IsRising-addresses}
use Rattle.change_core.proofs.Order.{in_append, in_append_left, in_append_right}
use Rattle.hash_ring.proofs.ListMembers.{map_in}
use Rattle.node_core.specs.Node.{Node, own_change}
use Rattle.node_core.proofs.Listed.{In-map}
use Rattle.laws.specs.Convergence.{Nodes}
use Rattle.laws.specs.Rounds.{EntriesSize}
use Rattle.laws.proofs.Measure.{no_more-addresses, in_addresses, addresses_in}

module _ {H : Type 0} (nodes : Nodes H) (entries : List Change) (weight_of : ℕ → ℕ) (one_weight : (c : Change) → In c entries → c.weight ≡ weight_of c.address) where
  -- the status that the node at an address has of itself
  abbrev status_at : Option (Node H) → Status → Status
  status_at None s = s
  status_at (Some node) s = (own_change node).status

  abbrev answered : Change → Change
  answered c = record { address = c.address; incarnation = c.incarnation + 1; status = status_at (nodes c.address) c.status; weight = c.weight }

  abbrev changes : List Change
  changes = entries ++ map answered entries

  twice : length changes ≡ 2 * length entries
  twice =
      let both : length changes ≡ length entries + length (map answered entries) = length-append entries (map answered entries) in
      let same : length (map answered entries) ≡ length entries = length-map entries answered in
      omega (arith, both, same)

  weighs : (c : Change) → In c changes → c.weight ≡ weight_of c.address
  weighs c h = elim (in_append c entries (map answered entries) h) [
    | inl e ↦ one_weight c e
    | inr m ↦ let r = In-map answered c entries m in
        subst (λ (d : Change). d.weight ≡ weight_of d.address) r.2 (one_weight r.0 r.1)
  ]

  -- an answer has the status of its address
  answers : (node : Node H) (c : Change) → nodes c.address ≡ Some node → In c (map answered entries) → c.status ≡ (own_change node).status
  answers node c there m =
      let r = In-map answered c entries m in
      let at : nodes r.0.address ≡ Some node = ap (λ (d : Change). nodes d.address) r.2 ∙ there in
      ap (λ (d : Change). d.status) (sym r.2) ∙ ap (λ (o : Option (Node H)). status_at o r.0.status) at

  refuted : (a : ℕ) (node : Node H) (c d : Change) → nodes a ≡ Some node → In c changes → In d changes → c.address ≡ a → d.address ≡ a
      → d.status ≡ (own_change node).status → c.status ≢ d.status → In (refutation d c) changes
  refuted a node c d there in_c in_d c_at d_at own other = elim (in_append c entries (map answered entries) in_c) [
    | inl e ↦
        let address : c.address ≡ d.address = c_at ∙ sym d_at in
        let status : status_at (nodes c.address) c.status ≡ d.status = ap (λ (o : Option (Node H)). status_at o c.status) (ap nodes c_at ∙ there) ∙ sym own in
        let weight : c.weight ≡ d.weight = weighs c in_c ∙ ap weight_of address ∙ sym (weighs d in_d) in
        subst (λ (x : Change). In x changes) (λ j. record { address = address j; incarnation = c.incarnation + 1; status = status j; weight = weight j })
        (in_append_right (answered c) entries (map answered entries) (map_in answered c entries e))
    | inr m ↦ absurd (other (answers node c (ap nodes c_at ∙ there) m ∙ sym own))
  ]

  -- the changes name no more addresses than the entries
  few_addresses : length (addresses changes) ≤ length (addresses entries)
  few_addresses = no_more-addresses (addresses changes) (addresses entries) (IsRising-addresses changes) among
    where
      among : (a : ℕ) → In a (addresses changes) → In a (addresses entries)
      among a h =
          let r = addresses_in a changes h in
          elim (in_append r.0 entries (map answered entries) r.1) [
            | inl e ↦ subst (λ (x : ℕ). In x (addresses entries)) r.2 (in_addresses r.0 entries e)
            | inr m ↦
                let q = In-map answered r.0 entries m in
                subst (λ (x : ℕ). In x (addresses entries)) (ap (λ (d : Change). d.address) q.2 ∙ r.2) (in_addresses q.0 entries q.1)
          ]

pub entries_size : {H : Type 0} → EntriesSize H
entries_size nodes some entries weight_of pending limit held one_weight pend limits rising there = (
  changes nodes entries weight_of one_weight,
  record {
    ascending = rising;
    there = there;
    held = λ a x node c at h. in_append_left c entries (map (answered nodes entries weight_of one_weight) entries) (held a x node c at h);
    refuted = refuted nodes entries weight_of one_weight;
    news = λ a node at.
        let most : count_by (is_news node.members) (changes nodes entries weight_of one_weight) ≤ length (changes nodes entries weight_of one_weight)
        = count_by-le-length (is_news node.members) (changes nodes entries weight_of one_weight) in
        let long : length (changes nodes entries weight_of one_weight) ≡ 2 * length entries = twice nodes entries weight_of one_weight in
        omega (arith, most, long);
    pending = pend;
    limits = λ a n node at h.
        let few : length (addresses (changes nodes entries weight_of one_weight)) ≤ length (addresses entries) = few_addresses nodes entries weight_of one_weight in
        limits a n node at (omega (arith, h, few));
  },
)
