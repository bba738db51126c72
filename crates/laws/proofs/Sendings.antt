-- How many messages a node sends by pings that are acknowledged, those to one address apart: its pings, and its acks.
use Rattle.std.proofs.Common.{arith, ◌≡◌, ◌≢◌, ℕ, ◌+◌, ◌≤◌, ◌&&◌, Bool, true, false, cond, eqb, not, List, [], ◌∷◌, length, map, refl, sym, ◌∙◌, ap, subst, inl, inr}
use Rattle.std.specs.Prelude.{filter}
use Rattle.std.specs.List.{count_by}
use Rattle.std.proofs.lemmas.Bool.{and_parts, cases_eq, eqb-false, eqb-true, not-true}
use Rattle.std.proofs.lemmas.List.{length-map}
use Rattle.std.proofs.lemmas.List.Sums.{length-filter, sum_by-cons}
use Rattle.change_core.specs.Ascending.{In}
use Rattle.change_core.specs.Members.{IsRising}
use Rattle.change_core.proofs.Order.{filter_in}
use Rattle.hash_ring.proofs.ListMembers.{map_in}
use Rattle.laws.specs.Rounds.{Fate, Acknowledged, AckLost, PingLost, SentPing}
use Rattle.laws.proofs.Measure.{no_more-addresses}

-- acknowledged pings by which a node sends a message to any but the source: by its ping, and by its ack

abbrev pub is_acked : Fate → Bool
is_acked Acknowledged = true
is_acked AckLost = false
is_acked PingLost = false

abbrev pub is_pinger : ℕ → ℕ → SentPing → Bool
is_pinger b source s = eqb s.ping.pinger b && (not (eqb s.ping.pinged source) && is_acked s.fate)

abbrev pub is_pinged : ℕ → ℕ → SentPing → Bool
is_pinged b source s = eqb s.ping.pinged b && (not (eqb s.ping.pinger source) && is_acked s.fate)

abbrev pub sent_in : ℕ → ℕ → List SentPing → ℕ
sent_in b source ss = count_by (is_pinger b source) ss + count_by (is_pinged b source) ss

sent-first : (b source : ℕ) (s : SentPing) (ss : List SentPing)
    → sent_in b source (s ∷ ss) ≡ (cond (is_pinger b source s) 1 0 + cond (is_pinged b source s) 1 0) + sent_in b source ss
sent-first b source s ss =
    let pinger : count_by (is_pinger b source) (s ∷ ss) ≡ cond (is_pinger b source s) 1 0 + count_by (is_pinger b source) ss = sum_by-cons (λ t. cond (is_pinger b source t) 1 0) s ss in
    let pinged : count_by (is_pinged b source) (s ∷ ss) ≡ cond (is_pinged b source s) 1 0 + count_by (is_pinged b source) ss = sum_by-cons (λ t. cond (is_pinged b source t) 1 0) s ss in
    omega (arith, pinger, pinged)

pub sent-more : (b source : ℕ) (s : SentPing) (ss : List SentPing) → sent_in b source (s ∷ ss) ≡ sent_in b source (s ∷ []) + sent_in b source ss
sent-more b source s ss =
    let all : sent_in b source (s ∷ ss) ≡ (cond (is_pinger b source s) 1 0 + cond (is_pinged b source s) 1 0) + sent_in b source ss = sent-first b source s ss in
    let one : sent_in b source (s ∷ []) ≡ (cond (is_pinger b source s) 1 0 + cond (is_pinged b source s) 1 0) + 0 = sent-first b source s [] in
    omega (arith, all, one)

-- one ping is a message of its pinger and one of its pinged, if it was acknowledged
pub one-sent : (b source : ℕ) (s : SentPing) (was is : ℕ) → s.ping.pinger ≢ s.ping.pinged → is ≤ was → (s.ping.pinger ≡ b → s.ping.pinged ≢ source → is + 1 ≤ was)
    → (s.ping.pinged ≡ b → s.ping.pinger ≢ source → is + 1 ≤ was) → is + sent_in b source (s ∷ []) ≤ was
one-sent b source s was is apart fell pinger pinged =
    let first : sent_in b source (s ∷ []) ≡ (cond (is_pinger b source s) 1 0 + cond (is_pinged b source s) 1 0) + 0 = sent-first b source s [] in
    let rest : is + (cond (is_pinger b source s) 1 0 + cond (is_pinged b source s) 1 0) ≤ was = by_tests (is_pinger b source s) (is_pinged b source s) refl refl in
    omega (arith, first, rest)
  where
    named : (x y : ℕ) → (eqb x b && (not (eqb y source) && is_acked s.fate)) ≡ true → (x ≡ b) × (y ≢ source)
    named x y e =
        let parts = and_parts (eqb x b) (not (eqb y source) && is_acked s.fate) e in
        let more = and_parts (not (eqb y source)) (is_acked s.fate) parts.1 in
        (eqb-true x b parts.0, eqb-false y source (not-true (eqb y source) more.0))

    by_tests : (x y : Bool) → is_pinger b source s ≡ x → is_pinged b source s ≡ y → is + (cond x 1 0 + cond y 1 0) ≤ was
    by_tests true true e f = absurd (apart ((named s.ping.pinger s.ping.pinged e).0 ∙ sym (named s.ping.pinged s.ping.pinger f).0))
    by_tests true false e f =
        let n = named s.ping.pinger s.ping.pinged e in
        let less : is + 1 ≤ was = pinger n.0 n.1 in
        omega (arith, less)
    by_tests false true e f =
        let n = named s.ping.pinged s.ping.pinger f in
        let less : is + 1 ≤ was = pinged n.0 n.1 in
        omega (arith, less)
    by_tests false false e f = omega (arith, fell)

pub none-sent : (b source : ℕ) (s : SentPing) (was is : ℕ) → is_acked s.fate ≡ false → is ≤ was → is + sent_in b source (s ∷ []) ≤ was
none-sent b source s was is lost fell =
    let first : sent_in b source (s ∷ []) ≡ (cond (is_pinger b source s) 1 0 + cond (is_pinged b source s) 1 0) + 0 = sent-first b source s [] in
    let pinger : ◌≡◌ {A = ℕ} (cond (is_pinger b source s) 1 0) 0 = ap (λ x. cond x 1 0) (unacked (eqb s.ping.pinger b) (not (eqb s.ping.pinged source))) in
    let pinged : ◌≡◌ {A = ℕ} (cond (is_pinged b source s) 1 0) 0 = ap (λ x. cond x 1 0) (unacked (eqb s.ping.pinged b) (not (eqb s.ping.pinger source))) in
    omega (arith, first, pinger, pinged, fell)
  where
    never : (x y : Bool) → (x && (y && false)) ≡ false
    never true true = refl
    never true false = refl
    never false y = refl

    unacked : (x y : Bool) → (x && (y && is_acked s.fate)) ≡ false
    unacked x y = ap (λ f. x && (y && f)) lost ∙ never x y

-- messages to each of the nodes but one and the source
pub reaches-each : (nodes : List ℕ) (b source : ℕ) (f : SentPing → ℕ) (test : SentPing → Bool) (ss : List SentPing)
    → ((a : ℕ) → In a nodes → a ≢ b → a ≢ source → (s : SentPing) × In s ss × (f s ≡ a) × (test s ≡ true)) → IsRising nodes
    → length nodes ≤ 2 + count_by test ss
reaches-each nodes b source f test ss each rising =
    let some : List SentPing = filter test ss in
    let few : length nodes ≤ length (b ∷ source ∷ map f some) = no_more-addresses nodes (b ∷ source ∷ map f some) rising among in
    let mapped : length (map f some) ≡ length some = length-map some f in
    let counted : length some ≡ count_by test ss = length-filter test ss in
    omega (arith, few, mapped, counted)
  where
    among : (a : ℕ) → In a nodes → In a (b ∷ source ∷ map f (filter test ss))
    among a h = elim (cases_eq a b) [
      | inl is ↦ inl is
      | inr apart ↦ inr (elim (cases_eq a source) [
        | inl is ↦ inl is
        | inr other ↦ inr (let r = each a h apart other in
            subst (λ (c : ℕ). In c (map f (filter test ss))) r.2 (map_in f r.0 (filter test ss) (filter_in test r.0 ss r.1 r.3)))
      ])
    ]
