-- The bytes of a body that come one after the other.
use Rattle.std.proofs.Common.{◌≡◌, ◌∙◌, ◌+◌, ◌-◌, ◌<◌, ◌≤◌, ℕ, IsFalse, ap, arith, subst, sym}
use Rattle.agent_http.specs.declared.framings.Framing.{Framing}
use Rattle.agent_http.specs.Framings.{past}

with_body : Framing → ℕ → Framing
with_body place body = record { line = place.line; len = place.len; has_head = place.has_head; body = body; is_lost = place.is_lost }

one_less : (body count : ℕ) → (body - count) - 1 ≡ body - (count + 1)
one_less body count = omega arith

some_left : (body count : ℕ) → count + 1 ≤ body → 0 < body - count
some_left body count within = omega arith

past_one : (count : ℕ) (first : Framing) → past 1 (past count first) ≡ past (count + 1) first
unfolding with_body
past_one count first = ap (with_body first) (one_less first.body count)

-- one more byte
pub one_more : (count : ℕ) (first place next : Framing) → (IsFalse first.has_head → count ≤ first.body → place ≡ past count first)
    → (IsFalse place.has_head → 0 < place.body → next ≡ past 1 place) → IsFalse first.has_head → count + 1 ≤ first.body → next ≡ past (count + 1) first
one_more count first place next so step heads within =
    let before = so heads (omega arith) in
    step (subst (λ (p : Framing). IsFalse p.has_head) (sym before) heads) (subst (λ (p : Framing). 0 < p.body) (sym before) (some_left first.body count within))
    ∙ ap (past 1) before ∙ past_one count first
