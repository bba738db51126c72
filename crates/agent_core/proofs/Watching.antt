-- The watch over the service of a node, over a run of observations.
use Rattle.std.proofs.Common.{◌≡◌, ◌≤◌, ◌+◌, ℕ, Bool, true, false, not, nat_le, nat_lt, cond, List, [], ◌∷◌, refl, sym, arith, true≢false}
use Rattle.std.specs.Prelude.{◌&&◌, ◌||◌, max, IsTrue}
use Rattle.std.specs.List.{All}
use Rattle.std.proofs.Math.Nat.{le-max_left, le-max_right}
use Rattle.std.proofs.lemmas.Bool.{and_parts, leb-true}
use Rattle.std.proofs.lemmas.List.Elements.{All-cons, All-head, All-tail, All-weaker}
use Rattle.agent_core.specs.declared.services.Move.TheVariants as move
use Rattle.agent_core.specs.declared.services.Sight.{Sight}
use Rattle.agent_core.specs.declared.services.Watch.{Watch}
use Rattle.agent_core.specs.Services.{LeavesLate, StaysOut, is_found, is_lost, watched_all}

-- whether the moment of an observation counts
abbrev counts : Sight → Bool
counts e = e.takes || e.has_left

-- what is counted is no later than a moment
abbrev IsBy : ℕ → Sight → Type 0
IsBy moment e = IsTrue (e.takes || e.has_left) → e.now ≤ moment

-- ---- the moment of the watch never goes back, and is no earlier than each that counts

kept_by : (b : Bool) (since now : ℕ) → since ≤ cond b (max since now) since
kept_by true since now = le-max_left since now
kept_by false since now = omega arith

counted_by : (b : Bool) (since now : ℕ) → IsTrue b → now ≤ cond b (max since now) since
counted_by true since now t = le-max_right since now
counted_by false since now t = absurd (true≢false (sym t))

counted : (w : Watch) (seen : List Sight) → All (IsBy (watched_all w seen).since) seen
counted w [] = λ k d low. absurd (omega (arith, low))
counted w (e ∷ seen) =
    let before = (watched_all w seen).since in
    let b = counts e in
    All-cons (IsBy (cond b (max before e.now) before)) e seen
    (λ t. counted_by b before e.now t)
    (All-weaker (IsBy before) (IsBy (cond b (max before e.now) before)) (λ x by t. omega (arith, by t, kept_by b before e.now)) seen (counted w seen))

same_after : (w : Watch) (seen : List Sight) → (watched_all w seen).after ≡ w.after
same_after w [] = refl
same_after w (e ∷ seen) = same_after w seen

-- ---- what it takes to leave

lost_if : (lost found : Bool) → cond lost move.Leave (cond found move.Rejoin move.Stay) ≡ move.Leave → lost ≡ true
lost_if true found e = refl
lost_if false true e = absurd cc
lost_if false false e = absurd cc

is_late : (w : Watch) (s : Sight) → is_lost w s ≡ true → w.since + w.after ≤ s.now
is_late w s e =
    let out = and_parts (not s.has_left) (not s.takes && (nat_lt 0 w.after && nat_le (w.since + w.after) s.now)) e in
    let none = and_parts (not s.takes) (nat_lt 0 w.after && nat_le (w.since + w.after) s.now) out.1 in
    let long = and_parts (nat_lt 0 w.after) (nat_le (w.since + w.after) s.now) none.1 in
    leb-true (w.since + w.after) s.now long.1

pub leaves_late : LeavesLate
leaves_late w earlier s leaves =
    let last = watched_all w earlier in
    let late = is_late last s (lost_if (is_lost last s) (is_found last s) leaves) in
    All-weaker (IsBy last.since) (λ e. IsTrue (e.takes || e.has_left) → e.now + w.after ≤ s.now)
    (λ e by t. omega (arith, by t, late, same_after w earlier)) earlier (counted w earlier)

-- ---- who was had leave stays out

not_lost : (w : Watch) (s : Sight) → IsTrue s.has_left → is_lost w s ≡ false
not_lost w s left = rw left refl

not_out : (out : Bool) → out ≡ false → (left : Bool) → (out && left) ≡ false
not_out out e left = rw e refl

held : (w : Watch) (seen : List Sight) → w.is_out ≡ false → All (λ (e : Sight). IsTrue e.has_left) seen → (watched_all w seen).is_out ≡ false
held w [] out all = out
held w (e ∷ seen) out all =
    let before = watched_all w seen in
    let rest = held w seen out (All-tail (λ (x : Sight). IsTrue x.has_left) e seen all) in
    let left = All-head (λ (x : Sight). IsTrue x.has_left) e seen all in
    rw (not_lost before e left) (not_out before.is_out rest e.has_left)

stays : (left takes out : Bool) (lost : Bool) → lost ≡ false → out ≡ false → cond lost move.Leave (cond (left && (takes && out)) move.Rejoin move.Stay) ≡ move.Stay
stays true true out lost e f = rw e rw f refl
stays true false out lost e f = rw e refl
stays false takes out lost e f = rw e refl

pub stays_out : StaysOut
stays_out w earlier s out all left =
    let last = watched_all w earlier in
    stays s.has_left s.takes last.is_out (is_lost last s) (not_lost last s left) (held w earlier out all)
