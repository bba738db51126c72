-- Turns of the loops of rounds and joins.
use Rattle.std.proofs.Common.{◌≡◌, ℕ, ◌+◌, ◌<◌, ◌≤◌, zero, suc, refl, sym, ap, subst, arith, Bool, true, false, is_some, is_none, Option, Some, None, Result, Ok, List, [], ◌∷◌, length, get_or, drop, add-one}
use Rattle.std.proofs.Math.Seq.{drop-cons}
use Rattle.change_core.specs.declared.addresses.Address.{Address}
use Rattle.change_core.specs.declared.changes.Change.{Change}
use Rattle.detector_core.specs.declared.prober.Probe.{Probe}
use Rattle.detector_core.specs.declared.prober.Running.{Running}
use Rattle.locked_node.specs.declared.node.LockedNode.{LockedNode}
use Rattle.locked_node.specs.Passes.{NodePass}
use Rattle.node_core.specs.Log.{one_if}
use Rattle.peer_core.specs.declared.errors.ClusterError.{ClusterError}
use Rattle.peer_core.specs.declared.rounds.Round.{Round}
use Rattle.peer_core.specs.Links.{MayAnswer}
use Rattle.peer_core.specs.Parts.{Part, onward, ended, Does}
use Rattle.peer_core.specs.Rounds.{AsksHelpers, Finishes, FinishesBy, Unless, way_of_ending, way_of_expiry, way_of_waiting}
use Rattle.peer_core.specs.Joining.{JoinsHost, JoinsHosts}
use Rattle.peer_core.proofs.Parts.{Leads, does_as, does_give, does_left, leads_rest}

pub expiry_ends : (x : Option Change) → is_none x ≡ true → way_of_expiry x ≡ ended tt
expiry_ends None e = refl
expiry_ends (Some c) e = cc

pub expiry_goes : (x : Option Change) → is_none x ≡ false → way_of_expiry x ≡ onward tt
expiry_goes None e = cc
expiry_goes (Some c) e = refl

pub waiting_ends : (x : Option Address) → is_none x ≡ true → way_of_waiting x ≡ ended tt
waiting_ends None e = refl
waiting_ends (Some h) e = cc

pub ending_goes : (x : Option Round) → is_none x ≡ true → way_of_ending x ≡ onward tt
ending_goes None e = refl
ending_goes (Some round) e = cc

pub drop_here : (xs : List Address) (i : ℕ) (x : Address) → i < length xs → x ≡ get_or xs i x → drop i xs ≡ x ∷ drop (i + 1) xs
drop_here xs i x lt e = rw (add-one, drop-cons xs i x) (ap (λ (y : Address). y ∷ drop (suc i) xs) (sym e))

drop_past : (xs : List Address) (i : ℕ) → length xs ≤ i → drop i xs ≡ []
drop_past [] zero le = refl
drop_past [] (suc i) le = refl
drop_past (x ∷ xs) zero le = absurd (omega arith)
drop_past (x ∷ xs) (suc i) le = drop_past xs i (omega arith)

none_of : (x : Option Address) → is_none x ≡ true → x ≡ None
none_of None e = refl
none_of (Some h) e = cc

one_if_few : (joined : Bool) → one_if joined ≤ 1
one_if_few true = omega arith
one_if_few false = omega arith

pub few_joined : (n m i : ℕ) (joined : Bool) → m ≡ n + one_if joined → n ≤ i → m ≤ i + 1
few_joined n m i joined e le = omega (arith, one_if_few joined)

none_is_none : (known : Option Round) → known ≡ None → is_some known ≡ true → ⊥
none_is_none None e s = cc
none_is_none (Some r) e s = cc

some_is_some : (round : Round) (known : Option Round) → known ≡ Some round → is_some known ≡ false → ⊥
some_is_some round None e s = cc
some_is_some round (Some r) e s = cc

module _ {H : Type 0} where
  -- the helpers from here on are this one and those after it
  pub asking_on : (Came : MayAnswer) (now : ℕ) (probe : Probe) (helpers : List Address) (i : ℕ) (h : Address) {locked : LockedNode H} {p q : NodePass H}
      → i < length helpers → h ≡ get_or helpers i h
      → Leads locked (AsksHelpers Came now probe helpers) (AsksHelpers Came now probe (drop i helpers)) p q
      → Leads locked (AsksHelpers Came now probe helpers) (AsksHelpers Came now probe (h ∷ drop (i + 1) helpers)) p q
  asking_on Came now probe helpers i h {locked} {p} {q} lt e m =
      subst (λ (hs : List Address). Leads locked (AsksHelpers Came now probe helpers) (AsksHelpers Came now probe hs) p q) (drop_here helpers i h lt e) m

  pub does_unless : {locked : LockedNode H} {p : NodePass H} (Rest : Part H (Option Round)) (end known : Option Round)
      → known ≡ end → is_some known ≡ true → Does locked (Unless end Rest) (Ok known) p p
  does_unless {locked = locked} {p = p} Rest None known e s = absurd (none_is_none known e s)
  does_unless {locked = locked} {p = p} Rest (Some round) known e s = does_as (ap Ok e) (does_give locked p (Some round))

  pub leads_unless : {locked : LockedNode H} {p q : NodePass H} (P Rest : Part H (Option Round)) (end known : Option Round)
      → known ≡ end → is_some known ≡ false → Leads locked P (Unless end Rest) p q → Leads locked P Rest p q
  leads_unless P Rest None known e s m = m
  leads_unless P Rest (Some round) known e s m = absurd (some_is_some round known e s)

  -- no helper is left
  pub asking_ends : (Came : MayAnswer) (now : ℕ) (probe : Probe) (helpers : List Address) (i : ℕ) {locked : LockedNode H} {p q : NodePass H}
      → length helpers ≤ i → Leads locked (AsksHelpers Came now probe helpers) (AsksHelpers Came now probe (drop i helpers)) p q
      → Does locked (AsksHelpers Came now probe helpers) (Ok None) p q
  asking_ends Came now probe helpers i {locked} {p} {q} le m =
      does_left (subst (λ (hs : List Address). Leads locked (AsksHelpers Came now probe helpers) (AsksHelpers Came now probe hs) p q) (drop_past helpers i le) m)
      (does_give locked q None)

  -- the probe that runs waits for no helper, and is completed
  pub finishing : (Came : MayAnswer) (now : ℕ) (found : Option Running) (running : Running) {r : Result (Unit {0}) ClusterError} {locked : LockedNode H} {p q : NodePass H}
      → found ≡ Some running → is_none running.waiting ≡ true
      → Does locked (FinishesBy Came now running None) r p q → Does locked (Finishes Came now found) r p q
  finishing Came now found running {r} {locked} {p} {q} e n d =
      subst (λ (x : Option Running). Does locked (Finishes Came now x) r p q) (sym e)
      (subst (λ (x : Option Address). Does locked (FinishesBy Came now running x) r p q) (sym (none_of running.waiting n)) d)

  pub joining_ends : (Came : MayAnswer) (now : ℕ) (hosts : List Address) (n : ℕ) (i : ℕ) {locked : LockedNode H} {p q : NodePass H}
      → length hosts ≤ i → Leads locked (JoinsHosts Came now 0 hosts) (JoinsHosts Came now n (drop i hosts)) p q
      → Does locked (JoinsHosts Came now 0 hosts) (Ok n) p q
  joining_ends Came now hosts n i {locked} {p} {q} le m =
      does_left (subst (λ (hs : List Address). Leads locked (JoinsHosts Came now 0 hosts) (JoinsHosts Came now n hs) p q) (drop_past hosts i le) m)
      (does_give locked q n)

  -- a host was asked, and with it this number have joined
  pub leads_joined : (Came : MayAnswer) (now : ℕ) (n m : ℕ) (h : Address) (hosts : List Address) (joined : Bool) {locked : LockedNode H} {p q : NodePass H}
      → m ≡ n + one_if joined → Does locked (JoinsHost Came now h) (Ok joined) p q
      → Leads locked (JoinsHosts Came now n (h ∷ hosts)) (JoinsHosts Came now m hosts) p q
  leads_joined Came now n m h hosts joined {locked} {p} {q} e d =
      subst (λ (x : ℕ). Leads locked (JoinsHosts Came now n (h ∷ hosts)) (JoinsHosts Came now x hosts) p q) (sym e) (leads_rest _ _ _ d)

  pub joining_on : (Came : MayAnswer) (now : ℕ) (hosts : List Address) (n : ℕ) (i : ℕ) (h : Address) {locked : LockedNode H} {p q : NodePass H}
      → i < length hosts → h ≡ get_or hosts i h
      → Leads locked (JoinsHosts Came now 0 hosts) (JoinsHosts Came now n (drop i hosts)) p q
      → Leads locked (JoinsHosts Came now 0 hosts) (JoinsHosts Came now n (h ∷ drop (i + 1) hosts)) p q
  joining_on Came now hosts n i h {locked} {p} {q} lt e m =
      subst (λ (hs : List Address). Leads locked (JoinsHosts Came now 0 hosts) (JoinsHosts Came now n hs) p q) (drop_here hosts i h lt e) m
