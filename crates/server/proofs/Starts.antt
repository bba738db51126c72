-- Why a node is not started, and what is started.
use Rattle.std.proofs.Common.{◌≡◌, ◌<◌, ◌+◌, ◌-◌, ◌↔◌, ◌∙◌, ℕ, Bool, ap, sym, subst, inl, inr, arith, All, List, [], ◌∷◌, ◌++◌, take, drop, length, Option, Some, None, Result, Ok, Err}
use Rattle.std.proofs.lemmas.List.Elements.{All-drop, All-take}
use Rattle.std.proofs.lemmas.List.{length-drop, length-take-le, take-append-drop}
use Rattle.change_core.specs.declared.addresses.Address.{Address}
use Rattle.node_core.specs.Configs.{bad_field}
use Rattle.node_core.specs.Node.{Seen}
use Rattle.node_core.specs.declared.configs.ConfigField.{ConfigField}
use Rattle.node_core.specs.declared.errors.NodeError.{NodeError}
use Rattle.node_core.specs.declared.errors.NodeError.TheVariants as node
use Rattle.locked_node.specs.declared.node.LockedNode.{LockedNode}
use Rattle.locked_node.specs.Passes.{AreAll, Fits, NodePass, opening_of}
use Rattle.server.specs.Running.{Started}
use Rattle.server.specs.Starting.{AreCountsInRange, IsCreated, IsHealedAs, IsNotCreated, IsNotStarted, IsStarted, IsUnopened, error_of_server, start_error}
use Rattle.server.specs.Working.{hosts_of}
use Rattle.server.specs.declared.errors.ServerError.{ServerError}
use Rattle.server.specs.declared.errors.ServerError.TheVariants as server
use Rattle.server.specs.declared.healing.HealingPlan.{HealingPlan}
use Rattle.server.specs.declared.servers.Server.{Server}
use Rattle.server.specs.declared.starting.Settings.{Settings}
use Rattle.server.specs.declared.starting.StartError.{StartError}

error_in : {A E : Type 0} → E → Result A E → E
error_in d (Ok a) = d
error_in d (Err e) = e

-- a port that is not opened is the error of a start whose settings are right
pub not_opened : (settings : Settings) (why : StartError) → bad_field settings.config ≡ None → AreCountsInRange settings → IsUnopened why → IsNotStarted settings why
not_opened settings why fine counts (inl is) = subst (IsNotStarted settings) (sym is) (fine, counts)
not_opened settings why fine counts (inr is) = subst (IsNotStarted settings) (sym is) fine

-- so are the errors of its threads
pub not_run : (settings : Settings) (why : ServerError) → bad_field settings.config ≡ None → AreCountsInRange settings → IsNotStarted settings (error_of_server why)
not_run settings server.NoThread fine counts = (fine, counts)
not_run settings server.Memory fine counts = fine

-- the node was refused for the first bad field, or for memory
pub not_created : {H : Type 0} (settings : Settings) (bad : Option ConfigField) → bad_field settings.config ≡ bad → (made : Result (Seen H) NodeError) (e : NodeError)
    → ((f : ConfigField) → (made ≡ Err (node.BadConfig f)) ↔ (bad_field settings.config ≡ Some f)) → (bad_field settings.config ≡ None → e ≡ node.Memory)
    → made ≡ Err e → IsNotCreated settings (start_error e)
unfolding error_in
not_created settings None is made e named memory came = subst (λ (x : NodeError). IsNotCreated settings (start_error x)) (sym (memory is)) is
not_created settings (Some f) is made e named memory came =
    let same : e ≡ node.BadConfig f = ap (error_in e) (sym came ∙ (named f).1 is) in
    subst (λ (x : NodeError). IsNotCreated settings (start_error x)) (sym same) is

module _ {H : Type 0} (locked : LockedNode H) (n handles : ℕ) (given : List (NodePass H)) (rounds : NodePass H) where
  -- the first of the passes and the others are all of them
  pub all_dealt : (first rest : List (NodePass H)) → first ≡ take n given → rest ≡ drop n given → AreAll locked (given ++ rounds ∷ []) → AreAll locked (first ++ rest ++ rounds ∷ [])
  all_dealt first rest is are all =
      subst (λ (xs : List (NodePass H)). AreAll locked (xs ++ rounds ∷ []))
      (sym (ap (λ (xs : List (NodePass H)). xs ++ rest) is ∙ ap (λ (xs : List (NodePass H)). take n given ++ xs) are ∙ take-append-drop n given)) all

  pub first_fit : (first : List (NodePass H)) → first ≡ take n given → All (Fits locked) given → All (Fits locked) first
  first_fit first is fits = subst (λ (xs : List (NodePass H)). All (Fits locked) xs) (sym is) (All-take (Fits locked) n given fits)

  pub rest_fit : (rest : List (NodePass H)) → rest ≡ drop n given → All (Fits locked) given → All (Fits locked) rest
  rest_fit rest is fits = subst (λ (xs : List (NodePass H)). All (Fits locked) xs) (sym is) (All-drop (Fits locked) n given fits)

  pub first_count : (first : List (NodePass H)) → first ≡ take n given → length given ≡ n + handles → length first ≡ n
  first_count first is count = ap length is ∙ length-take-le n given (omega (arith, count))

  pub rest_count : (rest : List (NodePass H)) → rest ≡ drop n given → length given ≡ n + handles → length rest ≡ handles
  rest_count rest is count = let left : length given - n ≡ handles = omega (arith, count) in ap length is ∙ length-drop n given ∙ left

-- what was made of this plan heals so, too
pub healed_by : (heals : Bool) (own : Address) (hosts : List Address) (plan given : Option HealingPlan) → given ≡ plan → IsHealedAs heals own hosts plan → IsHealedAs heals own hosts given
healed_by heals own hosts plan given e h = subst (λ (x : Option HealingPlan). IsHealedAs heals own hosts x) (sym e) h

module _ {H A : Type 0} (hash_of : H → List ℕ → ℕ) (hash : H) (answers : A) (settings : Settings) (created : Seen H) (locked : LockedNode H) (server : Server H A)
    (workers handles : List (NodePass H)) (rounds : NodePass H) (running : Started H A) where
  -- what was started is what the settings ask for
  pub started_by : IsCreated hash_of hash settings created → opening_of locked ≡ created → server.node ≡ locked → server.handler ≡ answers → server.timeouts ≡ settings.timeouts
      → IsHealedAs settings.heals settings.address settings.hosts.now server.healing → hosts_of server.hosts ≡ settings.hosts.now
      → length workers ≡ settings.workers → length handles ≡ settings.handles → AreAll locked (workers ++ handles ++ rounds ∷ []) → All (Fits locked) handles
      → (running.server ≡ server) × (running.rounds ≡ rounds) × (running.workers ≡ workers)
      → running.period ≡ settings.period → settings.workers + settings.handles < running.room → IsStarted hash_of hash answers settings running handles
  started_by is opened its answered waits heals joins count left all fits same period room =
      let node : running.server.node ≡ locked = ap (λ (s : Server H A). s.node) same.0 ∙ its in record {
        created = subst (λ (x : Seen H). IsCreated hash_of hash settings x) (sym (ap opening_of node ∙ opened)) is;
        handler = ap (λ (s : Server H A). s.handler) same.0 ∙ answered;
        timeouts = ap (λ (s : Server H A). s.timeouts) same.0 ∙ waits;
        healing = subst (λ (s : Server H A). IsHealedAs settings.heals settings.address settings.hosts.now s.healing) (sym same.0) heals;
        hosts = ap (λ (s : Server H A). hosts_of s.hosts) same.0 ∙ joins;
        workers = ap length same.2 ∙ count;
        count = left;
        period = period;
        all = subst (λ (x : LockedNode H). AreAll x (running.workers ++ handles ++ running.rounds ∷ [])) (sym node)
            (subst (λ (ws : List (NodePass H)). AreAll locked (ws ++ handles ++ running.rounds ∷ [])) (sym same.2)
            (subst (λ (r : NodePass H). AreAll locked (workers ++ handles ++ r ∷ [])) (sym same.1) all));
        fits = subst (λ (x : LockedNode H). All (Fits x) handles) (sym node) fits;
        room = room;
      }
