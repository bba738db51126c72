-- What a command makes of a script.
use Rattle.std.proofs.Common.{◌≡◌, ℕ, ◌<◌, ◌≤◌, Bool, true, false, Option, Some, None, Result, Ok, Err, List, [], ◌∷◌, ◌++◌, length, get_or, refl, sym, ap, ◌∙◌, arith, inl, inr}
use Rattle.std.specs.Prelude.{◌⊎◌, is_some}
use Rattle.std.specs.Option.{IfSome}
use Rattle.std.specs.Result.{IfErr, IfOk}
use Rattle.std.proofs.lemmas.List.{map-append}
use Rattle.message_core.specs.declared.messages.Message.{Message}
use Rattle.node_core.specs.declared.events.Received.TheVariants as received
use Rattle.node_core.specs.declared.events.Taken.{Taken}
use Rattle.node_core.specs.Node.{Node, Seen, own_change}
use Rattle.cli_core.specs.declared.scripts.answers.Answer.{Answer}
use Rattle.cli_core.specs.declared.scripts.lines.Command.TheVariants as command
use Rattle.cli_core.specs.declared.scripts.lines.Question.{Question}
use Rattle.cli_core.specs.declared.scripts.messages.Sent.{Sent}
use Rattle.cli_core.specs.declared.scripts.faults.ScriptError.{ScriptError}
use Rattle.cli_core.specs.declared.scripts.faults.ScriptError.TheVariants as fault
use Rattle.cli_core.specs.Simulated.{Comes, GoesOn, IsPlace, IsRefusedFor, NodeAnswers, NodeLacks, Obeys, Simulated, most_messages, node_at, nodes_in, with_node}
use Rattle.cli_core.proofs.ScriptPlaces.{place_node}

abbrev pub simulated_of : {H : Type 0} → H → ℕ → ℕ → List (Node H) → List Sent → Simulated H
simulated_of hash replicas moment nodes messages = record { hash = hash; replicas = replicas; moment = moment; nodes = nodes; messages = messages }

-- ---- the node of an address

pub place_held : {H : Type 0} (seen : List (Seen H)) (a i : ℕ) → IsPlace seen a i → (n : Node H) × (node_at (nodes_in seen) a ≡ Some n)
place_held [] a i p = absurd (let w = p.within in omega (arith, w))
place_held (s ∷ seen) a i p = ((get_or (s ∷ seen) i s).node, place_node (s ∷ seen) a i s p)

some_none : {X : Type 0} (x : X) → Some x ≡ None → ⊥
some_none x e = cc

pub place_known : {H : Type 0} (seen : List (Seen H)) (a i : ℕ) → IsPlace seen a i → node_at (nodes_in seen) a ≡ None → ⊥
place_known seen a i p none = let (n, e) = place_held seen a i p in some_none n (sym e ∙ none)

true_false : true ≡ false → ⊥
true_false e = cc

pub exists_place : {H : Type 0} (seen : List (Seen H)) (a : ℕ) (o : Option ℕ) (b : Bool) → b ≡ true → b ≡ is_some o → IfSome o (λ i. IsPlace seen a i) → node_at (nodes_in seen) a ≡ None → ⊥
exists_place seen a None b t e p none = true_false (sym t ∙ e)
exists_place seen a (Some i) b t e p none = place_known seen a i p none

pub absent_place : {H : Type 0} (seen : List (Seen H)) (a : ℕ) (o : Option ℕ) (b : Bool) → b ≡ false → b ≡ is_some o → (o ≡ None → node_at (nodes_in seen) a ≡ None) → node_at (nodes_in seen) a ≡ None
absent_place seen a None b f e none = none refl
absent_place seen a (Some i) b f e none = absurd (true_false (sym e ∙ f))

-- ---- nodes that are made

pub nodes_push : {H : Type 0} (seen after : List (Seen H)) (x : Seen H) (n : Node H) → after ≡ seen ++ x ∷ [] → x.node ≡ n → nodes_in after ≡ nodes_in seen ++ n ∷ []
nodes_push {H} seen after x n e is = ap nodes_in e ∙ map-append (λ (s : Seen H). s.node) seen (x ∷ []) ∙ ap (λ m. nodes_in seen ++ m ∷ []) is

pub held_not_below : {H : Type 0} (seen : List (Seen H)) (a i held given : ℕ) → IsPlace seen a i → IfSome (node_at (nodes_in seen) a) (λ n. held ≡ (own_change n).incarnation) → given ≤ held
    → (x : Node H) × (node_at (nodes_in seen) a ≡ Some x) × (given ≤ (own_change x).incarnation)
held_not_below seen a i held given p h l =
    let (n, e) = place_held seen a i p in
    let is = rw e at h in
    (n, e, omega (arith, is, l))

pub held_below : {H : Type 0} (seen : List (Seen H)) (a i held given : ℕ) → IsPlace seen a i → IfSome (node_at (nodes_in seen) a) (λ n. held ≡ (own_change n).incarnation) → held < given
    → (x : Node H) × (node_at (nodes_in seen) a ≡ Some x) × ((own_change x).incarnation < given)
held_below seen a i held given p h l =
    let (n, e) = place_held seen a i p in
    let is = rw e at h in
    (n, e, omega (arith, is, l))

pub restarted : {H : Type 0} (seen : List (Seen H)) (a i held given : ℕ) (x created : Node H) → IsPlace seen a i → IfSome (node_at (nodes_in seen) a) (λ n. held ≡ (own_change n).incarnation)
    → held < given → x ≡ created → GoesOn (nodes_in seen) a (λ before after. ((own_change before).incarnation < given) × (after ≡ created)) (with_node (nodes_in seen) a x)
restarted seen a i held given x created p h l is =
    let (n, e) = place_held seen a i p in
    let own = rw e at h in
    (n, x, e, (omega (arith, own, l), is), refl)

-- ---- nodes that are asked

pub asks : {H : Type 0} (hash_of : H → List ℕ → ℕ) (old : Simulated H) (a : ℕ) (question : Question) (nodes : List (Node H)) (r : Result Answer ScriptError)
    → IfOk r (λ answer. GoesOn old.nodes a (λ before after. NodeAnswers hash_of old.moment before question answer after) nodes)
    → IfOk r (λ answer. Obeys hash_of old (command.Ask a question) answer (record old { nodes = nodes }))
asks hash_of old a question nodes (Ok answer) h = (nodes, h, refl)
asks hash_of old a question nodes (Err f) h = tt

pub lacks : {H : Type 0} (hash_of : H → List ℕ → ℕ) (old : Simulated H) (a : ℕ) (question : Question) (nodes : List (Node H)) (r : Result Answer ScriptError)
    → IfErr r (λ f. (f ≡ fault.OutOfMemory) ⊎ ((f ≡ fault.UnknownNode) × (node_at old.nodes a ≡ None)))
    → IfErr r (λ f. f ≡ fault.OutOfMemory → GoesOn old.nodes a (λ before after. NodeLacks hash_of old.moment before question after) nodes)
    → IfErr r (λ f. IsRefusedFor hash_of old (command.Ask a question) f)
lacks hash_of old a question nodes (Ok answer) h memory = tt
lacks hash_of old a question nodes (Err f) (inl e) memory = rw e (nodes, memory e)
lacks hash_of old a question nodes (Err f) (inr p) memory = rw p.0 p.1

-- ---- messages

-- what keeping a message is refused for
abbrev pub IsUnkept : List Sent → ScriptError → Type 0
IsUnkept messages f = ((f ≡ fault.OutOfMemory) × (length messages < most_messages)) ⊎ ((f ≡ fault.TooManyMessages) × (most_messages ≤ length messages))

pub send_refused : {H : Type 0} (hash_of : H → List ℕ → ℕ) (old : Simulated H) (a target : ℕ) (f : ScriptError) → (node_at old.nodes a ≡ None → ⊥) → IsUnkept old.messages f
    → IsRefusedFor hash_of old (command.Send a target) f
send_refused hash_of old a target f held (inl p) = rw p.0 (held, p.1)
send_refused hash_of old a target f held (inr p) = rw p.0 (held, p.1)

pub answer_refused : {H : Type 0} (hash_of : H → List ℕ → ℕ) (old : Simulated H) (n : ℕ) (sent : Sent) (nodes : List (Node H)) (taken : Taken) (message : Message) (f : ScriptError)
    → Comes hash_of old n sent (received.Answer taken message) nodes → IsUnkept old.messages f → IsRefusedFor hash_of old (command.Deliver n) f
answer_refused hash_of old n sent nodes taken message f h (inl p) = rw p.0 (sent, nodes, taken, inr (message, h, p.1))
answer_refused hash_of old n sent nodes taken message f h (inr p) = rw p.0 (sent, nodes, taken, message, h, p.1)
