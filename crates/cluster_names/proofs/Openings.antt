-- The beginning of a line tells its name and what follows.
use Rattle.std.proofs.Common.{◌≡◌, ◌≢◌, ◌++◌, ◌∷◌, [], ℕ, true, List, Option, None, Some, IfNone, IfSome, drop, get_or, refl, sym, ap, ap₂, subst, ◌∙◌, append_assoc, arith}
use Rattle.std.specs.Option.{MatchOption}
use Rattle.std.proofs.lemmas.List.Elements.{All-head, All-tail}
use Rattle.std.specs.List.{All}
use Rattle.json.specs.Print.{escape_byte}
use Rattle.serde_json.specs.Written.{compact_text}
use Rattle.message_core.specs.declared.messages.Content.{Content}
use Rattle.message_core.specs.declared.messages.Content.TheVariants.{Join, Joined, Ping, Ack, PingReq, PingReqAck, Forward, Reply, NotOwner, Refused}
use Rattle.message_core.specs.declared.messages.Message.{Message}
use Rattle.wire_json.specs.Messages.{message_data}
use Rattle.cluster_names.specs.Names.{IsName, IsPlain, is_name_byte, named}

-- a byte that may stand in a name
abbrev fits : ℕ → Type 0
fits byte = is_name_byte byte ≡ true

-- the byte at which a list begins, and its fourth one; 0 if it has none
abbrev first : List ℕ → ℕ
first xs = get_or xs 0 0

abbrev fourth : List ℕ → ℕ
fourth xs = get_or xs 3 0

-- a quote ends a name, so a name and what follows its quote are told apart in one way
pub one_name : (a b x y : List ℕ) → All (λ byte. is_name_byte byte ≡ true) a → All (λ byte. is_name_byte byte ≡ true) b → a ++ 34 ∷ x ≡ b ++ 34 ∷ y → (a ≡ b) × (x ≡ y)
one_name [] [] x y a_fits b_fits e = (refl, ap (drop 1) e)
one_name [] (d ∷ b) x y a_fits b_fits e =
    let quote : is_name_byte 34 ≡ true = subst fits (sym (ap first e)) (All-head fits d b b_fits) in absurd (cc)
one_name (c ∷ a) [] x y a_fits b_fits e =
    let quote : is_name_byte 34 ≡ true = subst fits (ap first e) (All-head fits c a a_fits) in absurd (cc)
one_name (c ∷ a) (d ∷ b) x y a_fits b_fits e =
    let rest = one_name a b x y (All-tail fits c a a_fits) (All-tail fits d b b_fits) (ap (drop 1) e) in
    (ap₂ (λ n xs. n ∷ xs) (ap first e) rest.0, rest.1)

-- a line that begins with a brace is a brace and what follows
plain_is : (line : List ℕ) → IsPlain line → line ≡ 123 ∷ drop 1 line
plain_is line plain = plain.1 ∙ sym (ap (λ xs. 123 ∷ drop 1 xs) plain.1)

-- no two lines without a name, or names, have one line with a name
pub one_line : (a b x y : List ℕ) → IsName a → IsName b → IsPlain x → IsPlain y → named a x ≡ named b y → (a ≡ b) × (x ≡ y)
one_line a b x y a_name b_name x_plain y_plain e =
    let apart : a ++ 34 ∷ 44 ∷ drop 1 x ≡ b ++ 34 ∷ 44 ∷ drop 1 y =
    sym (append_assoc a (34 ∷ 44 ∷ []) (drop 1 x)) ∙ ap (drop 12) e ∙ append_assoc b (34 ∷ 44 ∷ []) (drop 1 y) in
    let both = one_name a b (44 ∷ drop 1 x) (44 ∷ drop 1 y) a_name.each b_name.each apart in
    (both.0, plain_is x x_plain ∙ ap (λ xs. 123 ∷ drop 1 xs) both.1 ∙ sym (plain_is y y_plain))

-- the fourth byte of a line with a name is no other letter
not_h : ◌≡◌ {A = ℕ} 104 108 → ⊥
not_h e = absurd (omega arith)

not_o : ◌≡◌ {A = ℕ} 111 108 → ⊥
not_o e = absurd (omega arith)

not_i : ◌≡◌ {A = ℕ} 105 108 → ⊥
not_i e = absurd (omega arith)

-- the first field of a message is `body`, `changes` or `kind`
unnamed_by : (name line : List ℕ) (source incarnation : ℕ) (content : Content)
    → compact_text (message_data (record { source = source; source_incarnation = incarnation; content = content })) ≢ named name line
unfolding escape_byte
unnamed_by name line s i (Join g) e = not_h (ap fourth e)
unnamed_by name line s i (Joined g) e = not_h (ap fourth e)
unnamed_by name line s i (Ping g) e = not_h (ap fourth e)
unnamed_by name line s i (Ack g) e = not_h (ap fourth e)
unnamed_by name line s i (PingReq g a) e = not_h (ap fourth e)
unnamed_by name line s i (PingReqAck g a b) e = not_h (ap fourth e)
unnamed_by name line s i (Forward ks t) e = not_o (ap fourth e)
unnamed_by name line s i (Reply t) e = not_o (ap fourth e)
unnamed_by name line s i NotOwner e = not_i (ap fourth e)
unnamed_by name line s i (Refused r) e = not_i (ap fourth e)

-- the line of a message has no name
pub unnamed : (name line : List ℕ) (message : Message) → compact_text (message_data message) ≢ named name line
unnamed name line message e = unnamed_by name line message.source message.source_incarnation message.content e

-- the two halves of a case
pub if_some : {X : Type 0} (A : Type 0) (B : X → Type 0) (r : Option X) → MatchOption r A B → IfSome r B
if_some A B None found = tt
if_some A B (Some x) found = found

pub if_none : {X : Type 0} (A : Type 0) (B : X → Type 0) (r : Option X) → MatchOption r A B → IfNone r A
if_none A B None found = found
if_none A B (Some x) found = tt
