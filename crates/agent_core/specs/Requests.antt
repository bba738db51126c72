-- The action that a request asks for, by its method, path, query and body.
use Rattle.std.specs.Prelude.{◌≡◌, ◌⊎◌, ◌+◌, ℕ, ◌&&◌, nat_lt, nat_le, ◌==◌, Bool, cond, not, ◌||◌, get_or, position, List, [], ◌∷◌, length, true, false, Option, Some, None, Result, Ok, Err, IsSome, is_some, ok_or, bytes_eq, codes}
use Rattle.std.specs.Result.{result_ok}
use Rattle.std.specs.List.{after_first, before_first, list_all, position_or_len}
use Rattle.std.specs.Str.{all_ascii_digits, is_utf8}
use Rattle.std.specs.Str.Lines.{lines}
use Rattle.std.specs.Str.Parse.{digits_value}
use Rattle.serde_json.specs.Data.{Data, Items, no_items, item}
use Rattle.serde_json.specs.Find.{as_array, as_str}
use Rattle.serde_json.specs.Read.{read}
use Rattle.percent_encoding.specs.Percent.{percent_decode}
use Rattle.agent_core.specs.declared.verbs.Verb.{Verb}
use Rattle.agent_core.specs.Levels.{level_named}
use Rattle.agent_core.specs.declared.levels.LogLevel.{LogLevel}
use Rattle.agent_core.specs.declared.verbs.Verb.TheVariants.{Get, Post, Both}
use Rattle.agent_core.specs.declared.actions.Action.{Action}
use Rattle.agent_core.specs.declared.actions.Action.TheVariants as action
use Rattle.agent_core.specs.declared.refusals.KeyFault.TheVariants.{NotText, NotUtf8, Empty, Long}
use Rattle.agent_core.specs.declared.refusals.Part.{Part}
use Rattle.agent_core.specs.declared.refusals.Part.TheVariants.{Key, Count, Body, Keys, NotMine, After, Wait, Level, OwnerQuery, OwnersQuery, RingQuery, WaitField}
use Rattle.agent_core.specs.declared.refusals.Refusal.{Refusal}
use Rattle.agent_core.specs.declared.refusals.Refusal.TheVariants.{Malformed, NotFound, BadMethod, BadKey, LongBody, ManyKeys}

-- the name of a method of HTTP (RFC 9110, section 9); of both it is the method of no request
abbrev pub verb_name : Verb → List ℕ
verb_name Get = codes "GET"
verb_name Post = codes "POST"
verb_name Both = codes "GET and POST"

-- the rest of a text after this prefix; none if the text does not start with it
abbrev pub after : List ℕ → List ℕ → Option (List ℕ)
after [] text = Some text
after (x ∷ xs) [] = None
after (x ∷ xs) (y ∷ ys) = cond (x == y) (after xs ys) None

-- the bytes as a key: 1 to 1,024 bytes of UTF-8
abbrev pub key_of : List ℕ → Result (List ℕ) Refusal
key_of bytes = cond (is_utf8 bytes && (nat_lt 0 (length bytes) && nat_le (length bytes) 1024)) (Ok bytes) (Err (Malformed Key))

-- the key that the rest of a path encodes, percent-decoded
abbrev pub key_in : List ℕ → Result (List ℕ) Refusal
key_in path = key_of (percent_decode path)

-- the text that a body is: at most 131,072 bytes of UTF-8
abbrev pub body_in : List ℕ → Result (List ℕ) Refusal
body_in body = cond (nat_lt 131072 (length body)) (Err LongBody) (cond (is_utf8 body) (Ok body) (Err (Malformed Body)))

-- the first segment of a path: what comes before its first slash, or all of it
abbrev pub segment : List ℕ → List ℕ
segment path = before_first (λ b. b == 47) path

-- the first segment of the rest of a path, if there is a rest
abbrev pub segment_of : Option (List ℕ) → Option (List ℕ)
segment_of None = None
segment_of (Some rest) = Some (segment rest)

-- the text that encodes the key of a request that is passed on whole: the field that names it; without one, the segment after `/keys/`
abbrev pub key_text : List ℕ → Option (List ℕ) → Option (List ℕ)
key_text path (Some field) = Some field
key_text path None = segment_of (after (codes "/keys/") path)

-- whether a number is 1 to this greatest one
abbrev pub is_number : ℕ → ℕ → Bool
is_number most n = nat_lt 0 n && nat_le n most

-- the number that decimal digits write, if it is 1 to this greatest one
abbrev pub number_of : ℕ → List ℕ → Option ℕ
number_of most digits = cond (all_ascii_digits digits && is_number most (digits_value 10 digits)) (Some (digits_value 10 digits)) None

-- the number that decimal digits write, if it is 1 to 4,096
abbrev pub count_of : List ℕ → Option ℕ
count_of digits = number_of 4096 digits

-- that number, if there is a text that writes one; else this part is malformed
abbrev pub count_after : Part → Option (List ℕ) → Result ℕ Refusal
count_after part None = Err (Malformed part)
count_after part (Some digits) = ok_or (count_of digits) (Malformed Count)

-- the number of owners that a parameter `n` asks for; this part is malformed if it is another parameter
abbrev pub count_by : Part → List ℕ → Result ℕ Refusal
count_by part parameter = count_after part (after (codes "n=") parameter)

-- the number of owners that a query for one key asks for: one if there is no query
abbrev pub count_in : Option (List ℕ) → Result ℕ Refusal
count_in None = Ok 1
count_in (Some query) = count_by OwnerQuery query

-- the action of a request for a key with a body
abbrev pub handled : Result (List ℕ) Refusal → Result (List ℕ) Refusal → Result Action Refusal
handled (Err e) body = Err e
handled (Ok key) (Err e) = Err e
handled (Ok key) (Ok body) = Ok (action.Handle key body)

-- the action of a request for a number of a key's owners
abbrev pub named : Result (List ℕ) Refusal → Result ℕ Refusal → Result Action Refusal
named (Err e) count = Err e
named (Ok key) (Err e) = Err e
named (Ok key) (Ok count) = Ok (action.Owners key count)

-- one more key before others, or the first fault
abbrev pub key_before : Result (List ℕ) Refusal → Result (List (List ℕ)) Refusal → Result (List (List ℕ)) Refusal
key_before (Err e) keys = Err e
key_before (Ok key) (Err e) = Err e
key_before (Ok key) (Ok keys) = Ok (key ∷ keys)

-- the keys that these things are, one each, the first at this place; or the first fault
abbrev pub keys_from : {A : Type 0} → (ℕ → A → Result (List ℕ) Refusal) → ℕ → List A → Result (List (List ℕ)) Refusal
keys_from key place [] = Ok []
keys_from key place (x ∷ xs) = key_before (key place x) (keys_from key (place + 1) xs)

-- the key at this place of many that a text is: 1 to 1,024 bytes
abbrev pub text_at : ℕ → List ℕ → Result (List ℕ) Refusal
text_at place text =
    cond (length text == 0) (Err (BadKey place Empty)) (cond (nat_lt 1024 (length text)) (Err (BadKey place Long)) (Ok text))

-- the key at this place that bytes are: such a text in UTF-8
abbrev pub bytes_at : ℕ → List ℕ → Result (List ℕ) Refusal
bytes_at place bytes = cond (is_utf8 bytes) (text_at place bytes) (Err (BadKey place NotUtf8))

-- the key at this place that a line encodes, percent-decoded
abbrev pub line_at : ℕ → List ℕ → Result (List ℕ) Refusal
line_at place line = bytes_at place (percent_decode line)

-- the key at this place that an element of a JSON list is, by its text, if it is one
abbrev pub element_of : ℕ → Option (List ℕ) → Result (List ℕ) Refusal
element_of place None = Err (BadKey place NotText)
element_of place (Some text) = text_at place text

-- the key at this place that an element of a JSON list is
abbrev pub element_at : ℕ → Data → Result (List ℕ) Refusal
element_at place element = element_of place (as_str element)

-- the elements of a JSON list
abbrev pub elements : Items → List Data
elements no_items = []
elements (item d ds) = d ∷ elements ds

-- at most 4,096 keys, the first at place 1
abbrev pub few_keys : {A : Type 0} → (ℕ → A → Result (List ℕ) Refusal) → List A → Result (List (List ℕ)) Refusal
few_keys key xs = cond (nat_le (length xs) 4096) (keys_from key 1 xs) (Err ManyKeys)

-- the keys of a JSON list, if it is one
abbrev pub keys_of_items : Option Items → Result (List (List ℕ)) Refusal
keys_of_items None = Err (Malformed Keys)
keys_of_items (Some items) = few_keys element_at (elements items)

-- the keys of JSON, if it is JSON
abbrev pub keys_of_data : Option Data → Result (List (List ℕ)) Refusal
keys_of_data None = Err (Malformed Keys)
keys_of_data (Some value) = keys_of_items (as_array value)

-- whether a byte is white space of JSON (RFC 8259, section 2)
abbrev pub is_space : ℕ → Bool
is_space b = (b == 32) || ((b == 10) || ((b == 13) || (b == 9)))

-- whether a text has `[` at this place, if there is one
abbrev pub opens_at : List ℕ → Option ℕ → Bool
opens_at text None = false
opens_at text (Some i) = get_or text i 0 == 91

-- whether a text starts as a JSON list does: its first byte that is no white space is `[`
abbrev pub is_list : List ℕ → Bool
is_list text = opens_at text (position (λ b. not (is_space b)) text)

-- the keys of a body, at most 4,096: a JSON list of them, or lines, each of which encodes one as the path of a request for it
abbrev pub keys_in : List ℕ → Result (List (List ℕ)) Refusal
keys_in body =
    cond (is_utf8 body) (cond (is_list body) (keys_of_data (read body)) (few_keys line_at (lines body)))
    (Err (Malformed Body))

-- whether a query has more than one parameter
abbrev pub has_more : List ℕ → Bool
has_more query = nat_lt (position_or_len (λ b. b == 38) query) (length query)

-- the parts of a query before and after its first `&`, if it has one
abbrev pub cut : List ℕ → Option (List ℕ × List ℕ)
cut query =
    cond (has_more query)
    (Some (before_first (λ b. b == 38) query, after_first (λ b. b == 38) query)) None

-- whether a parameter has this name, which ends with `=`
abbrev pub is_named : List ℕ → List ℕ → Bool
is_named name parameter = is_some (after name parameter)

-- these things, if a parameter is `not-mine=1`
abbrev pub with_others : Option (List ℕ) → Result (Bool × ℕ) Refusal → Result (Bool × ℕ) Refusal
with_others None wanted = Err (Malformed OwnersQuery)
with_others (Some value) wanted = cond (bytes_eq value (codes "1")) wanted (Err (Malformed NotMine))

-- the same, of a parameter as it stands in the query
abbrev pub if_others : List ℕ → Result (Bool × ℕ) Refusal → Result (Bool × ℕ) Refusal
if_others parameter wanted = with_others (after (codes "not-mine=") parameter) wanted

-- whether keys of the node itself are left out, and the number of owners
abbrev pub with_count : Bool → Result ℕ Refusal → Result (Bool × ℕ) Refusal
with_count only_others (Err e) = Err e
with_count only_others (Ok count) = Ok (only_others, count)

-- the same, if a parameter is `not-mine=1` and the number of owners is this one
abbrev pub with_both : Result ℕ Refusal → List ℕ → Result (Bool × ℕ) Refusal
with_both (Err e) parameter = Err e
with_both (Ok count) parameter = if_others parameter (Ok (true, count))

-- the same, of a query with these parts before and after its first `&`: each parameter at most once, in any order
abbrev pub wanted_at : List ℕ → Option (List ℕ × List ℕ) → Result (Bool × ℕ) Refusal
wanted_at query None =
    cond (is_named (codes "not-mine=") query) (if_others query (Ok (true, 1)))
    (with_count false (count_by OwnersQuery query))
wanted_at query (Some parts) =
    cond (has_more parts.1) (Err (Malformed OwnersQuery))
    (cond (is_named (codes "not-mine=") parts.0) (with_both (count_by OwnersQuery parts.1) parts.0)
    (with_both (count_by OwnersQuery parts.0) parts.1))

-- the same, of the query of a request for the owners of keys
abbrev pub wanted_in : Option (List ℕ) → Result (Bool × ℕ) Refusal
wanted_in None = Ok (false, 1)
wanted_in (Some query) = wanted_at query (cut query)

-- the action of a request for the owners of keys
abbrev pub listed : Result (List (List ℕ)) Refusal → Result (Bool × ℕ) Refusal → Result Action Refusal
listed (Err e) wanted = Err e
listed (Ok keys) (Err e) = Err e
listed (Ok keys) (Ok wanted) = Ok (action.AllOwners keys wanted.1 wanted.0)

-- the number of seconds that decimal digits write, if it is 1 to 60
abbrev pub seconds_of : Option ℕ → Option ℕ
seconds_of None = None
seconds_of (Some n) = cond (nat_le n 60) (Some n) None

-- whether a byte is a digit of the text of a digest
abbrev pub is_digit : ℕ → Bool
is_digit b = (nat_le 48 b && nat_le b 57) || (nat_le 97 b && nat_le b 102)

-- whether a text is that of a digest: 64 hexadecimal digits, the letters small
abbrev pub is_digest : List ℕ → Bool
is_digest text = (length text == 64) && list_all is_digit text

-- the digest of a parameter `after`
abbrev pub digest_after : Option (List ℕ) → Result (List ℕ) Refusal
digest_after None = Err (Malformed RingQuery)
digest_after (Some text) = cond (is_digest text) (Ok text) (Err (Malformed After))

-- the same, of a parameter as it stands in the query
abbrev pub digest_by : List ℕ → Result (List ℕ) Refusal
digest_by parameter = digest_after (after (codes "after=") parameter)

-- the seconds of a parameter `wait`
abbrev pub seconds_after : Option (List ℕ) → Result ℕ Refusal
seconds_after None = Err (Malformed RingQuery)
seconds_after (Some digits) = ok_or (seconds_of (count_of digits)) (Malformed Wait)

-- the same, of a parameter as it stands in the query
abbrev pub seconds_by : List ℕ → Result ℕ Refusal
seconds_by parameter = seconds_after (after (codes "wait=") parameter)

-- the digest that a question knows, and the seconds that it may wait
abbrev pub awaited_by : Result (List ℕ) Refusal → Result ℕ Refusal → Result (List ℕ × ℕ) Refusal
awaited_by (Err e) seconds = Err e
awaited_by (Ok digest) (Err e) = Err e
awaited_by (Ok digest) (Ok seconds) = Ok (digest, seconds)

-- the same, of a query with these parts before and after its first `&`: each parameter at most once, in any order
abbrev pub awaited_at : List ℕ → Option (List ℕ × List ℕ) → Result (List ℕ × ℕ) Refusal
awaited_at query None = awaited_by (digest_by query) (Ok 0)
awaited_at query (Some parts) =
    cond (has_more parts.1) (Err (Malformed RingQuery))
    (cond (is_named (codes "wait=") parts.0) (awaited_by (digest_by parts.1) (seconds_by parts.0))
    (awaited_by (digest_by parts.0) (seconds_by parts.1)))

-- the same, of the query of a request for the ring
abbrev pub awaited_in : List ℕ → Result (List ℕ × ℕ) Refusal
awaited_in query = awaited_at query (cut query)

-- the action of a request for the ring, by what its query awaits
abbrev pub ring_after : Result (List ℕ × ℕ) Refusal → Result Action Refusal
ring_after (Err e) = Err e
ring_after (Ok awaited) = Ok (action.Ring (Some awaited.0))

-- the action of a request for the ring
abbrev pub ring_of : Option (List ℕ) → Result Action Refusal
ring_of None = Ok (action.Ring None)
ring_of (Some query) = ring_after (awaited_in query)

-- the method and the action of a path without a key
abbrev pub place_of : List ℕ → Option (Verb × Action)
place_of path =
    cond (bytes_eq path (codes "/")) (Some (Get, action.Page))
    (cond (bytes_eq path (codes "/members")) (Some (Get, action.Members))
    (cond (bytes_eq path (codes "/digest")) (Some (Get, action.Digest))
    (cond (bytes_eq path (codes "/healthz")) (Some (Get, action.Health))
    (cond (bytes_eq path (codes "/readyz")) (Some (Get, action.Health))
    (cond (bytes_eq path (codes "/livez")) (Some (Get, action.Live))
    (cond (bytes_eq path (codes "/metrics")) (Some (Get, action.Metrics))
    (cond (bytes_eq path (codes "/leave")) (Some (Post, action.Leave))
    (cond (bytes_eq path (codes "/rejoin")) (Some (Post, action.Rejoin))
    (cond (bytes_eq path (codes "/stop")) (Some (Post, action.Stop)) None)))))))))

-- this result, if the method is the path's
abbrev pub by : List ℕ → Verb → Result Action Refusal → Result Action Refusal
by method verb wanted = cond (bytes_eq method (verb_name verb)) wanted (Err (BadMethod verb))

-- the level of a name, if there is a name, and it is one of a level
abbrev pub level_of : Option (List ℕ) → Option LogLevel
level_of None = None
level_of (Some name) = level_named name

-- the level that a query names: it is `level=` and that name
abbrev pub level_in : Option (List ℕ) → Option LogLevel
level_in None = None
level_in (Some query) = level_of (after (codes "level=") query)

-- the action that has the log be of a level from then on
abbrev pub set_log : Option LogLevel → Result Action Refusal
set_log None = Err (Malformed Level)
set_log level = Ok (action.Log level)

-- the action at the path of the log's level: GET asks for it, and POST sets the one that the query names
abbrev pub log_at : List ℕ → Option (List ℕ) → Result Action Refusal
log_at method query =
    cond (bytes_eq method (verb_name Get)) (Ok (action.Log None))
    (cond (bytes_eq method (verb_name Post)) (set_log (level_in query)) (Err (BadMethod Both)))

-- the action at a path without a key, by that path's method and action
abbrev pub plain : List ℕ → Option (Verb × Action) → Result Action Refusal
plain method None = Err NotFound
plain method (Some place) = by method place.0 (Ok place.1)

-- the action at a path with no key in it
abbrev pub open_at : List ℕ → List ℕ → Option (List ℕ) → List ℕ → Result Action Refusal
open_at method path query body =
    cond (bytes_eq path (codes "/owners")) (by method Post (listed (keys_in body) (wanted_in query)))
    (cond (bytes_eq path (codes "/ring")) (by method Get (ring_of query))
    (cond (bytes_eq path (codes "/log")) (log_at method query)
    (plain method (place_of path))))

-- the action of a request, by the rest of its path after `/keys/` and after `/owner/`
abbrev pub asked_at : List ℕ → List ℕ → Option (List ℕ) → List ℕ → Option (List ℕ) → Option (List ℕ) → Result Action Refusal
asked_at method path query body (Some key) owner = by method Post (handled (key_in key) (body_in body))
asked_at method path query body None (Some key) = by method Get (named (key_in key) (count_in query))
asked_at method path query body None None = open_at method path query body

-- the action that a request asks for, or its refusal
abbrev pub asked : List ℕ → List ℕ → Option (List ℕ) → List ℕ → Result Action Refusal
asked method path query body = asked_at method path query body (after (codes "/keys/") path) (after (codes "/owner/") path)

-- the path is `/owners` or `/ring`, and the method is the path's
abbrev pub AsksForRing : List ℕ → List ℕ → Type 0
AsksForRing method path = ((path ≡ codes "/owners") × (method ≡ verb_name Post)) ⊎ ((path ≡ codes "/ring") × (method ≡ verb_name Get))

-- the path starts with `/keys/` or `/owner/`, or is one of those, and the method is the path's
abbrev pub AsksForKey : List ℕ → List ℕ → Type 0
AsksForKey method path =
    (IsSome (after (codes "/keys/") path) × (method ≡ verb_name Post))
    ⊎ ((IsSome (after (codes "/owner/") path) × (method ≡ verb_name Get)) ⊎ AsksForRing method path)

-- the first word of a text, if a space comes after it
abbrev pub first_word : List ℕ → Option (List ℕ)
first_word text = cond (nat_lt (position_or_len (λ b. b == 32) text) (length text)) (Some (before_first (λ b. b == 32) text)) None

-- what a query awaits, if there is one, and it is well formed
abbrev pub awaited_of : Option (List ℕ) → Option (List ℕ × ℕ)
awaited_of None = None
awaited_of (Some query) = result_ok (awaited_in query)

-- the query of a request for the ring, by the rest of its text after the path, if it has one
abbrev pub query_of : Option (List ℕ) → Option (List ℕ)
query_of None = None
query_of (Some rest) = first_word rest

-- what the request awaits whose text starts so, if it is one for the ring
abbrev pub question_at : List ℕ → Option (List ℕ × ℕ)
question_at head = awaited_of (query_of (after (codes "GET /ring?") head))

-- the milliseconds to which a client limits the wait of its request, by the number that a field writes
abbrev pub wait_by : Option ℕ → Result (Option ℕ) Refusal
wait_by None = Err (Malformed WaitField)
wait_by (Some millis) = Ok (Some millis)

-- those milliseconds by the text of the field, if there is one: 1 to 60,000
abbrev pub wait_of : Option (List ℕ) → Result (Option ℕ) Refusal
wait_of None = Ok None
wait_of (Some digits) = wait_by (number_of 60000 digits)
