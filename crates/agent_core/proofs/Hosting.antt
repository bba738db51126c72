-- The hosts of lines, one line after the other.
use Rattle.std.proofs.Common.{◌≡◌, ◌∙◌, ◌+◌, ◌<◌, ◌≤◌, ℕ, true, false, List, [], ◌∷◌, ◌++◌, length, get_or, slice_get, take, map, Bor, Option, Some, IsSomeAnd, IsTrue, IsUtf8, ap, refl, sym, subst, append-nil, arith}
use Rattle.std.proofs.lemmas.List.{get_or-map, length-map, map-append, map_more, take-map}
use Rattle.std.proofs.lemmas.List.Elements.{filter-append}
use Rattle.std.proofs.lemmas.Option.{slice_get-get_or}
use Rattle.std.specs.List.{filter}
use Rattle.std.specs.Str.{trim}
use Rattle.std.specs.Str.Lines.{lines}
use Rattle.change_core.specs.Address.{address_text}
use Rattle.agent_core.specs.Hosts.{IsBadLine, IsFaultOfLines, IsFirstBad, IsHostList, IsHostsFault, IsNoAddress, hosts_in, names_host}
use Rattle.agent_core.specs.declared.host_lists.HostsFault.{HostsFault}
use Rattle.agent_core.specs.declared.host_lists.HostsFault.TheVariants.{Long, NotUtf8, BadLine, Many, Memory}

abbrev Text : Type 0
Text = List ℕ

abbrev bytes_of : Bor Text → Text
bytes_of line = line.now

-- more lines have their hosts behind
hosts_in-append : (xs ys : List Text) → hosts_in (xs ++ ys) ≡ hosts_in xs ++ hosts_in ys
hosts_in-append xs ys = ap (filter names_host) (map-append trim xs ys) ∙ filter-append names_host (map trim xs) (map trim ys)

module _ (ls : List (Bor Text)) where
  -- the hosts of the lines before this place
  abbrev pub SoFar : ℕ → List ℕ → Type 0
  SoFar i hosts = hosts_in (map (λ line. line.now) (take i ls)) ≡ map address_text hosts

  -- those of the line at this place, too
  more : (i : ℕ) (line : Bor Text) → i < length ls → line ≡ get_or ls i line
      → hosts_in (map bytes_of (take (i + 1) ls)) ≡ hosts_in (map bytes_of (take i ls)) ++ hosts_in (line.now ∷ [])
  more i line lt is =
      ap hosts_in (map_more bytes_of ls i line lt ∙ ap (λ (x : Bor Text). map bytes_of (take i ls) ++ x.now ∷ []) (sym is))
      ∙ hosts_in-append (map bytes_of (take i ls)) (line.now ∷ [])

  -- the line names this host
  pub names : (i : ℕ) (line : Bor Text) (text : Text) (hosts : List ℕ) (a : ℕ) → i < length ls → line ≡ get_or ls i line → SoFar i hosts
      → text ≡ trim line.now → names_host text ≡ true → text ≡ address_text a → SoFar (i + 1) (hosts ++ a ∷ [])
  names i line text hosts a lt is so_far trimmed named of_host =
      let is_named : names_host (trim line.now) ≡ true = ap names_host (sym trimmed) ∙ named in
      let host : trim line.now ≡ address_text a = sym trimmed ∙ of_host in
      let one : hosts_in (line.now ∷ []) ≡ address_text a ∷ [] = rw is_named (ap (λ (t : Text). t ∷ []) host) in
      more i line lt is ∙ ap (λ (xs : List Text). xs ++ hosts_in (line.now ∷ [])) so_far
      ∙ ap (λ (xs : List Text). map address_text hosts ++ xs) one
      ∙ sym (map-append address_text hosts (a ∷ []))

  -- it names none
  pub passes : (i : ℕ) (line : Bor Text) (text : Text) (hosts : List ℕ) → i < length ls → line ≡ get_or ls i line → SoFar i hosts
      → text ≡ trim line.now → names_host text ≡ false → SoFar (i + 1) hosts
  passes i line text hosts lt is so_far trimmed named =
      let is_named : names_host (trim line.now) ≡ false = ap names_host (sym trimmed) ∙ named in
      let none : hosts_in (line.now ∷ []) ≡ [] = rw is_named refl in
      more i line lt is ∙ ap (λ (xs : List Text). hosts_in (map bytes_of (take i ls)) ++ xs) none ∙ append-nil (hosts_in (map bytes_of (take i ls))) ∙ so_far

  found : (i : ℕ) (line : Bor Text) → i < length ls → line ≡ get_or ls i line → slice_get (map bytes_of ls) i ≡ Some line.now
  found i line lt is =
      slice_get-get_or (map bytes_of ls) i line.now (omega (arith, length-map ls bytes_of))
      ∙ ap Some (get_or-map bytes_of ls i line line.now lt ∙ ap bytes_of (sym is))

  -- it names one that cannot be read as an address
  first_bad : (i : ℕ) (line : Bor Text) (hosts : List ℕ) → i < length ls → line ≡ get_or ls i line → SoFar i hosts
      → IsBadLine line.now → IsFirstBad (map bytes_of ls) (i + 1)
  first_bad i line hosts lt is so_far bad_line = record {
    place = i;
    number_of = refl;
    before = hosts;
    good = ap hosts_in (take-map bytes_of i ls) ∙ so_far;
    bad = subst (λ (o : Option Text). IsSomeAnd o IsBadLine) (sym (found i line lt is)) bad_line;
  }

  pub fails : (i : ℕ) (line : Bor Text) (text : Text) (hosts : List ℕ) (e : HostsFault) → i < length ls → line ≡ get_or ls i line → SoFar i hosts
      → text ≡ trim line.now → names_host text ≡ true → IsNoAddress text → e ≡ BadLine (i + 1) → IsFaultOfLines (map bytes_of ls) e
  fails i line text hosts e lt is so_far trimmed named none is_e =
      let bad_line : IsBadLine line.now = subst (λ (t : Text). IsTrue (names_host t) × IsNoAddress t) trimmed (named, none) in
      subst (IsFaultOfLines (map bytes_of ls)) (sym is_e) (first_bad i line hosts lt is so_far bad_line)

-- ---- the lines of a text, and the text of bytes

pub hosts_as : (ls ms : List Text) (hosts : List ℕ) → ls ≡ ms → hosts_in ls ≡ map address_text hosts → hosts_in ms ≡ map address_text hosts
hosts_as ls ms hosts same is = ap hosts_in (sym same) ∙ is

pub fault_as : (ls ms : List Text) (e : HostsFault) → ls ≡ ms → IsFaultOfLines ls e → IsFaultOfLines ms e
fault_as ls ms e same fault = subst (λ (some : List Text). IsFaultOfLines some e) same fault

pub many_as : (ls ms : List Text) (hosts : List ℕ) → ls ≡ ms → hosts_in ls ≡ map address_text hosts → 4096 < length hosts → 4096 < length (hosts_in ms)
many_as ls ms hosts same is many =
    let size : length (hosts_in ms) ≡ length (map address_text hosts) = ap length (hosts_as ls ms hosts same is) in
    omega (arith, length-map hosts address_text)

pub listed : (bytes text : Text) (hosts : List ℕ) → length bytes ≤ 131072 → IsUtf8 bytes → text ≡ bytes
    → (length hosts ≤ 4096) × (hosts_in (lines text) ≡ map address_text hosts) → IsHostList bytes hosts
listed bytes text hosts short utf8 same is = record {
  short = short;
  text = utf8;
  few = is.0;
  each = ap (λ (t : Text). hosts_in (lines t)) (sym same) ∙ is.1;
}

of_lines : (bytes : Text) (e : HostsFault) → IsFaultOfLines (lines bytes) e → IsHostsFault bytes e
of_lines bytes Long fault = absurd fault
of_lines bytes NotUtf8 fault = absurd fault
of_lines bytes (BadLine number) fault = fault
of_lines bytes Many fault = fault
of_lines bytes Memory fault = tt

pub faulty : (bytes text : Text) (e : HostsFault) → text ≡ bytes → IsFaultOfLines (lines text) e → IsHostsFault bytes e
faulty bytes text e same fault = of_lines bytes e (subst (λ (t : Text). IsFaultOfLines (lines t) e) same fault)
