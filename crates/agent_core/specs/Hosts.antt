-- The hosts that a file lists.
use Rattle.std.specs.Prelude.{◌≡◌, ◌≢◌, ◌≤◌, ◌<◌, ◌==◌, ◌+◌, ℕ, Bool, false, not, List, [], ◌∷◌, length, map, take, slice_get, IsSomeAnd, IsTrue}
use Rattle.std.specs.List.{filter}
use Rattle.std.specs.Str.{IsUtf8, trim}
use Rattle.std.specs.Str.Lines.{lines}
use Rattle.change_core.specs.Address.{IsAddress, address_text}
use Rattle.agent_core.specs.declared.host_lists.HostsFault.{HostsFault}
use Rattle.agent_core.specs.declared.host_lists.HostsFault.TheVariants.{Long, NotUtf8, BadLine, Many, Memory}

-- a text: its bytes
abbrev Text : Type 0
Text = List ℕ

-- whether a line without the white space at its ends names a host: it is not empty, and does not begin with `#`
abbrev pub names_host : Text → Bool
names_host [] = false
names_host (x ∷ xs) = not (x == 35)

-- the lines that name hosts, without the white space at their ends
abbrev pub hosts_in : List Text → List Text
hosts_in ls = filter names_host (map trim ls)

-- bytes list these hosts, the addresses of the lines that name hosts: they are text of at most 131,072 bytes with at most 4,096 hosts
pub record IsHostList (bytes : Text) (hosts : List ℕ) : Type 0 where
  pub short : length bytes ≤ 131072
  pub text : IsUtf8 bytes
  pub few : length hosts ≤ 4096
  pub each : hosts_in (lines bytes) ≡ map address_text hosts

-- the text is not that of an address
abbrev pub IsNoAddress : Text → Type 0
IsNoAddress text = (a : ℕ) → IsAddress a → text ≢ address_text a

-- this line names a host that is not an address
abbrev pub IsBadLine : Text → Type 0
IsBadLine line = IsTrue (names_host (trim line)) × IsNoAddress (trim line)

-- the first line that names a host that is not an address has this number, counted from 1
pub record IsFirstBad (ls : List Text) (number : ℕ) : Type 0 where
  pub place : ℕ
  pub number_of : number ≡ place + 1
  pub before : List ℕ
  pub good : hosts_in (take place ls) ≡ map address_text before
  pub bad : IsSomeAnd (slice_get ls place) IsBadLine

-- the fault of lines: the first that names a host and is not an address, too many hosts, or out of memory, which is always possible
abbrev pub IsFaultOfLines : List Text → HostsFault → Type 0
IsFaultOfLines ls Long = ⊥
IsFaultOfLines ls NotUtf8 = ⊥
IsFaultOfLines ls (BadLine number) = IsFirstBad ls number
IsFaultOfLines ls Many = 4096 < length (hosts_in ls)
IsFaultOfLines ls Memory = Unit {0}

-- the fault of bytes: they are too many or no text, or it is that of their lines
abbrev pub IsHostsFault : Text → HostsFault → Type 0
IsHostsFault bytes Long = 131072 < length bytes
IsHostsFault bytes NotUtf8 = ¬ (IsUtf8 bytes)
IsHostsFault bytes (BadLine number) = IsFirstBad (lines bytes) number
IsHostsFault bytes Many = 4096 < length (hosts_in (lines bytes))
IsHostsFault bytes Memory = Unit {0}
