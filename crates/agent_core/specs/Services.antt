-- The watch over the service of a node: what it has the node do at each observation, and over a run of them.
use Rattle.std.specs.Prelude.{◌≡◌, ◌+◌, ◌≤◌, ◌&&◌, ◌||◌, nat_le, nat_lt, max, Bool, false, not, cond, IsTrue, List, [], ◌∷◌}
use Rattle.std.specs.List.{All}
use Rattle.agent_core.specs.declared.services.Move.{Move}
use Rattle.agent_core.specs.declared.services.Move.TheVariants as move
use Rattle.agent_core.specs.declared.services.Sight.{Sight}
use Rattle.agent_core.specs.declared.services.Watch.{Watch}

-- whether the node is in the ring, and its service took no connection for as long as the watch says, if it says so
abbrev pub is_lost : Watch → Sight → Bool
is_lost w s = not s.has_left && (not s.takes && (nat_lt 0 w.after && nat_le (w.since + w.after) s.now))

-- whether the node is out of the ring because of its service, and that takes a connection
abbrev pub is_found : Watch → Sight → Bool
is_found w s = s.has_left && (s.takes && w.is_out)

-- what the node does
abbrev pub move_of : Watch → Sight → Move
move_of w s = cond (is_lost w s) move.Leave (cond (is_found w s) move.Rejoin move.Stay)

-- the watch after an observation
abbrev pub watched : Watch → Sight → Watch
watched w s = record {
  after = w.after;
  since = cond (s.takes || s.has_left) (max w.since s.now) w.since;
  is_out = is_lost w s || (w.is_out && s.has_left);
}

-- the watch after a list of observations, the last of them first
abbrev pub watched_all : Watch → List Sight → Watch
watched_all w [] = w
watched_all w (last ∷ earlier) = watched (watched_all w earlier) last

-- A node leaves because of its service only if, at each moment at which the service took a connection, or the node was out of the ring, the
-- milliseconds of the watch had still to pass. So it leaves no sooner than that after it came back.
abbrev pub LeavesLate : Type 0
LeavesLate = (w : Watch) (earlier : List Sight) (s : Sight) → move_of (watched_all w earlier) s ≡ move.Leave
    → All (λ e. IsTrue (e.takes || e.has_left) → e.now + w.after ≤ s.now) earlier

-- A node that somebody had leave stays out until somebody has it come back, whatever its service does.
abbrev pub StaysOut : Type 0
StaysOut = (w : Watch) (earlier : List Sight) (s : Sight) → w.is_out ≡ false → All (λ e. IsTrue e.has_left) earlier → IsTrue s.has_left
    → move_of (watched_all w earlier) s ≡ move.Stay
