-- The levels of the log: their names, their numbers, and the line that tells one.
use Rattle.std.specs.Prelude.{ℕ, ◌==◌, cond, List, [], ◌∷◌, ◌++◌, Option, Some, None, bytes_eq, codes}
use Rattle.agent_core.specs.declared.levels.LogLevel.{LogLevel}
use Rattle.agent_core.specs.declared.levels.LogLevel.TheVariants.{Off, Error, Warn, Info, Debug}

-- the name of a level
abbrev pub level_name : LogLevel → List ℕ
level_name Off = codes "off"
level_name Error = codes "error"
level_name Warn = codes "warn"
level_name Info = codes "info"
level_name Debug = codes "debug"

-- the level of a name, if there is one
abbrev pub level_named : List ℕ → Option LogLevel
level_named name =
    cond (bytes_eq name (level_name Off)) (Some Off)
    (cond (bytes_eq name (level_name Error)) (Some Error)
    (cond (bytes_eq name (level_name Warn)) (Some Warn)
    (cond (bytes_eq name (level_name Info)) (Some Info)
    (cond (bytes_eq name (level_name Debug)) (Some Debug) None))))

-- the number of a level, greater for one that tells more
abbrev pub level_number : LogLevel → ℕ
level_number Off = 0
level_number Error = 1
level_number Warn = 2
level_number Info = 3
level_number Debug = 4

-- the level of a number; the last for one that is greater than those of all levels
abbrev pub level_at : ℕ → LogLevel
level_at n = cond (n == 0) Off (cond (n == 1) Error (cond (n == 2) Warn (cond (n == 3) Info Debug)))

-- the line that tells the level of the log and, if it was changed, the one before
abbrev pub level_line : LogLevel → Option LogLevel → List ℕ
level_line level None = codes "log level " ++ (level_name level ++ 10 ∷ [])
level_line level (Some before) = codes "log level " ++ (level_name level ++ (codes ", was " ++ (level_name before ++ 10 ∷ [])))
