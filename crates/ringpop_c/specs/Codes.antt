-- The codes that exports answer, and their numbers.
use Rattle.std.specs.Prelude.{ℕ, Result, Ok, Err}
use Rattle.node_core.specs.declared.configs.ConfigField.{ConfigField}
use Rattle.node_core.specs.declared.configs.ConfigField.TheVariants as field
use Rattle.node_core.specs.declared.errors.NodeError.{NodeError}
use Rattle.node_core.specs.declared.errors.NodeError.TheVariants as error
use Rattle.node_core.specs.declared.events.StopCause.{StopCause}
use Rattle.node_core.specs.declared.events.StopCause.TheVariants as cause
use Rattle.message_core.specs.declared.errors.WireError.{WireError}
use Rattle.message_core.specs.declared.errors.WireError.TheVariants as wire
use Rattle.ringpop_c.specs.declared.codes.Code.{Code}
use Rattle.ringpop_c.specs.declared.codes.Code.TheVariants as code

-- the number of a code, as the header has it
abbrev pub code_number : Code → ℕ
code_number code.Done = 0
code_number code.Nothing = 1
code_number code.NoNode = 2
code_number code.HasNode = 3
code_number code.ShortBuffer = 4
code_number code.BadAddress = 5
code_number code.BadNumber = 6
code_number code.BadWeight = 7
code_number code.BadReplicas = 8
code_number code.BadMaxMembers = 9
code_number code.BadSuspectMs = 10
code_number code.BadFaultyMs = 11
code_number code.BadHelpers = 12
code_number code.BadPiggyback = 13
code_number code.BadPerMessage = 14
code_number code.Exhausted = 15
code_number code.Full = 16
code_number code.AlreadyLeft = 17
code_number code.NotLeft = 18
code_number code.Busy = 19
code_number code.Spent = 20
code_number code.StaleProbe = 21
code_number code.NotAsked = 22
code_number code.Memory = 23
code_number code.LineTooLong = 24
code_number code.BadJson = 25
code_number code.NotObject = 26
code_number code.UnknownKind = 27
code_number code.MissingField = 28
code_number code.BadField = 29
code_number code.TooMany = 30
code_number code.NotGossip = 31
code_number code.Unanswered = 32
code_number code.Suspected = 33
code_number code.Waiting = 34
code_number code.Inconclusive = 35
code_number code.BadWord = 36

-- the code of a field of the configuration that is out of its range
abbrev pub code_of_field : ConfigField → Code
code_of_field field.Replicas = code.BadReplicas
code_of_field field.MaxMembers = code.BadMaxMembers
code_of_field field.SuspectMs = code.BadSuspectMs
code_of_field field.FaultyMs = code.BadFaultyMs
code_of_field field.Helpers = code.BadHelpers
code_of_field field.Piggyback = code.BadPiggyback
code_of_field field.PerMessage = code.BadPerMessage

-- the code of a node's error
abbrev pub code_of_error : NodeError → Code
code_of_error (error.BadConfig field) = code_of_field field
code_of_error error.Exhausted = code.Exhausted
code_of_error error.Full = code.Full
code_of_error error.AlreadyLeft = code.AlreadyLeft
code_of_error error.NotLeft = code.NotLeft
code_of_error error.Busy = code.Busy
code_of_error error.Spent = code.Spent
code_of_error error.StaleProbe = code.StaleProbe
code_of_error error.NotAsked = code.NotAsked
code_of_error error.Memory = code.Memory

-- the code of a call of the node: done, or that of its error
abbrev pub code_of_result : {X : Type 0} → Result X NodeError → Code
code_of_result (Ok x) = code.Done
code_of_result (Err error) = code_of_error error

-- the code of an error of a line
abbrev pub code_of_wire : WireError → Code
code_of_wire wire.LineTooLong = code.LineTooLong
code_of_wire wire.BadJson = code.BadJson
code_of_wire wire.NotObject = code.NotObject
code_of_wire wire.UnknownKind = code.UnknownKind
code_of_wire (wire.MissingField field) = code.MissingField
code_of_wire (wire.BadField field) = code.BadField
code_of_wire wire.TooMany = code.TooMany
code_of_wire wire.Io = code.BadJson
code_of_wire wire.Memory = code.Memory

-- the code for the cause that stopped a batch of changes
abbrev pub code_of_stop : StopCause → Code
code_of_stop cause.Exhausted = code.Exhausted
code_of_stop cause.Full = code.Full
code_of_stop cause.Memory = code.Memory
