-- The error of a run for an error of the crates below.
use Rattle.message_core.specs.declared.errors.WireError.{WireError}
use Rattle.message_core.specs.declared.errors.WireError.TheVariants.{Io, Memory}
use Rattle.cli_core.specs.declared.faults.LineError.{LineError}
use Rattle.cli_core.specs.declared.faults.LineError.TheVariants.{Wire, ReadFailed, OutOfMemory}

-- a failed read and out of memory are not errors of the line's bytes
abbrev pub fault_of_wire : WireError → LineError
fault_of_wire Io = ReadFailed
fault_of_wire Memory = OutOfMemory
fault_of_wire e = Wire e
