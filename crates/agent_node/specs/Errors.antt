-- The errors of an agent, by those of what it calls.
use Rattle.std.specs.declared.io.ErrorKind.{ErrorKind}
use Rattle.std.specs.declared.io.ErrorKind.TheVariants as kind
use Rattle.agent_core.specs.declared.host_lists.HostsFault.{HostsFault}
use Rattle.agent_core.specs.declared.host_lists.HostsFault.TheVariants as fault
use Rattle.agent_state.specs.declared.journals.LogError.{LogError}
use Rattle.agent_state.specs.declared.journals.LogError.TheVariants as log
use Rattle.agent_node.specs.declared.errors.AgentError.{AgentError}
use Rattle.agent_node.specs.declared.errors.AgentError.TheVariants as error

-- the error for a fault of the file of hosts
abbrev pub error_of_hosts : HostsFault → AgentError
error_of_hosts fault.Memory = error.Memory
error_of_hosts other = error.BadHosts other

-- the error for one by which no log starts
abbrev pub error_of_log : LogError → AgentError
error_of_log log.NoThread = error.NoThread
error_of_log log.Memory = error.Memory

-- the error for one of reading the file of hosts
abbrev pub error_of_reading : ErrorKind → AgentError
error_of_reading kind.OutOfMemory = error.Memory
error_of_reading other = error.CannotRead other

-- the error for one by which connections are not watched
abbrev pub error_of_watching : ErrorKind → AgentError
error_of_watching kind.OutOfMemory = error.Memory
error_of_watching _ = error.NoReactor
