-- What a failure to read comes to.
use Rattle.std.specs.Prelude.{◌≡◌, ◌⊎◌}
use Rattle.std.specs.IoError.{error_kind}
use Rattle.std.specs.declared.io.Error.{Error}
use Rattle.std.specs.declared.io.ErrorKind.{ErrorKind}
use Rattle.std.specs.declared.io.ErrorKind.TheVariants.{OutOfMemory}
use Rattle.flow_fault_text.specs.declared.fault.TextFault.{TextFault}
use Rattle.flow_fault_text.specs.declared.fault.TextFault.TheVariants.{Read, Write}
use Rattle.flow_run.specs.declared.outcome.RunRefusal.{RunRefusal}
use Rattle.flow_run.specs.declared.outcome.RunRefusal.TheVariants.{Text, Memory}

-- out of memory is told as such
abbrev pub refusal_of_kind : ErrorKind → RunRefusal
refusal_of_kind OutOfMemory = Memory
refusal_of_kind _ = Text Read

abbrev pub unread_refusal : Error → RunRefusal
unread_refusal error = refusal_of_kind (error_kind error)

-- nothing was run, since memory was out or a reader failed
abbrev pub IsUnread : RunRefusal → Type 0
IsUnread refusal = (refusal ≡ Memory) ⊎ (refusal ≡ Text Read)

-- where the report is made in memory, a failure to write it there says that memory is out
abbrev pub fault_in_memory : TextFault → RunRefusal
fault_in_memory Write = Memory
fault_in_memory fault = Text fault

abbrev pub refusal_in_memory : RunRefusal → RunRefusal
refusal_in_memory (Text fault) = fault_in_memory fault
refusal_in_memory refusal = refusal
