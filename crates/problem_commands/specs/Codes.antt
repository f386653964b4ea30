-- The words of a run and the statuses that it ends with.
use Rattle.std.specs.Prelude.{ℕ}
use Rattle.problem_commands.specs.declared.status.Status.{Status}
use Rattle.problem_commands.specs.declared.status.Status.TheVariants.{Done, No, Usage, BadDecl, BadProblem, BadExec, BadCert, ReadFault, WriteFault, Memory, ScriptLimit, UnknownName, NoMerge}

-- the exit status
abbrev pub code_of : Status → ℕ
code_of Done = 0
code_of No = 1
code_of Usage = 2
code_of BadDecl = 3
code_of BadProblem = 4
code_of BadExec = 5
code_of BadCert = 6
code_of ReadFault = 7
code_of WriteFault = 8
code_of Memory = 9
code_of ScriptLimit = 10
code_of UnknownName = 11
code_of NoMerge = 12
