-- The numbers of the statuses.
use Rattle.std.specs.Prelude.{ℕ}
use Rattle.cqapri_words.specs.declared.status.Status.{Status}
use Rattle.cqapri_words.specs.declared.status.Status.TheVariants as status

-- the number of a status, which is the program's exit status
abbrev pub code_of : Status → ℕ
code_of status.Done = 0
code_of status.Open = 1
code_of status.Words = 2
code_of status.Refused = 3
code_of status.ReadFault = 4
code_of status.WriteFault = 5
code_of status.Limit = 6
code_of status.NoMemory = 7
