-- The command has the options so far.
use Rattle.std.proofs.Common.{◌≡◌, take}
use Rattle.clap.specs.Words.{app_of}
use Rattle.cqapri_words.specs.CommandLine.{with_options}
use Rattle.cqapri_words.proofs.command_line.with_options.Given as goal

abbrev pub invariant-loop-option : goal.invariant-loop-option
invariant-loop-option l = app_of l.command ≡ with_options (app_of l.fn.command) (take l.option-index l.options)
