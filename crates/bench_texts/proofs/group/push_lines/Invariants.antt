-- The lines of the numbers before are appended.
use Rattle.std.proofs.Common.{◌≡◌, ◌++◌, string_bytes}
use Rattle.bench_texts.specs.Groups.{line_of}
use Rattle.bench_texts.specs.Lines.{lines}
use Rattle.bench_texts.proofs.group.push_lines.Given as goal

abbrev pub invariant-loop-place : goal.invariant-loop-place
invariant-loop-place l = string_bytes l.text ≡ string_bytes l.initial.text ++ lines (line_of l.group) l.first l.place
