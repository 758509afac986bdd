use Rattle.std.proofs.Common.{All, IsUtf8}
use Rattle.report_fields.proofs.cursor.Cursor.texts.Given as goal

-- each text so far is UTF-8
abbrev pub invariant-loop : goal.invariant-loop
invariant-loop l = All IsUtf8 l.texts
