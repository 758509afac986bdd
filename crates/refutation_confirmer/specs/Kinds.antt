-- Kinds of lines, and places past the conflicts.
use Rattle.report_text.specs.declared.line.Line.{Line}
use Rattle.report_text.specs.declared.line.Line.TheVariants as line
use Rattle.report_rules.specs.declared.place.Place.{Place}
use Rattle.report_rules.specs.declared.place.Place.TheVariants as place

-- the line stands behind all conflict lines
abbrev pub IsBehindConflicts : Line → Type 0
IsBehindConflicts (line.Forget _) = Unit {0}
IsBehindConflicts (line.Ask _ _ _ _) = Unit {0}
IsBehindConflicts (line.End _ _ _ _ _) = Unit {0}
IsBehindConflicts _ = ⊥

-- the line stands behind all blocks, and isn't of a try
abbrev pub IsBehindBlocks : Line → Type 0
IsBehindBlocks (line.Conflict _ _ _) = Unit {0}
IsBehindBlocks (line.Forget _) = Unit {0}
IsBehindBlocks (line.Ask _ _ _ _) = Unit {0}
IsBehindBlocks (line.End _ _ _ _ _) = Unit {0}
IsBehindBlocks _ = ⊥

-- the line is of an open answer
abbrev pub IsInside : Line → Type 0
IsInside (line.Try _ _) = Unit {0}
IsInside (line.Learn _ _) = Unit {0}
IsInside (line.Core _ _ _) = Unit {0}
IsInside (line.Done _ _) = Unit {0}
IsInside (line.Answer _ _ _ _ _ _) = Unit {0}
IsInside _ = ⊥

-- some line behind all conflict lines has come, and none of the end
abbrev pub IsBegun : Place → Type 0
IsBegun place.AfterForget = Unit {0}
IsBegun place.InAnswer = Unit {0}
IsBegun place.InTry = Unit {0}
IsBegun place.AfterCore = Unit {0}
IsBegun place.AfterAnswer = Unit {0}
IsBegun _ = ⊥
