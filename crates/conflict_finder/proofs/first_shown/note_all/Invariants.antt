use Rattle.conflict_finder.specs.FirstShown.{AddsNew}
use Rattle.conflict_finder.proofs.Turns.{IsMet}
use Rattle.conflict_finder.proofs.first_shown.note_all.Given as goal

-- the keys so far were noted
abbrev pub invariant-loop-key : goal.invariant-loop-key
invariant-loop-key l = AddsNew (IsMet l.keys l.key-index) l.source l.initial.shown.entries l.shown.entries
