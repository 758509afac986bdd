use Rattle.std.proofs.Common.{◌≡◌, map, take, not}
use Rattle.plain_finding.specs.Kept.{kept_at}
use Rattle.plain_finding.proofs.clauses.part.Given as goal

abbrev pub invariant-loop-place : goal.invariant-loop-place
invariant-loop-place l = record {
  staying : l.staying.items ≡ kept_at (take l.place l.marks) (take l.place l.numbers);
  going : l.going.items ≡ kept_at (take l.place (map not l.marks)) (take l.place l.numbers);
}
