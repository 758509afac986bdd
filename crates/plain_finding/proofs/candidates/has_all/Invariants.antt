use Rattle.std.proofs.Common.{◌≡◌, drop}
use Rattle.report_laws.specs.HitLaws as laws
use Rattle.plain_finding.proofs.candidates.has_all.Given as goal

-- what is left decides
abbrev pub invariant-loop-number : goal.invariant-loop-number
invariant-loop-number l = laws.has_all l.list l.numbers ≡ laws.has_all l.list (drop l.number-index l.numbers)
