use Rattle.std.proofs.Common.{◌≡◌, drop}
use Rattle.report_laws.specs.HitLaws.{is_least}
use Rattle.plain_finding.specs.Groups.{images_of}
use Rattle.plain_finding.proofs.candidates.is_least.Given as goal

-- what is left decides
abbrev pub invariant-loop-hit : goal.invariant-loop-hit
invariant-loop-hit l = is_least (images_of l.hits) l.image ≡ is_least (images_of (drop l.hit-index l.hits)) l.image
