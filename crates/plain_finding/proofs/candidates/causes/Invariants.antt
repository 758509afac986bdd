use Rattle.std.proofs.Common.{◌≡◌, ◌++◌, drop, filter}
use Rattle.cq_terms.specs.Conflicts.{own_facts, couples}
use Rattle.plain_finding.specs.Groups.{images_of}
use Rattle.plain_finding.proofs.candidates.causes.Given as goal
use Rattle.report_laws.specs.HitLaws.{causes_of, is_free, is_least}
use Rattle.std.proofs.Common.{◌&&◌}

-- the causes so far stand before those of the images that are left
abbrev pub invariant-loop-hit : goal.invariant-loop-hit
invariant-loop-hit l = causes_of (own_facts l.conflicts.clashes) (couples l.conflicts.clashes) (images_of l.hits)
    ≡ l.causes ++ filter (λ numbers. is_free (own_facts l.conflicts.clashes) (couples l.conflicts.clashes) numbers
    && is_least (images_of l.hits) numbers) (images_of (drop l.hit-index l.hits))
