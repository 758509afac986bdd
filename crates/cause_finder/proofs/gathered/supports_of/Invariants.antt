use Rattle.std.proofs.Common.{◌≡◌, ◌≤◌, length}
use Rattle.cause_finder.specs.Supports.{AreGathered}
use Rattle.cause_finder.proofs.gathered.supports_of.Given as goal

abbrev pub invariant-loop-member : goal.invariant-loop-member
invariant-loop-member l = (l.place ≡ l.member-index) × AreGathered l.index l.closure l.member-index l.found.keys × (length l.found.keys ≤ l.limit)
