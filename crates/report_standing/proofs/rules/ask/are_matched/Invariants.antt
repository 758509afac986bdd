use Rattle.std.proofs.Common.{ℕ, ◌<◌, List, get_or}
use Rattle.report_text.specs.declared.line.Origin.TheVariants as origin
use Rattle.report_rules.specs.Rules.{MemberMatches}
use Rattle.report_laws.specs.Standing.{members_at}
use Rattle.report_standing.proofs.rules.ask.are_matched.Given as goal

-- each cause so far has its member
abbrev pub invariant-loop-i : goal.invariant-loop-i
invariant-loop-i l = (k : ℕ) (d : List ℕ) → k < l.i
    → MemberMatches l.plain (members_at l.standing.blocks origin.Query) (get_or l.members k 0) l.tuple (get_or l.causes k d)
