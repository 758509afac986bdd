use Rattle.std.proofs.Common.{◌≡◌, ◌<◌, ◌≤◌, ℕ, List, length, Contains, AllPairs}
use Rattle.cq_steps.specs.declared.closure.Member.{Member}
use Rattle.conflict_finder.specs.declared.clash_facts.ClashFacts.{ClashFacts}
use Rattle.conflict_finder.specs.declared.first_shown.Source.{Source}
use Rattle.conflict_finder.specs.FirstShown.{IsScanned, IsEarlier}
use Rattle.conflict_finder.proofs.scan.scan_members.Given as goal

-- the members so far were gone through
abbrev pub invariant-loop-member : goal.invariant-loop-member
invariant-loop-member l = record {
  place : l.place ≡ l.member-index;
  few : length l.shown.entries ≤ l.pass.limit;
  so : (closures : List (ℕ × List Member)) (first : List (ClashFacts × Source)) → Contains closures (l.rule, l.members) → AllPairs (λ c d. c.0 < d.0) closures
      → IsScanned l.pass.index.now closures l.pass.sought l.pass.numbers.now (IsEarlier l.rule 0) first l.initial.shown.entries
      → IsScanned l.pass.index.now closures l.pass.sought l.pass.numbers.now (IsEarlier l.rule l.member-index) first l.shown.entries;
}
