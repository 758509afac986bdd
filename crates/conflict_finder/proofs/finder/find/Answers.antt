use Rattle.std.proofs.Common.{◌≡◌, ◌∙◌, ◌<◌, ◌≤◌, ◌^◌, ◌↔◌, ℕ, List, [], length, Contains, All, AllPairs, Err, map, sym, ap, subst, arith, slice_get, Some}
use Rattle.std.specs.List.{AllZip}
use Rattle.std.proofs.lemmas.Result.{err_from_is_err_and}
use Rattle.cq_terms.specs.declared.facts.Fact.{Fact}
use Rattle.cq_terms.specs.declared.hits.Clash.{Clash}
use Rattle.cq_terms.specs.Conflicts.{ConflictGraph, own_facts, couples, AreClashes}
use Rattle.cq_terms.specs.Knowledge.{AreDistinct, kb_of}
use Rattle.cq_meaning.specs.Conflicts.{AreConflicts}
use Rattle.cq_meaning.proofs.Ascending.{All-of}
use Rattle.cq_steps.specs.declared.closure.Member.{Member}
use Rattle.join_eval.specs.declared.refusal.JoinRefusal.{JoinRefusal}
use Rattle.join_eval.specs.declared.refusal.JoinRefusal.TheVariants as join
use Rattle.conflict_finder.specs.declared.refusal.FindRefusal.TheVariants as refusal
use Rattle.conflict_finder.specs.declared.clash_facts.ClashFacts.{ClashFacts}
use Rattle.conflict_finder.specs.declared.clash_facts.ClashFacts.TheVariants.{One}
use Rattle.conflict_finder.specs.declared.first_shown.Source.{Source}
use Rattle.conflict_finder.specs.declared.sought.Sought.TheVariants.{Singles, Pairs}
use Rattle.conflict_finder.specs.Finding.{refusal_of, HasMoreSets, IsShownFirst}
use Rattle.conflict_finder.specs.Images.{ArePart, AreShort}
use Rattle.conflict_finder.specs.FirstShown.{HasKey, AreFirst, IsScanned, IsNotedOrShown, clash_of}
use Rattle.conflict_finder.proofs.Parts.{part_distinct}
use Rattle.conflict_finder.proofs.Joins.{part_length}
use Rattle.conflict_finder.proofs.Forbidding.{all_short}
use Rattle.conflict_finder.proofs.Final.{are_conflicts, clashes_named, are_clashes, none_more, many_alone, many_pairs}
use Rattle.conflict_finder.proofs.finder.find.Goals as goal
use Rattle.conflict_finder.proofs.finder.find.Goals.{After-new-shown, In_ok-scan, In_ok-numbers, In_ok-facts_at, In_ok-scan-2, In_ok-conflicts}

-- only a join with too many hits is told as too many conflicts
too_many : (r : JoinRefusal) → refusal_of r ≡ refusal.Conflicts → r ≡ join.TooManyHits
too_many join.TooManyHits e = cc
too_many join.NoMemory e = cc

-- the queries of the closures are short
short : (c : After-new-shown) → AreShort c.in_ok-closures.closures.items
short c = all_short c.closing_list_is_closure.ensures c.args.axioms.now c.args.index.now c.in_ok-closures.closures.items c.in_ok-closures.ensures.exact
    c.in_ok-closures.ensures.derived

-- what was shown alone
scanned_alone : (c : In_ok-scan) → IsScanned c.args.index.now c.in_ok-closures.closures.items Singles [] (λ m p. Unit {0}) [] c.scan.new.shown.entries
scanned_alone c =
    subst (λ (old : List (ClashFacts × Source)). IsScanned c.args.index.now c.in_ok-closures.closures.items Singles [] (λ m p. Unit {0}) old
    c.scan.new.shown.entries) c.new-shown.ensures.empty
    (subst (λ (closures : List (ℕ × List Member)). IsScanned c.args.index.now closures Singles [] (λ m p. Unit {0}) c.new-shown.result.entries
    c.scan.new.shown.entries) c.deref.ensures.value c.in_ok-scan.ensures.shown)

-- the numbers of the other facts
other_numbers : (c : In_ok-numbers) → (n : ℕ) → Contains c.in_ok-numbers.numbers.items n
    ↔ ((n < length c.args.index.now) × (HasKey c.scan.new.shown.entries (One n) → ⊥))
other_numbers c = subst (λ count. (n : ℕ) → Contains c.in_ok-numbers.numbers.items n ↔ ((n < count) × (HasKey c.scan.new.shown.entries (One n) → ⊥)))
    c.len-count.ensures.exact c.in_ok-numbers.ensures.exact

-- the part of the table that has them
part_of : (c : In_ok-facts_at) → ArePart c.args.index.now c.in_ok-numbers.numbers.items c.in_ok-facts_at.field-0.items
part_of c = record {
  distinct = c.len-count.ensures.distinct;
  ascending = c.in_ok-numbers.ensures.ascending;
  each = subst (λ (numbers : List ℕ). AllZip (λ n f. slice_get c.args.index.now n ≡ Some f) numbers c.in_ok-facts_at.field-0.items) c.deref-2.ensures.value
      c.in_ok-facts_at.ensures.exact;
}

-- what was shown in all
scanned_both : (c : In_ok-scan-2) → IsScanned c.args.index.now c.in_ok-closures.closures.items Pairs c.in_ok-numbers.numbers.items (λ m p. Unit {0})
    c.scan.new.shown.entries c.scan-2.new.shown.entries
scanned_both c =
    subst (λ (numbers : List ℕ). IsScanned c.args.index.now c.in_ok-closures.closures.items Pairs numbers (λ m p. Unit {0}) c.scan.new.shown.entries
    c.scan-2.new.shown.entries) c.deref-4.ensures.value
    (subst (λ (closures : List (ℕ × List Member)). IsScanned c.args.index.now closures Pairs c.deref-4.result.now (λ m p. Unit {0}) c.scan.new.shown.entries
    c.scan-2.new.shown.entries) c.deref-5.ensures.value c.in_ok-scan-2.ensures.shown)

pub scan-requires-clause-part : goal.scan-requires-clause-part
scan-requires-clause-part c = λ e. cc e

pub scan-requires-clause-short : goal.scan-requires-clause-short
scan-requires-clause-short c = subst AreShort (sym c.deref.ensures.value) (short (goal.at.scan-requires-clause-short c).After-new-shown)

pub returns-in_err-scan-clause-conflicts_refused : goal.returns-in_err-scan-clause-conflicts_refused
returns-in_err-scan-clause-conflicts_refused c = λ e.
    let (y, is, same) = err_from_is_err_and c.from_residual-in_err-scan.result c.from_residual-in_err-scan.ensures.1 in
    let join_is = too_many c.in_err-scan.field-0.0 (cc (is, same, e)) in
    let more = c.in_err-scan.ensures.many (ap Err join_is) in (
      c.in_ok-closures.ensures.fit,
      many_alone c.closing_list_is_closure.ensures c.args.axioms.now c.args.index.now c.len-count.ensures.distinct c.in_ok-closures.closures.items
          c.in_ok-closures.ensures.exact c.in_ok-closures.ensures.derived [] c.args.max_conflicts
          (subst (λ (old : List (ClashFacts × Source)). HasMoreSets (IsNotedOrShown c.args.index.now c.in_ok-closures.closures.items Singles [] old)
          c.args.max_conflicts) c.new-shown.ensures.empty
          (subst (λ (closures : List (ℕ × List Member)). HasMoreSets (IsNotedOrShown c.args.index.now closures Singles [] c.new-shown.result.entries)
          c.args.max_conflicts) c.deref.ensures.value more)),
    )

pub facts_at-requires : goal.facts_at-requires
facts_at-requires c = record {
  named = subst (λ (numbers : List ℕ). All (λ n. n < length c.args.index.now) numbers) (sym c.deref-2.ensures.value)
      (All-of (λ n. n < length c.args.index.now) c.in_ok-numbers.numbers.items
      (λ n there. ((other_numbers (goal.at.facts_at-requires c).In_ok-numbers n).0 there).0));
}

pub build-requires-clause-distinct : goal.build-requires-clause-distinct
build-requires-clause-distinct c = subst AreDistinct (sym c.deref-3.ensures.value)
    (part_distinct c.args.index.now c.len-count.ensures.distinct c.in_ok-numbers.numbers.items c.in_ok-facts_at.field-0.items
    (part_of (goal.at.build-requires-clause-distinct c).In_ok-facts_at))

pub build-requires-clause-few : goal.build-requires-clause-few
build-requires-clause-few c =
    let same = part_length c.args.index.now c.in_ok-numbers.numbers.items c.in_ok-facts_at.field-0.items
    (part_of (goal.at.build-requires-clause-few c).In_ok-facts_at) in
    let few = c.in_ok-numbers.ensures.few in
    subst (λ (facts : List Fact). length facts < 2 ^ 31) (sym c.deref-3.ensures.value)
    (omega (arith, same, few, c.len-count.ensures.exact, c.len-count.ensures.few))

pub scan-requires-2-clause-part : goal.scan-requires-2-clause-part
scan-requires-2-clause-part c = λ pairs.
    subst (λ (numbers : List ℕ). ArePart c.args.index.now numbers c.in_ok-part.part) (sym c.deref-4.ensures.value)
    (subst (λ (part : List Fact). ArePart c.args.index.now c.in_ok-numbers.numbers.items part) (sym (c.in_ok-part.ensures.exact ∙ c.deref-3.ensures.value))
    (part_of (goal.at.scan-requires-2-clause-part c).In_ok-facts_at))

pub scan-requires-2-clause-short : goal.scan-requires-2-clause-short
scan-requires-2-clause-short c = subst AreShort (sym c.deref-5.ensures.value) (short (goal.at.scan-requires-2-clause-short c).After-new-shown)

pub scan-requires-2-clause-ascending : goal.scan-requires-2-clause-ascending
scan-requires-2-clause-ascending c = subst (λ (closures : List (ℕ × List Member)). AllPairs (λ a b. a.0 < b.0) closures) (sym c.deref-5.ensures.value)
    c.in_ok-closures.ensures.exact.ascending

pub scan-requires-2-clause-first : goal.scan-requires-2-clause-first
scan-requires-2-clause-first c = subst (λ (closures : List (ℕ × List Member)). AreFirst c.args.index.now closures c.scan.new.shown.entries)
    (sym c.deref-5.ensures.value) (scanned_alone (goal.at.scan-requires-2-clause-first c).In_ok-scan).first

pub returns-in_err-scan-2-clause-conflicts_refused : goal.returns-in_err-scan-2-clause-conflicts_refused
returns-in_err-scan-2-clause-conflicts_refused c = λ e.
    let (y, is, same) = err_from_is_err_and c.from_residual-in_err-scan-2.result c.from_residual-in_err-scan-2.ensures.1 in
    let join_is = too_many c.in_err-scan-2.field-0.0 (cc (is, same, e)) in
    let more = c.in_err-scan-2.ensures.many (ap Err join_is) in
    let at = goal.at.returns-in_err-scan-2-clause-conflicts_refused c in (
      c.in_ok-closures.ensures.fit,
      many_pairs c.closing_list_is_closure.ensures c.args.axioms.now c.args.index.now c.len-count.ensures.distinct c.in_ok-closures.closures.items
          c.in_ok-closures.ensures.exact c.in_ok-closures.ensures.derived
          [] c.scan.new.shown.entries (scanned_alone at.In_ok-scan) c.in_ok-numbers.numbers.items (other_numbers at.In_ok-numbers) c.args.max_conflicts
          (subst (λ (numbers : List ℕ). HasMoreSets (IsNotedOrShown c.args.index.now c.in_ok-closures.closures.items Pairs numbers c.scan.new.shown.entries)
          c.args.max_conflicts) c.deref-4.ensures.value
          (subst (λ (closures : List (ℕ × List Member)). HasMoreSets (IsNotedOrShown c.args.index.now closures Pairs c.deref-4.result.now
          c.scan.new.shown.entries) c.args.max_conflicts) c.deref-5.ensures.value more)),
    )

pub new-requires : goal.new-requires
new-requires c =
    let at = goal.at.new-requires c in
    let facts = c.args.index.now in
    let both = c.scan-2.new.shown.entries in
    let count : length facts ≤ 2 ^ 31 = omega (arith, c.len-count.ensures.few) in
    let few = c.in_ok-scan-2.ensures.few in
    let short : length both < 2 ^ 31 = omega (arith, few, c.requires.limit_fits) in
    record {
      kept = subst (λ n. AreClashes n c.in_ok-clashes.clashes.items) (sym c.len-count.ensures.exact)
          (subst (λ (clashes : List Clash). AreClashes (length facts) clashes) (sym c.in_ok-clashes.ensures.exact)
          (are_clashes c.closing_list_is_closure.ensures c.args.axioms.now facts c.len-count.ensures.distinct c.in_ok-closures.closures.items
          c.in_ok-closures.ensures.exact c.in_ok-closures.ensures.derived
          [] c.scan.new.shown.entries (scanned_alone at.In_ok-scan) c.in_ok-numbers.numbers.items (other_numbers at.In_ok-numbers) both
          (scanned_both at.In_ok-scan-2) c.in_ok-clashes.ensures.ordered count short));
    }

-- the clashes that are told
clashes_are : (c : In_ok-conflicts) → c.in_ok-conflicts.conflicts.clashes ≡ map clash_of c.scan-2.new.shown.entries
clashes_are c = ap (λ (g : ConflictGraph). g.clashes) c.in_ok-conflicts.ensures.exact ∙ c.in_ok-clashes.ensures.exact

pub returns-clause-conflicts : goal.returns-clause-conflicts
returns-clause-conflicts c =
    let at = goal.at.returns-clause-conflicts c in
    subst (λ (clashes : List Clash). AreConflicts (kb_of c.args.axioms.now c.args.index.now) (own_facts clashes) (couples clashes))
    (sym (clashes_are at.In_ok-conflicts))
    (are_conflicts c.closing_list_is_closure.ensures c.args.axioms.now c.args.index.now c.len-count.ensures.distinct c.in_ok-closures.closures.items
    c.in_ok-closures.ensures.exact c.in_ok-closures.ensures.derived
    [] c.scan.new.shown.entries (scanned_alone at.In_ok-scan) c.in_ok-numbers.numbers.items (other_numbers at.In_ok-numbers) c.scan-2.new.shown.entries
    (scanned_both at.In_ok-scan-2) c.in_ok-clashes.ensures.ordered)

pub returns-clause-named : goal.returns-clause-named
returns-clause-named c =
    let at = goal.at.returns-clause-named c in
    subst (λ (clashes : List Clash). All (λ (d : Clash). IsShownFirst c.args.index.now c.in_ok-closures.closures.items d.facts d.«axiom» d.member) clashes)
    (sym (clashes_are at.In_ok-conflicts))
    (clashes_named c.closing_list_is_closure.ensures c.args.axioms.now c.args.index.now c.len-count.ensures.distinct c.in_ok-closures.closures.items
    c.in_ok-closures.ensures.exact c.in_ok-closures.ensures.derived
    [] c.scan.new.shown.entries (scanned_alone at.In_ok-scan) c.in_ok-numbers.numbers.items (other_numbers at.In_ok-numbers) c.scan-2.new.shown.entries
    (scanned_both at.In_ok-scan-2))

pub returns-clause-within : goal.returns-clause-within
returns-clause-within c =
    let at = goal.at.returns-clause-within c in (
      c.in_ok-closures.ensures.fit,
      none_more c.closing_list_is_closure.ensures c.args.axioms.now c.args.index.now c.len-count.ensures.distinct c.in_ok-closures.closures.items
          c.in_ok-closures.ensures.exact c.in_ok-closures.ensures.derived
          [] c.scan.new.shown.entries (scanned_alone at.In_ok-scan) c.in_ok-numbers.numbers.items (other_numbers at.In_ok-numbers) c.scan-2.new.shown.entries
          (scanned_both at.In_ok-scan-2) c.args.max_conflicts c.in_ok-scan-2.ensures.few,
    )
