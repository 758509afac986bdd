use Rattle.std.proofs.Common.{◌≡◌, ◌∙◌, ap, arith, length}
use Rattle.cq_terms.specs.ConflictTables.{conflict_entries}
use Rattle.cq_terms.proofs.ConflictTablesLemmas.{entries_few, entries_known, tables_from}
use Rattle.cq_terms.proofs.conflicts.Conflicts.new.Goals as goal

pub grouped-requires-clause-few : goal.grouped-requires-clause-few
grouped-requires-clause-few c =
    let is : c.as_slice-3.result.now ≡ conflict_entries c.args.clashes.items =
    c.as_slice-3.ensures.value ∙ c.in_ok-entries.ensures.exact ∙ ap conflict_entries c.as_slice-2.ensures.value in
    omega (arith, ap length is, entries_few c.args.facts c.args.clashes.items c.requires.kept)

pub grouped-requires-clause-below : goal.grouped-requires-clause-below
grouped-requires-clause-below c =
    let is : c.as_slice-3.result.now ≡ conflict_entries c.args.clashes.items =
    c.as_slice-3.ensures.value ∙ c.in_ok-entries.ensures.exact ∙ ap conflict_entries c.as_slice-2.ensures.value in
    rw is (entries_known c.args.facts c.args.clashes.items c.requires.kept)

pub invariant_of-result : goal.invariant_of-result
invariant_of-result c =
    let is : c.as_slice-3.result.now ≡ conflict_entries c.args.clashes.items =
    c.as_slice-3.ensures.value ∙ c.in_ok-entries.ensures.exact ∙ ap conflict_entries c.as_slice-2.ensures.value in
    tables_from c.args.facts c.args.clashes.items c.in_ok-own.own.items c.in_ok-adjacent.adjacent c.requires.kept
    (rw c.as_slice.ensures.value at c.in_ok-own.ensures.exact)
    (rw is at c.in_ok-adjacent.ensures.exact)
