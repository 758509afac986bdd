use Rattle.std.proofs.lemmas.Result.{err_from_is_err_and}
use Rattle.fact_tables.proofs.FactProgress.{all_numbered, begun, concepts_fit, grown_after, grown_so_far, inds_fit, kept_after, refuse, roles_fit, step}
use Rattle.fact_tables.proofs.facts.read_facts.Goals as goal

pub loop-table-init : goal.loop-table-init
loop-table-init c = rw c.new-rows.ensures.all (begun c.args.bytes.now c.args.vocab.now c.new-table.result c.new-table.ensures.facts c.new-table.ensures.records)

pub returns-in_err-next-clause-grown : goal.returns-in_err-next-clause-grown
returns-in_err-next-clause-grown c = grown_so_far _ _ _ _ _ c.loop-table.invariant

pub take_record-requires-clause-concepts : goal.take_record-requires-clause-concepts
take_record-requires-clause-concepts c = concepts_fit _ _ _ _ _ c.loop-table.invariant c.requires.room

pub take_record-requires-clause-roles : goal.take_record-requires-clause-roles
take_record-requires-clause-roles c = roles_fit _ _ _ _ _ c.loop-table.invariant c.requires.room

pub take_record-requires-clause-inds : goal.take_record-requires-clause-inds
take_record-requires-clause-inds c = inds_fit _ _ _ _ _ c.loop-table.invariant c.requires.room

pub loop-table-preserved : goal.loop-table-preserved
loop-table-preserved c =
    let adds = c.in_ok-take_record.ensures in
    step _ _ _ _ _ _ _ c.loop-table.invariant (c.in_ok-next.ensures.found c.if-branch.true) _ _ adds.exact adds.more adds.kept adds.grown

pub returns-in_err-take_record-clause-refused : goal.returns-in_err-take_record-clause-refused
returns-in_err-take_record-clause-refused c =
    let (y, is, same) = err_from_is_err_and c.from_residual-in_err-take_record.result c.from_residual-in_err-take_record.ensures.1 in
    rw (is, same) (refuse _ _ _ _ _ _ _ c.loop-table.invariant (c.in_ok-next.ensures.found c.if-branch.true) _ c.in_err-take_record.ensures.refused)

pub returns-in_err-take_record-clause-kept : goal.returns-in_err-take_record-clause-kept
returns-in_err-take_record-clause-kept c = kept_after _ _ _ _ _ _ _ c.loop-table.invariant (c.in_ok-next.ensures.found c.if-branch.true) _
    c.in_err-take_record.ensures.kept

pub returns-in_err-take_record-clause-grown : goal.returns-in_err-take_record-clause-grown
returns-in_err-take_record-clause-grown c = grown_after _ _ _ _ _ _ _ c.loop-table.invariant (c.in_ok-next.ensures.found c.if-branch.true) _
    c.in_err-take_record.ensures.grown

pub returns-clause-numbered : goal.returns-clause-numbered
returns-clause-numbered c = all_numbered _ _ _ _ _ c.loop-table.invariant

pub returns-clause-grown : goal.returns-clause-grown
returns-clause-grown c = grown_so_far _ _ _ _ _ c.loop-table.invariant
