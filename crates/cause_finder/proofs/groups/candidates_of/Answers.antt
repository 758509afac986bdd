use Rattle.std.proofs.Common.{◌<◌, ◌+◌, All}
use Rattle.cq_terms.specs.Lists.{IsAscending}
use Rattle.cause_finder.proofs.GroupLemmas.{group_done, all_of_group, group_sorted}
use Rattle.cause_finder.proofs.groups.candidates_of.Goals as goal

pub candidate_of-requires-clause-ordered : goal.candidate_of-requires-clause-ordered
candidate_of-requires-clause-ordered c = group_sorted c.args.conflicts.now.clashes c.args.supports.now c.loop-first.rest.now c.loop-first.candidates.items
    (1 + c.group_len.result) c.split_at.result.0.now c.split_at.ensures.front c.loop-first.invariant

pub candidate_of-requires-clause-known : goal.candidate_of-requires-clause-known
candidate_of-requires-clause-known c = all_of_group (λ s. All (λ i. i < c.args.conflicts.now.facts) s.image) c.args.conflicts.now.clashes c.args.supports.now
    c.loop-first.rest.now c.loop-first.candidates.items (1 + c.group_len.result) c.split_at.result.0.now c.split_at.ensures.front c.loop-first.invariant
    c.requires.known

pub candidate_of-requires-clause-ascending : goal.candidate_of-requires-clause-ascending
candidate_of-requires-clause-ascending c = all_of_group (λ s. IsAscending s.image) c.args.conflicts.now.clashes c.args.supports.now c.loop-first.rest.now
    c.loop-first.candidates.items (1 + c.group_len.result) c.split_at.result.0.now c.split_at.ensures.front c.loop-first.invariant c.requires.ascending

pub loop-first-preserved : goal.loop-first-preserved
loop-first-preserved c = group_done c.args.conflicts.now.clashes c.args.supports.now c.loop-first.rest.now c.split_at.result.0.now c.split_at.result.1.now
    c.in-Some.first.now c.in-Some.more.now c.group_len.result c.as_slice-tuple.result.now c.loop-first.candidates.items c.append.new.candidates.items
    c.in_ok-candidate.candidate
    c.in-Some.ensures.cases.0 c.split_at.ensures.front c.split_at.ensures.back c.in_ok-append.ensures.exact c.as_slice-tuple.ensures.lent
    c.loop-first.invariant c.group_len.ensures.same c.group_len.ensures.other c.in_ok-candidate.ensures.tuple c.in_ok-candidate.ensures.exact
