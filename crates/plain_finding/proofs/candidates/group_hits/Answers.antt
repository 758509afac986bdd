use Rattle.std.proofs.Common.{◌<◌, ◌-◌, All, List, length, take, drop, sym, subst, arith}
use Rattle.std.proofs.lemmas.Bool.Decides.{nat_tests}
use Rattle.cq_terms.specs.declared.hits.Hit.{Hit}
use Rattle.cq_terms.specs.Lists.{IsAscending}
use Rattle.report_laws.specs.AtStanding.{Candidate}
use Rattle.plain_finding.specs.Groups.{AreGrouped, AreOfFacts, hits_of}
use Rattle.plain_finding.proofs.GroupLemmas.{grouped_step}
use Rattle.report_parts.proofs.ListFacts.{all_right, all_front}
use Rattle.plain_finding.proofs.candidates.group_hits.Goals as goal

pub candidate-requires-clause-known : goal.candidate-requires-clause-known
candidate-requires-clause-known c =
    all_front (λ (h : Hit). IsAscending h.image × All (λ i. i < c.args.conflicts.now.facts) h.image) c.run_length-count.result c.loop-rest.rest.now
    (all_right (λ (h : Hit). IsAscending h.image × All (λ i. i < c.args.conflicts.now.facts) h.image) (hits_of c.loop-rest.invariant.groups)
    c.loop-rest.rest.now
    (subst (λ (hs : List Hit). AreOfFacts c.args.conflicts.now.facts hs) (sym c.loop-rest.invariant.all) c.requires.known))

pub loop-rest-preserved : goal.loop-rest-preserved
loop-rest-preserved c =
    let some : 0 < length c.loop-rest.rest.now = grind (arith, nat_tests) in
    subst (λ (cs : List Candidate). AreGrouped c.args.conflicts.now.clashes c.args.hits.now
    (take (length c.loop-rest.rest.now - c.run_length-count.result) (drop c.run_length-count.result c.loop-rest.rest.now)) cs)
    (sym {A = List Candidate} c.in_ok-push.ensures.items)
    (grouped_step c.args.conflicts.now.clashes c.args.hits.now c.loop-rest.rest.now c.loop-rest.candidates.items c.run_length-count.result
    c.in_ok-candidate.field-0
    c.requires.ordered c.loop-rest.invariant some c.run_length-count.ensures.some c.run_length-count.ensures.within c.run_length-count.ensures.same
    c.run_length-count.ensures.other (λ d. c.in_ok-candidate.ensures.exact d))
