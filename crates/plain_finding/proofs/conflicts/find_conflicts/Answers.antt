use Rattle.std.proofs.Common.{◌≡◌, ◌<◌, ◌≤◌, ◌^◌, List, length, refl, sym, ap, subst, arith}
use Rattle.std.proofs.lemmas.Result.{IfOk-weaker}
use Rattle.cq_terms.specs.declared.facts.Fact.{Fact}
use Rattle.cq_terms.specs.declared.hits.Clash.{Clash}
use Rattle.cq_terms.specs.Conflicts.{ConflictGraph}
use Rattle.cq_meaning.specs.ConflictGraphs.{AreConflictsOf}
use Rattle.plain_finding.proofs.ClashFinding.{hits_tell, hits_of_table, found_kept, found_are}
use Rattle.plain_finding.proofs.conflicts.find_conflicts.Goals as goal

pub clashes-requires : goal.clashes-requires
clashes-requires c =
    let are = hits_of_table c.args.kb.now c.args.plain.now c.args.queries.now c.args.queries.now c.in_ok-hits.hits.items c.requires.plain refl
    c.in_ok-hits.ensures.exact in
    record {
      ascending = rw c.deref.ensures.value
          (hits_tell c.args.kb.now c.args.queries.now c.in_ok-hits.hits.items c.facts-facts.ensures.distinct c.requires.ready are).owns_ascending;
    }

pub new-requires : goal.new-requires
new-requires c =
    let are = hits_of_table c.args.kb.now c.args.plain.now c.args.queries.now c.args.queries.now c.in_ok-hits.hits.items c.requires.plain refl
    c.in_ok-hits.ensures.exact in
    let size : length c.facts-facts.result.now ≡ length c.args.kb.now.facts = ap (λ (fs : List Fact). length fs) c.facts-facts.ensures.lent in
    let few_facts : length c.facts-facts.result.now ≤ 2 ^ 31 = omega (arith, c.if-facts-gt2147483648.false) in
    let same : length c.as_slice-count.result.now ≡ length c.in_ok-clashes.clashes.items = ap (λ (cs : List Clash). length cs) c.as_slice-count.ensures.value in
    let few : length c.in_ok-clashes.clashes.items < 2 ^ 31 = omega (arith, c.if-count-ge2147483648.false, same) in
    record {
      kept = found_kept c.args.kb.now c.args.queries.now c.in_ok-hits.hits.items c.in_ok-clashes.clashes.items (length c.facts-facts.result.now)
          c.facts-facts.ensures.distinct c.requires.ready are (rw c.deref.ensures.value at c.in_ok-clashes.ensures.exact) size few_facts few;
    }

pub returns : goal.returns
returns c =
    let are = hits_of_table c.args.kb.now c.args.plain.now c.args.queries.now c.args.queries.now c.in_ok-hits.hits.items c.requires.plain refl
    c.in_ok-hits.ensures.exact in
    let size : length c.facts-facts.result.now ≡ length c.args.kb.now.facts = ap (λ (fs : List Fact). length fs) c.facts-facts.ensures.lent in
    record {
      exact = IfOk-weaker c.new.result _ _
          (λ g e. subst (λ (h : ConflictGraph). AreConflictsOf c.args.kb.now h) (sym e)
          (found_are c.args.kb.now c.args.queries.now c.in_ok-hits.hits.items c.in_ok-clashes.clashes.items (length c.facts-facts.result.now)
          c.facts-facts.ensures.distinct c.requires.ready are (rw c.deref.ensures.value at c.in_ok-clashes.ensures.exact) size))
          c.new.ensures.exact;
    }
