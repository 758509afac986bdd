use Rattle.std.proofs.Common.{ℕ, List, sym, subst}
use Rattle.std.proofs.lemmas.Result.{IfOk-weaker}
use Rattle.cq_terms.specs.declared.facts.Fact.{Fact}
use Rattle.plain_match.specs.Hits.{AreHitsOfAll}
use Rattle.plain_finding.specs.Groups.{AreOfFacts}
use Rattle.plain_finding.proofs.GroupLemmas.{hits_known, grouped_are}
use Rattle.plain_finding.proofs.candidates.find_candidates.Goals as goal

pub group_hits-requires-clause-known : goal.group_hits-requires-clause-known
group_hits-requires-clause-known c =
    rw c.as_slice.ensures.value (subst (λ (n : ℕ). AreOfFacts n c.in_ok-hits.hits.items) (sym c.requires.facts)
    (hits_known c.args.plain.now c.args.members.now c.in_ok-hits.hits.items c.in_ok-hits.ensures.exact))

pub returns : goal.returns
returns c = record {
  exact = λ kb q e distinct of closure. IfOk-weaker c.group_hits.result _ _
      (λ cs w. grouped_are kb q c.args.members.now c.args.conflicts.now c.in_ok-hits.hits.items cs.items distinct of closure
      (subst (λ (fs : List Fact). AreHitsOfAll fs c.args.members.now c.in_ok-hits.hits.items) (sym e) c.in_ok-hits.ensures.exact)
      (rw c.as_slice.ensures.value at w))
      c.group_hits.ensures.exact;
}
