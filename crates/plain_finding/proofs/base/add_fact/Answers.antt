use Rattle.std.proofs.Common.{ℕ, List, [], ◌∷◌, ◌++◌, subst, append_assoc}
use Rattle.std.proofs.lemmas.Result.{on_ok_weaker}
use Rattle.repair_clauses.specs.BaseClauses.{IsFactClause}
use Rattle.plain_finding.specs.BaseParts.{AreClausesOf, conflict_clauses}
use Rattle.plain_finding.specs.Kept.{Holds}
use Rattle.plain_finding.proofs.BaseLemmas.{fact_below, clauses_of}
use Rattle.plain_finding.proofs.base.add_fact.Goals as goal

pub add_base-requires : goal.add_base-requires
add_base-requires c = record {
  in_range = rw c.as_slice.ensures.value
      (fact_below c.args.better.now c.args.conflicts.now c.args.clauses.now.variables c.args.fact _ c.requires.over c.requires.kept c.requires.enough
      c.requires.known c.in_ok-fill_fact_clause.ensures.exact);
}

pub returns-clause-exact : goal.returns-clause-exact
returns-clause-exact c =
    let p = c.args.better.now in
    let fact = c.args.fact in
    let clause = c.as_slice.result.now in
    let alone : IsFactClause p fact clause = rw c.as_slice.ensures.value c.in_ok-fill_fact_clause.ensures.exact in
    let rivals = c.of.result.now in
    let step : ((base : List (List ℕ)) → Holds c.add_base.new.self base [] []
    → Holds c.add_conflicts.new.clauses (base ++ conflict_clauses fact rivals) [] [])
    → (base : List (List ℕ)) → Holds c.args.clauses.now base [] []
    → (more : List (List ℕ)) × AreClausesOf p fact more × Holds c.add_conflicts.new.clauses (base ++ more) [] [] =
    λ conflicts base h. (
      clause ∷ conflict_clauses fact rivals,
      clauses_of p c.args.conflicts.now fact clause rivals c.requires.over c.requires.kept alone c.of.ensures.exact,
      subst (λ (cs : List (List ℕ)). Holds c.add_conflicts.new.clauses cs [] []) (append_assoc base (clause ∷ []) (conflict_clauses fact rivals))
          (conflicts (base ++ clause ∷ []) (c.in_ok-add_base.ensures.exact base [] [] h)),
    ) in
    on_ok_weaker _ step c.add_conflicts.ensures.exact
