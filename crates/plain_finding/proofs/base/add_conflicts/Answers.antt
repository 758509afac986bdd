use Rattle.std.proofs.Common.{◌≡◌, ℕ, List, [], ◌∷◌, ◌++◌, get_or, take, sym, subst, ◌∙◌}
use Rattle.clause_meaning.specs.Literals.{AreBelow}
use Rattle.repair_clauses.specs.BaseClauses.{conflict_clause}
use Rattle.plain_finding.specs.BaseParts.{conflict_clauses}
use Rattle.plain_finding.specs.Kept.{Holds}
use Rattle.plain_finding.proofs.BaseLemmas.{conflict_below, conflicts_more, conflicts_same}
use Rattle.plain_finding.proofs.base.add_conflicts.Goals as goal
use Rattle.plain_finding.proofs.base.add_conflicts.Goals.{then-fact-rival+in_ok-fill_conflict_clause+in_ok-add_base, else-fact-rival}

pub add_base-requires : goal.add_base-requires
add_base-requires c =
    let k = c.loop-rival.rival-index in
    let rival = get_or c.args.rivals.now k 0 in
    let built : c.as_slice.result.now ≡ conflict_clause c.args.fact rival = c.as_slice.ensures.value ∙ c.in_ok-fill_conflict_clause.ensures.exact in
    record {
      in_range = subst (λ (ls : List ℕ). AreBelow c.loop-rival.clauses.variables ls) (sym built)
          (subst (λ (v : ℕ). AreBelow v (conflict_clause c.args.fact rival)) (sym c.loop-rival.invariant.same)
          (conflict_below c.args.clauses.now.variables c.args.fact rival c.requires.known (c.requires.known_rivals k 0 c.loop-rival-test.true)));
    }

pub loop-rival-preserved : goal.loop-rival-preserved
loop-rival-preserved c =
    let k = c.loop-rival.rival-index in
    let fact = c.args.fact in
    let rivals = c.args.rivals.now in
    elim c.if-fact-rival.branch [
      | then-fact-rival+in_ok-fill_conflict_clause+in_ok-add_base w ↦ rw w.clauses-is (record {
        same = w.in_ok-add_base.ensures.same ∙ c.loop-rival.invariant.same;
        exact = λ base h.
            subst (λ (cs : List (List ℕ)). Holds w.add_base.new.self cs [] [])
            (conflicts_more fact rivals k c.loop-rival-test.true w.if-fact-rival.true base)
            (subst (λ (x : List ℕ). Holds w.add_base.new.self ((base ++ conflict_clauses fact (take k rivals)) ++ x ∷ []) [] [])
            (w.as_slice.ensures.value ∙ w.in_ok-fill_conflict_clause.ensures.exact)
            (w.in_ok-add_base.ensures.exact (base ++ conflict_clauses fact (take k rivals)) [] [] (c.loop-rival.invariant.exact base h)));
      })
      | else-fact-rival w ↦ rw w.clauses-is (record {
        same = c.loop-rival.invariant.same;
        exact = λ base h.
            subst (λ (cs : List (List ℕ)). Holds c.loop-rival.clauses (base ++ cs) [] [])
            (sym (conflicts_same fact rivals k c.loop-rival-test.true w.if-fact-rival.false)) (c.loop-rival.invariant.exact base h);
      })
    ]
