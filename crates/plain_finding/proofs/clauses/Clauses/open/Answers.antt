use Rattle.std.proofs.Common.{◌≡◌, ◌∙◌, ◌++◌, ◌∷◌, [], ℕ, List, map, take, get_or, subst, sym, ap}
use Rattle.std.proofs.lemmas.List.{get_or_default}
use Rattle.clause_meaning.specs.Literals.{AreBelow}
use Rattle.repair_clauses.specs.CauseClauses.{cause_clause}
use Rattle.plain_finding.specs.Kept.{Holds}
use Rattle.plain_finding.proofs.InsideLemmas.{cause_below, causes_more}
use Rattle.plain_finding.proofs.clauses.Clauses.open.Goals as goal

pub add_open-requires : goal.add_open-requires
add_open-requires c =
    let k = c.loop-cause.cause-index in
    let selector = c.args.selector in
    let at : c.as_slice.result.now ≡ get_or c.args.causes.now k [] =
    c.as_slice.ensures.lent ∙ (c.cause-item.is ∙ get_or_default c.args.causes.now k c.cause-item.result [] c.loop-cause-test.true) in
    let built : c.as_slice-in-loop-cause.result.now ≡ cause_clause selector (get_or c.args.causes.now k []) =
    c.as_slice-in-loop-cause.ensures.value ∙ (c.in_ok-fill_cause_clause.ensures.exact ∙ ap (cause_clause selector) at) in
    let below : AreBelow c.args.self.now.variables (cause_clause selector (get_or c.args.causes.now k [])) =
    cause_below c.args.self.now.variables selector (get_or c.args.causes.now k []) c.requires.selector
    (c.requires.in_range k [] c.loop-cause-test.true) in
    record {
      in_range = subst (λ (ls : List ℕ). AreBelow c.loop-cause.self.variables ls) (sym built)
          (subst (λ (v : ℕ). AreBelow v (cause_clause selector (get_or c.args.causes.now k []))) (sym c.loop-cause.invariant.same) below);
    }

pub loop-cause-preserved : goal.loop-cause-preserved
loop-cause-preserved c =
    let k = c.loop-cause.cause-index in
    let selector = c.args.selector in
    let causes = c.args.causes.now in
    let at : c.as_slice.result.now ≡ get_or causes k [] =
    c.as_slice.ensures.lent ∙ (c.cause-item.is ∙ get_or_default causes k c.cause-item.result [] c.loop-cause-test.true) in
    let built : c.as_slice-in-loop-cause.result.now ≡ cause_clause selector (get_or causes k []) =
    c.as_slice-in-loop-cause.ensures.value ∙ (c.in_ok-fill_cause_clause.ensures.exact ∙ ap (cause_clause selector) at) in
    record {
      same = c.in_ok-add_open.ensures.same ∙ c.loop-cause.invariant.same;
      exact = λ base learned w.
          subst (λ (cs : List (List ℕ)). Holds c.add_open.new.self base cs learned) (sym (causes_more selector causes k c.loop-cause-test.true))
          (subst (λ (x : List ℕ). Holds c.add_open.new.self base (map (cause_clause selector) (take k causes) ++ x ∷ []) learned) built
          (c.in_ok-add_open.ensures.exact base (map (cause_clause selector) (take k causes)) learned (c.loop-cause.invariant.exact base learned w)));
    }
