use Rattle.std.proofs.Common.{◌≡◌, ℕ, List, Contains, sym, subst, ◌∙◌}
use Rattle.std.proofs.lemmas.Bool.{false≢true}
use Rattle.clause_meaning.specs.Literals.{variable_of}
use Rattle.plain_finding.proofs.LearnableLemmas.{may_learn_else}
use Rattle.plain_finding.proofs.learnable.Learnable.has.Goals as goal

pub returns-else-has_sorted : goal.returns-else-has_sorted
returns-else-has_sorted c =
    let lent : c.as_slice.result.now ≡ c.args.self.now = c.as_slice.ensures.lent ∙ c.self.view_is in
    record {
      exact = may_learn_else c.args.selector c.args.self.now c.args.literal c.is_absent_of.result
          (λ m. false≢true (c.if-has_sorted.ensures.exact.1
          (subst (λ (v : ℕ). Contains c.as_slice.result.now v) (sym c.variable_of.ensures)
          (subst (λ (xs : List ℕ). Contains xs (variable_of c.args.literal)) (sym lent) m))))
          c.is_absent_of.ensures.exact;
    }
