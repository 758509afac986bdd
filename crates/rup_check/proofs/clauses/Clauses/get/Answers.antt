use Rattle.std.proofs.Common.{◌∙◌, Option, None, List, ℕ, get_or, sym, subst, ap}
use Rattle.clause_meaning.specs.Literals.{AreBelow}
use Rattle.rup_check.specs.Slots.{Stock}
use Rattle.rup_check.proofs.StockLemmas.{IfSome-from_copied}
use Rattle.rup_check.proofs.clauses.Clauses.get.Goals as goal

pub returns-in-Some-clause-in_range : goal.returns-in-Some-clause-in_range
returns-in-Some-clause-in_range c =
    IfSome-from_copied c.clause.result (AreBelow c.args.self.now.variables) (λ d e.
    subst (λ (s : Stock). AreBelow s.variables d) c.self.view_is
    (c.self.invariant.kept.in_range c.args.number d (sym (ap (λ (ss : List (Option (List ℕ))). get_or ss c.args.number None) c.deref.ensures.value)
    ∙ (sym (c.in-Some.ensures.lookup.3.1 None) ∙ (sym c.clause.ensures ∙ e)))))
