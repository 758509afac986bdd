use Rattle.std.proofs.Common.{ℕ, List, Contains, sym, subst}
use Rattle.rup_check.specs.Slots.{Stock, IsAt}
use Rattle.rup_check.proofs.clauses.Clauses.with.Goals as goal

pub returns : goal.returns
returns c n clause is member =
    let at = subst (λ (s : Stock). IsAt s.slots n clause) (sym c.self.view_is) is in
    subst (λ (xs : List ℕ). Contains xs n) (sym c.with.ensures) ((c.self.invariant.kept.listed n clause at).by_literal c.args.literal member)
