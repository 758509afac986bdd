use Rattle.std.proofs.Common.{ℕ, List, Contains, sym, subst}
use Rattle.rup_check.proofs.ListLemmas.{Contains-others}
use Rattle.rup_check.proofs.lists.remove_where.Goals as goal

pub returns-then-listed : goal.returns-then-listed
returns-then-listed c = record {
  kept = λ n d m. subst (λ (xs : List ℕ). Contains xs n) (sym c.remove.ensures) (Contains-others c.args.list.now c.args.number n d m);
}
