use Rattle.std.proofs.Common.{◌<◌, ℕ, sym, subst}
use Rattle.clause_meaning.specs.Literals.{variable_of}
use Rattle.rup_check.proofs.LiteralRange.{opposite_in_range}
use Rattle.rup_check.proofs.marks.Marks.has_opposite.Goals as goal

pub has-requires : goal.has-requires
has-requires c = record {
  in_range = subst (λ (k : ℕ). variable_of k < c.args.self.now.variables) (sym c.opposite.ensures)
      (opposite_in_range c.args.self.now.variables c.args.literal c.requires.in_range);
}
