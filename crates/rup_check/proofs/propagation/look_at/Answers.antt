use Rattle.rup_check.proofs.LiteralRange.{member_in_range}
use Rattle.clause_meaning.proofs.Resting.{Rests-two_free}
use Rattle.rup_check.specs.Marks.{IsMarked}
use Rattle.rup_check.proofs.propagation.look_at.Goals as goal

pub has-requires : goal.has-requires
has-requires c = record {
  in_range = member_in_range c.args.marks.now.variables c.args.clause.now c.in-One.literal c.requires.in_range c.in-One.ensures.0.member;
}

pub returns-in-Several-clause-says : goal.returns-in-Several-clause-says
returns-in-Several-clause-says c = Rests-two_free (IsMarked c.args.marks.now.literals) c.args.clause.now c.in-Several.ensures
