use Rattle.std.proofs.Common.{◌≡◌, true, refl}
use Rattle.rup_check.specs.Slots.{HeldIn}
use Rattle.rup_check.proofs.TableLemmas.{later_twice}
use Rattle.rup_check.proofs.Settling.{listed_from, Refutes-from_opposites, Refutes-without_base}
use Rattle.rup_check.proofs.propagation.refutes.Goals as goal

pub clashes-requires-clause-listed : goal.clashes-requires-clause-listed
clashes-requires-clause-listed c =
    listed_from c.args.clauses.now.slots c.args.numbers.now c.args.marks.now.literals c.mark_all.new.marks.literals c.len-from.result
    c.len-from.ensures.exact c.mark_all.ensures.more c.requires.listed

pub returns-then-mark_all-clause-more : goal.returns-then-mark_all-clause-more
returns-then-mark_all-clause-more c =
    later_twice c.args.marks.now.literals c.mark_all.new.marks.literals c.clashes.new.marks.literals c.mark_all.ensures.more c.clashes.ensures.grows.more

pub returns-then-mark_all-clause-exact : goal.returns-then-mark_all-clause-exact
returns-then-mark_all-clause-exact c =
    Refutes-without_base (HeldIn c.args.clauses.now.slots) c.args.marks.now.literals c.args.assume.now c.mark_all.new.marks.literals c.requires.reached
    c.if-mark_all.ensures.marked (c.clashes.result ≡ true) c.clashes.ensures.exact

pub returns-else-mark_all-clause-exact : goal.returns-else-mark_all-clause-exact
returns-else-mark_all-clause-exact c = (
  λ _. Refutes-from_opposites (HeldIn c.args.clauses.now.slots) c.args.marks.now.literals c.args.assume.now c.requires.reached
      c.if-mark_all.ensures.opposites,
  λ _. refl,
)
