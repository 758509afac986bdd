use Rattle.std.proofs.Common.{ap}
use Rattle.rup_check.specs.Marks.{Marked}
use Rattle.rup_check.proofs.TableLemmas.{pushed}
use Rattle.rup_check.proofs.marks.mark_once.Goals as goal

pub returns-then-not-has-clause-marked : goal.returns-then-not-has-clause-marked
returns-then-not-has-clause-marked c =
    pushed c.args.marks.now.literals c.mark.new.self.literals c.args.literal (ap (λ (m : Marked). m.literals) c.mark.ensures.exact)
