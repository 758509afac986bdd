-- Each line takes the reader on, and the first that has a fault is the answer.
use Rattle.std.proofs.Common.{arith}
use Rattle.std.proofs.lemmas.Bool.Decides.{nat_tests}
use Rattle.std.proofs.lemmas.Result.{err_from_is_err_and}
use Rattle.axiom_reader.proofs.ReadingLemmas.{reads_more, refuses_line, reads_all, reads_kept}
use Rattle.axiom_reader.proofs.TextLemmas.{Keeps-trans}
use Rattle.axiom_reader.proofs.read.read_axioms.Goals as goal

pub returns-in_err-take_line-clause-refused : goal.returns-in_err-take_line-clause-refused
returns-in_err-take_line-clause-refused c =
    let exit = err_from_is_err_and c.from_residual.result c.from_residual.ensures.1 in
    rw (exit.1, exit.2) (refuses_line _ _ _ _ _ _ _ _ _ c.loop-rest.invariant c.first_line.ensures.exact c.in_err-take_line.ensures.refused)

pub returns-in_err-take_line-clause-kept : goal.returns-in_err-take_line-clause-kept
returns-in_err-take_line-clause-kept c = Keeps-trans _ _ _ (reads_kept _ _ _ _ _ _ c.loop-rest.invariant) c.take_line.ensures.kept

pub loop-rest-preserved : goal.loop-rest-preserved
loop-rest-preserved c = reads_more _ _ _ _ _ _ _ _ _ _ c.loop-rest.invariant c.first_line.ensures.exact c.in_ok-take_line.ensures.exact
    c.in_ok-take_line.ensures.grown

pub returns-clause-exact : goal.returns-clause-exact
returns-clause-exact c = reads_all _ _ _ _ _ _ c.loop-rest.invariant (grind (arith, nat_tests))

pub returns-clause-kept : goal.returns-clause-kept
returns-clause-kept c = reads_kept _ _ _ _ _ _ c.loop-rest.invariant
