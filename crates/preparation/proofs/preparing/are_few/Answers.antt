use Rattle.std.proofs.Common.{◌<◌, ◌^◌, subst, List}
use Rattle.std.specs.Prelude.{All}
use Rattle.std.proofs.lemmas.List.{take_all}
use Rattle.std.proofs.lemmas.List.Elements.{All-more}
use Rattle.cause_finder.specs.declared.candidate.Candidate.{Candidate}
use Rattle.preparation.specs.Prepared.{size_of}
use Rattle.preparation.proofs.preparing.are_few.Goals as goal

pub loop-candidate-preserved : goal.loop-candidate-preserved
loop-candidate-preserved c = All-more (λ (x : Candidate). size_of x.causes < 2 ^ 31) c.args.candidates.now c.loop-candidate.candidate-index
    c.candidate-item.result c.loop-candidate-test.true c.loop-candidate.invariant
    (rw (← c.candidate-item.is, ← c.as_slice.ensures.lent) (c.has_few.ensures.exact c.if-not-has_few.false))

pub returns-then-facts-lt-MOST-clause-each : goal.returns-then-facts-lt-MOST-clause-each
returns-then-facts-lt-MOST-clause-each c = λ _.
    subst (λ (xs : List Candidate). All (λ x. size_of x.causes < 2 ^ 31) xs) (take_all c.loop-candidate.candidate-index c.args.candidates.now
    c.loop-candidate-test.false) c.loop-candidate.invariant
