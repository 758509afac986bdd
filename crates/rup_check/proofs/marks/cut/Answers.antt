use Rattle.std.proofs.Common.{◌<◌, ◌≤◌, length, take, sym, ap, ◌∙◌, arith}
use Rattle.std.proofs.lemmas.List.{take_all}
use Rattle.rup_check.specs.Marks.{Marked}
use Rattle.rup_check.proofs.TableLemmas.{cut_more}
use Rattle.rup_check.proofs.marks.cut.Goals as goal

pub loop-marks-preserved : goal.loop-marks-preserved
loop-marks-preserved c =
    let old = c.loop-marks.marks.literals in
    let is = ap (λ (m : Marked). m.literals) c.take_last.ensures.exact in
    let more : c.args.len < length old = omega (arith, c.len.ensures.exact, c.loop-marks-test.true) in
    record {
      same_variables = ap (λ (m : Marked). m.variables) c.take_last.ensures.exact ∙ c.loop-marks.invariant.same_variables;
      cut = cut_more c.args.len old c.take_last.new.self.literals (take c.args.len c.args.marks.now.literals) more is c.loop-marks.invariant.cut;
    }

pub returns-clause-exact : goal.returns-clause-exact
returns-clause-exact c =
    let old = c.loop-marks.marks.literals in
    let all : length old ≤ c.args.len = omega (arith, c.len.ensures.exact, c.loop-marks-test.false) in
    sym (take_all c.args.len old all) ∙ c.loop-marks.invariant.cut
