use Rattle.std.proofs.Common.{sym, subst}
use Rattle.report_text.specs.declared.line.Line.{Line}
use Rattle.report_text.specs.declared.line.Line.TheVariants as line
use Rattle.refutation_confirmer.specs.Steps.{Takes}
use Rattle.refutation_confirmer.proofs.JudgedLemmas.{learn_taken, core_taken, answer_taken}
use Rattle.refutation_confirmer.proofs.reader.Reader.take_other.Goals as goal

pub returns-in-Head : goal.returns-in-Head
returns-in-Head c = record {
  taken = subst (λ (l : Line). Takes c.args.kb.now c.args.self.now l c.take_head.new.self) (sym c.in-Head.is)
      (c.take_head.ensures.taken c.args.kb.now c.in-Head.axioms c.in-Head.facts c.in-Head.version);
}

pub returns-in-Learn : goal.returns-in-Learn
returns-in-Learn c = record {
  taken = learn_taken c.take_learn.result c.args.kb.now c.args.self.now c.take_learn.new.self c.args.line (line.Learn c.in-Learn.number c.in-Learn.clause)
      c.in-Learn.is c.take_learn.ensures.taken;
}

pub returns-in-Core : goal.returns-in-Core
returns-in-Core c = record {
  taken = core_taken c.take_core.result c.args.kb.now c.args.self.now c.take_core.new.self c.args.line c.in-Core.number c.in-Core.kept c.in-Core.dropped
      c.in-Core.is c.take_core.ensures.taken;
}

pub returns-in-Answer : goal.returns-in-Answer
returns-in-Answer c = record {
  taken = answer_taken c.take_answer.result c.args.kb.now c.args.self.now c.take_answer.new.self c.args.line c.in-Answer.brave c.in-Answer.ar c.in-Answer.iar
      c.in-Answer.cores c.in-Answer.names c.in-Answer.tuple c.in-Answer.is c.take_answer.ensures.taken;
}

pub returns : goal.returns
returns c = record {
  taken = subst (λ (l : Line). Takes c.args.kb.now c.args.self.now l c.take_end.new.self) (sym c.in-End.is)
      (c.take_end.ensures.taken c.args.kb.now c.in-End.answers c.in-End.brave c.in-End.ar c.in-End.iar c.in-End.undecided);
}
