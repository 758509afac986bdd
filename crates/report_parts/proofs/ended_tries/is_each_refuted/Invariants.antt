use Rattle.std.proofs.Common.{◌≡◌, ℕ, List, true, map, take}
use Rattle.std.specs.List.{list_all}
use Rattle.repair_clauses.specs.BaseClauses.{present}
use Rattle.report_text.specs.declared.line.Question.TheVariants as question
use Rattle.report_text.specs.declared.line.How.TheVariants as how
use Rattle.report_laws.specs.Settling.{is_ended}
use Rattle.report_parts.proofs.ended_tries.is_each_refuted.Given as goal

abbrev pub invariant-loop-cause : goal.invariant-loop-cause
invariant-loop-cause l = record {
  passed : list_all (λ (cause : List ℕ). is_ended l.ended question.Brave (map present cause) how.Refuted) (take l.cause-index l.causes) ≡ true;
  counted : l.place ≡ l.cause-index;
}
