use Rattle.std.proofs.Common.{ap, sym, ◌∙◌}
use Rattle.std.proofs.lemmas.Bool.{true≢false}
use Rattle.rup_check.specs.Marks.{Marked}
use Rattle.rup_check.specs.Steps.{RestOrListed}
use Rattle.rup_check.proofs.Settling.{listed_at_first}
use Rattle.rup_check.proofs.Base.{reached_now, on_ok}
use Rattle.rup_check.proofs.checker.Checker.settle.Goals as goal

pub clashes-requires-clause-listed : goal.clashes-requires-clause-listed
clashes-requires-clause-listed c =
    listed_at_first c.self.inside.clauses.slots c.short.result.now c.clear-2.new.self.literals c.short.ensures

pub invariant_of-self : goal.invariant_of-self
invariant_of-self c =
    let slots = c.self.inside.clauses.slots in
    let base = c.clashes.new.marks.literals in
    record {
      same_variables = c.clashes.ensures.same_variables ∙ (ap (λ (m : Marked). m.variables) c.clear-2.ensures.exact ∙ c.self.invariant.same_variables);
      reached = reached_now slots c.clear-2.new.self.literals base c.len-self-inside.result (ap (λ (m : Marked). m.literals) c.clear-2.ensures.exact)
          c.len-self-inside.ensures c.clashes.ensures.grows;
      consistent = c.clashes.ensures.grows.consistent;
      unmarked = λ e. absurd (true≢false e);
      rest = λ e. on_ok c.list_late-listed.result (RestOrListed slots c.list_late-listed.new.late base)
          (sym c.is_ok.ensures.value ∙ c.if-is_ok.true) c.list_late-listed.ensures.listed;
    }
