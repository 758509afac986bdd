use Rattle.std.proofs.Common.{◌≡◌, true, Contains, sym, subst, ◌∙◌}
use Rattle.rup_check.specs.State.{LiveIn}
use Rattle.rup_check.specs.Slots.{HeldIn, live_from}
use Rattle.rup_check.specs.Marks.{AreConsistent}
use Rattle.rup_check.specs.Steps.{RestOrListed}
use Rattle.rup_check.proofs.SlotLemmas.{held-LiveIn, LiveIn-held}
use Rattle.rup_check.proofs.TableLemmas.{cut_back}
use Rattle.rup_check.proofs.Settling.{Refutes-same}
use Rattle.rup_check.proofs.Base.{AreReached, reached_by_all, rest_first}
use Rattle.rup_check.proofs.checker.Checker.refutes.Goals as goal

pub refutes-refuted-requires-clause-reached : goal.refutes-refuted-requires-clause-reached
refutes-refuted-requires-clause-reached c =
    reached_by_all c.self.inside.early c.self.inside.clauses.slots c.self.inside.marks.literals c.self.invariant.reached

pub refutes-refuted-requires-clause-listed : goal.refutes-refuted-requires-clause-listed
refutes-refuted-requires-clause-listed c =
    rest_first c.self.inside.clauses.slots c.self.inside.marks.literals c.self.inside.late c.first_numbers.result.now c.self.inside.settled
    c.first_numbers.ensures.late c.first_numbers.ensures.short c.self.invariant.unmarked c.self.invariant.rest

pub invariant_of-self : goal.invariant_of-self
invariant_of-self c =
    let kept = c.self.invariant in
    let slots = c.self.inside.clauses.slots in
    let base = c.self.inside.marks.literals in
    let new = c.cut.new.marks.literals in
    let is : new ≡ base = cut_back base c.refutes-refuted.new.marks.literals new c.len-base.result c.len-base.ensures.exact c.refutes-refuted.ensures.more
    c.cut.ensures.exact in
    record {
      same_variables = c.cut.ensures.same_variables ∙ (c.refutes-refuted.ensures.same_variables ∙ kept.same_variables);
      reached = subst (AreReached c.self.inside.early slots) (sym is) kept.reached;
      consistent = subst AreConsistent (sym is) kept.consistent;
      unmarked = λ e. is ∙ kept.unmarked e;
      rest = λ e. subst (RestOrListed slots c.self.inside.late) (sym is) (kept.rest e);
    }

pub returns-clause-exact : goal.returns-clause-exact
returns-clause-exact c =
    let slots = c.self.inside.clauses.slots in
    let L = Contains c.args.assume.now in
    rw (← c.self.view_is) (Refutes-same (HeldIn slots) (LiveIn (live_from 0 slots)) L L (λ d. (λ h. held-LiveIn 0 slots d h.0 h.1, LiveIn-held 0 slots d))
    (λ l. (λ m. m, λ m. m))
    (c.refutes-refuted.result ≡ true) c.refutes-refuted.ensures.exact)
