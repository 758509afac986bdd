use Rattle.std.proofs.Common.{◌≡◌, sym, subst, ap, ◌∙◌}
use Rattle.rup_check.specs.State.{State}
use Rattle.plain_finding.specs.Kept.{Kept, Holds}
use Rattle.plain_finding.proofs.InsideLemmas.{forgotten, numbered_close, holds_close}
use Rattle.plain_finding.proofs.clauses.Clauses.close.Goals as goal

pub invariant_of-self : goal.invariant_of-self
invariant_of-self c =
    let is : c.forget_each.new.checker ≡ forgotten c.self.inside.checker c.self.inside.open.items =
    rw c.as_slice.ensures.value at c.forget_each.ensures.exact in
    record {
      same_variables = ap (λ (s : State). s.variables) is ∙ c.self.invariant.same_variables;
      same_next = ap (λ (s : State). s.next) is ∙ c.self.invariant.same_next;
      numbered = numbered_close c.self.inside.variables c.self.inside.next c.self.inside.checker c.forget_each.new.checker c.self.inside.open.items
          c.self.inside.learned.items c.clear.new.self.items is c.clear.ensures.items c.self.invariant.numbered;
    }

pub returns-clause-exact : goal.returns-clause-exact
returns-clause-exact c = λ base causes learned w.
    let is : c.forget_each.new.checker ≡ forgotten c.self.inside.checker c.self.inside.open.items =
    rw c.as_slice.ensures.value at c.forget_each.ensures.exact in
    holds_close c.self.inside.variables c.self.inside.next c.self.inside.checker c.forget_each.new.checker c.self.inside.open.items
    c.self.inside.learned.items c.clear.new.self.items is c.clear.ensures.items c.self.invariant.numbered base causes learned
    (subst (λ (k : Kept). Holds k base causes learned) (sym c.self.view_is) w)
