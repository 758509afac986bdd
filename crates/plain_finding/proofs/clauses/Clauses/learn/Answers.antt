use Rattle.std.proofs.Common.{◌+◌, sym, subst, ap, ◌∙◌, ℕ}
use Rattle.rup_check.specs.State.{State}
use Rattle.plain_finding.specs.Kept.{Kept, Holds}
use Rattle.plain_finding.proofs.InsideLemmas.{numbered_added, numbered_added_learned, holds_added_learned}
use Rattle.plain_finding.proofs.clauses.Clauses.learn.Goals as goal

pub invariant_of-self-in_err-push : goal.invariant_of-self-in_err-push
invariant_of-self-in_err-push c = record {
  same_variables = ap (λ (s : State). s.variables) c.in_ok-number.ensures.exact ∙ c.self.invariant.same_variables;
  same_next = ap (λ (s : State). s.next) c.in_ok-number.ensures.exact ∙ (ap (λ (x : ℕ). x + 1) c.self.invariant.same_next ∙ sym c.in_ok-number.ensures.next);
  numbered = rw c.in_err-push.ensures.items
      (numbered_added c.self.inside.variables c.self.inside.next c.self.inside.checker c.add.new.checker c.self.inside.open.items
      c.self.inside.learned.items c.args.clause.now c.add.new.next c.in_ok-number.number c.self.invariant.same_next c.in_ok-number.ensures.exact
      c.in_ok-number.ensures.next c.in_ok-number.ensures.number c.self.invariant.numbered);
}

pub invariant_of-self-2 : goal.invariant_of-self-2
invariant_of-self-2 c = record {
  same_variables = ap (λ (s : State). s.variables) c.in_ok-number.ensures.exact ∙ c.self.invariant.same_variables;
  same_next = ap (λ (s : State). s.next) c.in_ok-number.ensures.exact ∙ (ap (λ (x : ℕ). x + 1) c.self.invariant.same_next ∙ sym c.in_ok-number.ensures.next);
  numbered = numbered_added_learned c.self.inside.variables c.self.inside.next c.self.inside.checker c.add.new.checker c.self.inside.open.items
      c.self.inside.learned.items c.args.clause.now c.add.new.next c.in_ok-number.number c.self.invariant.same_next c.in_ok-number.ensures.exact
      c.in_ok-number.ensures.next c.in_ok-number.ensures.number c.self.invariant.numbered c.push.new.self.items c.in_ok-push.ensures.items;
}

pub returns-clause-exact : goal.returns-clause-exact
returns-clause-exact c = λ base causes learned w.
    holds_added_learned c.self.inside.variables c.self.inside.next c.self.inside.checker c.add.new.checker c.self.inside.open.items
    c.self.inside.learned.items c.args.clause.now c.add.new.next c.in_ok-number.number c.self.invariant.same_next c.in_ok-number.ensures.exact
    c.in_ok-number.ensures.next c.in_ok-number.ensures.number c.self.invariant.numbered c.push.new.self.items c.in_ok-push.ensures.items
    base causes learned (subst (λ (k : Kept). Holds k base causes learned) (sym c.self.view_is) w)
