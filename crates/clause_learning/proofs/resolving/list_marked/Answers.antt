use Rattle.std.proofs.Common.{[], ◌∷◌, get_or, refl, sym, subst, inl, inr, ◌∙◌}
use Rattle.clause_meaning.proofs.Members.{Contains-head, Contains-tail, Contains-take_all, Contains-take_more_cases}
use Rattle.clause_learning.specs.Marking.{Lists}
use Rattle.clause_learning.proofs.Marked.{Lists-none}
use Rattle.clause_learning.proofs.resolving.list_marked.Goals as goal

pub loop-literal-init : goal.loop-literal-init
loop-literal-init c = record {
  same_length = refl;
  lists = ([], λ k m. m, subst (Lists c.args.marks.now [] c.args.marks.now) (sym c.new-literals.ensures.items) (Lists-none c.args.marks.now));
}

pub loop-literal-preserved : goal.loop-literal-preserved
loop-literal-preserved c =
    let (done, has, lists) = c.loop-literal.invariant.lists in
    let i = c.loop-literal.literal-index in
    let l = get_or c.args.touched.now i 0 in
    record {
      same_length = c.list_one.ensures.same_length ∙ c.loop-literal.invariant.same_length;
      lists = (
        l ∷ done,
        λ k m. elim (Contains-take_more_cases c.args.touched.now i 0 k c.loop-literal-test.true m)
            [ inl t ↦ Contains-tail l done k (has k t) | inr e ↦ Contains-head l done k e ],
        c.in_ok-list_one.ensures.lists c.args.marks.now done lists,
      );
    }

pub returns-clause-lists : goal.returns-clause-lists
returns-clause-lists c =
    let (done, has, lists) = c.loop-literal.invariant.lists in
    (done, λ k m. has k (Contains-take_all c.args.touched.now c.loop-literal.literal-index k c.loop-literal-test.false m), lists)

pub returns-clause-stays : goal.returns-clause-stays
returns-clause-stays c = c.loop-literal.invariant.lists.2.stays

pub returns-in_err-list_one-clause-stays : goal.returns-in_err-list_one-clause-stays
returns-in_err-list_one-clause-stays c = λ l m. c.loop-literal.invariant.lists.2.stays l (c.list_one.ensures.stays l m)
