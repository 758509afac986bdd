use Rattle.std.proofs.Common.{◌<◌, ℕ, [], Contains, inl, inr, take, get_or, refl, sym, subst, ◌∙◌, rules}
use Rattle.std.proofs.lemmas.Bool.{both_ways}
use Rattle.std.proofs.lemmas.List.Elements.{Contains-get_or}
use Rattle.clause_meaning.specs.Literals.{variable_of}
use Rattle.clause_meaning.proofs.Members.{Contains-nil, Contains-take, Contains-take_all}
use Rattle.clause_meaning.specs.Literals.{opposite_of}
use Rattle.rup_check.specs.Marks.{IsMarked}
use Rattle.rup_check.proofs.LiteralRange.{opposite_in_range}
use Rattle.rup_check.proofs.TableLemmas.{marked_more, either_more, later_twice}
use Rattle.rup_check.proofs.Growth.{consistent_once}
use Rattle.rup_check.proofs.marks.mark_all.Goals as goal

pub has-requires : goal.has-requires
has-requires c =
    let l = get_or c.args.literals.now c.loop-literal.literal-index 0 in
    let in_range = c.requires.in_range c.loop-literal.literal-index 0 c.loop-literal-test.true in
    record {
      in_range = subst (λ (k : ℕ). variable_of k < c.loop-literal.marks.variables) (sym c.opposite.ensures)
          (opposite_in_range c.loop-literal.marks.variables l (subst (λ (v : ℕ). variable_of l < v) (sym c.loop-literal.invariant.same_variables) in_range));
    }

pub loop-literal-init : goal.loop-literal-init
loop-literal-init c = record {
  same_variables = refl;
  more = ([], search rules);
  marked = λ k. (λ m. inl m, λ m. elim m [ inl o ↦ o | inr t ↦ absurd (Contains-nil k t) ]);
  consistent = c.requires.consistent;
}

pub returns-then-has-clause-more : goal.returns-then-has-clause-more
returns-then-has-clause-more c = c.loop-literal.invariant.more

pub returns-clause-more : goal.returns-clause-more
returns-clause-more c = c.loop-literal.invariant.more

pub returns-then-has-clause-opposites : goal.returns-then-has-clause-opposites
returns-then-has-clause-opposites c =
    let i = c.loop-literal.literal-index in
    let x = get_or c.args.literals.now i 0 in (
      x,
      inr (Contains-get_or c.args.literals.now i 0 c.loop-literal-test.true),
      either_more (IsMarked c.args.marks.now.literals (opposite_of x)) (Contains (take i c.args.literals.now) (opposite_of x))
          (Contains c.args.literals.now (opposite_of x)) (λ t. Contains-take c.args.literals.now i (opposite_of x) t)
          ((c.loop-literal.invariant.marked (opposite_of x)).0
          (subst (IsMarked c.loop-literal.marks.literals) c.opposite.ensures (c.has.ensures.0 c.if-has.true))),
    )

pub loop-literal-preserved : goal.loop-literal-preserved
loop-literal-preserved c =
    let i = c.loop-literal.literal-index in
    let old = c.loop-literal.marks.literals in
    let new = c.mark_once.new.marks.literals in
    record {
      same_variables = c.mark_once.ensures.same_variables ∙ c.loop-literal.invariant.same_variables;
      more = later_twice c.args.marks.now.literals old new c.loop-literal.invariant.more c.mark_once.ensures.more;
      marked = marked_more c.args.marks.now.literals old new c.args.literals.now i c.loop-literal-test.true c.loop-literal.invariant.marked
          c.mark_once.ensures.marked;
      consistent = consistent_once old new (get_or c.args.literals.now i 0) c.loop-literal.invariant.consistent
          (λ m. both_ways _ c.if-has.false (c.has.ensures.1 (subst (IsMarked old) (sym c.opposite.ensures) m))) c.mark_once.ensures.marked;
    }

pub returns-clause-marked : goal.returns-clause-marked
returns-clause-marked c l =
    let marked = c.loop-literal.invariant.marked l in
    let i = c.loop-literal.literal-index in
    let before = IsMarked c.args.marks.now.literals l in
    let all = Contains c.args.literals.now l in
    let some = Contains (take i c.args.literals.now) l in (
      λ m. either_more before some all (λ t. Contains-take c.args.literals.now i l t) (marked.0 m),
      λ m. marked.1 (either_more before all some (λ t. Contains-take_all c.args.literals.now i l c.loop-literal-test.false t) m),
    )
