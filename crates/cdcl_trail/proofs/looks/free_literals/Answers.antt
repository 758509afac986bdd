use Rattle.std.proofs.Common.{◌+◌, ◌<◌, ℕ, Some, None, take, get_or, sym, subst}
use Rattle.std.proofs.lemmas.Bool.{both_ways}
use Rattle.std.proofs.lemmas.List.Elements.{Contains-get_or}
use Rattle.clause_meaning.specs.Literals.{variable_of}
use Rattle.clause_meaning.proofs.LiteralLaws.{variable_of-opposite_of}
use Rattle.clause_meaning.proofs.Members.{Contains-take, Contains-take_all}
use Rattle.clause_meaning.specs.Resting.{IsOnlyFree}
use Rattle.clause_meaning.proofs.Resting.{IsOnlyFree-more_false, IsOnlyFree-more_none, IsOnlyFree-more_same}
use Rattle.cdcl_trail.specs.Assigned.{IsTrueOn}
use Rattle.cdcl_trail.proofs.looks.free_literals.Goals as goal
use Rattle.cdcl_trail.proofs.looks.free_literals.Goals.{then-not-is_true+in-None, then-not-is_true+in-Some+else-other-literal, else-not-is_true}

pub is_true-requires : goal.is_true-requires
is_true-requires c =
    let i = c.loop-literal.literal-index in
    let below = c.requires i 0 c.loop-literal-test.true in
    subst (λ (k : ℕ). variable_of k < c.args.assigned.now.variables) (sym c.opposite.ensures)
    (subst (λ (v : ℕ). v < c.args.assigned.now.variables) (sym (variable_of-opposite_of (get_or c.args.clause.now i 0))) below)

pub returns-then-other-literal : goal.returns-then-other-literal
returns-then-other-literal c =
    let i = c.loop-literal.literal-index in
    let K = IsTrueOn c.args.assigned.now.entries in
    let clause = c.args.clause.now in
    let only : IsOnlyFree K (take i clause) (Some c.in-Some.other) = subst (IsOnlyFree K (take i clause)) c.in-Some.is c.loop-literal.invariant in
    record {
      first = c.in-Some.other;
      second = get_or clause i 0;
      has_first = Contains-take clause i c.in-Some.other only.0.member;
      has_second = Contains-get_or clause i 0 c.loop-literal-test.true;
      differ = c.if-other-literal.true;
      first_free = only.1;
      second_free = λ m. both_ways c.is_true.result c.if-not-is_true.true (c.is_true.ensures.1 (subst K (sym c.opposite.ensures) m));
    }

pub loop-literal-preserved : goal.loop-literal-preserved
loop-literal-preserved c =
    let i = c.loop-literal.literal-index in
    let K = IsTrueOn c.args.assigned.now.entries in
    let clause = c.args.clause.now in
    elim c.if-not-is_true.branch [
      | then-not-is_true+in-None w ↦
          subst (IsOnlyFree K (take (i + 1) clause)) (sym w.free-is)
          (IsOnlyFree-more_none K clause i c.loop-literal-test.true (subst (IsOnlyFree K (take i clause)) w.in-None.is c.loop-literal.invariant)
          (λ m. both_ways c.is_true.result w.if-not-is_true.true (c.is_true.ensures.1 (subst K (sym c.opposite.ensures) m))))
      | then-not-is_true+in-Some+else-other-literal w ↦
          subst (IsOnlyFree K (take (i + 1) clause)) (sym w.free-is)
          (IsOnlyFree-more_same K clause i w.in-Some.other c.loop-literal-test.true w.if-other-literal.false
          (subst (IsOnlyFree K (take i clause)) w.in-Some.is c.loop-literal.invariant))
      | else-not-is_true w ↦
          subst (IsOnlyFree K (take (i + 1) clause)) (sym w.free-is)
          (IsOnlyFree-more_false K clause i c.loop-literal.free c.loop-literal-test.true c.loop-literal.invariant
          (subst K c.opposite.ensures (c.is_true.ensures.0 w.if-not-is_true.false)))
    ]

pub returns-in-None-free : goal.returns-in-None-free
returns-in-None-free c k m =
    let K = IsTrueOn c.args.assigned.now.entries in
    let only : IsOnlyFree K (take c.loop-literal.literal-index c.args.clause.now) None = subst (IsOnlyFree K _) c.in-None-free.is c.loop-literal.invariant in
    only k (Contains-take_all c.args.clause.now c.loop-literal.literal-index k c.loop-literal-test.false m)
