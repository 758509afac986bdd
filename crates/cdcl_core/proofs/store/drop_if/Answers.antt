use Rattle.std.proofs.Common.{◌≡◌, ℕ, ◌≤◌, List, true, false, refl, sym, subst, ap, ◌∙◌, arith}
use Rattle.clause_meaning.specs.Literals.{AreBelow}
use Rattle.clause_arena.specs.State.{HeldClause}
use Rattle.cdcl_core.specs.Labels.{is_taken}
use Rattle.cdcl_core.specs.Store.{tally, occurrences}
use Rattle.cdcl_core.proofs.Counting.{occurrences-dropped, tally-le_occurrences}
use Rattle.cdcl_core.proofs.store.drop_if.Goals as goal

pub returns-then-not-takes-clause-exact : goal.returns-then-not-takes-clause-exact
returns-then-not-takes-clause-exact c = (
  λ literals named. subst (λ (ls : List ℕ). is_taken c.args.which (record { number = c.args.number; literals = ls }) ≡ false)
      (sym (c.view-literals.ensures.only literals named))
      (sym c.takes.ensures ∙ c.if-not-takes.true),
  refl,
)

pub lower-requires-clause-in_range : goal.lower-requires-clause-in_range
lower-requires-clause-in_range c =
    subst (λ (n : ℕ). AreBelow n c.view-literals.result.now) (sym c.requires.same_variables) c.view-literals.ensures.in_range

pub lower-requires-clause-counted : goal.lower-requires-clause-counted
lower-requires-clause-counted c v =
    let held : HeldClause = record { reference = c.args.clause.place; literals = c.view-literals.result.now } in
    subst (λ (n : ℕ). tally v c.view-literals.result.now ≤ n) (sym (c.requires.counted v))
    (tally-le_occurrences v c.args.arena.now.live held c.requires.ascending c.view-literals.ensures.named)

pub returns-clause-exact : goal.returns-clause-exact
returns-clause-exact c = (
  λ literals named. subst (λ (ls : List ℕ). is_taken c.args.which (record { number = c.args.number; literals = ls }) ≡ true)
      (sym (c.view-literals.ensures.only literals named))
      (sym c.takes.ensures ∙ c.if-not-takes.false),
  c.drop_clause.ensures.exact.live,
)

pub returns-clause-counted : goal.returns-clause-counted
returns-clause-counted c v =
    let held : HeldClause = record { reference = c.args.clause.place; literals = c.view-literals.result.now } in
    let dropped = occurrences-dropped v c.args.arena.now.live held c.requires.ascending c.view-literals.ensures.named in
    let left = ap (occurrences v) c.drop_clause.ensures.exact.live in
    let lowered = c.lower.ensures.lowered v in
    let counted = c.requires.counted v in
    omega (arith, dropped, left, lowered, counted)
