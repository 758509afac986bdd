use Rattle.std.proofs.Common.{sym, subst, ap, ◌∙◌}
use Rattle.clause_meaning.specs.Assignments.{Separates}
use Rattle.clause_arena.specs.State.{LiveIn}
use Rattle.cdcl_trail.specs.State.{State}
use Rattle.clause_meaning.specs.Learning.{is_in}
use Rattle.clause_learning.proofs.Keeping.{IsSearching-start}
use Rattle.cdcl_core.proofs.seeking.begin.Goals as goal

pub fix_units-requires-clause-begins : goal.fix_units-requires-clause-begins
fix_units-requires-clause-begins c =
    let arena = c.args.arena.now in
    let new = c.focus.new.self in
    let cleared = c.clear.ensures.exact in
    let focused = c.focus.ensures.exact in
    record {
      searching = IsSearching-start new arena (c.focus.ensures.fits arena (c.clear.ensures.fits arena c.requires.same_variables)) c.requires.proper
          (subst (λ (vs : _). Separates (is_in vs) (LiveIn arena)) (sym (ap (λ (t : State). t.focus) focused)) c.requires.separates)
          (ap (λ (t : State). t.entries) focused ∙ ap (λ (t : State). t.entries) cleared)
          (ap (λ (t : State). t.level) focused ∙ ap (λ (t : State). t.level) cleared);
      on_zero = ap (λ (t : State). t.level) focused ∙ ap (λ (t : State). t.level) cleared;
    }
