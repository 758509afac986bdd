use Rattle.std.proofs.Common.{◌≢◌, inr, refl, sym, ◌∙◌}
use Rattle.clause_learning.proofs.HighestLevel.{not_on_level}
use Rattle.clause_learning.proofs.falsity.count_newest.Goals as goal

pub returns-else-level_of_false-level : goal.returns-else-level_of_false-level
returns-else-level_of_false-level c =
    let trail = c.args.trail.now in
    let other : c.level_of_false.result ≢ trail.level = λ e. c.if-level_of_false-level.false (e ∙ sym c.level.ensures.exact) in
    inr (not_on_level trail.entries c.level_of_false.result trail.level c.args.literal c.requires.distinct other c.level_of_false.ensures, refl)
