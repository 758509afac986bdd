use Rattle.std.proofs.Common.{◌∙◌}
use Rattle.checker_tests.proofs.CheckersTestLemmas.{newest_is_live}
use Rattle.checker_tests.proofs.checkers.put_some.Goals as goal

pub returns-clause-live : goal.returns-clause-live
returns-clause-live g c =
    newest_is_live c.args.checker.now c.compare-2.new.checker c.deref.result.now
    (c.in_ok-compare-2.ensures ∙ (c.in_ok-compare.ensures ∙ c.in_ok-put.ensures))
