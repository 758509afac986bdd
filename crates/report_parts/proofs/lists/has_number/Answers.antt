use Rattle.report_parts.proofs.TestLemmas.{same_has}
use Rattle.report_parts.proofs.lists.has_number.Goals as goal

pub returns-then-in_order : goal.returns-then-in_order
returns-then-in_order c = record { exact = same_has c.has_sorted.result c.args.list.now c.args.number c.has_sorted.ensures.exact }
