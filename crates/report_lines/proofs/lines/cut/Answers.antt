use Rattle.std.proofs.Common.{◌∙◌, sym}
use Rattle.report_lines.proofs.CuttingLemmas.{cuts_at, none_at}
use Rattle.report_lines.proofs.lines.cut.Goals as goal

pub returns-in_default : goal.returns-in_default
returns-in_default c = record { exact = none_at c.args.rest.now (sym c.line_feed_at.ensures.exact ∙ c.in_default.is) }

pub returns : goal.returns
returns c = record { exact = cuts_at c.args.rest.now c.in-Some.at (sym c.line_feed_at.ensures.exact ∙ c.in-Some.is) }
