use Rattle.std.proofs.Common.{rules, sym, subst, not}
use Rattle.std.specs.Prelude.{◌≢◌}
use Rattle.std.proofs.lemmas.Fn.{filter_same}
use Rattle.std.proofs.lemmas.List.Kept.{AllPairs-filter}
use Rattle.report_rules.specs.Told.{is_query}
use Rattle.report_laws.specs.Standing.{Block}
use Rattle.report_parts.specs.Blocks.{AreApart}
use Rattle.report_standing.proofs.takes.leave_axioms.Goals as goal

pub returns-clause-exact : goal.returns-clause-exact
returns-clause-exact c = filter_same _ _ _ (λ x b f' k. search rules) _ _ c.retain.ensures.filtered

pub returns-clause-apart : goal.returns-clause-apart
returns-clause-apart c =
    subst AreApart (sym (filter_same _ (λ (b : Block). not (is_query b.origin)) _ (λ x b f' k. search rules) _ _ c.retain.ensures.filtered))
    (AllPairs-filter (λ (a b : Block). a.origin ≢ b.origin) (λ (b : Block). not (is_query b.origin)) c.args.blocks.now.items c.requires.apart)
