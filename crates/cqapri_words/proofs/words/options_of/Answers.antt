use Rattle.std.proofs.Common.{sym, subst, arith}
use Rattle.cqapri_words.specs.CommandLine.{values_of}
use Rattle.cqapri_words.specs.Words.{AreInRange}
use Rattle.cqapri_words.proofs.ValueLemmas.{set_within, settings_are}
use Rattle.cqapri_words.proofs.words.options_of.Goals as goal

pub overflow_cast-result : goal.overflow_cast-result
overflow_cast-result c = omega (arith, c.number_of-3.ensures.exact, (set_within (values_of c.args.matches.now) c.requires.right).most_queries)

pub returns-clause-exact : goal.returns-clause-exact
returns-clause-exact c =
    settings_are (values_of c.args.matches.now) c.requires.right _ c.repairs_of.ensures.exact c.number_of.ensures.exact c.number_of-2.ensures.exact
    c.number_of-3.ensures.exact c.number_of-4.ensures.exact c.number_of-5.ensures.exact

pub returns-clause-in_range : goal.returns-clause-in_range
returns-clause-in_range c =
    subst AreInRange (sym (returns-clause-exact c)) (set_within (values_of c.args.matches.now) c.requires.right)
