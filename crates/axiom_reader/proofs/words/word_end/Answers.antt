-- The place of the first blank, or the length.
use Rattle.std.proofs.Common.{length, unwrap_or, ap, ◌∙◌}
use Rattle.axiom_reader.specs.Lines.{is_blank}
use Rattle.axiom_reader.proofs.CutLemmas.{unwrap_or-position}
use Rattle.axiom_reader.proofs.words.word_end.Goals as goal

pub returns-clause-exact : goal.returns-clause-exact
returns-clause-exact c =
    c.unwrap_or.ensures ∙ ap (λ place. unwrap_or place (length c.args.words.now)) c.first_blank.ensures.exact
    ∙ unwrap_or-position is_blank c.args.words.now
