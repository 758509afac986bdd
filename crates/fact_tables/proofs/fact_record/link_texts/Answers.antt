use Rattle.std.proofs.Common.{refl}
use Rattle.fact_tables.proofs.FieldLemmas.{three_fields, three_texts}
use Rattle.fact_tables.proofs.fact_record.link_texts.Goals as goal

pub returns-clause-exact : goal.returns-clause-exact
returns-clause-exact c = three_fields _ _ _ _ c.requires.width c.in_ok-text_at.ensures.found c.in_ok-text_at-2.ensures.found c.in_ok-text_at-3.ensures.found

pub returns-clause-texts : goal.returns-clause-texts
returns-clause-texts c = (
  λ some. three_texts _ _ _ _ (three_fields _ _ _ _ c.requires.width c.in_ok-text_at.ensures.found c.in_ok-text_at-2.ensures.found
      c.in_ok-text_at-3.ensures.found) c.in_ok-text_at.ensures.utf8 c.in_ok-text_at-2.ensures.utf8 c.in_ok-text_at-3.ensures.utf8,
  λ all. refl,
)
