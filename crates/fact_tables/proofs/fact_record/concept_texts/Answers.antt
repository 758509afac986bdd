use Rattle.std.proofs.Common.{refl}
use Rattle.fact_tables.proofs.FieldLemmas.{two_fields, two_texts}
use Rattle.fact_tables.proofs.fact_record.concept_texts.Goals as goal

pub returns-clause-exact : goal.returns-clause-exact
returns-clause-exact c = two_fields _ _ _ c.requires.width c.in_ok-text_at.ensures.found c.in_ok-text_at-2.ensures.found

pub returns-clause-texts : goal.returns-clause-texts
returns-clause-texts c = (
  λ some. two_texts _ _ _ (two_fields _ _ _ c.requires.width c.in_ok-text_at.ensures.found c.in_ok-text_at-2.ensures.found)
      c.in_ok-text_at.ensures.utf8 c.in_ok-text_at-2.ensures.utf8,
  λ all. refl,
)
