-- A report as a log.
use Rattle.std.proofs.Common.{◌≡◌, inl, inr, List, Option, Some, None, refl, subst, ◌∙◌}
use Rattle.std.specs.Prelude.{reverse}
use Rattle.report_text.specs.declared.line.Line.{Line}
use Rattle.answer_evidence.specs.Logging.{before_learned, OnlyLearns, TearsLearn}

pub OnlyLearns-same : (lines : Option (List Line)) → OnlyLearns lines lines
OnlyLearns-same None = tt
OnlyLearns-same (Some lines) = (lines, refl, refl)

pub OnlyLearns-on : (a b c : Option (List Line)) → OnlyLearns a b → OnlyLearns b c → OnlyLearns a c
OnlyLearns-on None b c p q = tt
OnlyLearns-on (Some a) b c (lines, told, same) q = go (subst (λ (o : Option (List Line)). OnlyLearns o c) told q)
  where
    go : OnlyLearns (Some lines) c → OnlyLearns (Some a) c
    go (more, told_more, same_more) = (more, told_more, same_more ∙ same)

pub TearsLearn-same : (torn : Option Line) → TearsLearn torn torn
TearsLearn-same torn = inl refl

pub TearsLearn-on : (a b c : Option Line) → TearsLearn a b → TearsLearn b c → TearsLearn a c
TearsLearn-on a b c p (inr q) = inr q
TearsLearn-on a b c (inl p) (inl q) = inl (q ∙ p)
TearsLearn-on a b c (inr p) (inl q) = inr (p.0, q ∙ p.1)
