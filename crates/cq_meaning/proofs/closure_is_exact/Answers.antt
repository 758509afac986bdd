use Rattle.std.proofs.Common.{Contains}
use Rattle.cq_meaning.proofs.Exact.{rewriting_sound, rewriting_complete}
use Rattle.cq_meaning.proofs.closure_is_exact.Goals as goal

pub returns : goal.returns
returns c axioms q members closed facts tuple = (
  (λ e. let w = rewriting_complete axioms (Contains facts) q tuple e in (w.0, w.1, (closed w.0).1 w.2, w.3)),
  (λ (member, image, m, h). rewriting_sound axioms (Contains facts) q member tuple image ((closed member).0 m) h),
)
