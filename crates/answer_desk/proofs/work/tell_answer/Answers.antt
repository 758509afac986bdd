use Rattle.std.proofs.Common.{ℕ, List, ◌<◌, ◌^◌, All, IsUtf8, sym, subst}
use Rattle.answer_desk.proofs.work.tell_answer.Goals as goal

pub line-requires-clause-form : goal.line-requires-clause-form
line-requires-clause-form g c = record {
  cores_fit = subst (λ (ns : List ℕ). All (λ n. n < 2 ^ 64) ns) c.as_slice.ensures.lent c.fit_long.ensures;
  names_are_texts = subst (λ (ts : List (List ℕ)). All IsUtf8 ts) (sym c.in_ok-copied_texts.ensures) c.are_utf8.ensures;
  tuple_fits = subst (λ (ns : List ℕ). All (λ n. n < 2 ^ 32) ns) (sym c.in_ok-from_slice.ensures.exact) c.fit.ensures;
}
