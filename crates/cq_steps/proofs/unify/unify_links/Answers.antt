use Rattle.std.proofs.Common.{refl, sym}
use Rattle.cq_steps.specs.Unifying.{meaning_of}
use Rattle.cq_steps.proofs.unify.unify_links.Goals as goal

pub returns : goal.returns
returns c = (
  refl,
  meaning_of c.in_ok-first.first,
  meaning_of c.in_ok-then.then,
  sym c.in_ok-first.ensures,
  rw (← c.term.ensures, ← c.term-2.ensures) (sym c.in_ok-then.ensures),
  refl,
  rw (c.merged_under-from.ensures, c.merged_under-to.ensures),
)
