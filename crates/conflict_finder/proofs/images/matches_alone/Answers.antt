use Rattle.std.proofs.Common.{◌∙◌, ◌==◌, ℕ, ap}
use Rattle.conflict_finder.proofs.Joins.{alone_of_hits, alone_of_more}
use Rattle.conflict_finder.proofs.images.matches_alone.Goals as goal

pub returns-in-Ok : goal.returns-in-Ok
returns-in-Ok c = record {
  exact = alone_of_hits c.args.fact c.args.query.now c.in-Ok.hits.items c.requires.short (rw c.in_ok-alone.ensures.exact at c.in-Ok.ensures.exact)
      c.is_empty.result
      (c.is_empty.ensures ∙ ap (λ (n : ℕ). n == 0) c.in-Ok.hits.ok.0);
}

pub returns-in-Err-TooManyHits : goal.returns-in-Err-TooManyHits
returns-in-Err-TooManyHits c = record {
  exact = alone_of_more c.args.fact c.args.query.now c.requires.short
      (rw c.in_ok-alone.ensures.exact at (c.in-Err-TooManyHits.ensures.too_many (cc c.in-Err-TooManyHits.field-0-is)));
}
