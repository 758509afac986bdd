use Rattle.std.proofs.Common.{arith}
use Rattle.std.proofs.lemmas.Option.{slice_get_within}
use Rattle.fact_index.proofs.PlaceLemmas.{place_found, place_not_found}
use Rattle.fact_index.proofs.index.Index.at.Goals as goal

pub overflow_cast-at : goal.overflow_cast-at
overflow_cast-at c =
    let at = place_found c.self.inside.places.keys c.args.place c.in-Some.at c.in-Some.ensures.index in
    omega (arith, slice_get_within c.self.inside.places.keys c.in-Some.at c.args.place at, c.self.invariant.few_places)

pub returns-in-Some : goal.returns-in-Some
returns-in-Some c =
    let at = place_found c.self.inside.places.keys c.args.place c.in-Some.at c.in-Some.ensures.index in
    record { lent = rw (← c.self.view_is, c.list.ensures.lent) (c.self.invariant.exact c.in-Some.at c.args.place at) }

pub returns-in-None : goal.returns-in-None
returns-in-None c =
    rw (← c.self.view_is) (record {
      lent = record {
        ascending = λ i j d i_lt j_lt. absurd (omega arith);
        exact = λ i. (
          (λ (k, l, e). absurd (omega arith)),
          (λ h.
              let number = c.self.invariant.complete i h.0 c.args.place h.2 h.1 in
              absurd (place_not_found c.self.inside.places.keys c.args.place number.0 c.in-None.ensures.found number.1)),
        );
      };
    })
