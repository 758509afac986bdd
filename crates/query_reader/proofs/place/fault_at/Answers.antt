use Rattle.std.proofs.Common.{sym, subst}
use Rattle.query_reader.specs.Faults.{IsLeft}
use Rattle.query_reader.proofs.place.fault_at.Goals as goal

pub returns-in-Some : goal.returns-in-Some
returns-in-Some c = record {
  exact = record {
    none = c.requires.none;
    more = c.requires.more;
    left_is = subst (λ bytes. IsLeft c.args.place bytes c.left_inside.result) (sym c.in-Some.ensures.found)
        (c.left_inside.ensures.exact c.args.place c.in-Some.ensures.takes);
  };
}
