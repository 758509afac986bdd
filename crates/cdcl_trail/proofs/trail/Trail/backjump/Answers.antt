use Rattle.std.proofs.Common.{length, min, refl, sym, ap, ◌∙◌, arith}
use Rattle.cdcl_trail.specs.State.{State}
use Rattle.cdcl_trail.proofs.LevelLemmas.{All-up_to_last}
use Rattle.cdcl_trail.proofs.Fitting.{Fits-cut}
use Rattle.cdcl_trail.proofs.trail.Trail.backjump.Goals as goal

pub returns-clause-exact : goal.returns-clause-exact
returns-clause-exact c =
    let new = c.cut.new.assigned.entries in
    let gone = c.cut.ensures.cut.0 in
    record {
      variables = c.cut.ensures.variables ∙ ap (λ (s : State). s.variables) c.self.view_is;
      level = refl;
      settled = c.min-self-inside.ensures ∙ (ap (min c.self.inside.settled) c.len.ensures.exact
          ∙ ap (λ (s : State). min s.settled (length new)) c.self.view_is);
      focus = ap (λ (s : State). s.focus) c.self.view_is;
      counts = ap (λ (s : State). s.counts) c.self.view_is;
      lasts = ap (λ (s : State). s.lasts) c.self.view_is;
      cut = (
        gone,
        ap (λ (s : State). s.entries) (sym c.self.view_is) ∙ c.cut.ensures.cut.1,
        All-up_to_last 0 new c.args.level c.cut.ensures.rise (omega (arith, c.cut.ensures.last)),
        c.cut.ensures.cut.2,
      );
    }

pub returns-clause-fits : goal.returns-clause-fits
returns-clause-fits c arena fits = Fits-cut c.args.self.now _ arena c.args.level fits (returns-clause-exact c) c.requires.reached
