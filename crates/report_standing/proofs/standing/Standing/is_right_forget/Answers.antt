use Rattle.std.proofs.Common.{◌≡◌, map, ap, ◌∙◌, refl}
use Rattle.report_rules.specs.Live.{Learned}
use Rattle.report_laws.specs.Standing.{Standing}
use Rattle.report_standing.proofs.standing.Standing.is_right_forget.Goals as goal

pub returns : goal.returns
returns c =
    let listed : c.deref-3.result.now ≡ map (λ (x : Learned). x.number) c.args.self.now.learned =
    c.deref-3.ensures.value ∙ (c.in_ok-learned.ensures.exact
    ∙ ap (map (λ (x : Learned). x.number)) (c.deref.ensures.value ∙ ap (λ (s : Standing). s.learned) c.self.view_is)) in
    let told = rw listed at c.has_longs.ensures.exact in
    let enough = c.if-not-may_forget.ensures.exact.0 refl in
    record {
      exact = (
        (λ t. record { many = enough.many; ascending = c.if-not-ascend_long.ensures.exact.0 refl; live = told.0 t; stay = enough.stay }),
        (λ w. told.1 w.live),
      );
    }
