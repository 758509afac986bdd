use Rattle.std.proofs.Common.{◌≡◌, ◌<◌, ℕ, All, length, ap, subst, ◌∙◌, refl, rules}
use Rattle.report_laws.specs.Standing.{Standing}
use Rattle.report_standing.proofs.standing.Standing.names_cores.Goals as goal

pub returns-then-are_below_long : goal.returns-then-are_below_long
returns-then-are_below_long c =
    let named : c.deref.result.now ≡ c.args.self.now.named = c.deref.ensures.value ∙ ap (λ (s : Standing). s.named) c.self.view_is in
    let size : c.len.result ≡ length c.args.self.now.cores = search rules in
    let told = rw named at c.has_longs.ensures.exact in
    record {
      exact = (
        (λ t. record {
          ascending = c.if-not-ascend_long.ensures.exact.0 refl;
          earlier = subst (λ (n : ℕ). All (λ (x : ℕ). x < n) c.args.cores.now) size (c.if-are_below_long.ensures.exact.0 refl);
          complete = told.0 t;
        }),
        (λ w. told.1 w.complete),
      );
    }
