use Rattle.std.proofs.Common.{◌≡◌, ◌↔◌, ℕ, List, Contains, sym, subst, ap}
use Rattle.rup_check.specs.State.{Numbered, LiveIn}
use Rattle.plain_finding.specs.Kept.{Kept}
use Rattle.plain_finding.proofs.KeptLemmas.{contains_told}
use Rattle.plain_finding.proofs.clauses.Clauses.is_superset_of_live.Goals as goal

pub returns : goal.returns
returns c =
    let same : c.self.inside.checker.live ≡ c.args.self.now.live = ap (λ (k : Kept). k.live) c.self.view_is in
    record {
      exact = λ live has. contains_told c.self.inside.checker.live live c.args.clause.now c.is_superset_of_live.result
          (subst (λ (l : List Numbered). (x : List ℕ) → Contains live x ↔ LiveIn l x) (sym same) has) c.is_superset_of_live.ensures.exact;
    }
