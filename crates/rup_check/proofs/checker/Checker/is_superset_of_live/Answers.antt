use Rattle.std.proofs.Common.{◌≡◌, true}
use Rattle.rup_check.specs.State.{LiveIn}
use Rattle.rup_check.specs.Slots.{HeldIn, live_from}
use Rattle.rup_check.proofs.SlotLemmas.{held-LiveIn, LiveIn-held}
use Rattle.rup_check.proofs.Supersets.{ContainsOneOf-same}
use Rattle.rup_check.proofs.checker.Checker.is_superset_of_live.Goals as goal

pub returns : goal.returns
returns c =
    let slots = c.self.inside.clauses.slots in
    record {
      exact = rw (← c.self.view_is) (ContainsOneOf-same (HeldIn slots) (LiveIn (live_from 0 slots)) c.args.clause.now
          (λ d. (λ h. held-LiveIn 0 slots d h.0 h.1, LiveIn-held 0 slots d)) (c.has_within.result ≡ true) c.has_within.ensures.exact);
    }
