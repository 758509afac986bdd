use Rattle.report_parts.proofs.CodeLemmas.{added_key}
use Rattle.report_parts.proofs.codes.CodeSet.add.Goals as goal

pub returns : goal.returns
returns c = record {
  exact = rw (← c.self.view_is) (λ q. rw c.in_ok-_place.ensures.keys (added_key c.self.inside.codes.keys c.args.code q));
}
