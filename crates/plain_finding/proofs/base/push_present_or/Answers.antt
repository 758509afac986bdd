use Rattle.std.proofs.lemmas.Result.{on_ok_weaker}
use Rattle.plain_finding.proofs.InsertLemmas.{present_or_is}
use Rattle.plain_finding.proofs.BaseLemmas.{says_one}
use Rattle.plain_finding.proofs.base.push_present_or.Goals as goal

pub returns : goal.returns
returns c = record {
  exact = on_ok_weaker _ (λ all. says_one c.args.fact c.place_of.result c.args.others.now _
      (present_or_is c.args.others.now c.place_of.result c.args.fact _ _ _ _ _ _ c.split_at.ensures.front c.split_at.ensures.back c.requires.none
      c.in_ok-push_present.ensures.exact c.in_ok-push.ensures.items all)
      c.place_of.ensures.ascending) c.push_present-2.ensures.exact;
}
