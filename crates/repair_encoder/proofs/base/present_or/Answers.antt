use Rattle.repair_encoder.proofs.ListLemmas.{present_or_is}
use Rattle.repair_encoder.proofs.BaseLemmas.{says_one}
use Rattle.repair_encoder.proofs.base.present_or.Goals as goal

pub returns : goal.returns
returns c = record {
  exact = says_one c.args.fact c.place_of.result c.args.others.now _
      (present_or_is c.args.others.now c.place_of.result c.args.fact _ _ _ _ _ _ c.split_at.ensures.front c.split_at.ensures.back c.new-clause.ensures
      c.in_ok-push_present.ensures.exact c.in_ok-push.ensures.exact c.in_ok-push_present-2.ensures.exact)
      c.place_of.ensures.ascending;
}
