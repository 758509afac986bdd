use Rattle.std.proofs.Common.{sym, subst}
use Rattle.std.specs.List.Sorted.{IsNonDecreasingBy}
use Rattle.std.proofs.lemmas.List.Sorted.{IsNonDecreasingBy-drop}
use Rattle.cause_finder.specs.Smaller.{number_at}
use Rattle.cause_finder.proofs.SmallerLemmas.{split_between}
use Rattle.cause_finder.proofs.smaller.split.Goals as goal

pub first_above-requires : goal.first_above-requires
first_above-requires c = record {
  rising = subst (IsNonDecreasingBy (number_at c.args.depth)) (sym c.split_at.ensures.back)
      (IsNonDecreasingBy-drop (number_at c.args.depth) c.first_from.result c.args.group.now c.requires.rising);
}

pub returns : goal.returns
returns c = record {
  exact = split_between c.args.depth c.args.number c.args.group.now c.first_from.result c.first_above.result c.split_at.result.1.now c.split_at-2.result.0.now
      c.split_at-2.result.1.now c.split_at.ensures.back c.split_at-2.ensures.front c.split_at-2.ensures.back
      c.first_from.ensures.before c.first_from.ensures.behind c.first_above.ensures.before c.first_above.ensures.behind;
}
