use Rattle.std.proofs.Common.{◌<◌, ℕ, All, length, List, inl, inr, refl, sym, subst, arith}
use Rattle.cq_terms.specs.Lists.{IsAscending}
use Rattle.cause_finder.specs.declared.support.Support.{Support}
use Rattle.cause_finder.specs.Smaller.{AreNarrowed, HasPartFrom}
use Rattle.cause_finder.proofs.PartsOfLists.{rest_ascends}
use Rattle.cause_finder.proofs.SmallerLemmas.{all_longer, numbers_rise, same_narrowed, above_narrowed, above_longer, part_either, part_same, part_above}
use Rattle.cause_finder.proofs.smaller.+smaller.Goals as goal

pub has_longer_part-split-requires : goal.has_longer_part-split-requires
has_longer_part-split-requires t c = record { rising = numbers_rise c.args.depth c.args.group.now c.requires.narrowed c.requires.longer }

pub has_longer_part-has_part_in-requires : goal.has_longer_part-has_part_in-requires
has_longer_part-has_part_in-requires t c =
    let f = c.in-Some.fact.now in
    let m = c.in-Some.more.now in
    let cut = c.in-Some.ensures.cases in (
      omega (arith, c.decreases, cut.1),
      (
        same_narrowed c.args.depth f m c.args.size c.args.group.now c.split.result.0.now c.split.result.1.now c.split.ensures.exact c.requires.narrowed
            c.requires.longer,
        (rest_ascends f m (subst IsAscending cut.0 c.requires.ascending), omega (arith, cut.1, c.requires.within)),
      ),
    )

pub has_longer_part-returns-then-has_part_in : goal.has_longer_part-returns-then-has_part_in
has_longer_part-returns-then-has_part_in t c =
    let f = c.in-Some.fact.now in
    let m = c.in-Some.more.now in
    record {
      exact = (
        (λ yes. subst (λ (xs : List ℕ). HasPartFrom c.args.depth xs c.args.size c.args.group.now) (sym c.in-Some.ensures.cases.0)
            (part_same c.args.depth f m c.args.size c.args.group.now c.split.result.0.now c.split.result.1.now c.split.ensures.exact c.requires.narrowed
            c.requires.longer (c.has_part_in.ensures.exact.0 c.if-has_part_in.true))),
        λ h. refl,
      );
    }

pub has_longer_part-has_longer_part-requires : goal.has_longer_part-has_longer_part-requires
has_longer_part-has_longer_part-requires t c =
    let f = c.in-Some.fact.now in
    let m = c.in-Some.more.now in
    let cut = c.in-Some.ensures.cases in (
      omega (arith, c.decreases, cut.1),
      (
        above_narrowed c.args.depth f m c.args.size c.args.group.now c.split.result.0.now c.split.result.1.now c.split.ensures.exact c.requires.narrowed
            c.requires.longer,
        (
          above_longer c.args.depth f m c.args.size c.args.group.now c.split.result.0.now c.split.result.1.now c.split.ensures.exact c.requires.narrowed
              c.requires.longer,
          (rest_ascends f m (subst IsAscending cut.0 c.requires.ascending), omega (arith, cut.1, c.requires.within)),
        ),
      ),
    )

pub has_longer_part-returns : goal.has_longer_part-returns
has_longer_part-returns t c =
    let f = c.in-Some.fact.now in
    let m = c.in-Some.more.now in
    let cut = c.in-Some.ensures.cases in
    record {
      exact = (
        (λ yes. subst (λ (xs : List ℕ). HasPartFrom c.args.depth xs c.args.size c.args.group.now) (sym cut.0)
            (part_above c.args.depth f m c.args.size c.args.group.now c.split.result.0.now c.split.result.1.now c.split.ensures.exact c.requires.narrowed
            c.requires.longer (c.has_longer_part.ensures.exact.0 yes))),
        λ h. elim (part_either c.args.depth f m c.args.size c.args.group.now c.split.result.0.now c.split.result.1.now c.split.ensures.exact
            c.requires.narrowed c.requires.longer (subst IsAscending cut.0 c.requires.ascending)
            (subst (λ (xs : List ℕ). HasPartFrom c.args.depth xs c.args.size c.args.group.now) cut.0 h)) [
              | inl p ↦ absurd (let yes = c.has_part_in.ensures.exact.1 p in cc (yes, c.if-has_part_in.false))
              | inr p ↦ c.has_longer_part.ensures.exact.1 p
            ],
      );
    }

pub has_part_in-has_longer_part-requires : goal.has_part_in-has_longer_part-requires
has_part_in-has_longer_part-requires t c =
    let cut = c.in-Some.ensures.cases.0 in
    let long : c.args.depth < length c.in-Some.first.now.image = omega (arith, c.len.ensures, c.if-len-depth.false) in (
      omega (arith, c.decreases),
      (
        c.requires.narrowed,
        (
          subst (λ (xs : List Support). All (λ (s : Support). c.args.depth < length s.image) xs) (sym cut)
              (all_longer c.args.depth c.in-Some.first.now c.in-Some._more.now (subst (AreNarrowed c.args.depth) cut c.requires.narrowed) long),
          (c.requires.ascending, c.requires.within),
        ),
      ),
    )
