use Rattle.std.proofs.Common.{◌<◌, length, get_or, arith}
use Rattle.std.proofs.lemmas.Bool.{both_ways}
use Rattle.std.proofs.lemmas.List.Elements.{Contains-get_or}
use Rattle.clause_meaning.proofs.Resting.{Rests-true, Rests-two_free}
use Rattle.rup_check.specs.Marks.{IsMarked}
use Rattle.rup_check.proofs.hints.shows_rest.Goals as goal

pub returns-then-has : goal.returns-then-has
returns-then-has c =
    let clause = c.args.clause.now in
    let below : c.args.hint.first < length clause = omega arith in
    let l = get_or clause c.args.hint.first 0 in
    let m = c.has.ensures.0 c.if-has.true in
    Rests-true (IsMarked c.args.marks.now.literals) clause l (Contains-get_or clause c.args.hint.first 0 below) m (c.requires.consistent l m)

pub returns-then-has-2 : goal.returns-then-has-2
returns-then-has-2 c =
    let clause = c.args.clause.now in
    let below : c.args.hint.second < length clause = omega arith in
    let l = get_or clause c.args.hint.second 0 in
    let m = c.has-2.ensures.0 c.if-has-2.true in
    Rests-true (IsMarked c.args.marks.now.literals) clause l (Contains-get_or clause c.args.hint.second 0 below) m (c.requires.consistent l m)

pub returns : goal.returns
returns c =
    let clause = c.args.clause.now in
    let first_below : c.args.hint.first < length clause = omega arith in
    let second_below : c.args.hint.second < length clause = omega arith in
    Rests-two_free (IsMarked c.args.marks.now.literals) clause (record {
      first = get_or clause c.args.hint.first 0;
      second = get_or clause c.args.hint.second 0;
      has_first = Contains-get_or clause c.args.hint.first 0 first_below;
      has_second = Contains-get_or clause c.args.hint.second 0 second_below;
      differ = c.if-first-second.false;
      first_free = λ m. both_ways _ c.if-has_opposite.false (c.has_opposite.ensures.1 m);
      second_free = λ m. both_ways _ c.if-has_opposite-2.false (c.has_opposite-2.ensures.1 m);
    })
