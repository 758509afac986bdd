use Rattle.std.proofs.Common.{◌<◌, map, not, length, ap, ◌∙◌, refl, arith}
use Rattle.std.proofs.lemmas.List.{length-map}
use Rattle.plain_finding.proofs.PartLemmas.{kept_more, kept_skips, kept_all, turned, min_ends}
use Rattle.plain_finding.proofs.clauses.part.Goals as goal
use Rattle.plain_finding.proofs.clauses.part.Goals.{then-marks-place+in_ok-push, else-marks-place+in_ok-push-2}

pub loop-place-preserved : goal.loop-place-preserved
loop-place-preserved c =
    let marks = c.args.marks.now in
    let numbers = c.args.numbers.now in
    let k = c.loop-place.place in
    let long = length-map marks not in
    let a : k < length marks = omega (arith, c.min-count.ensures) in
    let b : k < length numbers = omega (arith, c.min-count.ensures) in
    elim c.if-marks-place.branch [
      | then-marks-place+in_ok-push w ↦ record {
        staying = kept_more marks numbers k a c.loop-place.staying.items _ c.loop-place.invariant.staying 0 b w.if-marks-place.true
            (rw w.staying-is w.in_ok-push.ensures.items);
        going = kept_skips (map not marks) numbers k (omega arith) c.loop-place.going.items _ c.loop-place.invariant.going
            (turned marks k a ∙ ap not w.if-marks-place.true) (rw w.going-is refl);
      }
      | else-marks-place+in_ok-push-2 w ↦ record {
        staying = kept_skips marks numbers k a c.loop-place.staying.items _ c.loop-place.invariant.staying w.if-marks-place.false (rw w.staying-is refl);
        going = kept_more (map not marks) numbers k (omega arith) c.loop-place.going.items _ c.loop-place.invariant.going 0 b
            (turned marks k a ∙ ap not w.if-marks-place.false) (rw w.going-is w.in_ok-push-2.ensures.items);
      }
    ]

pub returns-clause-staying : goal.returns-clause-staying
returns-clause-staying c =
    let ends = min_ends (length c.args.numbers.now) (length c.args.marks.now) c.loop-place.place (omega
    (arith, c.min-count.ensures, c.loop-place-test.false)) in
    c.loop-place.invariant.staying ∙ kept_all c.args.marks.now c.args.numbers.now c.loop-place.place ends

pub returns-clause-going : goal.returns-clause-going
returns-clause-going c =
    let long = length-map c.args.marks.now not in
    let ends = min_ends (length c.args.numbers.now) (length (map not c.args.marks.now)) c.loop-place.place
    (omega (arith, long, c.min-count.ensures, c.loop-place-test.false)) in
    c.loop-place.invariant.going ∙ kept_all (map not c.args.marks.now) c.args.numbers.now c.loop-place.place ends
