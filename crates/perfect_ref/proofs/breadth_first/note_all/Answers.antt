use Rattle.std.proofs.Common.{◌≤◌, sym, subst, arith, length}
use Rattle.std.proofs.lemmas.List.{length_push}
use Rattle.std.proofs.lemmas.Iterator.Adapters.{YieldsList-from_vec}
use Rattle.std.proofs.lemmas.Iterator.Consumers.{YieldsList-turn, YieldsList-end}
use Rattle.std.proofs.lemmas.Result.{err_from_is_err_and}
use Rattle.cq_terms.specs.Query.{Query}
use Rattle.cq_steps.specs.declared.moves.Move.{Move}
use Rattle.cq_steps.specs.declared.closure.Member.{Member}
use Rattle.cq_steps.specs.Moves.{IsMove}
use Rattle.perfect_ref.specs.Search.{AreKept}
use Rattle.perfect_ref.proofs.SearchLemmas.{made_by}
use Rattle.perfect_ref.proofs.TurnLemmas.{BeginsWith, kept_then, kept_inside, noted_keeps, turn_goes_on, turn_ends, turn_behind, derived_now, more_than}
use Rattle.perfect_ref.proofs.breadth_first.note_all.Goals as goal

pub loop-step-preserved : goal.loop-step-preserved
loop-step-preserved c =
    let x : Move × Query = (c.in-Some.step, c.in-Some.query) in
    let t = YieldsList-turn (YieldsList-from_vec {s = c.into_iter-step-iterator.result} c.args.moves.items (cc) (cc)) c.loop-step.yielded
    c.loop-step.step-iterator c.loop-step.yielded_by c.next.result c.next.new.self x c.in-Some.is c.next.ensures.steps in
    let old = c.loop-step.found.closure in
    let new = c.note.new.found.closure in
    let m : Member = made_by c.args.from x in
    let keeps : AreKept old new = noted_keeps c.args.limit old new m c.in_ok-note.ensures.exact in
    record {
      tied = c.in_ok-note.ensures.tied;
      place = kept_inside old new c.args.from m keeps c.loop-step.invariant.place;
      kept = kept_then c.args.found.now.closure old new c.loop-step.invariant.kept keeps;
      amid = λ axioms p turn. rw (length_push c.loop-step.yielded x)
          (turn_goes_on axioms c.args.limit c.args.from p c.args.moves.items (length c.loop-step.yielded) old new x t.0 t.1
          (c.loop-step.invariant.kept c.args.from p turn.at) turn.successors (omega (arith, c.ranges.limit.fits)) c.in_ok-note.ensures.exact
          (c.loop-step.invariant.amid axioms p turn));
    }

pub returns-in_err-note-clause-refused : goal.returns-in_err-note-clause-refused
returns-in_err-note-clause-refused c = λ axioms p q turn derived e.
    let (y, is, same) = err_from_is_err_and c.from_residual.result c.from_residual.ensures.1 in
    let told = c.in_err-note.ensures.refused (cc (is, same, e)) in
    let x : Move × Query = (c.in-Some.step, c.in-Some.query) in
    let t = YieldsList-turn (YieldsList-from_vec {s = c.into_iter-step-iterator.result} c.args.moves.items (cc) (cc)) c.loop-step.yielded
    c.loop-step.step-iterator c.loop-step.yielded_by c.next.result c.next.new.self x c.in-Some.is c.next.ensures.steps in
    let members = c.loop-step.found.closure in
    let amid = c.loop-step.invariant.amid axioms p turn in
    let kept = c.loop-step.invariant.kept in
    let first : BeginsWith q members = (derived.first.0, kept 0 derived.first.0 derived.first.1, derived.first.2) in
    let moved : IsMove axioms p.query c.in-Some.step c.in-Some.query =
    subst (λ (z : Move × Query). IsMove axioms p.query z.0 z.1) (sym t.1) (turn.successors.sound (length c.loop-step.yielded) x t.0) in
    more_than axioms c.args.limit c.args.from q p members c.in-Some.step c.in-Some.query
    (derived_now axioms c.args.limit c.args.from q members first amid.found)
    amid.found.derivation (kept c.args.from p turn.at) moved told.0 told.1

pub returns-clause-found : goal.returns-clause-found
returns-clause-found c = λ axioms p turn.
    let t = YieldsList-end (YieldsList-from_vec {s = c.into_iter-step-iterator.result} c.args.moves.items (cc) (cc)) c.loop-step.yielded
    c.loop-step.step-iterator c.loop-step.yielded_by c.next.result c.next.new.self c.in-None.is c.next.ensures.steps in
    let end : length c.args.moves.items ≤ length c.loop-step.yielded = omega (arith, t.1) in
    turn_ends axioms c.args.limit c.args.from p c.args.moves.items (length c.loop-step.yielded) c.loop-step.found.closure end
    (c.loop-step.invariant.kept c.args.from p turn.at) turn.successors (c.loop-step.invariant.amid axioms p turn)

pub returns-clause-behind : goal.returns-clause-behind
returns-clause-behind c = λ axioms p turn.
    turn_behind axioms c.args.limit c.args.from c.args.moves.items (length c.loop-step.yielded) c.loop-step.found.closure
    (c.loop-step.invariant.amid axioms p turn)
