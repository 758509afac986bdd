use Rattle.std.proofs.Common.{◌+◌, ℕ, List, get_or, sym, subst, ap, ◌∙◌}
use Rattle.std.proofs.lemmas.List.{take_all}
use Rattle.rup_check.specs.Marks.{Marked}
use Rattle.rup_check.specs.Steps.{RestAmong}
use Rattle.rup_check.proofs.SlotLemmas.{IsAt-one, IsAt-none}
use Rattle.rup_check.proofs.Growth.{LooksHold, LooksHold-none, LooksHold-forces, LooksHold-rests, refuted_by_false}
use Rattle.rup_check.proofs.propagation.look_over.Goals as goal
use Rattle.rup_check.proofs.propagation.look_over.Goals.{in-Some+in-Forces, in-Some+in-Rests, in_default}

pub returns-in-IsFalse-clause-clashes : goal.returns-in-IsFalse-clause-clashes
returns-in-IsFalse-clause-clashes c =
    refuted_by_false c.args.clauses.now.slots c.args.marks.now.literals c.loop-number.marks.literals c.in-Some.clause.now c.loop-number.invariant.holds.grown
    (get_or c.args.numbers.now c.loop-number.number-index 0, sym c.in-Some.ensures.exact) c.in-IsFalse.ensures.says

pub loop-number-preserved : goal.loop-number-preserved
loop-number-preserved c =
    let slots = c.args.clauses.now.slots in
    let numbers = c.args.numbers.now in
    let old = c.args.marks.now.literals in
    let marked = c.loop-number.marks.literals in
    let i = c.loop-number.number-index in
    let holds = c.loop-number.invariant.holds in
    elim c.match-get.branch [
      | in-Some+in-Forces w ↦
          let l = w.in-Forces.literal in
          let clause = w.in-Some.clause.now in
          let is = w.marks-is ∙ w.mark.ensures.exact in
          let said = w.in-Forces.ensures.says in
          record {
            same_variables = ap (λ (m : Marked). m.variables) is ∙ c.loop-number.invariant.same_variables;
            holds = subst (λ (ms : List ℕ). LooksHold slots numbers old ms (i + 1)) (sym (ap (λ (m : Marked). m.literals) is))
                (LooksHold-forces slots numbers old marked i l clause c.loop-number-test.true holds (sym w.in-Some.ensures.exact)
                (λ d at. IsAt-one slots (get_or numbers i 0) d clause at w.in-Some.ensures.exact) said.0 said.2);
          }
      | in-Some+in-Rests w ↦
          let clause = w.in-Some.clause.now in
          record {
            same_variables = ap (λ (m : Marked). m.variables) w.marks-is ∙ c.loop-number.invariant.same_variables;
            holds = subst (λ (ms : List ℕ). LooksHold slots numbers old ms (i + 1)) (sym (ap (λ (m : Marked). m.literals) w.marks-is))
                (LooksHold-rests slots numbers old marked i clause c.loop-number-test.true holds
                (λ d at. IsAt-one slots (get_or numbers i 0) d clause at w.in-Some.ensures.exact) w.in-Rests.ensures.says);
          }
      | in_default w ↦ record {
        same_variables = ap (λ (m : Marked). m.variables) w.marks-is ∙ c.loop-number.invariant.same_variables;
        holds = subst (λ (ms : List ℕ). LooksHold slots numbers old ms (i + 1)) (sym (ap (λ (m : Marked). m.literals) w.marks-is))
            (LooksHold-none slots numbers old marked i c.loop-number-test.true holds
            (λ d at. IsAt-none slots (get_or numbers i 0) d w.in_default.ensures.exact at));
      }
    ]

pub returns-clause-rest : goal.returns-clause-rest
returns-clause-rest c =
    subst (λ (ns : List ℕ). RestAmong c.args.clauses.now.slots ns c.args.marks.now.literals c.loop-number.marks.literals)
    (take_all c.loop-number.number-index c.args.numbers.now c.loop-number-test.false) c.loop-number.invariant.holds.rest
