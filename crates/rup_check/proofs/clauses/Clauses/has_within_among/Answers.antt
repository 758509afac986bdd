use Rattle.std.proofs.Common.{inl, inr, ℕ, List, get_or, sym, subst}
use Rattle.std.proofs.lemmas.Bool.{both_ways}
use Rattle.clause_meaning.specs.Refutation.{IsWithin}
use Rattle.clause_meaning.proofs.Members.{Contains-take_more_cases, Contains-take_all}
use Rattle.rup_check.specs.Slots.{IsAt}
use Rattle.rup_check.proofs.SlotLemmas.{IsAt-one, IsAt-none}
use Rattle.rup_check.proofs.clauses.Clauses.has_within_among.Goals as goal
use Rattle.rup_check.proofs.clauses.Clauses.has_within_among.Goals.{in-Some+else-is_within, in_default}

pub returns-then-is_within-clause-found :
    goal.returns-then-is_within-clause-found
returns-then-is_within-clause-found c =
    (c.in-Some.small.now, (get_or c.args.numbers.now c.loop-number.number-index 0, sym c.in-Some.ensures.exact), c.is_within.ensures.0 c.if-is_within.true)

pub loop-number-preserved : goal.loop-number-preserved
loop-number-preserved c n d member at within =
    let slots = c.args.self.now.slots in
    let numbers = c.args.numbers.now in
    let i = c.loop-number.number-index in
    elim (Contains-take_more_cases numbers i 0 n c.loop-number-test.true member) [
      | inl t ↦ c.loop-number.invariant n d t at within
      | inr e ↦
          let here : IsAt slots (get_or numbers i 0) d = subst (λ (j : ℕ). IsAt slots j d) (sym e) at in
          elim c.match-get.branch [
            | in-Some+else-is_within w ↦
                let same = IsAt-one slots (get_or numbers i 0) d w.in-Some.small.now here w.in-Some.ensures.exact in
                both_ways w.is_within.result w.if-is_within.false (w.is_within.ensures.1
                (subst (λ (k : List ℕ). IsWithin k c.args.clause.now) (sym same) within))
            | in_default w ↦ IsAt-none slots (get_or numbers i 0) d w.in_default.ensures.exact here
          ]
    ]

pub returns-clause-none : goal.returns-clause-none
returns-clause-none c n d member at within =
    c.loop-number.invariant n d (Contains-take_all c.args.numbers.now c.loop-number.number-index n c.loop-number-test.false member) at within
