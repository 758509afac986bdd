use Rattle.std.proofs.Common.{◌≡◌, ◌∙◌, ◌↔◌, ◌<◌, ℕ, sym, subst, arith, Contains}
use Rattle.conflict_finder.specs.declared.clash_facts.ClashFacts.TheVariants.{One}
use Rattle.conflict_finder.specs.FirstShown.{HasKey}
use Rattle.conflict_finder.proofs.Entries.{has_key, has_no_key}
use Rattle.conflict_finder.proofs.Remaining.{others_shown, others_new}
use Rattle.conflict_finder.proofs.others.others.Goals as goal
use Rattle.conflict_finder.proofs.others.others.Goals.{then-not-contains_key+in_ok-push, else-not-contains_key}

pub loop-number-preserved : goal.loop-number-preserved
loop-number-preserved c =
    let n = c.loop-number.number in
    elim c.if-not-contains_key.branch [
      | then-not-contains_key+in_ok-push w ↦ rw w.numbers-is (rw w.in_ok-push.ensures.items
          (others_new c.args.shown.now.entries n c.loop-number.numbers.items c.loop-number.invariant
          (has_no_key (One n) c.args.shown.now.entries (sym c.contains_key.ensures ∙ w.if-not-contains_key.true))))
      | else-not-contains_key w ↦ rw w.numbers-is (others_shown c.args.shown.now.entries n c.loop-number.numbers.items c.loop-number.invariant
          (has_key (One n) c.args.shown.now.entries (sym c.contains_key.ensures ∙ w.if-not-contains_key.false)))
    ]

pub returns-clause-exact : goal.returns-clause-exact
returns-clause-exact c =
    let all : c.loop-number.number ≡ c.args.count = omega arith in
    subst (λ m. (n : ℕ) → Contains c.loop-number.numbers.items n ↔ ((n < m) × (HasKey c.args.shown.now.entries (One n) → ⊥))) all c.loop-number.invariant.exact
