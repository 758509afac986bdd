use Rattle.std.proofs.Common.{◌≡◌, ◌<◌, length, false, true, get_or, refl, sym, ◌∙◌, arith}
use Rattle.std.proofs.lemmas.Bool.Decides.{nat_tests}
use Rattle.std.proofs.lemmas.List.{get_or_default}
use Rattle.plain_finding.proofs.WalkLemmas.{seen_not, seen_now, seen_more, rival_of, rival_none}
use Rattle.plain_finding.proofs.learnable.Walk.see.Goals as goal

pub returns-then-fact-facts-clause-exact : goal.returns-then-fact-facts-clause-exact
returns-then-fact-facts-clause-exact c = seen_not c.args.conflicts.now.clashes c.args.conflicts.now.facts c.args.self.now.reached.items c.args.fact
    (λ l r. absurd (omega (arith, l, c.facts.ensures.exact, c.if-fact-facts.true)))

pub returns-then-is_empty-clause-exact : goal.returns-then-is_empty-clause-exact
returns-then-is_empty-clause-exact c =
    let none : length c.of.result.now ≡ 0 = grind (arith, nat_tests) in
    seen_not c.args.conflicts.now.clashes c.args.conflicts.now.facts c.args.self.now.reached.items c.args.fact
    (λ l r. absurd (rival_none c.args.conflicts.now.clashes c.args.fact c.of.result.now c.of.ensures.exact none r))

pub returns-then-index-clause-exact : goal.returns-then-index-clause-exact
returns-then-index-clause-exact c =
    let inside : c.args.fact < length c.args.self.now.seen.items = omega (arith, c.requires.marks, c.facts.ensures.exact, c.if-fact-facts.false) in
    let marked : get_or c.args.self.now.seen.items c.args.fact false ≡ true =
    get_or_default c.args.self.now.seen.items c.args.fact false c.index.result.now inside ∙ (sym c.index.ensures ∙ c.if-index.true) in
    seen_not c.args.conflicts.now.clashes c.args.conflicts.now.facts c.args.self.now.reached.items c.args.fact
    (λ l r. (c.requires.kept.exact c.args.fact inside).0 marked)

pub returns-clause-kept : goal.returns-clause-kept
returns-clause-kept c =
    let inside : c.args.fact < length c.args.self.now.seen.items = omega (arith, c.requires.marks, c.facts.ensures.exact, c.if-fact-facts.false) in
    let unmarked : get_or c.args.self.now.seen.items c.args.fact false ≡ false =
    get_or_default c.args.self.now.seen.items c.args.fact false c.index.result.now inside ∙ (sym c.index.ensures ∙ c.if-index.false) in
    rw c.in_ok-push.ensures.items (seen_more c.args.self.now.seen.items _ c.args.self.now.reached.items c.args.fact c.requires.kept inside unmarked
    refl)

pub returns-clause-exact : goal.returns-clause-exact
returns-clause-exact c =
    let some : 0 < length c.of.result.now = grind (arith, nat_tests) in
    rw c.in_ok-push.ensures.items (seen_now c.args.conflicts.now.clashes c.args.conflicts.now.facts c.args.self.now.reached.items c.args.fact
    (rival_of c.args.conflicts.now.clashes c.args.fact c.of.result.now c.of.ensures.exact some))
