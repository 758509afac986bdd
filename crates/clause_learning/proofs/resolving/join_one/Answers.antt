use Rattle.std.proofs.Common.{List, Bool, refl, sym, subst, ◌∙◌, arith}
use Rattle.std.proofs.lemmas.Bool.{both_ways}
use Rattle.clause_meaning.specs.Marks.{HasMark}
use Rattle.clause_meaning.proofs.LiteralLaws.{literal_below}
use Rattle.clause_learning.proofs.Marked.{IsCovered-put, JoinsIn-put, CountsAs-few}
use Rattle.clause_learning.proofs.resolving.join_one.Goals as goal

pub index_mut-requires : goal.index_mut-requires
index_mut-requires c =
    let below = literal_below c.args.trail.now.variables c.args.literal c.requires.in_range in
    omega (arith, below, c.requires.covered.room, c.args.resolvent.now.marks.ok.0)

pub returns-clause-covered : goal.returns-clause-covered
returns-clause-covered c =
    let few = CountsAs-few c.args.trail.now c.args.literal c.count_newest-count.result c.count_newest-count.ensures in
    IsCovered-put c.args.trail.now.variables c.args.resolvent.now _ c.args.literal c.requires.covered
    (literal_below c.args.trail.now.variables c.args.literal c.requires.in_range)
    refl c.in_ok-push.ensures.items (omega (arith, few))

pub returns-clause-joins : goal.returns-clause-joins
returns-clause-joins c =
    let below = literal_below c.args.trail.now.variables c.args.literal c.requires.in_range in
    JoinsIn-put c.args.trail.now c.args.resolvent.now _ c.args.literal c.count_newest-count.result (c.is_open.ensures.fresh c.if-not-is_open.false)
    (omega (arith, below, c.requires.covered.room)) (λ m. both_ways _ c.if-has_mark.false
    (c.has_mark.ensures ∙ subst (λ (xs : List Bool). HasMark xs c.args.literal) (sym c.deref.ensures.value) m)) refl c.count_newest-count.ensures refl
