use Rattle.std.proofs.Common.{◌≡◌, ℕ, List, Some, length, sym, subst, ap, ◌∙◌, arith}
use Rattle.clause_meaning.specs.Literals.{AreBelow}
use Rattle.rup_check.specs.Slots.{Stock}
use Rattle.rup_check.proofs.LiteralRange.{AreBelow-within}
use Rattle.rup_check.proofs.StockLemmas.{AreListed-others, AreListed-push}
use Rattle.rup_check.proofs.clauses.Clauses.add.Goals as goal

pub enlist-requires : goal.enlist-requires
enlist-requires c =
    let in_range = subst (λ (s : Stock). AreBelow s.variables c.args.clause.now) (sym c.self.view_is) c.requires.in_range in
    record { within = AreBelow-within c.self.inside.variables (length c.self.inside.lists.by_literal) c.args.clause.now c.self.invariant.cover in_range }

pub invariant_of-self : goal.invariant_of-self
invariant_of-self c =
    let kept = c.self.invariant in
    let number : c.len-number.result ≡ length c.self.inside.slots.items = omega (arith, c.len-number.ensures, c.self.inside.slots.ok.0) in
    record {
      cover = c.enlist.ensures.others.same_length ∙ kept.cover;
      kept = AreListed-others c.self.inside.variables c.len-number.result c.self.inside.slots.items c.self.inside.lists c.enlist.new.self number kept.kept
          c.enlist.ensures.others;
    }

pub invariant_of-self-in_err-push : goal.invariant_of-self-in_err-push
invariant_of-self-in_err-push c =
    let kept = c.self.invariant in
    let number : c.len-number.result ≡ length c.self.inside.slots.items = omega (arith, c.len-number.ensures, c.self.inside.slots.ok.0) in
    record {
      cover = c.enlist.ensures.others.same_length ∙ kept.cover;
      kept = rw c.in_err-push.ensures.items
          (AreListed-others c.self.inside.variables c.len-number.result c.self.inside.slots.items c.self.inside.lists c.enlist.new.self number kept.kept
          c.enlist.ensures.others);
    }

pub invariant_of-self-2 : goal.invariant_of-self-2
invariant_of-self-2 c =
    let kept = c.self.invariant in
    let clause = c.args.clause.now in
    let in_range = subst (λ (s : Stock). AreBelow s.variables clause) (sym c.self.view_is) c.requires.in_range in
    let number : c.len-number.result ≡ length c.self.inside.slots.items = omega (arith, c.len-number.ensures, c.self.inside.slots.ok.0) in
    let value : c.new.result ≡ Some clause = c.new.ensures ∙ ap (λ (ls : List ℕ). Some ls) c.in_ok-literals.ensures.items in
    record {
      cover = c.enlist.ensures.others.same_length ∙ kept.cover;
      kept = rw (c.in_ok-push.ensures.items, value)
          (AreListed-push c.self.inside.variables c.len-number.result c.self.inside.slots.items clause c.self.inside.lists c.enlist.new.self number kept.kept
          c.enlist.ensures.others c.in_ok-enlist.ensures.listed in_range);
    }
