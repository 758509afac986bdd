use Rattle.rup_check.proofs.ListLemmas.{others_kept}
use Rattle.rup_check.proofs.lists.Lists.delist.Goals as goal

pub returns : goal.returns
returns c = record {
  others = rw (← c.self.view_is) (others_kept c.args.number c.self.inside.by_literal c.deref_mut.result.now c.remove_by_literal.new.lists
      c.self.inside.short c.self.inside.empty c.remove_where.new.list c.remove_where-2.new.list
      c.deref_mut.ensures.value c.deref_mut.ensures.len c.remove_by_literal.ensures.same_length c.remove_by_literal.ensures.kept
      c.remove_where.ensures.kept c.remove_where-2.ensures.kept);
}
