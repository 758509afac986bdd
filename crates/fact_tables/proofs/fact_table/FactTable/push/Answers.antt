use Rattle.std.proofs.Common.{◌<◌, ◌∙◌, sym, subst, length}
use Rattle.fact_tables.specs.FactRecords.{most_records}
use Rattle.fact_tables.specs.FactTable.{Table}
use Rattle.fact_tables.proofs.TableLemmas.{insert_key-fact, table_pushed, table_put}
use Rattle.fact_tables.proofs.fact_table.FactTable.push.Goals as goal

pub invariant_of-self-in_err-push : goal.invariant_of-self-in_err-push
invariant_of-self-in_err-push c =
    rw c.in_err-push.ensures.items (table_put c.self.inside.facts.keys _ _ c.args.fact
    (c.in_ok-number.ensures.keys ∙ insert_key-fact c.self.inside.facts.keys c.args.fact) c.self.invariant)

pub invariant_of-self-2 : goal.invariant_of-self-2
invariant_of-self-2 c =
    let put = table_put c.self.inside.facts.keys _ _ c.args.fact (c.in_ok-number.ensures.keys ∙ insert_key-fact c.self.inside.facts.keys c.args.fact)
    c.self.invariant in
    rw c.in_ok-push.ensures.items (table_pushed _ _ c.in_ok-number.number _ c.in_ok-number.ensures.stored.1
    (subst (λ (t : Table). length t.records < most_records) (sym c.self.view_is) c.requires.few) put)
