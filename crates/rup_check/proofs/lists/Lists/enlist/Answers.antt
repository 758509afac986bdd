use Rattle.std.proofs.Common.{◌≡◌, ◌⊎◌, inl, inr, ℕ, List, Contains, true, length, eqb, ap, ◌∙◌}
use Rattle.std.proofs.lemmas.Bool.{cases_Bool, OnFalse_at}
use Rattle.std.proofs.lemmas.Result.{on_ok_weaker}
use Rattle.rup_check.specs.Listed.{HasTwo}
use Rattle.rup_check.proofs.ListLemmas.{others_kept, listed_now}
use Rattle.rup_check.proofs.lists.Lists.enlist.Goals as goal

pub returns-in_err-put_by_literal-clause-others :
    goal.returns-in_err-put_by_literal-clause-others
returns-in_err-put_by_literal-clause-others c =
    rw (← c.self.view_is) (others_kept c.args.number c.self.inside.by_literal c.deref_mut.result.now c.put_by_literal.new.lists
    c.self.inside.short c.self.inside.empty c.self.inside.short c.self.inside.empty
    c.deref_mut.ensures.value c.deref_mut.ensures.len c.put_by_literal.ensures.same_length (λ l n _ m. c.put_by_literal.ensures.kept l n m) (λ n _ m. m)
    (λ n _ m. m))

pub returns-in_err-put_where-clause-others :
    goal.returns-in_err-put_where-clause-others
returns-in_err-put_where-clause-others c =
    rw (← c.self.view_is) (others_kept c.args.number c.self.inside.by_literal c.deref_mut.result.now c.put_by_literal.new.lists
    c.self.inside.short c.self.inside.empty c.put_where.new.list c.self.inside.empty
    c.deref_mut.ensures.value c.deref_mut.ensures.len c.put_by_literal.ensures.same_length (λ l n _ m. c.put_by_literal.ensures.kept l n m)
    (λ n _ m. c.put_where.ensures.kept n m) (λ n _ m. m))

pub returns-clause-others : goal.returns-clause-others
returns-clause-others c =
    rw (← c.self.view_is) (others_kept c.args.number c.self.inside.by_literal c.deref_mut.result.now c.put_by_literal.new.lists
    c.self.inside.short c.self.inside.empty c.put_where.new.list c.put_where-2.new.list
    c.deref_mut.ensures.value c.deref_mut.ensures.len c.put_by_literal.ensures.same_length (λ l n _ m. c.put_by_literal.ensures.kept l n m)
    (λ n _ m. c.put_where.ensures.kept n m) (λ n _ m. c.put_where-2.ensures.kept n m))

pub returns-clause-listed : goal.returns-clause-listed
returns-clause-listed c =
    let clause = c.args.clause.now in
    let short : HasTwo clause ⊎ Contains c.put_where.new.list c.args.number = elim (cases_Bool c.is_short.result) [
      | inl t ↦ inr (c.in_ok-put_where.ensures.put t)
      | inr f ↦ inl (OnFalse_at f c.is_short.ensures.two)
    ] in
    on_ok_weaker c.put_where-2.result (λ (put : c.is_empty.result ≡ true → Contains c.put_where-2.new.list c.args.number).
    listed_now c.args.number clause c.self.inside.by_literal c.put_by_literal.new.lists c.put_where.new.list c.put_where-2.new.list
    (c.put_by_literal.ensures.same_length ∙ c.deref_mut.ensures.len) c.in_ok-put_by_literal.ensures.put short
    (λ e. put (c.is_empty.ensures ∙ ap (λ (ls : List ℕ). eqb (length ls) 0) e))) c.put_where-2.ensures.put
