use Rattle.std.proofs.Common.{◌≡◌, All, not, map, sym, subst, ap, ◌∙◌}
use Rattle.cq_terms.specs.Lists.{IsAscending}
use Rattle.rup_check.specs.State.{State, IsLive}
use Rattle.plain_finding.specs.Kept.{Kept, Holds, kept_at}
use Rattle.plain_finding.proofs.ForgetLemmas.{gone_live, gone_ascending}
use Rattle.plain_finding.proofs.InsideLemmas.{kept, numbered_keep, holds_keep}
use Rattle.plain_finding.proofs.clauses.Clauses.keep.Goals as goal

pub forget_each-requires-clause-live : goal.forget_each-requires-clause-live
forget_each-requires-clause-live c =
    let i = c.self.inside in
    let gone : c.as_slice-2.result.now ≡ kept_at (map not c.args.marks.now) i.learned.items =
    c.as_slice-2.ensures.value ∙ (c.in_ok-parted.ensures.going ∙ ap (kept_at (map not c.args.marks.now)) c.as_slice.ensures.value) in
    subst (All (IsLive i.checker.live)) (sym gone)
    (gone_live (kept i.variables i.checker i.next i.open.items i.learned.items) c.self.invariant.numbered c.args.marks.now)

pub forget_each-requires-clause-ascending : goal.forget_each-requires-clause-ascending
forget_each-requires-clause-ascending c =
    let i = c.self.inside in
    let gone : c.as_slice-2.result.now ≡ kept_at (map not c.args.marks.now) i.learned.items =
    c.as_slice-2.ensures.value ∙ (c.in_ok-parted.ensures.going ∙ ap (kept_at (map not c.args.marks.now)) c.as_slice.ensures.value) in
    subst IsAscending (sym gone)
    (gone_ascending (kept i.variables i.checker i.next i.open.items i.learned.items) c.self.invariant.numbered c.args.marks.now)

pub invariant_of-self : goal.invariant_of-self
invariant_of-self c =
    let i = c.self.inside in
    let gone : c.as_slice-2.result.now ≡ kept_at (map not c.args.marks.now) i.learned.items =
    c.as_slice-2.ensures.value ∙ (c.in_ok-parted.ensures.going ∙ ap (kept_at (map not c.args.marks.now)) c.as_slice.ensures.value) in
    let staying : c.in_ok-parted.parted.staying.items ≡ kept_at c.args.marks.now i.learned.items =
    c.in_ok-parted.ensures.staying ∙ ap (kept_at c.args.marks.now) c.as_slice.ensures.value in
    record {
      same_variables = ap (λ (s : State). s.variables) c.forget_each.ensures.exact ∙ c.self.invariant.same_variables;
      same_next = ap (λ (s : State). s.next) c.forget_each.ensures.exact ∙ c.self.invariant.same_next;
      numbered = numbered_keep i.variables i.next i.checker c.forget_each.new.checker i.open.items i.learned.items c.in_ok-parted.parted.staying.items
          c.as_slice-2.result.now c.args.marks.now gone c.forget_each.ensures.exact staying c.self.invariant.numbered;
    }

pub returns-clause-exact : goal.returns-clause-exact
returns-clause-exact c = λ base causes learned size w.
    let i = c.self.inside in
    let gone : c.as_slice-2.result.now ≡ kept_at (map not c.args.marks.now) i.learned.items =
    c.as_slice-2.ensures.value ∙ (c.in_ok-parted.ensures.going ∙ ap (kept_at (map not c.args.marks.now)) c.as_slice.ensures.value) in
    let staying : c.in_ok-parted.parted.staying.items ≡ kept_at c.args.marks.now i.learned.items =
    c.in_ok-parted.ensures.staying ∙ ap (kept_at c.args.marks.now) c.as_slice.ensures.value in
    holds_keep i.variables i.next i.checker c.forget_each.new.checker i.open.items i.learned.items c.in_ok-parted.parted.staying.items
    c.as_slice-2.result.now c.args.marks.now gone c.forget_each.ensures.exact staying c.self.invariant.numbered base causes learned size
    (subst (λ (k : Kept). Holds k base causes learned) (sym c.self.view_is) w)
