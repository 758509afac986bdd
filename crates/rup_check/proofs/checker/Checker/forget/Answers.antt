use Rattle.std.proofs.Common.{◌<◌, ◌≤◌, ℕ, List, Contains, length, refl, sym, subst, ap, ◌∙◌, arith}
use Rattle.rup_check.specs.State.{State, IsLive}
use Rattle.rup_check.specs.Slots.{Stock}
use Rattle.rup_check.specs.Steps.{RestOrListed}
use Rattle.rup_check.proofs.SlotLemmas.{IsLive-below}
use Rattle.rup_check.proofs.ListLemmas.{Contains-others}
use Rattle.rup_check.proofs.StockLemmas.{shown-free}
use Rattle.rup_check.proofs.Base.{AreReached, reached_free, rest_free}
use Rattle.rup_check.proofs.checker.Checker.forget.Goals as goal

pub remove-requires : goal.remove-requires
remove-requires c =
    let live = subst (λ (s : State). IsLive s.live c.args.number) (sym c.self.view_is) c.requires.live in
    let below = IsLive-below 0 c.self.inside.clauses.slots c.args.number live in
    record { within = omega arith }

pub remove-requires-3 : goal.remove-requires-3
remove-requires-3 c =
    let live = subst (λ (s : State). IsLive s.live c.args.number) (sym c.self.view_is) c.requires.live in
    let below = IsLive-below 0 c.self.inside.clauses.slots c.args.number live in
    record { within = omega arith }

pub returns-then-number-self : goal.returns-then-number-self
returns-then-number-self c =
    let live = subst (λ (s : State). IsLive s.live c.args.number) (sym c.self.view_is) c.requires.live in
    let below = IsLive-below 0 c.self.inside.clauses.slots c.args.number live in
    record {
      exact = rw (c.remove.ensures.exact, ← c.self.view_is)
          (shown-free c.self.inside.clauses.variables c.args.number c.self.inside.clauses.slots _ (omega arith) refl);
    }

pub invariant_of-self-2 : goal.invariant_of-self-2
invariant_of-self-2 c =
    let kept = c.self.invariant in
    let early = c.self.inside.early in
    let slots = c.self.inside.clauses.slots in
    let base = c.self.inside.marks.literals in
    let late = c.self.inside.late in
    let number = c.args.number in
    let is = c.remove-3.ensures.exact in
    let live = subst (λ (s : State). IsLive s.live number) (sym c.self.view_is) c.requires.live in
    let below = IsLive-below 0 slots number live in
    let within : number < length slots = omega arith in
    let above : early ≤ number = omega (arith, c.if-number-self.false) in
    record {
      same_variables = kept.same_variables ∙ sym (ap (λ (s : Stock). s.variables) is);
      reached = subst (λ (s : Stock). AreReached early s.slots base) (sym is) (reached_free early number slots base above kept.reached);
      consistent = kept.consistent;
      unmarked = kept.unmarked;
      rest = λ e. subst (λ (s : Stock). RestOrListed s.slots c.remove-2.new.self base) (sym is)
          (rest_free slots late c.remove-2.new.self base number within
          (λ n d m. subst (λ (xs : List ℕ). Contains xs n) (sym c.remove-2.ensures) (Contains-others late number n d m)) (kept.rest e));
    }

pub returns : goal.returns
returns c =
    let live = subst (λ (s : State). IsLive s.live c.args.number) (sym c.self.view_is) c.requires.live in
    let below = IsLive-below 0 c.self.inside.clauses.slots c.args.number live in
    record {
      exact = rw (c.remove-3.ensures.exact, ← c.self.view_is)
          (shown-free c.self.inside.clauses.variables c.args.number c.self.inside.clauses.slots _ (omega arith) refl);
    }
