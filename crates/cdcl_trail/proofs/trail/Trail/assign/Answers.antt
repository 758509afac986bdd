use Rattle.std.proofs.Common.{◌≡◌, ◌++◌, ◌∷◌, [], List, Bool, false, length, get_or, sym, subst, ap, ◌∙◌, arith}
use Rattle.std.proofs.lemmas.List.{length_push}
use Rattle.clause_meaning.specs.Literals.{variable_of}
use Rattle.cdcl_trail.specs.declared.trail_entry.TrailEntry.{TrailEntry}
use Rattle.cdcl_trail.specs.Assigned.{Assigned, IsUnassigned}
use Rattle.cdcl_trail.specs.Choices.{Choices}
use Rattle.cdcl_trail.specs.State.{State, AreLast}
use Rattle.cdcl_trail.specs.Levels.{last_level, RiseFrom}
use Rattle.cdcl_trail.proofs.LastValues.{AreLast-push}
use Rattle.cdcl_trail.proofs.LevelLemmas.{RiseFrom-push, last_level-push}
use Rattle.cdcl_trail.proofs.trail.Trail.assign.Goals as goal

pub invariant_of-self : goal.invariant_of-self
invariant_of-self c =
    let kept = c.self.invariant in
    let entries = c.self.inside.assigned.entries in
    let entry : TrailEntry = record { literal = c.args.literal; level = c.args.level; reason = c.args.reason } in
    let level = ap (λ (s : State). s.level) c.self.view_is in
    let items : c.put.new.self.entries ≡ entries ++ entry ∷ [] = ap (λ (a : Assigned). a.entries) c.put.ensures.exact in
    let lasts = ap (λ (b : Choices). b.lasts) c.remember.ensures.exact in
    let unassigned = subst (λ (s : State). IsUnassigned s.entries (variable_of c.args.literal)) (sym c.self.view_is) c.requires.unassigned in
    let variables = ap (λ (a : Assigned). a.variables) c.put.ensures.exact in
    record {
      same_variables = ap (λ (b : Choices). b.variables) c.remember.ensures.exact ∙ (kept.same_variables ∙ sym variables);
      few = omega (arith, kept.few, variables);
      fewer = c.put.ensures.few;
      rise = subst (RiseFrom 0) (sym items) (RiseFrom-push 0 entries entry kept.rise (omega (arith, c.requires.from, level, kept.level))
          (omega (arith, c.requires.to, level, kept.level)));
      level = sym (last_level-push 0 entries entry) ∙ ap (last_level 0) (sym items);
      settled = omega (arith, kept.settled, ap length items, length_push entries entry);
      held = subst (λ (es : List TrailEntry). AreLast es c.remember.new.self.lasts) (sym items)
          (subst (AreLast (entries ++ entry ∷ [])) (sym lasts)
          (AreLast-push entries c.self.inside.branching.lasts entry kept.held unassigned
          (ap (λ (ls : List Bool). get_or ls (variable_of c.args.literal) false) (sym lasts) ∙ c.remember.ensures.held)));
    }
