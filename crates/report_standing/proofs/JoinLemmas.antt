-- When a query may be the next of a block.
use Rattle.std.proofs.Common.{◌≡◌, ◌↔◌, ℕ, suc, zero, ◌<◌, List, [], ◌∷◌, length, Contains}
use Rattle.std.proofs.Common.{Option, Some, None, slice_get, sym, subst, ap, ◌∙◌, arith, Bool, IsTrue}
use Rattle.cq_terms.specs.Query.{Query}
use Rattle.cq_meaning.specs.NormalForm.{normal}
use Rattle.cq_steps.specs.declared.moves.Move.{Move}
use Rattle.report_text.specs.declared.line.Origin.{Origin}
use Rattle.report_rules.specs.Inputs.{Input, query_at}
use Rattle.report_rules.specs.Blocks.{IsResultAt}
use Rattle.report_laws.specs.Standing.{Standing}
use Rattle.report_laws.specs.AtStanding.{JoinsAt}

-- behind a member a query without a step may not come
pub joins_without : (input : Input) (s : Standing) (o : Origin) (members : List Query) (q : Query) → 0 < length members → JoinsAt input s o members q None → ⊥
joins_without input s o [] q l h = absurd (omega arith)
joins_without input s o (first ∷ others) q l h = h

-- and one with a step may where it is new and the result
pub joins_with : (input : Input) (s : Standing) (o : Origin) (members : List Query) (q : Query) (step : ℕ × Move) → 0 < length members
    → (IsResultAt input.kb.axioms members step q × (Contains members q → ⊥)) ↔ JoinsAt input s o members q (Some step)
joins_with input s o [] q step l = absurd (omega arith)
joins_with input s o (first ∷ others) q step l = ((λ h. h), (λ h. h))

no_step : {X : Type 0} (xs : List X) (i : ℕ) (x : X) → slice_get xs i ≡ Some x → slice_get xs i ≡ None → ⊥
no_step xs i x e f = let g : Some x ≡ None = sym e ∙ f in cc g

-- behind all queries asked for, the empty one is left, of which no query is the normal form
pub past_query : (q member : Query) (ends : ℕ) → 0 < ends → 0 < length member.body → member ≡ normal (query_at (q ∷ []) ends) → ⊥
past_query q member zero l some e = omega arith
past_query q member (suc n) l some e =
    let size : length member.body ≡ 0 = ap (λ (p : Query). length p.body) e in omega arith

-- behind these members a query with this step may come exactly where it is new and the result
pub joins_told : (input : Input) (s : Standing) (o : Origin) (there members : List Query) (q : Query) (step : Option (ℕ × Move)) (st : ℕ × Move) (b : Bool)
    → there ≡ members → step ≡ Some st → 0 < length members
    → (IsTrue b ↔ (IsResultAt input.kb.axioms members st q × (Contains members q → ⊥))) → IsTrue b ↔ JoinsAt input s o there q step
joins_told input s o there members q step st b e f some w =
    subst (λ (ms : List Query). IsTrue b ↔ JoinsAt input s o ms q step) (sym e)
    (subst (λ (x : Option (ℕ × Move)). IsTrue b ↔ JoinsAt input s o members q x) (sym f)
    ((λ t. (joins_with input s o members q st some).0 (w.0 t)), (λ h. w.1 ((joins_with input s o members q st some).1 h))))
