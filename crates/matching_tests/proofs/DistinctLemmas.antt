-- One more fact among distinct ones.
use Rattle.std.proofs.Common.{◌≡◌, ℕ, zero, suc, List, [], ◌∷◌, ◌++◌, length, Contains, slice_get, Some, None, ◌⊎◌, inl, inr, refl, sym, ◌∙◌, subst, arith}
use Rattle.cq_terms.specs.declared.facts.Fact.{Fact}
use Rattle.cq_terms.specs.Knowledge.{AreDistinct}
use Rattle.cq_meaning.proofs.Members.{Contains-slice_get}

-- a place of the longer list is one of the shorter, or that of the last fact
at_push : (facts : List Fact) (f g : Fact) (i : ℕ) → slice_get (facts ++ f ∷ []) i ≡ Some g → (slice_get facts i ≡ Some g) ⊎ ((i ≡ length facts) × (f ≡ g))
at_push [] f g zero e = inr (refl, cc e)
at_push [] f g (suc i) e = absurd (let none : None ≡ Some g = e in cc none)
at_push (x ∷ facts) f g zero e = inl e
at_push (x ∷ facts) f g (suc i) e = by (at_push facts f g i e)
  where
    by : (slice_get facts i ≡ Some g) ⊎ ((i ≡ length facts) × (f ≡ g)) → (slice_get (x ∷ facts) (suc i) ≡ Some g) ⊎ ((suc i ≡ length (x ∷ facts)) × (f ≡ g))
    by (inl h) = inl h
    by (inr h) = inr (omega (arith, h.0), h.1)

-- a fact that doesn't stand among them leaves them distinct
pub distinct_push : (facts : List Fact) (f : Fact) → AreDistinct facts → (Contains facts f → ⊥) → AreDistinct (facts ++ f ∷ [])
distinct_push facts f distinct new i j g left right = by (at_push facts f g i left) (at_push facts f g j right)
  where
    by : (slice_get facts i ≡ Some g) ⊎ ((i ≡ length facts) × (f ≡ g)) → (slice_get facts j ≡ Some g) ⊎ ((j ≡ length facts) × (f ≡ g)) → i ≡ j
    by (inl a) (inl b) = distinct i j g a b
    by (inl a) (inr b) = absurd (new (subst (Contains facts) (sym b.1) (Contains-slice_get facts i g a)))
    by (inr a) (inl b) = absurd (new (subst (Contains facts) (sym a.1) (Contains-slice_get facts j g b)))
    by (inr a) (inr b) = a.0 ∙ sym b.0
