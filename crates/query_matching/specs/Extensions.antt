-- The matches that extend what is bound so far: atom by atom, each becomes the fact of a number.
use Rattle.std.specs.Prelude.{◌≡◌, ℕ, ◌⊎◌, List, ◌∷◌, ◌++◌, All, Any, Contains, slice_get, Some}
use Rattle.std.specs.List.{AllZip}
use Rattle.cq_terms.specs.declared.facts.Fact.{Fact}
use Rattle.cq_terms.specs.declared.query.Term.{Term}
use Rattle.cq_terms.specs.declared.query.Term.TheVariants as term
use Rattle.cq_terms.specs.declared.query.QAtom.{QAtom}
use Rattle.cq_terms.specs.Lists.{IsSorted}
use Rattle.cq_terms.specs.Query.{StandsIn}
use Rattle.query_matching.specs.declared.bindings.Binding.{Binding}
use Rattle.query_matching.specs.declared.bindings.Walk.{Walk}
use Rattle.query_matching.specs.declared.row.Row.{Row}
use Rattle.query_matching.specs.Bindings.{Agrees, AreConsistent, IsBound, AtomIs, HeadIs}

-- the atom is the fact of the number
abbrev pub NumberFits : List Fact → (ℕ → ℕ) → QAtom → ℕ → Type 0
NumberFits facts v a n = (f : Fact) × (slice_get facts n ≡ Some f) × AtomIs v a f

-- a valuation that agrees with the bindings makes the atoms the facts of these numbers and the head the tuple; the image
-- has these numbers and those of before
pub record Completes (facts : List Fact) (head : List Term) (rest : List QAtom) (bindings : List Binding) (path numbers : List ℕ) (row : Row) : Type 0 where
  pub valuation : ℕ → ℕ
  pub agrees : Agrees bindings valuation
  pub fits : AllZip (NumberFits facts valuation) rest numbers
  pub tuple : HeadIs valuation head row.tuple
  pub image : IsSorted (path ++ numbers) row.image

-- some numbers do
abbrev pub Extends : List Fact → List Term → List QAtom → List Binding → List ℕ → Row → Type 0
Extends facts head rest bindings path row = (numbers : List ℕ) × Completes facts head rest bindings path numbers row

-- some numbers do, where the next atom is the fact of the number
abbrev pub ExtendsBy : List Fact → List Term → QAtom → List QAtom → ℕ → List Binding → List ℕ → Row → Type 0
ExtendsBy facts head a more n bindings path row = (numbers : List ℕ) × Completes facts head (a ∷ more) bindings path (n ∷ numbers) row

-- the row of a match that goes on from the walk with these atoms
abbrev pub GoesOn : List Fact → List Term → List QAtom → Walk → Row → Type 0
GoesOn facts head rest walk row = Extends facts head rest walk.bindings.items walk.path.items row

-- and with the fact of the number for the next atom
abbrev pub GoesOnBy : List Fact → List Term → QAtom → List QAtom → ℕ → Walk → Row → Type 0
GoesOnBy facts head a more n walk row = ExtendsBy facts head a more n walk.bindings.items walk.path.items row

-- each fact that the atom may be, where its variables are bound, has a number with P
abbrev pub HasEach : List Fact → List Binding → QAtom → (ℕ → Type 0) → Type 0
HasEach facts bindings a P = (v : ℕ → ℕ) (n : ℕ) (f : Fact) → Agrees bindings v → slice_get facts n ≡ Some f → AtomIs v a f → P n

-- the head term is an individual, or a variable that is bound or stands in what is left
abbrev pub IsCovered : List Binding → List QAtom → Term → Type 0
IsCovered bindings rest (term.Var l) = IsBound bindings l ⊎ Any (StandsIn l) rest
IsCovered bindings rest (term.Ind c) = Unit {0}
IsCovered bindings rest term.Any = ⊥

-- a search may go on with these atoms
pub record CanExtend (head : List Term) (rest : List QAtom) (walk : Walk) : Type 0 where
  pub consistent : AreConsistent walk.bindings.items
  pub covered : All (IsCovered walk.bindings.items rest) head

-- the bindings and the numbers are those of before
pub record IsSameWalk (old new : Walk) : Type 0 where
  pub bindings : new.bindings.items ≡ old.bindings.items
  pub path : new.path.items ≡ old.path.items

-- what was found is still there, and what was added has P
pub record AddsOnly (P : Row → Type 0) (old new : List Row) : Type 0 where
  pub kept : (row : Row) → Contains old row → Contains new row
  pub right : (row : Row) → Contains new row → Contains old row ⊎ P row

-- all that has P was found
abbrev pub HasAll : (Row → Type 0) → List Row → Type 0
HasAll P rows = (row : Row) → P row → Contains rows row
