-- What holds of each stage, and of consistency.
use Rattle.std.proofs.Common.{◌≡◌, ℕ, zero, suc, ◌⊎◌, inl, inr, List, refl, sym, subst, ◌≤◌, ◌<◌, arith}
use Rattle.std.proofs.lemmas.Bool.{cases_lt}
use Rattle.cq_terms.specs.declared.axioms.Axiom.{Axiom}
use Rattle.cq_terms.specs.declared.axioms.Axiom.TheVariants.{Sub, Disjoint, SubRole, DisjointRole}
use Rattle.cq_terms.specs.declared.facts.Fact.{Fact}
use Rattle.cq_meaning.specs.Chase.{Atom, InStage, Derives, HasMember, Violates, Consistent, atom_of}

-- more facts have more atoms in each stage
pub InStage-mono : (axioms : List Axiom) (F G : Fact → Type 0) → ((f : Fact) → F f → G f) → (k : ℕ) (x : Atom) → InStage axioms F k x → InStage axioms G k x
InStage-mono axioms F G h zero x (f, p, e) = (f, h f p, e)
InStage-mono axioms F G h (suc k) x (inl s) = inl (InStage-mono axioms F G h k x s)
InStage-mono axioms F G h (suc k) x (inr (y, s, r)) = inr (y, InStage-mono axioms F G h k y s, r)

-- each atom of a stage descends from one fact
pub descends : (axioms : List Axiom) (F : Fact → Type 0) (k : ℕ) (x : Atom) → InStage axioms F k x → (f : Fact) × F f × InStage axioms (λ g. g ≡ f) k x
descends axioms F zero x (f, p, e) = (f, p, (f, refl, e))
descends axioms F (suc k) x (inl s) = let d = descends axioms F k x s in (d.0, d.1, inl d.2)
descends axioms F (suc k) x (inr (y, s, r)) = let d = descends axioms F k y s in (d.0, d.1, inr (y, d.2, r))

-- an atom stays in later stages
pub InStage-later : (axioms : List Axiom) (F : Fact → Type 0) (k m : ℕ) (x : Atom) → k ≤ m → InStage axioms F k x → InStage axioms F m x
InStage-later axioms F k zero x l s = let e : k ≡ 0 = omega arith in subst (λ n. InStage axioms F n x) e s
InStage-later axioms F k (suc m) x l s = go (cases_lt m k) (λ h. InStage-later axioms F k m x h s)
  where
    go : (m < k) ⊎ (k ≤ m) → (k ≤ m → InStage axioms F m x) → InStage axioms F (suc m) x
    go (inl h) again = let e : k ≡ suc m = omega arith in subst (λ n. InStage axioms F n x) e s
    go (inr h) again = inl (again h)

-- what holds of the facts' atoms, and goes from an atom to its consequences, holds of each stage
pub InStage-keeps : (axioms : List Axiom) (F : Fact → Type 0) (P : Atom → Type 0) → ((f : Fact) → F f → P (atom_of f))
    → ((x y : Atom) → P x → Derives axioms x y → P y) → (k : ℕ) (x : Atom) → InStage axioms F k x → P x
InStage-keeps axioms F P start step zero x (f, p, e) = subst P (sym e) (start f p)
InStage-keeps axioms F P start step (suc k) x (inl s) = InStage-keeps axioms F P start step k x s
InStage-keeps axioms F P start step (suc k) x (inr (y, s, r)) = step y x (InStage-keeps axioms F P start step k y s) r

pub HasMember-mono : (axioms : List Axiom) (F G : Fact → Type 0) → ((f : Fact) → F f → G f) → (k : ℕ) (t : _) (b : _) → HasMember axioms F k t b
    → HasMember axioms G k t b
HasMember-mono axioms F G h k t b (x, s, p) = (x, InStage-mono axioms F G h k x s, p)

pub Violates-mono : (axioms : List Axiom) (F G : Fact → Type 0) → ((f : Fact) → F f → G f) → (k : ℕ) (rule : Axiom) → Violates axioms F k rule
    → Violates axioms G k rule
Violates-mono axioms F G h k (Disjoint b c) (t, m, n) = (t, HasMember-mono axioms F G h k t b m, HasMember-mono axioms F G h k t c n)
Violates-mono axioms F G h k (DisjointRole r q) (s, t, m, n) = (s, t, InStage-mono axioms F G h k _ m, InStage-mono axioms F G h k _ n)
Violates-mono axioms F G h k (Sub b c) v = v
Violates-mono axioms F G h k (SubRole r q) v = v

-- fewer facts stay consistent
pub Consistent-mono : (axioms : List Axiom) (F G : Fact → Type 0) → ((f : Fact) → F f → G f) → Consistent axioms G → Consistent axioms F
Consistent-mono axioms F G h c k rule m v = c k rule m (Violates-mono axioms F G h k rule v)

-- it is enough that it is not inconsistent
pub Consistent-stable : (axioms : List Axiom) (F : Fact → Type 0) → ¬ (¬ Consistent axioms F) → Consistent axioms F
Consistent-stable axioms F n k rule m v = n (λ c. c k rule m v)

-- what two facts violate, those two do by themselves
pub Violates-two : (axioms : List Axiom) (F : Fact → Type 0) (k : ℕ) (rule : Axiom) → Violates axioms F k rule → (f : Fact) × (g : Fact) × F f × F g
    × Violates axioms (λ h. (h ≡ f) ⊎ (h ≡ g)) k rule
Violates-two axioms F k (Disjoint b c) (t, (x, s, p), (y, s', p')) =
    let d = descends axioms F k x s in
    let d' = descends axioms F k y s' in
    (d.0, d'.0, d.1, d'.1, (t, (x, InStage-mono axioms _ _ (λ h e. inl e) k x d.2, p), (y, InStage-mono axioms _ _ (λ h e. inr e) k y d'.2, p')))
Violates-two axioms F k (DisjointRole r q) (s, t, m, n) =
    let d = descends axioms F k _ m in
    let d' = descends axioms F k _ n in
    (d.0, d'.0, d.1, d'.1, (s, t, InStage-mono axioms _ _ (λ h e. inl e) k _ d.2, InStage-mono axioms _ _ (λ h e. inr e) k _ d'.2))
Violates-two axioms F k (Sub b c) v = absurd v
Violates-two axioms F k (SubRole r q) v = absurd v
