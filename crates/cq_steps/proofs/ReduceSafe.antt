-- The reduce step keeps safe queries safe.
use Rattle.std.proofs.Common.{◌≡◌, ◌≢◌, ℕ, ◌<◌, ◌==◌, ◌⊎◌, inl, inr, Bool, true, false, cond, nat_lt, Some, None, List, length, get_or, set, map, refl, ap}
use Rattle.std.proofs.Common.{sym, ◌∙◌, arith, subst}
use Rattle.std.specs.List.{Any}
use Rattle.std.proofs.lemmas.List.{length-set, length-map, get_or-map}
use Rattle.std.proofs.lemmas.Bool.Decides.{nat_tests}
use Rattle.cq_terms.specs.declared.query.Term.{Term}
use Rattle.cq_terms.specs.declared.query.Term.TheVariants.{Var, Ind}
use Rattle.cq_terms.specs.declared.query.Term.TheVariants as term
use Rattle.cq_terms.specs.declared.query.QAtom.{QAtom}
use Rattle.cq_terms.specs.declared.query.QAtom.TheVariants as atom
use Rattle.cq_terms.specs.Query.{Query, StandsIn, IsMeant, IsSafe}
use Rattle.cq_meaning.specs.NormalForm.{map_atom, substitute, without}
use Rattle.cq_meaning.specs.Rewriting.{unifier, merged, IsUnified}
use Rattle.cq_steps.proofs.Anywhere.{Any-map}
use Rattle.cq_steps.proofs.Without.{Any-one_for_two, length-without, without-map}

-- the function leaves `_` and individuals, and makes no `_` of a variable
pub record IsPlain (f : Term → Term) : Type 0 where
  pub any : f term.Any ≡ term.Any
  pub ind : (c : ℕ) → f (Ind c) ≡ Ind c
  pub var : (l : ℕ) → f (Var l) ≢ term.Any

IsPlain-none : IsPlain (λ u. u)
IsPlain-none = record { any = refl; ind = λ c. refl; var = λ l e. cc }

chosen : (b : Bool) (t : Term) (i : ℕ) → t ≢ term.Any → cond b t (Var i) ≢ term.Any
chosen true t i h e = h e
chosen false t i h e = cc

IsPlain-substitute : (l : ℕ) (t : Term) → t ≢ term.Any → IsPlain (substitute l t)
IsPlain-substitute l t h = record { any = refl; ind = λ c. refl; var = λ i. chosen (l == i) t i h }

IsPlain-then : (g h : Term → Term) → IsPlain g → IsPlain h → IsPlain (λ u. h (g u))
IsPlain-then g h p q = record {
  any = ap h p.any ∙ q.any;
  ind = λ c. ap h (p.ind c) ∙ q.ind c;
  var = λ l. after (g (Var l)) (p.var l);
}
  where
    after : (u : Term) → u ≢ term.Any → h u ≢ term.Any
    after (Var i) n e = q.var i e
    after (Ind c) n e = let same = q.ind c in cc
    after term.Any n e = n refl

variable_is_known : (i : ℕ) → Var i ≢ term.Any
variable_is_known i e = cc

individual_is_known : (c : ℕ) → Ind c ≢ term.Any
individual_is_known c e = cc

either : (b : Bool) (g h : Term → Term) → IsPlain g → IsPlain h → IsPlain (cond b g h)
either true g h p q = p
either false g h p q = q

only : (g h : Term → Term) → Some g ≡ Some h → g ≡ h
only g h e = cc

equal_only : (b : Bool) (f g : Term → Term) → cond b (Some f) None ≡ Some g → (b ≡ true) × (f ≡ g)
equal_only true f g e = (refl, only f g e)
equal_only false f g e = cc

unifier-plain : (s t : Term) (g : Term → Term) → unifier s t ≡ Some g → IsPlain g
unifier-plain term.Any t g e = subst IsPlain (only (λ u. u) g e) IsPlain-none
unifier-plain (Var i) term.Any g e = subst IsPlain (only (λ u. u) g e) IsPlain-none
unifier-plain (Ind c) term.Any g e = subst IsPlain (only (λ u. u) g e) IsPlain-none
unifier-plain (Var i) (Var j) g e =
    subst IsPlain (only (cond (nat_lt i j) (substitute j (Var i)) (substitute i (Var j))) g e)
    (either (nat_lt i j) (substitute j (Var i)) (substitute i (Var j)) (IsPlain-substitute j (Var i) (variable_is_known i))
    (IsPlain-substitute i (Var j) (variable_is_known j)))
unifier-plain (Var i) (Ind c) g e = subst IsPlain (only (substitute i (Ind c)) g e) (IsPlain-substitute i (Ind c) (individual_is_known c))
unifier-plain (Ind c) (Var j) g e = subst IsPlain (only (substitute j (Ind c)) g e) (IsPlain-substitute j (Ind c) (individual_is_known c))
unifier-plain (Ind c) (Ind d) g e = subst IsPlain ((equal_only (c == d) (λ u. u) g e).1) IsPlain-none

-- the two terms become one, or one of them is `_`
abbrev AreOne : (Term → Term) → Term → Term → Type 0
AreOne f s t = (f s ≡ f t) ⊎ ((f s ≡ term.Any) ⊎ (f t ≡ term.Any))

put : (l : ℕ) (t : Term) → substitute l t (Var l) ≡ t
put l t = let e : (l == l) ≡ true = grind (arith, nat_tests) in rw e

put_itself : (l i : ℕ) (b : Bool) → cond b (Var i) (Var i) ≡ Var i
put_itself l i true = refl
put_itself l i false = refl

one_of : (b : Bool) (i j : ℕ) → cond b (substitute j (Var i)) (substitute i (Var j)) (Var i) ≡ cond b (substitute j (Var i)) (substitute i (Var j)) (Var j)
one_of true i j = put_itself j i (j == i) ∙ sym (put j (Var i))
one_of false i j = put i (Var j) ∙ sym (put_itself i j (i == j))

same_number : (i j : ℕ) → (i == j) ≡ true → i ≡ j
same_number i j h = grind (arith, nat_tests)

unifier-one : (s t : Term) (g : Term → Term) → unifier s t ≡ Some g → AreOne g s t
unifier-one term.Any t g e = inr (inl (IsPlain.any (unifier-plain term.Any t g e)))
unifier-one (Var i) term.Any g e = inr (inr (IsPlain.any (unifier-plain (Var i) term.Any g e)))
unifier-one (Ind c) term.Any g e = inr (inr (IsPlain.any (unifier-plain (Ind c) term.Any g e)))
unifier-one (Var i) (Var j) g e =
    inl (subst (λ (f : Term → Term). f (Var i) ≡ f (Var j)) (only (cond (nat_lt i j) (substitute j (Var i)) (substitute i (Var j))) g e)
    (one_of (nat_lt i j) i j))
unifier-one (Var i) (Ind c) g e =
    inl (subst (λ (f : Term → Term). f (Var i) ≡ f (Ind c)) (only (substitute i (Ind c)) g e) (put i (Ind c)))
unifier-one (Ind c) (Var j) g e =
    inl (subst (λ (f : Term → Term). f (Ind c) ≡ f (Var j)) (only (substitute j (Ind c)) g e) (sym (put j (Ind c))))
unifier-one (Ind c) (Ind d) g e =
    inl (ap g (ap Ind (same_number c d ((equal_only (c == d) (λ u. u) g e).0))))

-- terms that are one stay one under a further unifier
AreOne-then : (g h : Term → Term) (s t : Term) → IsPlain h → AreOne g s t → AreOne (λ u. h (g u)) s t
AreOne-then g h s t p (inl e) = inl (ap h e)
AreOne-then g h s t p (inr (inl e)) = inr (inl (ap h e ∙ p.any))
AreOne-then g h s t p (inr (inr e)) = inr (inr (ap h e ∙ p.any))

merged-first : (s t : Term) (m : ℕ) → s ≡ Var m → merged s t ≡ Var m
merged-first s t m e = rw e

merged-second : (s t : Term) (m : ℕ) → (s ≡ t) ⊎ ((s ≡ term.Any) ⊎ (t ≡ term.Any)) → t ≡ Var m → merged s t ≡ Var m
merged-second s t m (inl e) h = merged-first s t m (e ∙ h)
merged-second s t m (inr (inl e)) h = rw e h
merged-second s t m (inr (inr e)) h = cc

-- what a unification of atoms is known by: a plain function, and an atom with each variable of both images
pub record Unifies (x y : QAtom) (f : Term → Term) (z : QAtom) : Type 0 where
  pub plain : IsPlain f
  pub first : (m : ℕ) → StandsIn m (map_atom f x) → StandsIn m z
  pub second : (m : ℕ) → StandsIn m (map_atom f y) → StandsIn m z

unified_links : (p : ℕ) (s s2 t t2 : Term) (g h : Term → Term) → IsPlain g → IsPlain h → AreOne g s t → AreOne h (g s2) (g t2)
    → Unifies (atom.Link p s s2) (atom.Link p t t2) (λ u. h (g u)) (atom.Link p (merged (h (g s)) (h (g t))) (merged (h (g s2)) (h (g t2))))
unified_links p s s2 t t2 g h pg ph one two = record {
  plain = IsPlain-then g h pg ph;
  first = λ m. by_first m;
  second = λ m. by_second m;
}
  where
    by_first : (m : ℕ) → (h (g s) ≡ Var m) ⊎ (h (g s2) ≡ Var m) → (merged (h (g s)) (h (g t)) ≡ Var m) ⊎ (merged (h (g s2)) (h (g t2)) ≡ Var m)
    by_first m (inl e) = inl (merged-first (h (g s)) (h (g t)) m e)
    by_first m (inr e) = inr (merged-first (h (g s2)) (h (g t2)) m e)

    by_second : (m : ℕ) → (h (g t) ≡ Var m) ⊎ (h (g t2) ≡ Var m) → (merged (h (g s)) (h (g t)) ≡ Var m) ⊎ (merged (h (g s2)) (h (g t2)) ≡ Var m)
    by_second m (inl e) = inl (merged-second (h (g s)) (h (g t)) m (AreOne-then g h s t ph one) e)
    by_second m (inr e) = inr (merged-second (h (g s2)) (h (g t2)) m two e)

pub Unifies-from : (x y : QAtom) (f : Term → Term) (z : QAtom) → IsUnified x y f z → Unifies x y f z
Unifies-from (atom.Concept a s) (atom.Concept b t) f z (same, e, is) =
    subst (λ (w : QAtom). Unifies (atom.Concept a s) (atom.Concept b t) f w) (sym is) (record {
      plain = unifier-plain s t f e;
      first = λ m h. merged-first (f s) (f t) m h;
      second = λ m h. merged-second (f s) (f t) m (unifier-one s t f e) h;
    })
Unifies-from (atom.Concept a s) (atom.Link q t t2) f z u = absurd u
Unifies-from (atom.Link p s s2) (atom.Concept b t) f z u = absurd u
Unifies-from (atom.Link p s s2) (atom.Link q t t2) f z (same, g, h, e1, e2, is_f, is) =
    let base = unified_links p s s2 t t2 g h (unifier-plain s t g e1) (unifier-plain (g s2) (g t2) h e2) (unifier-one s t g e1)
    (unifier-one (g s2) (g t2) h e2) in
    let with_f = subst (λ (k : Term → Term). Unifies (atom.Link p s s2) (atom.Link p t t2) k (atom.Link p (merged (k s) (k t)) (merged (k s2) (k t2))))
    (sym is_f) base in
    let with_z = subst (λ (w : QAtom). Unifies (atom.Link p s s2) (atom.Link p t t2) f w) (sym is) with_f in
    subst (λ (n : ℕ). Unifies (atom.Link p s s2) (atom.Link n t t2) f z) same with_z

StandsIn-under : (l m : ℕ) (f : Term → Term) → f (Var l) ≡ Var m → (a : QAtom) → StandsIn l a → StandsIn m (map_atom f a)
StandsIn-under l m f e (atom.Concept a t) h = ap f h ∙ e
StandsIn-under l m f e (atom.Link p s t) (inl h) = inl (ap f h ∙ e)
StandsIn-under l m f e (atom.Link p s t) (inr h) = inr (ap f h ∙ e)

meant_image : (more : List QAtom) (t : Term) → t ≢ term.Any → ((m : ℕ) → t ≡ Var m → Any (StandsIn m) more) → IsMeant more t
meant_image more (Var m) n h = h m refl
meant_image more (Ind c) n h = tt
meant_image more term.Any n h = absurd (n refl)

meant_under : (body more : List QAtom) (f : Term → Term) → IsPlain f → ((l m : ℕ) → f (Var l) ≡ Var m → Any (StandsIn l) body → Any (StandsIn m) more)
    → (t : Term) → IsMeant body t → IsMeant more (f t)
meant_under body more f p h (Var l) meant = meant_image more (f (Var l)) (p.var l) (λ m e. h l m e meant)
meant_under body more f p h (Ind c) meant = subst (IsMeant more) (sym (p.ind c)) tt
meant_under body more f p h term.Any meant = absurd meant

-- a safe query under the unification of two of its atoms, the one atom in their place, is safe
pub reduce_step_is_safe : (q : Query) (i j : ℕ) (d : QAtom) (f : Term → Term) (z : QAtom) → i < j → j < length q.body
    → Unifies (get_or q.body i d) (get_or q.body j d) f z → IsSafe q
    → IsSafe (record { head = map f q.head; body = set (map (map_atom f) (without q.body j)) i z })
reduce_step_is_safe q i j d f z order place u safe =
    let body = q.body in
    let more = set (map (map_atom f) (without body j)) i z in
    let first_is = get_or-map (map_atom f) body i d d (omega arith) in
    let second_is = get_or-map (map_atom f) body j d d (omega arith) in
    let somewhere : (l m : ℕ) → f (Var l) ≡ Var m → Any (StandsIn l) body → Any (StandsIn m) more =
    λ l m e some. rw (← without-map (map_atom f) body j)
    (Any-one_for_two (StandsIn m) (map (map_atom f) body) i j d z order (rw (length-map body (map_atom f)) place)
    (λ p. u.first m (subst (StandsIn m) first_is p))
    (λ p. u.second m (subst (StandsIn m) second_is p))
    (Any-map (StandsIn l) (StandsIn m) (map_atom f) (StandsIn-under l m f e) body some)) in
    let fewer = length-without body j place in
    record {
      body = rw (length-set (map (map_atom f) (without body j)) i z, length-map (without body j) (map_atom f)) (omega arith);
      head = λ k t lt.
          let inside : k < length q.head = rw (length-map q.head f) at lt in
          subst (IsMeant more) (sym (get_or-map f q.head k t t inside)) (meant_under body more f u.plain somewhere (get_or q.head k t) (safe.head k t inside));
    }
