-- Sets of facts: what loops over lists gather.
use Rattle.std.proofs.Common.{◌≡◌, ◌<◌, ◌≤◌, ◌⊎◌, inl, inr, ◌↔◌, ℕ, zero, suc, Bool, true, false, List, [], ◌∷◌, ◌++◌, ◌+◌, length, take, get_or, eqb}
use Rattle.std.proofs.Common.{refl, sym, ap, ◌∙◌, subst, arith, Contains, true≢false}
use Rattle.std.specs.Prelude.{Result, Ok, Err, IfOk}
use Rattle.std.proofs.lemmas.List.{get_or_default}
use Rattle.std.proofs.lemmas.List.Elements.{Contains-get_or, Contains-append_left, Contains-append_right, Contains-append_cases, Contains-push}
use Rattle.std.proofs.lemmas.List.Elements.{Contains-push_cases}
use Rattle.cq_meaning.proofs.Members.{Contains-nil, Contains-one, Contains-cases}
use Rattle.cq_terms.specs.Conflicts.{ConflictGraph, AreInConflict}
use Rattle.repair_clauses.specs.Components.{IsReached, IsReachedIn, IsComponent}
use Rattle.clause_meaning.specs.Refutation.{IsWithin}
use Rattle.report_rules.specs.Evidence.{Meets}
use Rattle.explainer.specs.Sets as explainer
use Rattle.cq_terms.specs.Lists.{IsSorted}
use Rattle.answer_evidence.specs.Sets.{Gains, SomeWithin, EachMeets}
use Rattle.answer_evidence.specs.Reached.{IsClosedSet, Reaches, Adds, Gathers}
use Rattle.report_laws.specs.Bounds.{AreReached, IsReachedFrom}

-- a closed set that has a fact has what conflicts reach from it
reached_inside : (g : ConflictGraph) (set : List ℕ) → IsClosedSet g set → (n i j : ℕ) → Contains set i → IsReachedIn g n i j → Contains set j
reached_inside g set closed zero i j m e = subst (Contains set) e m
reached_inside g set closed (suc n) i j m (l, before, last) = closed l j (reached_inside g set closed n i l m before) last

pub closed_has_reached : (g : ConflictGraph) (set : List ℕ) → IsClosedSet g set → (i j : ℕ) → Contains set i → IsReached g i j → Contains set j
closed_has_reached g set closed i j m (n, r) = reached_inside g set closed n i j m r

-- what holds at each place holds of each element, and what holds at one place holds of some element
pub each_at : {X : Type 0} (P : X → Type 0) (xs : List X) (d : X) (n : ℕ) → length xs ≤ n → ((k : ℕ) → k < n → P (get_or xs k d)) → (x : X) → Contains xs x
    → P x
each_at P xs d n l h x (k, m, e) = subst P (get_or_default xs k d x m ∙ e) (h k (omega arith))

pub some_at : {X : Type 0} (P : X → Type 0) (xs : List X) (d : X) (k : ℕ) → k < length xs → P (get_or xs k d) → (x : X) × Contains xs x × P x
some_at P xs d k l p = (get_or xs k d, Contains-get_or xs k d l, p)

-- one more number
pub Gains-from : (number : ℕ) (old new : List ℕ) → explainer.Gains number old new → Gains number old new
Gains-from number old new g = record { exact = λ i. (there i, back i) }
  where
    there : (i : ℕ) → Contains new i → Contains old i ⊎ (i ≡ number)
    there i m = elim (Contains-append_cases old g.more i (subst (λ xs. Contains xs i) g.grown m)) [ inl a ↦ inl a | inr b ↦ inr (g.of i b) ]

    back : (i : ℕ) → Contains old i ⊎ (i ≡ number) → Contains new i
    back i (inl a) = subst (λ xs. Contains xs i) (sym g.grown) (Contains-append_left old g.more i a)
    back i (inr e) = subst (Contains new) (sym e) g.has

-- numbers that are put one by one
pub Adds-none : (set : List ℕ) → Adds [] set set
Adds-none set = record { exact = λ i. ((λ m. inl m), (λ w. elim w [ inl a ↦ a | inr b ↦ absurd (Contains-nil i b) ])) }

pub Adds-one : (numbers : List ℕ) (number : ℕ) (old mid new : List ℕ) → Adds numbers old mid → Gains number mid new → Adds (numbers ++ number ∷ []) old new
Adds-one numbers number old mid new a g = record { exact = λ i. (there i, back i) }
  where
    there : (i : ℕ) → Contains new i → Contains old i ⊎ Contains (numbers ++ number ∷ []) i
    there i m = elim ((g.exact i).0 m) [
      | inl in_mid ↦ elim ((a.exact i).0 in_mid) [ inl in_old ↦ inl in_old | inr listed ↦ inr (Contains-append_left numbers (number ∷ []) i listed) ]
      | inr e ↦ inr (subst (Contains (numbers ++ number ∷ [])) (sym e) (Contains-push numbers number))
    ]

    back : (i : ℕ) → Contains old i ⊎ Contains (numbers ++ number ∷ []) i → Contains new i
    back i (inl in_old) = (g.exact i).1 (inl ((a.exact i).1 (inl in_old)))
    back i (inr m) = elim (Contains-push_cases numbers number i m) [
      | inl listed ↦ (g.exact i).1 (inl ((a.exact i).1 (inr listed)))
      | inr e ↦ (g.exact i).1 (inr (sym e))
    ]

-- what conflicts reach, fact by fact
pub Reaches-none : (g : ConflictGraph) (set : List ℕ) → IsClosedSet g set → Reaches g [] set set
Reaches-none g set closed = record {
  exact = λ i. ((λ m. inl m), (λ w. elim w [ inl a ↦ a | inr (f, m, r) ↦ absurd (Contains-nil f m) ]));
  closed = closed;
}

pub Reaches-more : (g : ConflictGraph) (facts more old mid new : List ℕ) → Reaches g facts old mid → Reaches g more mid new → Reaches g (facts ++ more) old new
Reaches-more g facts more old mid new a b = record { exact = λ i. (there i, back i); closed = b.closed }
  where
    there : (i : ℕ) → Contains new i → Contains old i ⊎ ((f : ℕ) × Contains (facts ++ more) f × IsReached g f i)
    there i m = elim ((b.exact i).0 m) [
      | inl in_mid ↦ elim ((a.exact i).0 in_mid) [ inl in_old ↦ inl in_old | inr (f, listed, r) ↦ inr (f, Contains-append_left facts more f listed, r) ]
      | inr (f, listed, r) ↦ inr (f, Contains-append_right facts more f listed, r)
    ]

    back : (i : ℕ) → Contains old i ⊎ ((f : ℕ) × Contains (facts ++ more) f × IsReached g f i) → Contains new i
    back i (inl in_old) = (b.exact i).1 (inl ((a.exact i).1 (inl in_old)))
    back i (inr (f, m, r)) = elim (Contains-append_cases facts more f m) [
      | inl listed ↦ (b.exact i).1 (inl ((a.exact i).1 (inr (f, listed, r))))
      | inr listed ↦ (b.exact i).1 (inr (f, listed, r))
    ]

-- a fact that the set has brings nothing new
pub Reaches-there : (g : ConflictGraph) (fact : ℕ) (set : List ℕ) → IsClosedSet g set → Contains set fact → Reaches g (fact ∷ []) set set
Reaches-there g fact set closed m = record {
  exact = λ i. (
    (λ n. inl n),
    (λ w. elim w [
      | inl a ↦ a
      | inr (f, listed, r) ↦ closed_has_reached g set closed f i
          (elim (Contains-cases fact [] f listed) [ inl e ↦ subst (Contains set) e m | inr n ↦ absurd (Contains-nil f n) ]) r
    ]),
  );
  closed = closed;
}

-- the component of a fact
pub Reaches-component : (g : ConflictGraph) (fact : ℕ) (component old new : List ℕ) → IsClosedSet g old → IsComponent g fact component → Adds component old new
    → Reaches g (fact ∷ []) old new
Reaches-component g fact component old new closed c a = record { exact = λ i. (there i, back i); closed = still }
  where
    there : (i : ℕ) → Contains new i → Contains old i ⊎ ((f : ℕ) × Contains (fact ∷ []) f × IsReached g f i)
    there i m = elim ((a.exact i).0 m) [ inl o ↦ inl o | inr n ↦ inr (fact, Contains-one fact fact refl, (c.exact i).0 n) ]

    back : (i : ℕ) → Contains old i ⊎ ((f : ℕ) × Contains (fact ∷ []) f × IsReached g f i) → Contains new i
    back i (inl o) = (a.exact i).1 (inl o)
    back i (inr (f, listed, r)) = (a.exact i).1 (inr ((c.exact i).1 (subst (λ x. IsReached g x i) (sym (is_fact f listed)) r)))
      where
        is_fact : (f : ℕ) → Contains (fact ∷ []) f → fact ≡ f
        is_fact f listed = elim (Contains-cases fact [] f listed) [ inl e ↦ e | inr n ↦ absurd (Contains-nil f n) ]

    still : IsClosedSet g new
    still i j m conflict = elim ((a.exact i).0 m) [
      | inl o ↦ (a.exact j).1 (inl (closed i j o conflict))
      | inr n ↦ let r = (c.exact i).0 n in (a.exact j).1 (inr ((c.exact j).1 (suc r.0, (i, r.1, conflict))))
    ]

-- what conflicts reach, cause by cause
pub Gathers-none : (g : ConflictGraph) → Gathers g [] []
Gathers-none g = record {
  exact = λ i. ((λ m. absurd (Contains-nil i m)), (λ w. absurd (Contains-nil w.0 w.2)));
  closed = λ i j m conflict. absurd (Contains-nil i m);
}

pub Gathers-more : (g : ConflictGraph) (causes : List (List ℕ)) (cause old new : List ℕ) → Gathers g causes old → Reaches g cause old new
    → Gathers g (causes ++ cause ∷ []) new
Gathers-more g causes cause old new a b = record { exact = λ i. (there i, back i); closed = b.closed }
  where
    there : (i : ℕ) → Contains new i → IsReachedFrom g (causes ++ cause ∷ []) i
    there i m = elim ((b.exact i).0 m) [
      | inl o ↦ let r = (a.exact i).0 o in (r.0, r.1, Contains-append_left causes (cause ∷ []) r.0 r.2, r.3, r.4)
      | inr r ↦ (cause, r.0, Contains-push causes cause, r.1, r.2)
    ]

    back : (i : ℕ) → IsReachedFrom g (causes ++ cause ∷ []) i → Contains new i
    back i (c, f, m, listed, r) = elim (Contains-push_cases causes cause c m) [
      | inl before ↦ (b.exact i).1 (inl ((a.exact i).1 (c, f, before, listed, r)))
      | inr e ↦ (b.exact i).1 (inr (f, subst (λ (xs : List ℕ). Contains xs f) (sym e) listed, r))
    ]

-- sorted they are the list of what is reached
pub AreReached-sorted : (g : ConflictGraph) (causes : List (List ℕ)) (set sorted : List ℕ) → Gathers g causes set → IsSorted set sorted
    → AreReached g causes sorted
AreReached-sorted g causes set sorted a s = record {
  ascending = s.ascending;
  exact = λ i. ((λ m. (a.exact i).0 ((s.same i).0 m)), (λ r. (s.same i).1 ((a.exact i).1 r)));
}

-- what holds of the value of a result
pub IfOk-map : {T E : Type 0} (r : Result T E) (P Q : T → Type 0) → ((v : T) → P v → Q v) → IfOk r P → IfOk r Q
IfOk-map (Ok v) P Q f p = f v p
IfOk-map (Err e) P Q f p = tt
