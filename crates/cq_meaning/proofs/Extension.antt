-- Consistency by pairs, and how a consistent set extends to a repair.
use Rattle.std.proofs.Common.{◌≡◌, ℕ, zero, suc, ◌<◌, ◌⊎◌, inl, inr, length, refl, sym, subst, ap, ◌∙◌, arith, Bool, true, false, ◌||◌, ◌&&◌, ◌≤◌, eqb}
use Rattle.std.proofs.Common.{eqb-true, eq-eqb, true≢false, slice_get, Some, IsTrue, IsFalse}
use Rattle.std.proofs.lemmas.Bool.{cases_eq, cases_Bool, or_cases}
use Rattle.std.proofs.lemmas.Option.{slice_get_within}
use Rattle.cq_terms.specs.declared.facts.Fact.{Fact}
use Rattle.cq_terms.specs.Knowledge.{Knowledge}
use Rattle.cq_meaning.specs.Chase.{Violates}
use Rattle.cq_meaning.specs.Conflicts.{facts_in, Only, Both, With, In, AreConsistent, IsSelfInconsistent, Conflict, IsConflictFree, TellConflicts}
use Rattle.cq_meaning.specs.Repairs.{IsRepair}
use Rattle.cq_meaning.proofs.Stages.{Consistent-mono, Consistent-stable, Violates-mono, Violates-two}

-- a part of a set has a part of its facts
pub facts_in-mono : (kb : Knowledge) (S T : ℕ → Type 0) → ((i : ℕ) → S i → T i) → (f : Fact) → facts_in kb S f → facts_in kb T f
facts_in-mono kb S T h f (i, s, e) = (i, h i s, e)

-- a part of a consistent set is consistent
pub AreConsistent-mono : (kb : Knowledge) (S T : ℕ → Type 0) → ((i : ℕ) → S i → T i) → AreConsistent kb T → AreConsistent kb S
AreConsistent-mono kb S T h c = Consistent-mono kb.axioms _ _ (facts_in-mono kb S T h) c

-- only the numbers of facts count
pub AreConsistent-within : (kb : Knowledge) (S T : ℕ → Type 0) → ((i : ℕ) → i < length kb.facts → S i → T i) → AreConsistent kb T → AreConsistent kb S
AreConsistent-within kb S T h c = Consistent-mono kb.axioms _ _ (λ f (i, s, e). (i, h i (slice_get_within kb.facts i f e) s, e)) c

-- a set is consistent where it has no conflict, and only there
pub consistent_by_pairs : (kb : Knowledge) (S : ℕ → Type 0) → IsConflictFree kb S → AreConsistent kb S
consistent_by_pairs kb S h k rule m v = go (Violates-two kb.axioms (facts_in kb S) k rule v)
  where
    both : (i j : ℕ) (f g : Fact) → slice_get kb.facts i ≡ Some f → slice_get kb.facts j ≡ Some g → (f' : Fact) → (f' ≡ f) ⊎ (f' ≡ g)
        → facts_in kb (Both i j) f'
    both i j f g e d f' (inl p) = (i, inl refl, e ∙ ap Some (sym p))
    both i j f g e d f' (inr p) = (j, inr refl, d ∙ ap Some (sym p))

    clash : (i j : ℕ) → i < length kb.facts → j < length kb.facts → S i → S j → Violates kb.axioms (facts_in kb (Both i j)) k rule → (i ≡ j) ⊎ (i ≡ j → ⊥) → ⊥
    clash i j il jl si sj w (inl e) = h.own i il si (λ c. c k rule m
        (Violates-mono kb.axioms _ _ (facts_in-mono kb (Both i j) (Only i) (λ l. elim [ inl p ↦ p | inr p ↦ p ∙ sym e ])) k rule w))
    clash i j il jl si sj w (inr n) = h.pairs i j il jl si sj (record {
      different = n;
      left = Consistent-stable kb.axioms _ (h.own i il si);
      right = Consistent-stable kb.axioms _ (h.own j jl sj);
      together = λ c. c k rule m w;
    })

    go : (f : Fact) × (g : Fact) × facts_in kb S f × facts_in kb S g × Violates kb.axioms (λ f'. (f' ≡ f) ⊎ (f' ≡ g)) k rule → ⊥
    go (f, g, (i, si, e), (j, sj, d), w) =
        clash i j (slice_get_within kb.facts i f e) (slice_get_within kb.facts j g d) si sj
        (Violates-mono kb.axioms _ _ (both i j f g e d) k rule w) (cases_eq i j)

pub no_conflict_in_consistent : (kb : Knowledge) (S : ℕ → Type 0) → AreConsistent kb S → IsConflictFree kb S
no_conflict_in_consistent kb S c = record {
  own = λ i il si n. n (AreConsistent-mono kb (Only i) S (λ l e. subst S (sym e) si) c);
  pairs = λ i j il jl si sj w. w.together (AreConsistent-mono kb (Both i j) S (λ l. elim [ inl e ↦ subst S (sym e) si | inr e ↦ subst S (sym e) sj ]) c);
}

pub or_right : (a b : Bool) → b ≡ true → (a || b) ≡ true
or_right true b e = refl
or_right false b e = e

pub and_both : (a b : Bool) → (a && b) ≡ true → (a ≡ true) × (b ≡ true)
and_both true b e = (refl, e)
and_both false b e = absurd (cc)

pub and_true : (a b : Bool) → a ≡ true → b ≡ true → (a && b) ≡ true
and_true true b d e = e
and_true false b d e = d

-- some number below n passes the test, or none does
pub any_below : (p : ℕ → Bool) (n : ℕ) → ((j : ℕ) × (j < n) × IsTrue (p j)) ⊎ ((j : ℕ) → j < n → IsFalse (p j))
any_below p zero = inr (λ j l. absurd (omega arith))
any_below p (suc n) = step (any_below p n) (cases_Bool (p n))
  where
    one : (IsFalse (p n)) → ((j : ℕ) → j < n → IsFalse (p j)) → (j : ℕ) → j < suc n → (j ≡ n) ⊎ (j ≡ n → ⊥) → IsFalse (p j)
    one f below j l (inl e) = ap p e ∙ f
    one f below j l (inr ne) = below j (omega arith)

    step : ((j : ℕ) × (j < n) × IsTrue (p j)) ⊎ ((j : ℕ) → j < n → IsFalse (p j)) → (p n ≡ true) ⊎ (p n ≡ false) → ((j : ℕ) × (j < suc n) × IsTrue (p j))
        ⊎ ((j : ℕ) → j < suc n → IsFalse (p j))
    step (inl (j, l, t)) c = inl (j, omega arith, t)
    step (inr below) (inl t) = inl (n, omega arith, t)
    step (inr below) (inr f) = inr (λ j l. one f below j l (cases_eq j n))

pub Conflict-sym : (kb : Knowledge) (i j : ℕ) → Conflict kb i j → Conflict kb j i
Conflict-sym kb i j w = record {
  different = λ e. w.different (sym e);
  left = w.right;
  right = w.left;
  together = λ c. w.together (AreConsistent-mono kb (Both i j) (Both j i) (λ l. elim [ inl e ↦ inr e | inr e ↦ inl e ]) c);
}

-- the set that the test gives, with one more fact
abbrev pub added : (ℕ → Bool) → ℕ → ℕ → Bool
added R m l = R l || eqb l m

-- the fact cannot be added: it is self-inconsistent, or in conflict with a fact of the set
abbrev pub IsBlocked : Knowledge → (ℕ → Bool) → ℕ → Type 0
IsBlocked kb R i = IsSelfInconsistent kb i ⊎ ((j : ℕ) × (j < length kb.facts) × In R j × Conflict kb j i)

IsBlocked-mono : (kb : Knowledge) (R Q : ℕ → Bool) → ((i : ℕ) → In R i → In Q i) → (i : ℕ) → IsBlocked kb R i → IsBlocked kb Q i
IsBlocked-mono kb R Q h i (inl s) = inl s
IsBlocked-mono kb R Q h i (inr (j, l, r, w)) = inr (j, l, h j r, w)

-- a fact of the greater set is of the old one, or the new one
pub added_cases : (R : ℕ → Bool) (m l : ℕ) → In (added R m) l → In R l ⊎ (l ≡ m)
added_cases R m l t = elim (or_cases (R l) (eqb l m) t) [ inl r ↦ inl r | inr e ↦ inr (eqb-true l m e) ]

pub added_old : (R : ℕ → Bool) (m l : ℕ) → In R l → In (added R m) l
added_old R m l r = ap (λ b. b || eqb l m) r

pub added_new : (R : ℕ → Bool) (m : ℕ) → In (added R m) m
added_new R m = or_right (R m) (eqb m m) (eq-eqb m m refl)

-- what has no conflict has none with a fact that is not blocked
pub IsConflictFree-added : (kb : Knowledge) (R : ℕ → Bool) (m : ℕ) → IsConflictFree kb (In R) → ¬ IsBlocked kb R m → IsConflictFree kb (In (added R m))
IsConflictFree-added kb R m h free = record {
  own = λ i il t. own i il (added_cases R m i t);
  pairs = λ i j il jl t u. pairs i j il jl (added_cases R m i t) (added_cases R m j u);
}
  where
    own : (i : ℕ) → i < length kb.facts → In R i ⊎ (i ≡ m) → ¬ IsSelfInconsistent kb i
    own i il (inl r) s = h.own i il r s
    own i il (inr e) s = free (inl (subst (IsSelfInconsistent kb) e s))

    pairs : (i j : ℕ) → i < length kb.facts → j < length kb.facts → In R i ⊎ (i ≡ m) → In R j ⊎ (j ≡ m) → ¬ Conflict kb i j
    pairs i j il jl (inl r) (inl q) w = h.pairs i j il jl r q w
    pairs i j il jl (inl r) (inr e) w = free (inr (i, il, r, subst (Conflict kb i) e w))
    pairs i j il jl (inr e) (inl q) w = free (inr (j, jl, q, subst (Conflict kb j) e (Conflict-sym kb i j w)))
    pairs i j il jl (inr e) (inr d) w = w.different (e ∙ sym d)

-- a set without conflicts that holds S, and in which each fact below m is or is blocked
record Walked (kb : Knowledge) (S R : ℕ → Bool) (m : ℕ) : Type 0 where
  holds : (i : ℕ) → In S i → In R i
  free : IsConflictFree kb (In R)
  full : (i : ℕ) → i < m → In R i ⊎ IsBlocked kb R i

module _ (kb : Knowledge) (own : ℕ → Bool) (clash : ℕ → ℕ → Bool) (tell : TellConflicts kb own clash) where
  -- each fact can be added or cannot
  pub blocked_or_not : (R : ℕ → Bool) (m : ℕ) → m < length kb.facts → IsBlocked kb R m ⊎ (¬ IsBlocked kb R m)
  blocked_or_not R m l = go (cases_Bool (own m)) (any_below (λ j. R j && clash j m) (length kb.facts))
    where
      go : (own m ≡ true) ⊎ (own m ≡ false) → ((j : ℕ) × (j < length kb.facts) × IsTrue (R j && clash j m))
          ⊎ ((j : ℕ) → j < length kb.facts → IsFalse (R j && clash j m)) → IsBlocked kb R m ⊎ (¬ IsBlocked kb R m)
      go (inl t) a = inl (inl ((tell.own_iff m l).0 t))
      go (inr f) (inl (j, jl, t)) = let p = and_both (R j) (clash j m) t in inl (inr (j, jl, p.0, (tell.clash_iff j m jl l).0 p.1))
      go (inr f) (inr none) = inr (elim [
        | inl s ↦ true≢false (sym ((tell.own_iff m l).1 s) ∙ f)
        | inr w ↦
            true≢false (sym (and_true (R w.0) (clash w.0 m) w.2 ((tell.clash_iff w.0 m w.1 l).1 w.3)) ∙ none w.0 w.1)
      ])

  step : (S R : ℕ → Bool) (m : ℕ) → m < length kb.facts → Walked kb S R m → IsBlocked kb R m ⊎ (¬ IsBlocked kb R m) → (Q : ℕ → Bool) × Walked kb S Q (suc m)
  step S R m l w (inl b) = (R, record { holds = w.holds; free = w.free; full = λ i il. below i il (cases_eq i m) })
    where
      below : (i : ℕ) → i < suc m → (i ≡ m) ⊎ (i ≡ m → ⊥) → In R i ⊎ IsBlocked kb R i
      below i il (inl e) = inr (subst (IsBlocked kb R) (sym e) b)
      below i il (inr n) = w.full i (omega arith)
  step S R m l w (inr free) = (
    added R m,
    record {
      holds = λ i s. added_old R m i (w.holds i s);
      free = IsConflictFree-added kb R m w.free free;
      full =
          λ i il. below i il (cases_eq i m);
    },
  )
    where
      kept : (i : ℕ) → In R i ⊎ IsBlocked kb R i → In (added R m) i ⊎ IsBlocked kb (added R m) i
      kept i (inl r) = inl (added_old R m i r)
      kept i (inr b) = inr (IsBlocked-mono kb R (added R m) (added_old R m) i b)

      below : (i : ℕ) → i < suc m → (i ≡ m) ⊎ (i ≡ m → ⊥) → In (added R m) i ⊎ IsBlocked kb (added R m) i
      below i il (inl e) = inl (subst (In (added R m)) (sym e) (added_new R m))
      below i il (inr n) = kept i (w.full i (omega arith))

  walk : (S : ℕ → Bool) → IsConflictFree kb (In S) → (m : ℕ) → m ≤ length kb.facts → (R : ℕ → Bool) × Walked kb S R m
  walk S h zero l = (S, record { holds = λ i s. s; free = h; full = λ i il. absurd (omega arith) })
  walk S h (suc m) l = let w = walk S h m (omega arith) in step S w.0 m l w.1 (blocked_or_not w.0 m l)

  -- a consistent set of facts extends to a repair
  pub extends_to_repair : (S : ℕ → Bool) → AreConsistent kb (In S) → (R : ℕ → Bool) × IsRepair kb R × ((i : ℕ) → In S i → In R i)
  extends_to_repair S c =
      let w = walk S (no_conflict_in_consistent kb (In S) c) (length kb.facts) (omega arith) in
      (w.0, record { consistent = consistent_by_pairs kb (In w.0) w.1.free; maximal = λ i l f c'. maximal w.0 i f c' (w.1.full i l) }, w.1.holds)
    where
      maximal : (R : ℕ → Bool) (i : ℕ) → IsFalse (R i) → AreConsistent kb (With i (In R)) → In R i ⊎ IsBlocked kb R i → ⊥
      maximal R i f c (inl t) = true≢false (sym t ∙ f)
      maximal R i f c (inr (inl s)) = s (AreConsistent-mono kb (Only i) (With i (In R)) (λ l e. inl e) c)
      maximal R i f c (inr (inr (j, jl, r, w))) = w.together (AreConsistent-mono kb (Both j i) (With i (In R))
          (λ l. elim [ inl e ↦ inr (subst (In R) (sym e) r) | inr e ↦ inl e ]) c)
