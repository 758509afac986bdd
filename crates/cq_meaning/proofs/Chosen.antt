-- The local form of a chosen repair, and a chosen repair from a core.
use Rattle.std.proofs.Common.{◌≡◌, ◌≢◌, ℕ, ◌<◌, ◌⊎◌, ◌↔◌, inl, inr, List, [], ◌∷◌, length, Contains, refl, sym, subst, ap, ◌∙◌, Bool, true, false, not, ◌||◌}
use Rattle.std.proofs.Common.{◌&&◌, eqb, eqb-true, eq-eqb, true≢false, IsTrue, IsFalse}
use Rattle.std.proofs.lemmas.Bool.{cases_Bool, or_cases}
use Rattle.cq_terms.specs.declared.facts.Pair.{Pair}
use Rattle.cq_terms.specs.declared.facts.Repairs.{Repairs}
use Rattle.cq_terms.specs.declared.facts.Repairs.TheVariants as mode
use Rattle.cq_terms.specs.Knowledge.{Knowledge}
use Rattle.cq_meaning.specs.Conflicts.{Only, Both, With, In, AreConsistent, IsSelfInconsistent, Conflict, IsConflictFree, TellConflicts}
use Rattle.cq_meaning.specs.Repairs.{IsBetter, IsRepair, IsChosen, IsLocallyOptimal, IsListed, IsAcyclic}
use Rattle.cq_meaning.specs.Cores.{IsCore, IsTopological}
use Rattle.cq_meaning.proofs.Orders.{order_of}
use Rattle.cq_meaning.proofs.Members.{Contains-head, Contains-later, Contains-cases, Contains-nil}
use Rattle.cq_meaning.proofs.Extension.{AreConsistent-mono, AreConsistent-within, consistent_by_pairs, no_conflict_in_consistent, Conflict-sym, added}
use Rattle.cq_meaning.proofs.Extension.{added_cases, added_old, added_new, and_both, and_true, or_right, any_below, IsConflictFree-added, IsBlocked}
use Rattle.cq_meaning.proofs.Extension.{blocked_or_not}

-- two facts of a consistent set do not conflict
no_conflict_inside : (kb : Knowledge) (S : ℕ → Type 0) → AreConsistent kb S → (i j : ℕ) → S i → S j → ¬ Conflict kb i j
no_conflict_inside kb S c i j si sj w = w.together (AreConsistent-mono kb (Both i j) S (λ l. elim [ inl e ↦ subst S (sym e) si | inr e ↦ subst S (sym e) sj ])
    c)

alone : (kb : Knowledge) (S : ℕ → Type 0) → AreConsistent kb S → (i : ℕ) → S i → AreConsistent kb (Only i)
alone kb S c i si = AreConsistent-mono kb (Only i) S (λ l e. subst S (sym e) si) c

not_true : (b : Bool) → not b ≡ true → b ≡ false
not_true true e = absurd (true≢false (sym e))
not_true false e = refl

beats_bool : (r c b e : Bool) → r ≡ true → ((r && not c) || e) ≡ false → (r && (c && not b)) ≡ false → b ≡ true
beats_bool true true true e r n f = refl
beats_bool true true false e r n f = absurd (true≢false f)
beats_bool true false b e r n f = absurd (true≢false n)
beats_bool false c b e r n f = absurd (true≢false (sym r))

-- what is chosen locally is chosen
pub chosen_from_local : (kb : Knowledge) (mode : Repairs) (R : ℕ → Bool) → IsLocallyOptimal kb (IsBetter kb mode) R → IsChosen kb mode R
chosen_from_local kb mode R h = record {
  repair = record {
    consistent = h.consistent;
    maximal = λ i il f c.
        let c' = alone kb (With i (In R)) c i (inl refl) in
        let w = h.outside i il f c' in
        no_conflict_inside kb (With i (In R)) c i w.0 (inl refl) (inr w.2) w.3;
  };
  unimproved = λ B w.
      let b = w.gain in
      let o = h.outside b.0 b.1 b.3 (alone kb (In B) w.consistent b.0 b.2) in
      go B w.consistent b.0 o.0 b.2 o.3 o.4 (b.4 o.0 o.1 o.2) (cases_Bool (B o.0));
}
  where
    go : (B : ℕ → Bool) → AreConsistent kb (In B) → (i j : ℕ) → IsTrue (B i) → Conflict kb i j → ¬ IsBetter kb mode i j
        → (IsFalse (B j) → IsBetter kb mode i j) → (B j ≡ true) ⊎ (B j ≡ false) → ⊥
    go B c i j bi w n better (inl t) = no_conflict_inside kb (In B) c i j bi t w
    go B c i j bi w n better (inr f) = n (better f)

-- a repair is chosen in mode all, where nothing is better than anything
pub chosen_in_all : (kb : Knowledge) (R : ℕ → Bool) → IsRepair kb R → IsChosen kb mode.All R
chosen_in_all kb R r = record {
  repair = r;
  unimproved = λ B w. let b = w.gain in
      r.maximal b.0 b.1 b.3 (AreConsistent-within kb (With b.0 (In R)) (In B) (inside B b.0 b.2 b.4) w.consistent);
}
  where
    no_better : (i j : ℕ) → IsBetter kb mode.All i j → ⊥
    no_better i j b = b.ranked refl

    inside : (B : ℕ → Bool) (i : ℕ) → IsTrue (B i) → ((j : ℕ) → j < length kb.facts → IsTrue (R j) → IsFalse (B j) → IsBetter kb mode.All i j) → (l : ℕ)
        → l < length kb.facts → With i (In R) l → IsTrue (B l)
    inside B i t h l ll (inl e) = subst (In B) (sym e) t
    inside B i t h l ll (inr q) = elim (cases_Bool (B l)) [ inl y ↦ y | inr n ↦ absurd (no_better i l (h l ll q n)) ]

-- whether the priority lists the pair
lists : List Pair → ℕ → ℕ → Bool
lists [] i j = false
lists (p ∷ pairs) i j = (eqb p.upper i && eqb p.lower j) || lists pairs i j

pair_of : ℕ → ℕ → Pair
pair_of i j = record { upper = i; lower = j }

lists_there : (pairs : List Pair) (i j : ℕ) → IsTrue (lists pairs i j) → IsListed pairs i j
unfolding lists pair_of
lists_there [] i j e = absurd (true≢false (sym e))
lists_there (p ∷ pairs) i j e = go (or_cases (eqb p.upper i && eqb p.lower j) (lists pairs i j) e) (λ h. lists_there pairs i j h)
  where
    go : ((eqb p.upper i && eqb p.lower j) ≡ true) ⊎ (lists pairs i j ≡ true) → (IsTrue (lists pairs i j) → IsListed pairs i j)
        → Contains (p ∷ pairs) (pair_of i j)
    go (inl b) again = let w = and_both (eqb p.upper i) (eqb p.lower j) b in
        subst (Contains (p ∷ pairs)) (ap (λ a. pair_of a p.lower) (eqb-true p.upper i w.0) ∙ ap (pair_of i) (eqb-true p.lower j w.1)) (Contains-head p pairs)
    go (inr b) again = Contains-later p pairs (pair_of i j) (again b)

lists_back : (pairs : List Pair) (i j : ℕ) → IsListed pairs i j → IsTrue (lists pairs i j)
unfolding lists pair_of
lists_back [] i j c = absurd (Contains-nil (pair_of i j) c)
lists_back (p ∷ pairs) i j c = go (Contains-cases p pairs (pair_of i j) c) (λ h. lists_back pairs i j h)
  where
    go : (p ≡ pair_of i j) ⊎ Contains pairs (pair_of i j) → (IsListed pairs i j → IsTrue (lists pairs i j))
        → ((eqb p.upper i && eqb p.lower j) || lists pairs i j) ≡ true
    go (inl e) again = ap (λ b. b || lists pairs i j) (and_true (eqb p.upper i) (eqb p.lower j) (eq-eqb p.upper i (ap (λ (q : Pair). q.upper) e))
        (eq-eqb p.lower j (ap (λ (q : Pair). q.lower) e)))
    go (inr d) again = or_right (eqb p.upper i && eqb p.lower j) (lists pairs i j) (again d)

-- whether the mode has priorities
is_ranked : Repairs → Bool
is_ranked mode.Pareto = true
is_ranked mode.All = false

not_all : (m : Repairs) → is_ranked m ≡ true → m ≢ mode.All
unfolding is_ranked
not_all m e d = true≢false (sym e ∙ ap is_ranked d)

ranked_is : (m : Repairs) → m ≢ mode.All → is_ranked m ≡ true
unfolding is_ranked
ranked_is mode.Pareto n = refl
ranked_is mode.All n = absurd (n refl)

-- whether the one fact is better than the other, where the conflicts can be told
better_test : Knowledge → Repairs → (ℕ → ℕ → Bool) → ℕ → ℕ → Bool
better_test kb m clash i j = is_ranked m && (lists kb.pairs i j && clash i j)

better_told : (kb : Knowledge) (m : Repairs) (own : ℕ → Bool) (clash : ℕ → ℕ → Bool) → TellConflicts kb own clash → (i j : ℕ) → i < length kb.facts
    → j < length kb.facts → IsTrue (better_test kb m clash i j) ↔ IsBetter kb m i j
unfolding better_test
better_told kb m own clash tell i j il jl = (
  (λ t. let w = and_both (is_ranked m) (lists kb.pairs i j && clash i j) t in
      let u = and_both (lists kb.pairs i j) (clash i j) w.1 in
      record { ranked = not_all m w.0; listed = lists_there kb.pairs i j u.0; conflict = (tell.clash_iff i j il jl).0 u.1 }),
  (λ b. and_true (is_ranked m) (lists kb.pairs i j && clash i j) (ranked_is m b.ranked)
      (and_true (lists kb.pairs i j) (clash i j) (lists_back kb.pairs i j b.listed) ((tell.clash_iff i j il jl).1 b.conflict))),
)

-- The other direction of the local form, where the conflicts and the order can be told.
module _ (kb : Knowledge) (mode : Repairs) (own : ℕ → Bool) (clash better : ℕ → ℕ → Bool) (tell : TellConflicts kb own clash)
    (better_iff : (i j : ℕ) → i < length kb.facts → j < length kb.facts → IsTrue (better i j) ↔ IsBetter kb mode i j) where
  -- a chosen repair is chosen locally
  pub local_from_chosen : (R : ℕ → Bool) → IsChosen kb mode R → IsLocallyOptimal kb (IsBetter kb mode) R
  local_from_chosen R h = record {
    consistent = h.repair.consistent;
    outside =
        λ i il f c. found i il f c (any_below (λ j. R j && (clash i j && not (better i j))) (length kb.facts));
  }
    where
      -- the fact i, and the facts of R that do not conflict with it
      swapped : ℕ → ℕ → Bool
      swapped i l = (R l && not (clash i l)) || eqb l i

      parts : (i l : ℕ) → In (swapped i) l → (IsTrue (R l) × IsFalse (clash i l)) ⊎ (l ≡ i)
      parts i l t = elim (or_cases (R l && not (clash i l)) (eqb l i) t) [
        | inl b ↦ let p = and_both (R l) (not (clash i l)) b in inl (p.0, not_true (clash i l) p.1)
        | inr e ↦ inr (eqb-true l i e)
      ]

      free : (i : ℕ) → i < length kb.facts → AreConsistent kb (Only i) → IsConflictFree kb (In (swapped i))
      free i il c = record {
        own = λ l ll t s. own_case l s (parts i l t);
        pairs = λ l m ll ml t u w. pair_case l m ll ml w (parts i l t) (parts i m u);
      }
        where
          own_case : (l : ℕ) → IsSelfInconsistent kb l → (IsTrue (R l) × IsFalse (clash i l)) ⊎ (l ≡ i) → ⊥
          own_case l s (inl p) = s (alone kb (In R) h.repair.consistent l p.0)
          own_case l s (inr e) = s (subst (λ l. AreConsistent kb (Only l)) (sym e) c)

          not_clash : (l : ℕ) → l < length kb.facts → IsFalse (clash i l) → ¬ Conflict kb i l
          not_clash l ll f w = true≢false (sym ((tell.clash_iff i l il ll).1 w) ∙ f)

          pair_case : (l m : ℕ) → l < length kb.facts → m < length kb.facts → Conflict kb l m → (IsTrue (R l) × IsFalse (clash i l)) ⊎ (l ≡ i)
              → (IsTrue (R m) × IsFalse (clash i m)) ⊎ (m ≡ i) → ⊥
          pair_case l m ll ml w (inl p) (inl q) = no_conflict_inside kb (In R) h.repair.consistent l m p.0 q.0 w
          pair_case l m ll ml w (inl p) (inr e) = not_clash l ll p.1 (Conflict-sym kb l i (subst (Conflict kb l) e w))
          pair_case l m ll ml w (inr e) (inl q) = not_clash m ml q.1 (subst (λ l. Conflict kb l m) e w)
          pair_case l m ll ml w (inr e) (inr d) = w.different (e ∙ sym d)

      found : (i : ℕ) → i < length kb.facts → IsFalse (R i) → AreConsistent kb (Only i)
          → ((j : ℕ) × (j < length kb.facts) × IsTrue (R j && (clash i j && not (better i j))))
          ⊎ ((j : ℕ) → j < length kb.facts → IsFalse (R j && (clash i j && not (better i j))))
          → (j : ℕ) × (j < length kb.facts) × IsTrue (R j) × Conflict kb i j × ¬ IsBetter kb mode i j
      found i il f c (inl (j, jl, t)) =
          let p = and_both (R j) (clash i j && not (better i j)) t in
          let q = and_both (clash i j) (not (better i j)) p.1 in
          (j, jl, p.0, (tell.clash_iff i j il jl).0 q.0, λ b. true≢false (sym ((better_iff i j il jl).1 b) ∙ not_true (better i j) q.1))
      found i il f c (inr none) = absurd (h.unimproved (swapped i) (record {
        consistent = consistent_by_pairs kb (In (swapped i)) (free i il c);
        gain = (i, il, or_right (R i && not (clash i i)) (eqb i i) (eq-eqb i i refl), f, λ j jl r n. (better_iff i j il jl).0 (beats i j jl r n (none j jl)));
      }))
        where
          beats : (i j : ℕ) → j < length kb.facts → IsTrue (R j) → IsFalse (swapped i j) → IsFalse (R j && (clash i j && not (better i j)))
              → IsTrue (better i j)
          beats i j jl r n f = beats_bool (R j) (clash i j) (better i j) (eqb j i) r n f

-- the fact cannot be added: it is self-inconsistent, or conflicts with a fact of the set to which it is not better
abbrev pub IsStopped : Knowledge → Repairs → (ℕ → Bool) → ℕ → Type 0
IsStopped kb mode R i = IsSelfInconsistent kb i ⊎ ((j : ℕ) × (j < length kb.facts) × In R j × Conflict kb i j × ¬ IsBetter kb mode i j)

IsStopped-mono : (kb : Knowledge) (mode : Repairs) (R Q : ℕ → Bool) → ((i : ℕ) → In R i → In Q i) → (i : ℕ) → IsStopped kb mode R i → IsStopped kb mode Q i
IsStopped-mono kb mode R Q h i (inl s) = inl s
IsStopped-mono kb mode R Q h i (inr (j, l, r, w, n)) = inr (j, l, h j r, w, n)

-- a greedy walk along an order in which no fact is better than an earlier one
module _ (kb : Knowledge) (mode : Repairs) (own : ℕ → Bool) (clash : ℕ → ℕ → Bool) (tell : TellConflicts kb own clash)
    (kept dropped : ℕ → Bool) (core : IsCore kb mode kept dropped) where
  -- R has no conflict, holds what is kept, and each fact seen is in it or stopped
  record Walked (R : ℕ → Bool) (Seen : ℕ → Type 0) : Type 0 where
    holds : (i : ℕ) → In kept i → In R i
    free : IsConflictFree kb (In R)
    seen : (i : ℕ) → In R i → In kept i ⊎ Seen i
    full : (i : ℕ) → Seen i → In R i ⊎ IsStopped kb mode R i

  -- the next fact is kept out or taken in
  next : (R : ℕ → Bool) (Seen : ℕ → Type 0) → Walked R Seen → (m : ℕ) → m < length kb.facts
      → ((j : ℕ) → Seen j → ¬ IsBetter kb mode m j) → IsBlocked kb R m ⊎ (¬ IsBlocked kb R m)
      → (Q : ℕ → Bool) × Walked Q (λ i. Seen i ⊎ (i ≡ m))
  next R Seen w m l down (inl b) = (
    R,
    record {
      holds = w.holds;
      free = w.free;
      seen =
          λ i r. elim (w.seen i r) [ inl k ↦ inl k | inr s ↦ inr (inl s) ];
      full = full;
    },
  )
    where
      stop : (j : ℕ) → j < length kb.facts → In R j → Conflict kb j m → In kept j ⊎ Seen j → IsStopped kb mode R m
      stop j jl r c (inl k) = elim (core.blocked m l (core.drops j m jl l k c)) [ inl s ↦ inl s | inr d ↦ inr (d.0, d.1, w.holds d.0 d.2, d.3, d.4) ]
      stop j jl r c (inr s) = inr (j, jl, r, Conflict-sym kb j m c, down j s)

      stopped : IsBlocked kb R m → IsStopped kb mode R m
      stopped (inl s) = inl s
      stopped (inr (j, jl, r, c)) = stop j jl r c (w.seen j r)

      full : (i : ℕ) → (Seen i) ⊎ (i ≡ m) → In R i ⊎ IsStopped kb mode R i
      full i (inl s) = w.full i s
      full i (inr e) = inr (subst (IsStopped kb mode R) (sym e) (stopped b))
  next R Seen w m l down (inr n) = (
    added R m,
    record {
      holds = λ i k. added_old R m i (w.holds i k);
      free = IsConflictFree-added kb R m w.free n;
      seen =
          seen;
      full = full;
    },
  )
    where
      seen_case : (i : ℕ) → In R i ⊎ (i ≡ m) → In kept i ⊎ ((Seen i) ⊎ (i ≡ m))
      seen_case i (inl r) = elim (w.seen i r) [ inl k ↦ inl k | inr s ↦ inr (inl s) ]
      seen_case i (inr e) = inr (inr e)

      seen : (i : ℕ) → In (added R m) i → In kept i ⊎ ((Seen i) ⊎ (i ≡ m))
      seen i t = seen_case i (added_cases R m i t)

      kept_full : (i : ℕ) → In R i ⊎ IsStopped kb mode R i → In (added R m) i ⊎ IsStopped kb mode (added R m) i
      kept_full i (inl r) = inl (added_old R m i r)
      kept_full i (inr s) = inr (IsStopped-mono kb mode R (added R m) (added_old R m) i s)

      full : (i : ℕ) → (Seen i) ⊎ (i ≡ m) → In (added R m) i ⊎ IsStopped kb mode (added R m) i
      full i (inl s) = kept_full i (w.full i s)
      full i (inr e) = inl (subst (In (added R m)) (sym e) (added_new R m))

  -- the walk to the end
  on : (rest : List ℕ) (R : ℕ → Bool) (Seen : ℕ → Type 0) → Walked R Seen → ((m : ℕ) → Contains rest m → m < length kb.facts) → IsTopological kb mode rest
      → ((m j : ℕ) → Contains rest m → Seen j → ¬ IsBetter kb mode m j)
      → (Q : ℕ → Bool) × ((i : ℕ) → In kept i → In Q i) × IsConflictFree kb (In Q) × ((i : ℕ) → Seen i ⊎ Contains rest i → In Q i ⊎ IsStopped kb mode Q i)
  on [] R Seen w inside g down = (R, w.holds, w.free, λ i. elim [ inl s ↦ w.full i s | inr c ↦ absurd (Contains-nil i c) ])
  on (m ∷ rest) R Seen w inside g down =
      let ml : m < length kb.facts = inside m (Contains-head m rest) in
      let step = next R Seen w m ml (λ j s. down m j (Contains-head m rest) s) (blocked_or_not kb own clash tell R m ml) in
      let end = on rest step.0 (λ i. Seen i ⊎ (i ≡ m)) step.1 (λ l c. inside l (Contains-later m rest l c)) g.1
      (λ l j c. elim [ inl s ↦ down l j (Contains-later m rest l c) s | inr e ↦ λ b. g.0 l c (subst (IsBetter kb mode l) e b) ]) in
      (end.0, end.1, end.2, λ i p. end.3 i (regroup m rest Seen i p))
    where
      regroup : (m : ℕ) (rest : List ℕ) (Seen : ℕ → Type 0) (i : ℕ) → Seen i ⊎ Contains (m ∷ rest) i → (Seen i ⊎ (i ≡ m)) ⊎ Contains rest i
      regroup m rest Seen i (inl s) = inl (inl s)
      regroup m rest Seen i (inr c) = elim (Contains-cases m rest i c) [ inl e ↦ inl (inr (sym e)) | inr d ↦ inr d ]

  -- a chosen repair holds what is kept and has nothing that is dropped
  pub chosen_from_core : (order : List ℕ) → ((i : ℕ) → Contains order i ↔ (i < length kb.facts)) → IsTopological kb mode order
      → (R : ℕ → Bool) × IsChosen kb mode R × ((i : ℕ) → In kept i → In R i) × ((i : ℕ) → i < length kb.facts → In dropped i → IsFalse (R i))
  chosen_from_core order all g =
      let w = on order kept (λ i. ⊥) (record {
        holds = λ i k. k;
        free = no_conflict_in_consistent kb (In kept) core.consistent;
        seen = λ i k. inl k;
        full =
            λ i s. absurd s;
      }) (λ m c. (all m).0 c) g (λ m j c s. absurd s) in
      let c = consistent_by_pairs kb (In w.0) w.2 in (
        w.0,
        chosen_from_local kb mode w.0 (record { consistent = c; outside = λ i il f a. out w.0 i f a (w.3 i (inr ((all i).1 il))) }),
        w.1,
        λ i il d. lost w.0 w.1 c i (core.blocked i il d) (cases_Bool (w.0 i)),
      )
    where
      out : (R : ℕ → Bool) (i : ℕ) → IsFalse (R i) → AreConsistent kb (Only i) → In R i ⊎ IsStopped kb mode R i → (j : ℕ) × (j < length kb.facts) × In R j
          × Conflict kb i j × ¬ IsBetter kb mode i j
      out R i f a (inl t) = absurd (true≢false (sym t ∙ f))
      out R i f a (inr (inl s)) = absurd (s a)
      out R i f a (inr (inr w)) = w

      lost : (R : ℕ → Bool) → ((i : ℕ) → In kept i → In R i) → AreConsistent kb (In R) → (i : ℕ) → IsSelfInconsistent kb i
          ⊎ ((j : ℕ) × (j < length kb.facts) × IsTrue (kept j) × Conflict kb i j × ¬ IsBetter kb mode i j) → (R i ≡ true) ⊎ (R i ≡ false) → IsFalse (R i)
      lost R h c i d (inr f) = f
      lost R h c i (inl s) (inl t) = absurd (s (alone kb (In R) c i t))
      lost R h c i (inr (j, jl, k, w, n)) (inl t) = absurd (no_conflict_inside kb (In R) c i j t (h j k) w)

-- both directions of the local form
pub chosen_is_local : (kb : Knowledge) (m : Repairs) (own : ℕ → Bool) (clash : ℕ → ℕ → Bool) → TellConflicts kb own clash → (R : ℕ → Bool) → IsChosen kb m R
    ↔ IsLocallyOptimal kb (IsBetter kb m) R
chosen_is_local kb m own clash tell R = (
  local_from_chosen kb m own clash (better_test kb m clash) tell (better_told kb m own clash tell) R,
  chosen_from_local kb m R,
)

-- a core lies in a chosen repair, under an acyclic priority
pub core_extends : (kb : Knowledge) (m : Repairs) (own : ℕ → Bool) (clash : ℕ → ℕ → Bool) → TellConflicts kb own clash → IsAcyclic kb m
    → (kept dropped : ℕ → Bool) → IsCore kb m kept dropped
    → (R : ℕ → Bool) × IsChosen kb m R × ((i : ℕ) → In kept i → In R i) × ((i : ℕ) → i < length kb.facts → In dropped i → IsFalse (R i))
core_extends kb m own clash tell acyclic kept dropped core =
    let o = order_of kb m (length kb.facts) (better_test kb m clash) (better_told kb m own clash tell) acyclic in
    chosen_from_core kb m own clash tell kept dropped core o.0 o.1 o.2

nothing : ℕ → Bool
nothing i = false

-- nothing kept and nothing dropped is a core
empty_core : (kb : Knowledge) (m : Repairs) → IsCore kb m nothing nothing
unfolding nothing
empty_core kb m = record {
  consistent = consistent_by_pairs kb (In nothing) (record { own = λ i il t. absurd (true≢false (sym t)); pairs = λ i j il jl t u w. true≢false (sym t) });
  drops = λ i j il jl t w. absurd (true≢false (sym t));
  blocked = λ j jl t. absurd (true≢false (sym t));
}

pub chosen_exists : (kb : Knowledge) (m : Repairs) (own : ℕ → Bool) (clash : ℕ → ℕ → Bool) → TellConflicts kb own clash → IsAcyclic kb m → (R : ℕ → Bool)
    × IsChosen kb m R
chosen_exists kb m own clash tell acyclic = let r = core_extends kb m own clash tell acyclic nothing nothing (empty_core kb m) in (r.0, r.1)
