-- Entries of an ordered map whose keys are the facts of clashes.
use Rattle.std.proofs.Common.{cond, ◌≡◌, ℕ, List, [], ◌∷◌, Contains, ◌⊎◌, inl, inr, Bool, true, false, Option, Some, refl, sym, ap, subst}
use Rattle.std.specs.Cmp.{nat_cmp_is}
use Rattle.std.specs.Ordering.{nat_cmp, ordering_then, is_eq, match_ordering}
use Rattle.std.specs.declared.cmp.Ordering.{Ordering}
use Rattle.std.specs.declared.cmp.Ordering.TheVariants.{Less, Equal, Greater}
use Rattle.std.specs.BTreeMap.{insert_entry, is_at}
use Rattle.std.specs.Map.{lookup}
use Rattle.std.specs.Option.{is_some}
use Rattle.std.proofs.lemmas.Map.Lookups.{exact_pairs, exact_unsigned}
use Rattle.cq_meaning.proofs.Members.{Contains-head, Contains-later, Contains-cases, Contains-nil}
use Rattle.conflict_finder.specs.declared.clash_facts.ClashFacts.{ClashFacts}
use Rattle.conflict_finder.specs.declared.clash_facts.ClashFacts.TheVariants.{One, Two}
use Rattle.conflict_finder.specs.declared.first_shown.Source.{Source}
use Rattle.conflict_finder.specs.FirstShown.{facts_cmp, HasKey, AddsNew}

two_same : (a b c d : ℕ) → ◌≡◌ {A = ℕ × ℕ} (a, b) (c, d) → Two a b ≡ Two c d
two_same a b c d e =
    let first : a ≡ c = ap (λ (p : ℕ × ℕ). p.0) e in
    let second : b ≡ d = ap (λ (p : ℕ × ℕ). p.1) e in
    cc (first, second)

pub facts_exact : (x y : ClashFacts) → facts_cmp x y ≡ Equal → x ≡ y
facts_exact (One a) (One b) e = ap One (exact_unsigned a b e)
facts_exact (One a) (Two b c) e = cc
facts_exact (Two a b) (One c) e = cc
facts_exact (Two a b) (Two c d) e = two_same a b c d (exact_pairs nat_cmp nat_cmp exact_unsigned exact_unsigned (a, b) (c, d) e)

is_equal : (o : Ordering) → is_eq o ≡ true → o ≡ Equal
is_equal Less e = cc
is_equal Equal e = refl
is_equal Greater e = cc

same_parts : (o p : Ordering) → o ≡ Equal → p ≡ Equal → ordering_then o p ≡ Equal
same_parts o p e f = cc

pub facts_same : (k : ClashFacts) → facts_cmp k k ≡ Equal
facts_same (One a) = sym (nat_cmp_is a a Equal refl)
facts_same (Two a b) = same_parts (nat_cmp a a) (nat_cmp b b) (sym (nat_cmp_is a a Equal refl)) (sym (nat_cmp_is b b Equal refl))

-- ---- what a look-up finds

lookup_at : ClashFacts → List (ClashFacts × Source) → Option Source
lookup_at k es = lookup (is_at (facts_cmp k)) es

pub has_key : (k : ClashFacts) (es : List (ClashFacts × Source)) → is_some (lookup (is_at (facts_cmp k)) es) ≡ true → HasKey es k
has_key k [] e = cc
has_key k (x ∷ es) e = go (is_eq (facts_cmp k x.0)) refl e (λ f. has_key k es f)
  where
    go : (b : Bool) → is_eq (facts_cmp k x.0) ≡ b → is_some (cond b (Some x.1) (lookup (is_at (facts_cmp k)) es)) ≡ true
        → (is_some (lookup (is_at (facts_cmp k)) es) ≡ true → HasKey es k) → HasKey (x ∷ es) k
    go true q f again = (
      x.1,
      subst (λ (z : ClashFacts). Contains (x ∷ es) (z, x.1)) (sym (facts_exact k x.0 (is_equal (facts_cmp k x.0) q)))
          (Contains-head x es),
    )
    go false q f again = let w = again f in (w.0, Contains-later x es (k, w.0) w.1)

pub has_no_key : (k : ClashFacts) (es : List (ClashFacts × Source)) → is_some (lookup (is_at (facts_cmp k)) es) ≡ false → HasKey es k → ⊥
has_no_key k [] e (s, c) = Contains-nil (k, s) c
has_no_key k (x ∷ es) e (s, c) = go (is_eq (facts_cmp k x.0)) refl e (λ f d. has_no_key k es f (s, d)) (Contains-cases x es (k, s) c)
  where
    go : (b : Bool) → is_eq (facts_cmp k x.0) ≡ b → is_some (cond b (Some x.1) (lookup (is_at (facts_cmp k)) es)) ≡ false
        → (is_some (lookup (is_at (facts_cmp k)) es) ≡ false → Contains es (k, s) → ⊥) → (x ≡ (k, s)) ⊎ Contains es (k, s) → ⊥
    go true q f again here = cc
    go false q f again (inr d) = again f d
    go false q f again (inl d) = let same : is_eq (facts_cmp k k) ≡ true = ap is_eq (facts_same k) in let at : is_eq (facts_cmp k k) ≡ false =
        subst (λ (z : ClashFacts × Source). is_eq (facts_cmp k z.0) ≡ false) d q in cc

-- ---- a new entry

chosen : (o : Ordering) (less equal greater : List (ClashFacts × Source)) (P : List (ClashFacts × Source) → Type 0) → (o ≡ Less → P less)
    → (o ≡ Equal → P equal) → (o ≡ Greater → P greater) → P (match_ordering o less equal greater)
chosen Less less equal greater P f g h = f refl
chosen Equal less equal greater P f g h = g refl
chosen Greater less equal greater P f g h = h refl

module _ (k : ClashFacts) (s : Source) where
  absent_later : (x : ClashFacts × Source) (es : List (ClashFacts × Source)) → (HasKey (x ∷ es) k → ⊥) → HasKey es k → ⊥
  absent_later x es n (t, c) = n (t, Contains-later x es (k, t) c)

  not_equal : (x : ClashFacts × Source) (es : List (ClashFacts × Source)) → (HasKey (x ∷ es) k → ⊥) → facts_cmp k x.0 ≡ Equal → ⊥
  not_equal x es n e = n (x.1, subst (λ (z : ClashFacts). Contains (x ∷ es) (z, x.1)) (sym (facts_exact k x.0 e)) (Contains-head x es))

  pub insert_keeps : (es : List (ClashFacts × Source)) → (HasKey es k → ⊥) → (y : ClashFacts × Source) → Contains es y
      → Contains (insert_entry facts_cmp es k s) y
  insert_keeps [] n y c = absurd (Contains-nil y c)
  insert_keeps (x ∷ es) n y c = chosen (facts_cmp k x.0) ((k, s) ∷ x ∷ es) ((x.0, s) ∷ es) (x ∷ insert_entry facts_cmp es k s) (λ zs. Contains zs y)
      (λ e. Contains-later (k, s) (x ∷ es) y c)
      (λ e. absurd (not_equal x es n e))
      (λ e. by (Contains-cases x es y c) (insert_keeps es (absent_later x es n) y))
    where
      by : (x ≡ y) ⊎ Contains es y → (Contains es y → Contains (insert_entry facts_cmp es k s) y) → Contains (x ∷ insert_entry facts_cmp es k s) y
      by (inl e) again = subst (Contains (x ∷ insert_entry facts_cmp es k s)) e (Contains-head x (insert_entry facts_cmp es k s))
      by (inr d) again = Contains-later x (insert_entry facts_cmp es k s) y (again d)

  pub insert_there : (es : List (ClashFacts × Source)) → (HasKey es k → ⊥) → Contains (insert_entry facts_cmp es k s) (k, s)
  insert_there [] n = Contains-head (k, s) []
  insert_there (x ∷ es) n = chosen (facts_cmp k x.0) ((k, s) ∷ x ∷ es) ((x.0, s) ∷ es) (x ∷ insert_entry facts_cmp es k s) (λ zs. Contains zs (k, s))
      (λ e. Contains-head (k, s) (x ∷ es))
      (λ e. absurd (not_equal x es n e))
      (λ e. Contains-later x (insert_entry facts_cmp es k s) (k, s) (insert_there es (absent_later x es n)))

  pub insert_only : (es : List (ClashFacts × Source)) → (HasKey es k → ⊥) → (y : ClashFacts × Source) → Contains (insert_entry facts_cmp es k s) y
      → Contains es y ⊎ (y ≡ (k, s))
  insert_only [] n y c = inr (by (Contains-cases (k, s) [] y c))
    where
      by : ((k, s) ≡ y) ⊎ Contains [] y → y ≡ (k, s)
      by (inl e) = sym e
      by (inr d) = absurd (Contains-nil y d)
  insert_only (x ∷ es) n y c0 = chosen (facts_cmp k x.0) ((k, s) ∷ x ∷ es) ((x.0, s) ∷ es) (x ∷ insert_entry facts_cmp es k s)
      (λ zs. Contains zs y → Contains (x ∷ es) y ⊎ (y ≡ (k, s)))
      (λ e c. first (Contains-cases (k, s) (x ∷ es) y c))
      (λ e. absurd (not_equal x es n e))
      (λ e c. later (Contains-cases x (insert_entry facts_cmp es k s) y c) (insert_only es (absent_later x es n) y))
      c0
    where
      first : ((k, s) ≡ y) ⊎ Contains (x ∷ es) y → Contains (x ∷ es) y ⊎ (y ≡ (k, s))
      first (inl e) = inr (sym e)
      first (inr d) = inl d

      later : (x ≡ y) ⊎ Contains (insert_entry facts_cmp es k s) y → (Contains (insert_entry facts_cmp es k s) y → Contains es y ⊎ (y ≡ (k, s)))
          → Contains (x ∷ es) y ⊎ (y ≡ (k, s))
      later (inl e) again = inl (subst (Contains (x ∷ es)) e (Contains-head x es))
      later (inr d) again = elim (again d) [ inl f ↦ inl (Contains-later x es y f) | inr f ↦ inr f ]

-- ---- notes

pub noted_old : (k : ClashFacts) (s : Source) (es : List (ClashFacts × Source)) → HasKey es k → AddsNew (λ q. q ≡ k) s es es
noted_old k s es h = record {
  kept = λ e c. c;
  right = λ e c. inl c;
  complete = λ q p. subst (HasKey es) (sym p) h;
}

pub noted_new : (k : ClashFacts) (s : Source) (es : List (ClashFacts × Source)) → (HasKey es k → ⊥) → AddsNew (λ q. q ≡ k) s es (insert_entry facts_cmp es k s)
noted_new k s es n = record {
  kept = insert_keeps k s es n;
  right = λ e c. by e (insert_only k s es n e c);
  complete = λ q p. (s, subst (λ (z : ClashFacts). Contains (insert_entry facts_cmp es k s) (z, s)) (sym p) (insert_there k s es n));
}
  where
    by : (e : ClashFacts × Source) → Contains es e ⊎ (e ≡ (k, s)) → Contains es e ⊎ ((e.0 ≡ k) × (HasKey es e.0 → ⊥) × (e.1 ≡ s))
    by e (inl c) = inl c
    by e (inr p) = inr (
      ap (λ (z : ClashFacts × Source). z.0) p,
      subst (λ (z : ClashFacts × Source). HasKey es z.0 → ⊥) (sym p) n,
      ap (λ (z : ClashFacts × Source). z.1) p,
    )

-- what is added under one condition is added under one that says the same
pub adds_like : (P Q : ClashFacts → Type 0) (s : Source) (old new : List (ClashFacts × Source)) → ((k : ClashFacts) → P k → Q k)
    → ((k : ClashFacts) → Q k → P k) → AddsNew P s old new → AddsNew Q s old new
adds_like P Q s old new f g adds = record {
  kept = adds.kept;
  right = λ e c. by e (adds.right e c);
  complete = λ k q. adds.complete k (g k q);
}
  where
    by : (e : ClashFacts × Source) → Contains old e ⊎ (P e.0 × (HasKey old e.0 → ⊥) × (e.1 ≡ s)) → Contains old e ⊎ (Q e.0 × (HasKey old e.0 → ⊥) × (e.1 ≡ s))
    by e (inl c) = inl c
    by e (inr (p, n, q)) = inr (f e.0 p, n, q)

-- nothing is added
pub adds_none : (P : ClashFacts → Type 0) (s : Source) (old : List (ClashFacts × Source)) → ((k : ClashFacts) → P k → ⊥) → AddsNew P s old old
adds_none P s old n = record { kept = λ e c. c; right = λ e c. inl c; complete = λ k p. absurd (n k p) }

-- one after the other
pub adds_then : (P Q : ClashFacts → Type 0) (s : Source) (old mid new : List (ClashFacts × Source)) → AddsNew P s old mid → AddsNew Q s mid new
    → AddsNew (λ k. P k ⊎ Q k) s old new
adds_then P Q s old mid new first second = record {
  kept = λ e c. second.kept e (first.kept e c);
  right = λ e c. by e (second.right e c);
  complete = λ k pq. all k pq;
}
  where
    before : (e : ClashFacts × Source) → Contains old e ⊎ (P e.0 × (HasKey old e.0 → ⊥) × (e.1 ≡ s)) → Contains old e
        ⊎ ((P e.0 ⊎ Q e.0) × (HasKey old e.0 → ⊥) × (e.1 ≡ s))
    before e (inl c) = inl c
    before e (inr (p, n, q)) = inr (inl p, n, q)

    by : (e : ClashFacts × Source) → Contains mid e ⊎ (Q e.0 × (HasKey mid e.0 → ⊥) × (e.1 ≡ s)) → Contains old e
        ⊎ ((P e.0 ⊎ Q e.0) × (HasKey old e.0 → ⊥) × (e.1 ≡ s))
    by e (inl c) = before e (first.right e c)
    by e (inr (p, n, q)) = inr (inr p, (λ (t, c). n (t, first.kept (e.0, t) c)), q)

    all : (k : ClashFacts) → P k ⊎ Q k → HasKey new k
    all k (inl p) = let w = first.complete k p in (w.0, second.kept (k, w.0) w.1)
    all k (inr q) = second.complete k q
