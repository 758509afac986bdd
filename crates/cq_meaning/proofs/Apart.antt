-- The normal form has no atom twice, and its body is in strict order.
use Rattle.std.proofs.Common.{ℕ, suc, ◌<◌, slice_get, Some, ◌≡◌, ◌⊎◌, ◌↔◌, inl, inr, List, [], ◌∷◌, filter, Contains, arith, refl, sym, subst, ap, ◌∙◌, Bool}
use Rattle.std.proofs.Common.{true, false, not, cond, true≢false}
use Rattle.std.specs.Ordering.{is_le}
use Rattle.std.specs.declared.cmp.Ordering.TheVariants.{Less}
use Rattle.std.specs.List.{AllByRecursion, AllPairs}
use Rattle.std.proofs.lemmas.List.Elements.{All-from_recursion}
use Rattle.std.proofs.lemmas.List.Kept.{AllPairs-cons}
use Rattle.cq_terms.specs.declared.query.QAtom.{QAtom}
use Rattle.cq_meaning.specs.NormalForm.{same_atom, distinct_atoms, atom_cmp, insert, sorted, IsOrdered}
use Rattle.cq_meaning.proofs.Members.{Contains-head, Contains-later, Contains-cases, Contains-nil, slice_get-Contains}
use Rattle.cq_meaning.proofs.NormalBack.{same_atom_is}
use Rattle.cq_meaning.proofs.Settled.{same_self}
use Rattle.cq_meaning.proofs.AtomOrder.{le_back, strictly, less_trans}

-- ---- no atom twice

-- the atom is none of the list
abbrev pub Apart : QAtom → List QAtom → Type 0
Apart a [] = Unit {0}
Apart a (b ∷ xs) = (a ≡ b → ⊥) × Apart a xs

-- no atom stands twice
abbrev pub AllApart : List QAtom → Type 0
AllApart [] = Unit {0}
AllApart (a ∷ xs) = Apart a xs × AllApart xs

apart_filter : (a : QAtom) (xs : List QAtom) → Apart a xs → filter (λ b. not (same_atom a b)) xs ≡ xs
apart_filter a [] h = refl
apart_filter a (b ∷ xs) h = go (same_atom a b) refl (apart_filter a xs h.1)
  where
    go : (c : Bool) → same_atom a b ≡ c → filter (λ b. not (same_atom a b)) xs ≡ xs
        → cond (not c) (b ∷ filter (λ b. not (same_atom a b)) xs) (filter (λ b. not (same_atom a b)) xs) ≡ b ∷ xs
    go true e d = absurd (h.0 (same_atom_is a b e))
    go false e d = ap (λ (l : List QAtom). b ∷ l) d

pub apart_distinct : (xs : List QAtom) → AllApart xs → distinct_atoms xs ≡ xs
apart_distinct [] h = refl
apart_distinct (a ∷ xs) h =
    let d = apart_distinct xs h.1 in
    ap (λ (l : List QAtom). a ∷ l) (subst (λ (l : List QAtom). filter (λ b. not (same_atom a b)) l ≡ xs) (sym d) (apart_filter a xs h.0))

filter_apart : (a : QAtom) (xs : List QAtom) → Apart a (filter (λ b. not (same_atom a b)) xs)
filter_apart a [] = tt
filter_apart a (b ∷ xs) = go (same_atom a b) refl (filter_apart a xs)
  where
    go : (c : Bool) → same_atom a b ≡ c → Apart a (filter (λ b. not (same_atom a b)) xs)
        → Apart a (cond (not c) (b ∷ filter (λ b. not (same_atom a b)) xs) (filter (λ b. not (same_atom a b)) xs))
    go true e w = w
    go false e w = ((λ d. true≢false (sym (subst (λ (c : QAtom). same_atom a c ≡ true) d (same_self a)) ∙ e)), w)

apart_kept : (a : QAtom) (p : QAtom → Bool) (xs : List QAtom) → Apart a xs → Apart a (filter p xs)
apart_kept a p [] h = tt
apart_kept a p (b ∷ xs) h = go (p b) (apart_kept a p xs h.1)
  where
    go : (c : Bool) → Apart a (filter p xs) → Apart a (cond c (b ∷ filter p xs) (filter p xs))
    go true w = (h.0, w)
    go false w = w

all_kept : (p : QAtom → Bool) (xs : List QAtom) → AllApart xs → AllApart (filter p xs)
all_kept p [] h = tt
all_kept p (b ∷ xs) h = go (p b) (all_kept p xs h.1)
  where
    go : (c : Bool) → AllApart (filter p xs) → AllApart (cond c (b ∷ filter p xs) (filter p xs))
    go true w = (apart_kept b p xs h.0, w)
    go false w = w

pub distinct_apart : (xs : List QAtom) → AllApart (distinct_atoms xs)
distinct_apart [] = tt
distinct_apart (a ∷ xs) = (filter_apart a (distinct_atoms xs), all_kept (λ b. not (same_atom a b)) (distinct_atoms xs) (distinct_apart xs))

apart_insert : (c a : QAtom) (xs : List QAtom) → (c ≡ a → ⊥) → Apart c xs → Apart c (insert a xs)
apart_insert c a [] n h = (n, tt)
apart_insert c a (b ∷ xs) n h = go (is_le (atom_cmp a b)) (apart_insert c a xs n h.1)
  where
    go : (k : Bool) → Apart c (insert a xs) → Apart c (cond k (a ∷ b ∷ xs) (b ∷ insert a xs))
    go true w = (n, h)
    go false w = (h.0, w)

all_insert : (a : QAtom) (xs : List QAtom) → Apart a xs → AllApart xs → AllApart (insert a xs)
all_insert a [] h k = (tt, tt)
all_insert a (b ∷ xs) h k = go (is_le (atom_cmp a b)) (all_insert a xs h.1 k.1)
  where
    go : (c : Bool) → AllApart (insert a xs) → AllApart (cond c (a ∷ b ∷ xs) (b ∷ insert a xs))
    go true w = (h, k)
    go false w = (apart_insert b a xs (λ e. h.0 (sym e)) k.0, w)

apart_sorted : (a : QAtom) (xs : List QAtom) → Apart a xs → Apart a (sorted xs)
apart_sorted a [] h = tt
apart_sorted a (b ∷ xs) h = apart_insert a b (sorted xs) h.0 (apart_sorted a xs h.1)

pub all_sorted : (xs : List QAtom) → AllApart xs → AllApart (sorted xs)
all_sorted [] h = tt
all_sorted (a ∷ xs) h = all_insert a (sorted xs) (apart_sorted a xs h.0) (all_sorted xs h.1)

pub apart_not : (a : QAtom) (xs : List QAtom) → Apart a xs → (b : QAtom) → Contains xs b → a ≡ b → ⊥
apart_not a [] h b c e = Contains-nil b c
apart_not a (x ∷ xs) h b c e = elim (Contains-cases x xs b c) [ inl d ↦ h.0 (e ∙ sym d) | inr d ↦ apart_not a xs h.1 b d e ]

apart_from : (a : QAtom) (xs : List QAtom) → ((b : QAtom) → Contains xs b → a ≡ b → ⊥) → Apart a xs
apart_from a [] h = tt
apart_from a (x ∷ xs) h = (h x (Contains-head x xs), apart_from a xs (λ b c. h b (Contains-later x xs b c)))

-- where no two places have one atom
pub apart_by_place : (xs : List QAtom) → ((i j : ℕ) (a : QAtom) → i < j → slice_get xs i ≡ Some a → slice_get xs j ≡ Some a → ⊥) → AllApart xs
apart_by_place [] h = tt
apart_by_place (x ∷ xs) h = (
  apart_from x xs (λ b c e. let w = slice_get-Contains xs b c in h 0 (suc w.0) b (omega arith) (ap Some e) w.1),
  apart_by_place xs (λ i j a ij e d. h (suc i) (suc j) a (omega arith) e d),
)

-- ---- in strict order

-- each atom stands strictly before all later ones
abbrev Ascends : List QAtom → Type 0
Ascends [] = Unit {0}
Ascends (a ∷ xs) = AllByRecursion (λ b. atom_cmp a b ≡ Less) xs × Ascends xs

all_before : (c a : QAtom) (xs : List QAtom) → atom_cmp c a ≡ Less → AllByRecursion (λ b. atom_cmp c b ≡ Less) xs
    → AllByRecursion (λ b. atom_cmp c b ≡ Less) (insert a xs)
all_before c a [] e h = (e, tt)
all_before c a (b ∷ xs) e h = go (is_le (atom_cmp a b)) (all_before c a xs e h.1)
  where
    go : (k : Bool) → AllByRecursion (λ b. atom_cmp c b ≡ Less) (insert a xs)
        → AllByRecursion (λ b. atom_cmp c b ≡ Less) (cond k (a ∷ b ∷ xs) (b ∷ insert a xs))
    go true w = (e, h)
    go false w = (h.0, w)

all_after : (a b : QAtom) (xs : List QAtom) → atom_cmp a b ≡ Less → AllByRecursion (λ c. atom_cmp b c ≡ Less) xs → AllByRecursion (λ c. atom_cmp a c ≡ Less) xs
all_after a b [] e h = tt
all_after a b (c ∷ xs) e h = (less_trans a b c e h.0, all_after a b xs e h.1)

ascends_insert : (a : QAtom) (xs : List QAtom) → Apart a xs → Ascends xs → Ascends (insert a xs)
ascends_insert a [] n h = (tt, tt)
ascends_insert a (b ∷ xs) n h = go (is_le (atom_cmp a b)) refl (ascends_insert a xs n.1 h.1)
  where
    go : (k : Bool) → is_le (atom_cmp a b) ≡ k → Ascends (insert a xs) → Ascends (cond k (a ∷ b ∷ xs) (b ∷ insert a xs))
    go true e w = let l = strictly a b n.0 e in ((l, all_after a b xs l h.0), h)
    go false e w = (all_before b a xs (strictly b a (λ d. n.0 (sym d)) (le_back a b e)) h.0, w)

sorted_ascends : (xs : List QAtom) → AllApart xs → Ascends (sorted xs)
sorted_ascends [] h = tt
sorted_ascends (a ∷ xs) h = ascends_insert a (sorted xs) (apart_sorted a xs h.0) (sorted_ascends xs h.1)

ascends_pairs : (xs : List QAtom) → Ascends xs → AllPairs (λ a b. atom_cmp a b ≡ Less) xs
ascends_pairs [] h = λ i j d ij jl. absurd (omega arith)
ascends_pairs (a ∷ xs) h = AllPairs-cons (λ a b. atom_cmp a b ≡ Less) a xs (All-from_recursion (λ b. atom_cmp a b ≡ Less) xs h.0) (ascends_pairs xs h.1)

-- ---- the same atoms

first_contains : (a : QAtom) (xs : List QAtom) (c : QAtom) → a ≡ c → Contains (a ∷ xs) c
first_contains a xs c e = subst (Contains (a ∷ xs)) e (Contains-head a xs)

insert_contains : (c a : QAtom) (xs : List QAtom) → Contains (insert a xs) c ↔ ((a ≡ c) ⊎ Contains xs c)
insert_contains c a [] = (Contains-cases a [] c, λ w. elim w [ inl e ↦ first_contains a [] c e | inr h ↦ absurd (Contains-nil c h) ])
insert_contains c a (b ∷ xs) = go (is_le (atom_cmp a b)) (insert_contains c a xs)
  where
    go : (k : Bool) → Contains (insert a xs) c ↔ ((a ≡ c) ⊎ Contains xs c) → Contains (cond k (a ∷ b ∷ xs) (b ∷ insert a xs)) c
        ↔ ((a ≡ c) ⊎ Contains (b ∷ xs) c)
    go true w = (Contains-cases a (b ∷ xs) c, λ u. elim u [ inl e ↦ first_contains a (b ∷ xs) c e | inr h ↦ Contains-later a (b ∷ xs) c h ])
    go false w = (λ h. down (Contains-cases b (insert a xs) c h), up)
      where
        down : (b ≡ c) ⊎ Contains (insert a xs) c → (a ≡ c) ⊎ Contains (b ∷ xs) c
        down (inl e) = inr (first_contains b xs c e)
        down (inr h) = elim (w.0 h) [ inl e ↦ inl e | inr k ↦ inr (Contains-later b xs c k) ]

        up : (a ≡ c) ⊎ Contains (b ∷ xs) c → Contains (b ∷ insert a xs) c
        up (inl e) = Contains-later b (insert a xs) c (w.1 (inl e))
        up (inr h) = elim (Contains-cases b xs c h) [ inl e ↦ first_contains b (insert a xs) c e | inr k ↦ Contains-later b (insert a xs) c (w.1 (inr k)) ]

pub sorted_contains : (xs : List QAtom) (c : QAtom) → Contains (sorted xs) c ↔ Contains xs c
sorted_contains [] c = ((λ h. h), (λ h. h))
sorted_contains (a ∷ xs) c = go (sorted_contains xs c)
  where
    go : Contains (sorted xs) c ↔ Contains xs c → Contains (sorted (a ∷ xs)) c ↔ Contains (a ∷ xs) c
    go w = (
      (λ h. elim ((insert_contains c a (sorted xs)).0 h) [ inl e ↦ first_contains a xs c e | inr k ↦ Contains-later a xs c (w.0 k) ]),
      (λ h. (insert_contains c a (sorted xs)).1 (elim (Contains-cases a xs c h) [ inl e ↦ inl e | inr k ↦ inr (w.1 k) ])),
    )

-- what is in order stays as it is
insert_first : (a : QAtom) (xs : List QAtom) → AllByRecursion (λ b. atom_cmp a b ≡ Less) xs → insert a xs ≡ a ∷ xs
insert_first a [] h = refl
insert_first a (b ∷ xs) h = ap (λ c. cond c (a ∷ b ∷ xs) (b ∷ insert a xs)) (ap is_le h.0)

ascends_sorted : (xs : List QAtom) → Ascends xs → sorted xs ≡ xs
ascends_sorted [] h = refl
ascends_sorted (a ∷ xs) h = ap (insert a) (ascends_sorted xs h.1) ∙ insert_first a xs h.0

pub sorted_again : (xs : List QAtom) → AllApart xs → sorted (sorted xs) ≡ sorted xs
sorted_again xs h = ascends_sorted (sorted xs) (sorted_ascends xs h)

pub sorted_ordered : (xs : List QAtom) → AllApart xs → IsOrdered xs (sorted xs)
sorted_ordered xs h = record { ascending = ascends_pairs (sorted xs) (sorted_ascends xs h); same = sorted_contains xs }
