-- What a loop over a list has met, and the keys that it has gathered.
use Rattle.std.proofs.Common.{◌≡◌, ℕ, ◌+◌, ◌<◌, ◌≤◌, List, [], ◌∷◌, ◌++◌, length, get_or, Contains, ◌⊎◌, inl, inr, slice_get, Some, refl, sym, ap, ◌∙◌, subst}
use Rattle.std.proofs.Common.{arith}
use Rattle.std.proofs.lemmas.Bool.{cases_lt}
use Rattle.std.proofs.lemmas.Option.{slice_get-get_or, slice_get_within}
use Rattle.cq_terms.specs.declared.facts.Fact.{Fact}
use Rattle.cq_terms.specs.declared.hits.Hit.{Hit}
use Rattle.cq_terms.specs.Query.{Query}
use Rattle.cq_meaning.specs.Entailment.{HasImage}
use Rattle.cq_meaning.proofs.Listed.{append_left, append_right, append_cases}
use Rattle.cq_meaning.proofs.Members.{Contains-cases, Contains-nil, Contains-one, Contains-slice_get, slice_get-Contains}
use Rattle.cq_meaning.proofs.Places.{some_inj}
use Rattle.conflict_finder.specs.declared.clash_facts.ClashFacts.{ClashFacts}
use Rattle.conflict_finder.specs.declared.clash_facts.ClashFacts.TheVariants.{One, Two}
use Rattle.conflict_finder.specs.declared.first_shown.Source.{Source}
use Rattle.conflict_finder.specs.Images.{AreKeys, IsTwoAt}
use Rattle.conflict_finder.specs.FirstShown.{numbers_of, AddsNew}
use Rattle.conflict_finder.proofs.Entries.{adds_like, adds_none, adds_then}

-- ---- places

-- the item stands before the place
abbrev pub IsMet : {X : Type 0} → List X → ℕ → X → Type 0
IsMet xs n x = (i : ℕ) × (i < n) × (slice_get xs i ≡ Some x)

module _ {X : Type 0} (xs : List X) where
  pub item_at : (n : ℕ) (d : X) → n < length xs → slice_get xs n ≡ Some (get_or xs n d)
  item_at n d l = slice_get-get_or xs n d l

  pub met_none : (x : X) → IsMet xs 0 x → ⊥
  met_none x (i, l, e) = omega arith

  pub met_all : (n : ℕ) → length xs ≤ n → (x : X) → Contains xs x → IsMet xs n x
  met_all n l x c = let w = slice_get-Contains xs x c in (w.0, (let k = slice_get_within xs w.0 x w.1 in omega (arith, k, l)), w.1)

  pub met_there : (n : ℕ) (x : X) → IsMet xs n x → Contains xs x
  met_there n x (i, l, e) = Contains-slice_get xs i x e

  pub met_before : (n : ℕ) (x : X) → IsMet xs n x → IsMet xs (n + 1) x
  met_before n x (i, l, e) = (i, omega arith, e)

  pub met_here : (n : ℕ) (x : X) → slice_get xs n ≡ Some x → IsMet xs (n + 1) x
  met_here n x e = (n, omega arith, e)

  pub met_cases : (n : ℕ) (y : X) → slice_get xs n ≡ Some y → (x : X) → IsMet xs (n + 1) x → IsMet xs n x ⊎ (x ≡ y)
  met_cases n y at x (i, l, e) = elim (cases_lt i n) [
    | inl k ↦ inl (i, k, e)
    | inr k ↦ inr (let same : i ≡ n = omega arith in some_inj (sym e ∙ ap (slice_get xs) same ∙ at))
  ]

-- ---- keys

module _ (P Q : ClashFacts → Type 0) (keys : List (ClashFacts)) where
  pub keys_like : AreKeys P keys → ((k : ClashFacts) → P k → Q k) → ((k : ClashFacts) → Q k → P k) → AreKeys Q keys
  keys_like are f g k = ((λ c. f k ((are k).0 c)), (λ q. (are k).1 (g k q)))

  pub keys_push : (x : ClashFacts) → AreKeys P keys → ((k : ClashFacts) → Q k → P k ⊎ (k ≡ x)) → ((k : ClashFacts) → P k → Q k) → Q x
      → AreKeys Q (keys ++ x ∷ [])
  keys_push x are f g here k = ((λ c. there (append_cases keys (x ∷ []) k c)), (λ q. back (f k q)))
    where
      last : (x ≡ k) ⊎ Contains [] k → Q k
      last (inl e) = subst Q e here
      last (inr z) = absurd (Contains-nil k z)

      there : Contains keys k ⊎ Contains (x ∷ []) k → Q k
      there (inl c) = g k ((are k).0 c)
      there (inr c) = last (Contains-cases x [] k c)

      back : P k ⊎ (k ≡ x) → Contains (keys ++ x ∷ []) k
      back (inl p) = append_left keys (x ∷ []) k ((are k).1 p)
      back (inr e) = append_right keys (x ∷ []) k (Contains-one x k e)

pub keys_none : (P : ClashFacts → Type 0) → ((k : ClashFacts) → P k → ⊥) → AreKeys P []
keys_none P none k = ((λ c. absurd (Contains-nil k c)), (λ p. absurd (none k p)))

-- ---- keys that are noted

module _ (keys : List (ClashFacts)) (source : Source) (old : List (ClashFacts × Source)) where
  pub noted_none : AddsNew (IsMet keys 0) source old old
  noted_none = adds_none (IsMet keys 0) source old (met_none keys)

  pub noted_more : (n : ℕ) (x : ClashFacts) → slice_get keys n ≡ Some x → (mid new : List (ClashFacts × Source))
      → AddsNew (IsMet keys n) source old mid → AddsNew (λ k. k ≡ x) source mid new → AddsNew (IsMet keys (n + 1)) source old new
  noted_more n x at mid new a b =
      adds_like (λ k. IsMet keys n k ⊎ (k ≡ x)) (IsMet keys (n + 1)) source old new to (met_cases keys n x at)
      (adds_then (IsMet keys n) (λ k. k ≡ x) source old mid new a b)
    where
      to : (k : ClashFacts) → IsMet keys n k ⊎ (k ≡ x) → IsMet keys (n + 1) k
      to k (inl m) = met_before keys n k m
      to k (inr e) = subst (IsMet keys (n + 1)) (sym e) (met_here keys n x at)

  pub noted_all : (n : ℕ) → length keys ≤ n → (new : List (ClashFacts × Source)) → AddsNew (IsMet keys n) source old new
      → AddsNew (λ k. Contains keys k) source old new
  noted_all n l new a = adds_like (IsMet keys n) (λ k. Contains keys k) source old new (met_there keys n) (met_all keys n l) a

-- ---- single facts

-- the key is that of an item before the place with which alone the query matches
abbrev pub IsSingle : List Fact → Query → List ℕ → ℕ → ClashFacts → Type 0
IsSingle facts q items i k = (n : ℕ) × IsMet items i n × (k ≡ One n) × HasImage facts q [] (n ∷ [])

module _ (facts : List Fact) (q : Query) (items : List ℕ) where
  pub single_none : AreKeys (IsSingle facts q items 0) []
  single_none = keys_none (IsSingle facts q items 0) (λ k w. met_none items w.0 w.1)

  module _ (i n : ℕ) (at : slice_get items i ≡ Some n) (keys : List ClashFacts) (are : AreKeys (IsSingle facts q items i) keys) where
    before : (k : ClashFacts) → IsSingle facts q items i k → IsSingle facts q items (i + 1) k
    before k (m, met, e, h) = (m, met_before items i m met, e, h)

    pub single_kept : (HasImage facts q [] (n ∷ []) → ⊥) → AreKeys (IsSingle facts q items (i + 1)) keys
    single_kept never = keys_like (IsSingle facts q items i) (IsSingle facts q items (i + 1)) keys are before (λ k w. by k w (met_cases items i n at w.0 w.1))
      where
        by : (k : ClashFacts) → (w : IsSingle facts q items (i + 1) k) → IsMet items i w.0 ⊎ (w.0 ≡ n) → IsSingle facts q items i k
        by k w (inl met) = (w.0, met, w.2, w.3)
        by k w (inr e) = absurd (never (subst (λ m. HasImage facts q [] (m ∷ [])) e w.3))

    pub single_found : HasImage facts q [] (n ∷ []) → AreKeys (IsSingle facts q items (i + 1)) (keys ++ One n ∷ [])
    single_found h = keys_push (IsSingle facts q items i) (IsSingle facts q items (i + 1)) keys (One n) are (λ k w. by k w (met_cases items i n at w.0 w.1))
        before (n, met_here items i n at, refl, h)
      where
        by : (k : ClashFacts) → (w : IsSingle facts q items (i + 1) k) → IsMet items i w.0 ⊎ (w.0 ≡ n) → IsSingle facts q items i k ⊎ (k ≡ One n)
        by k w (inl met) = inl (w.0, met, w.2, w.3)
        by k w (inr e) = inr (w.2 ∙ ap One e)

  pub single_all : (i : ℕ) → length items ≤ i → ((n : ℕ) → HasImage facts q [] (n ∷ []) → Contains items n) → (keys : List ClashFacts)
      → AreKeys (IsSingle facts q items i) keys
      → AreKeys (λ k. (length (numbers_of k) ≡ 1) × HasImage facts q [] (numbers_of k)) keys
  single_all i l complete keys are = keys_like (IsSingle facts q items i) (λ k. (length (numbers_of k) ≡ 1) × HasImage facts q [] (numbers_of k)) keys are
      there back
    where
      there : (k : ClashFacts) → IsSingle facts q items i k → (length (numbers_of k) ≡ 1) × HasImage facts q [] (numbers_of k)
      there k (n, met, e, h) = subst (λ (z : ClashFacts). (length (numbers_of z) ≡ 1) × HasImage facts q [] (numbers_of z)) (sym e) (refl, h)

      back : (k : ClashFacts) → (length (numbers_of k) ≡ 1) × HasImage facts q [] (numbers_of k) → IsSingle facts q items i k
      back (One n) (one, h) = (n, met_all items i l n (complete n h), refl, h)
      back (Two a b) (one, h) = absurd (omega (arith, one))

-- ---- pairs

-- the key is that of a hit before the place whose image has two facts
abbrev pub IsPair : List Hit → List ℕ → ℕ → ClashFacts → Type 0
IsPair hits numbers n k = (h : Hit) × IsMet hits n h × IsTwoAt numbers h.image k

-- the key is that of a hit whose image has two facts
abbrev pub IsPairOf : List Hit → List ℕ → ClashFacts → Type 0
IsPairOf hits numbers k = (h : Hit) × Contains hits h × IsTwoAt numbers h.image k

module _ (numbers image : List ℕ) where
  -- there are no other two facts
  same_two : (a b c d i j x y : ℕ) → image ≡ i ∷ j ∷ [] → image ≡ x ∷ y ∷ [] → slice_get numbers i ≡ Some a → slice_get numbers j ≡ Some b
      → slice_get numbers x ≡ Some c → slice_get numbers y ≡ Some d → Two a b ≡ Two c d
  same_two a b c d i j x y e f at_i at_j at_x at_y = cc

  one_key : (k j : ClashFacts) → IsTwoAt numbers image k → IsTwoAt numbers image j → k ≡ j
  one_key (One a) j s t = absurd s
  one_key (Two a b) (One c) s t = absurd t
  one_key (Two a b) (Two c d) s t = same_two a b c d s.0 s.1 t.0 t.1 s.2 t.2 s.3 s.4 t.3 t.4

  no_key : ((i j : ℕ) → image ≡ i ∷ j ∷ [] → ⊥) → (k : ClashFacts) → IsTwoAt numbers image k → ⊥
  no_key never (One a) t = t
  no_key never (Two a b) t = never t.0 t.1 t.2

module _ (hits : List Hit) (numbers : List ℕ) where
  pub pair_none : AreKeys (IsPair hits numbers 0) []
  pair_none = keys_none (IsPair hits numbers 0) (λ k w. met_none hits w.0 w.1)

  module _ (n : ℕ) (h : Hit) (at : slice_get hits n ≡ Some h) (keys : List ClashFacts) (are : AreKeys (IsPair hits numbers n) keys) where
    before_pair : (k : ClashFacts) → IsPair hits numbers n k → IsPair hits numbers (n + 1) k
    before_pair k w = (w.0, met_before hits n w.0 w.1, w.2)

    pub pair_kept : ((i j : ℕ) → h.image ≡ i ∷ j ∷ [] → ⊥) → AreKeys (IsPair hits numbers (n + 1)) keys
    pair_kept never = keys_like (IsPair hits numbers n) (IsPair hits numbers (n + 1)) keys are before_pair (λ k w. by k w (met_cases hits n h at w.0 w.1))
      where
        by : (k : ClashFacts) → (w : IsPair hits numbers (n + 1) k) → IsMet hits n w.0 ⊎ (w.0 ≡ h) → IsPair hits numbers n k
        by k w (inl met) = (w.0, met, w.2)
        by k w (inr e) = absurd (no_key numbers h.image never k (subst (λ (g : Hit). IsTwoAt numbers g.image k) e w.2))

    pub pair_found : (new : ClashFacts) → IsTwoAt numbers h.image new → AreKeys (IsPair hits numbers (n + 1)) (keys ++ new ∷ [])
    pair_found new two = keys_push (IsPair hits numbers n) (IsPair hits numbers (n + 1)) keys new are (λ k w. by k w (met_cases hits n h at w.0 w.1))
        before_pair (h, met_here hits n h at, two)
      where
        by : (k : ClashFacts) → (w : IsPair hits numbers (n + 1) k) → IsMet hits n w.0 ⊎ (w.0 ≡ h) → IsPair hits numbers n k ⊎ (k ≡ new)
        by k w (inl met) = inl (w.0, met, w.2)
        by k w (inr e) = inr (one_key numbers h.image k new (subst (λ (g : Hit). IsTwoAt numbers g.image k) e w.2) two)

  pub pair_all : (n : ℕ) → length hits ≤ n → (keys : List ClashFacts) → AreKeys (IsPair hits numbers n) keys → AreKeys (IsPairOf hits numbers) keys
  pair_all n l keys are = keys_like (IsPair hits numbers n) (IsPairOf hits numbers) keys are
      (λ k w. (w.0, met_there hits n w.0 w.1, w.2))
      (λ k w. (w.0, met_all hits n l w.0 w.1, w.2))
