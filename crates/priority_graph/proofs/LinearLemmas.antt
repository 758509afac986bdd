-- A decided acyclic relation on the numbers below a bound has an order of all of them.
use Rattle.std.proofs.Common.{◌≡◌, ◌≢◌, ◌<◌, ◌≤◌, ◌+◌, ◌⊎◌, inl, inr, ℕ, zero, suc, List, [], ◌∷◌, ◌++◌, length, get_or, refl, sym, ap, subst, arith}
use Rattle.std.proofs.Common.{Contains, All}
use Rattle.std.specs.List.{AllPairs}
use Rattle.std.proofs.lemmas.Bool.{cases_eq}
use Rattle.std.proofs.lemmas.List.{length_push}
use Rattle.std.proofs.lemmas.List.Elements.{All-nil, All-cons, All-append, All-weaker, All-contains, Contains-get_or, Contains-append_left, Contains-push_cases}
use Rattle.std.proofs.lemmas.List.Quantifiers.{all_pairs_push}
use Rattle.std.proofs.lemmas.List.Kept.{AllPairs-cons}
use Rattle.cq_meaning.proofs.Listed.{member}
use Rattle.cq_meaning.proofs.Members.{Contains-nil}
use Rattle.priority_graph.specs.Relations.{Leads, IsAcyclic, IsLinear}
use Rattle.priority_graph.proofs.CountLemmas.{distinct_length}

-- all numbers below the bound have the one property, or some has the other
below_or_not : (P Q : ℕ → Type 0) → ((i : ℕ) → P i ⊎ Q i) → (n : ℕ) → ((i : ℕ) → i < n → P i) ⊎ ((i : ℕ) × (i < n) × Q i)
below_or_not P Q h zero = inl (λ i l. absurd (omega arith))
below_or_not P Q h (suc n) = go (h n) (below_or_not P Q h n)
  where
    go : P n ⊎ Q n → ((i : ℕ) → i < n → P i) ⊎ ((i : ℕ) × (i < n) × Q i) → ((i : ℕ) → i < suc n → P i) ⊎ ((i : ℕ) × (i < suc n) × Q i)
    go (inr q) w = inr (n, omega arith, q)
    go (inl p) (inr (i, l, q)) = inr (i, omega arith, q)
    go (inl p) (inl all) = inl (λ i l. elim (cases_eq n i) [ inl e ↦ subst P e p | inr d ↦ all i (omega arith) ])

module _ (n : ℕ) (R : ℕ → ℕ → Type 0) (within : (i j : ℕ) → R i j → i < n) (decided : (i j : ℕ) → R i j ⊎ (R i j → ⊥)) (acyclic : IsAcyclic R) where
  abbrev Reaches : ℕ → ℕ → Type 0
  Reaches i j = (k : ℕ) × Leads R k i j

  -- numbers below the bound, each of which reaches all later ones
  record IsPath (i : ℕ) (path : List ℕ) : Type 0 where
    first : All (Reaches i) path
    down : AllPairs Reaches path
    below : All (λ j. j < n) (i ∷ path)

  path_short : (i : ℕ) (path : List ℕ) → IsPath i path → length (i ∷ path) ≤ n
  path_short i path h = distinct_length n (i ∷ path) apart h.below
    where
      all : AllPairs Reaches (i ∷ path)
      all = AllPairs-cons Reaches i path h.first h.down

      apart : AllPairs (λ a b. a ≢ b) (i ∷ path)
      apart a b d l m e = let r = all a b d l m in acyclic r.0 (get_or (i ∷ path) a d) (subst (Leads R r.0 (get_or (i ∷ path) a d)) (sym e) r.1)

  -- the number is not in the list yet
  abbrev IsLeft : List ℕ → ℕ → Type 0
  IsLeft placed i = (i < n) × (Contains placed i → ⊥)

  -- where each that is left has one over it that is left, there are paths of any length
  grow : (placed : List ℕ) → ((i : ℕ) → IsLeft placed i → (j : ℕ) × IsLeft placed j × R j i) → (i : ℕ) → IsLeft placed i
      → (k : ℕ) → (j : ℕ) × (path : List ℕ) × IsLeft placed j × IsPath j path × (length path ≡ k)
  grow placed each i f zero = (
    i,
    [],
    f,
    record {
      first = All-nil (Reaches i);
      down = λ a b d l m. absurd (omega arith);
      below =
          All-cons (λ j. j < n) i [] f.0 (All-nil (λ j. j < n));
    },
    refl,
  )
  grow placed each i f (suc k) = more (grow placed each i f k)
    where
      more : (j : ℕ) × (path : List ℕ) × IsLeft placed j × IsPath j path × (length path ≡ k) → (j : ℕ) × (path : List ℕ) × IsLeft placed j × IsPath j path
          × (length path ≡ suc k)
      more (j, path, fj, p, l) = let b = each j fj in (
        b.0,
        j ∷ path,
        b.1,
        record {
          first = All-cons (Reaches b.0) j path (0, b.2) (All-weaker (Reaches j) (Reaches b.0) (λ x w. (suc w.0, (j, b.2, w.1))) path p.first);
          down = AllPairs-cons Reaches j path p.first p.down;
          below = All-cons (λ x. x < n) b.0 (j ∷ path) b.1.0 p.below;
        },
        ap suc l,
      )

  -- one of those that are left has none of them over it
  source : (placed : List ℕ) (i : ℕ) → IsLeft placed i → (s : ℕ) × IsLeft placed s × ((j : ℕ) → IsLeft placed j → R j s → ⊥)
  source placed i f = elim (below_or_not HasOver HasNone each n) [
    | inl all ↦ absurd (none (grow placed (λ s l. all s l.0 l) i f n))
    | inr w ↦ (w.0, (w.1, w.2.0), w.2.1)
  ]
    where
      HasOver : ℕ → Type 0
      HasOver s = IsLeft placed s → (j : ℕ) × IsLeft placed j × R j s

      HasNone : ℕ → Type 0
      HasNone s = (Contains placed s → ⊥) × ((j : ℕ) → IsLeft placed j → R j s → ⊥)

      over : (s j : ℕ) → (IsLeft placed j → R j s → ⊥) ⊎ ((Contains placed j → ⊥) × R j s)
      over s j = elim (member cases_eq j placed) [
        | inl m ↦ inl (λ l r. l.1 m)
        | inr out ↦ elim (decided j s) [ inl r ↦ inr (out, r) | inr nr ↦ inl (λ l r. nr r) ]
      ]

      each : (s : ℕ) → HasOver s ⊎ HasNone s
      each s = elim (member cases_eq s placed) [
        | inl m ↦ inl (λ l. absurd (l.1 m))
        | inr out ↦ elim (below_or_not (λ j. IsLeft placed j → R j s → ⊥) (λ j. (Contains placed j → ⊥) × R j s) (over s) n) [
          | inl none ↦ inr (out, λ j l. none j l.0 l)
          | inr w ↦ inl (λ l. (w.0, (w.1, w.2.0), w.2.1))
        ]
      ]

      none : (j : ℕ) × (path : List ℕ) × IsLeft placed j × IsPath j path × (length path ≡ n) → ⊥
      none (j, path, l, p, e) = omega (arith, path_short j path p)

  -- the beginning of an order: what is over a member is a member
  record IsFront (placed : List ℕ) : Type 0 where
    known : All (λ i. i < n) placed
    once : AllPairs (λ i j. i ≢ j) placed
    down : AllPairs (λ i j. R j i → ⊥) placed
    closed : (i j : ℕ) → Contains placed j → R i j → Contains placed i

  extend : (placed : List ℕ) → IsFront placed → (s : ℕ) → IsLeft placed s → ((j : ℕ) → IsLeft placed j → R j s → ⊥) → IsFront (placed ++ s ∷ [])
  extend placed h s l free = record {
    known = All-append (λ i. i < n) placed (s ∷ []) h.known (All-cons (λ i. i < n) s [] l.0 (All-nil (λ i. i < n)));
    once = all_pairs_push (λ i j. i ≢ j) placed s h.once (λ k d m e. l.1 (subst (Contains placed) e (Contains-get_or placed k d m)));
    down = all_pairs_push (λ i j. R j i → ⊥) placed s h.down (λ k d m r. l.1 (h.closed s (get_or placed k d) (Contains-get_or placed k d m) r));
    closed = λ i j c r. elim (Contains-push_cases placed s j c) [
      | inl m ↦ Contains-append_left placed (s ∷ []) i (h.closed i j m r)
      | inr e ↦ over i (subst (R i) (sym e) r)
    ];
  }
    where
      over : (i : ℕ) → R i s → Contains (placed ++ s ∷ []) i
      over i r = elim (member cases_eq i placed) [ inl m ↦ Contains-append_left placed (s ∷ []) i m | inr out ↦ absurd (free i (within i s r, out) r) ]

  whole : (placed : List ℕ) → IsFront placed → ((i : ℕ) → i < n → Contains placed i) → IsLinear n R placed
  whole placed h all = record { all = λ i. ((λ c. All-contains (λ j. j < n) placed i h.known c), all i); once = h.once; down = h.down }

  all_or_left : (placed : List ℕ) → ((i : ℕ) → i < n → Contains placed i) ⊎ ((i : ℕ) × (i < n) × (Contains placed i → ⊥))
  all_or_left placed = below_or_not (Contains placed) (λ i. Contains placed i → ⊥) (λ i. member cases_eq i placed) n

  too_long : (placed : List ℕ) (i : ℕ) → IsFront placed → IsLeft placed i → n ≤ length placed → ⊥
  too_long placed i h l le =
      let s = source placed i l in
      let longer = extend placed h s.0 s.1 s.2 in
      omega (arith, length_push placed s.0, distinct_length n (placed ++ s.0 ∷ []) longer.once longer.known)

  finish : (fuel : ℕ) (placed : List ℕ) → IsFront placed → n ≤ length placed + fuel → (order : List ℕ) × IsLinear n R order
  finish zero placed h l = elim (all_or_left placed) [
    | inl all ↦ (placed, whole placed h all)
    | inr w ↦ absurd (too_long placed w.0 h (w.1, w.2) (omega arith))
  ]
  finish (suc fuel) placed h l = elim (all_or_left placed) [
    | inl all ↦ (placed, whole placed h all)
    | inr w ↦ let s = source placed w.0 (w.1, w.2) in finish fuel (placed ++ s.0 ∷ []) (extend placed h s.0 s.1 s.2) (omega (arith, length_push placed s.0))
  ]

  -- all numbers below the bound, each once, each before those to which it is related
  pub linear_exists : (order : List ℕ) × IsLinear n R order
  linear_exists = finish n [] (record {
    known = All-nil (λ i. i < n);
    once = λ a b d l m. absurd (omega arith);
    down = λ a b d l m. absurd (omega arith);
    closed = λ i j c. absurd (Contains-nil j c);
  }) (omega arith)
