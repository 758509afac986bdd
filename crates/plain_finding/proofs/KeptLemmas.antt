-- Which clauses a checker has, as lists, when one is added and when some are forgotten.
use Rattle.std.proofs.Common.{◌≡◌, ◌<◌, ◌+◌, ◌⊎◌, inl, inr, ◌↔◌, ℕ, List, [], ◌∷◌, ◌++◌, map, Contains, All, Bool, true, sym, subst, ap, ◌∙◌, arith}
use Rattle.std.proofs.lemmas.List.{map-append}
use Rattle.std.proofs.lemmas.List.Elements.{All-contains, Contains-append_left, Contains-append_right, Contains-append_cases, Contains-push}
use Rattle.std.proofs.lemmas.List.Elements.{Contains-push_cases}
use Rattle.clause_meaning.specs.Refutation.{Refutes, ContainsOneOf}
use Rattle.clause_meaning.proofs.Chains.{Refutes-more}
use Rattle.clause_meaning.proofs.Members.{Contains-map, Contains-map_cases}
use Rattle.cq_meaning.proofs.Ascending.{All-of}
use Rattle.priority_graph.specs.Split.{has}
use Rattle.rup_check.specs.State.{Numbered, LiveIn, IsLive}
use Rattle.plain_finding.specs.Kept.{Kept, HasLive, IsNumbered, AreEntries, Holds}
use Rattle.plain_finding.proofs.NumberLemmas.{any_of, of_any, live_below}

-- the clauses of entries
abbrev pub literals_of : List Numbered → List (List ℕ)
literals_of entries = map (λ (e : Numbered). e.literals) entries

abbrev pub numbers_of : List Numbered → List ℕ
numbers_of entries = map (λ (e : Numbered). e.number) entries

entries_push : (entries : List Numbered) (numbers : List ℕ) (clauses : List (List ℕ)) (e : Numbered) → AreEntries entries numbers clauses
    → AreEntries (entries ++ e ∷ []) (numbers ++ e.number ∷ []) (clauses ++ e.literals ∷ [])
entries_push entries numbers clauses e are = record {
  numbers_are = map-append (λ (e : Numbered). e.number) entries (e ∷ []) ∙ ap (λ (ns : List ℕ). ns ++ e.number ∷ []) are.numbers_are;
  clauses_are = map-append (λ (e : Numbered). e.literals) entries (e ∷ []) ∙ ap (λ (cs : List (List ℕ)). cs ++ e.literals ∷ []) are.clauses_are;
}

-- exactly the members of three lists, and one more at the end of one of them
module _ (live base causes learned : List Numbered)
    (exact : (x : Numbered) → Contains live x ↔ (Contains base x ⊎ (Contains causes x ⊎ Contains learned x))) (e : Numbered) where
  here : (x : Numbered) → e ≡ x → Contains (live ++ e ∷ []) x
  here x is = subst (Contains (live ++ e ∷ [])) is (Contains-push live e)

  old : (x : Numbered) → Contains base x ⊎ (Contains causes x ⊎ Contains learned x) → Contains (live ++ e ∷ []) x
  old x w = Contains-append_left live (e ∷ []) x ((exact x).1 w)

  more : (part : List Numbered) (x : Numbered) → Contains part x → Contains (part ++ e ∷ []) x
  more part x m = Contains-append_left part (e ∷ []) x m

  last : (part : List Numbered) (x : Numbered) → e ≡ x → Contains (part ++ e ∷ []) x
  last part x is = subst (Contains (part ++ e ∷ [])) is (Contains-push part e)

  pub exact_base : (x : Numbered) → Contains (live ++ e ∷ []) x ↔ (Contains (base ++ e ∷ []) x ⊎ (Contains causes x ⊎ Contains learned x))
  exact_base x = (
    (λ m. elim (Contains-push_cases live e x m) [
      | inl n ↦ elim ((exact x).0 n) [ inl b ↦ inl (more base x b) | inr o ↦ inr o ]
      | inr is ↦ inl (last base x is)
    ]),
    elim [
      | inl b ↦ elim (Contains-push_cases base e x b) [ inl n ↦ old x (inl n) | inr is ↦ here x is ]
      | inr o ↦ old x (inr o)
    ],
  )

  pub exact_causes : (x : Numbered) → Contains (live ++ e ∷ []) x ↔ (Contains base x ⊎ (Contains (causes ++ e ∷ []) x ⊎ Contains learned x))
  exact_causes x = (
    (λ m. elim (Contains-push_cases live e x m) [
      | inl n ↦ elim ((exact x).0 n) [ inl b ↦ inl b | inr o ↦ inr (elim o [ inl c ↦ inl (more causes x c) | inr l ↦ inr l ]) ]
      | inr is ↦ inr (inl (last causes x is))
    ]),
    elim [
      | inl b ↦ old x (inl b)
      | inr o ↦ elim o [
        | inl c ↦ elim (Contains-push_cases causes e x c) [ inl n ↦ old x (inr (inl n)) | inr is ↦ here x is ]
        | inr l ↦ old x (inr (inr l))
      ]
    ],
  )

  pub exact_learned : (x : Numbered) → Contains (live ++ e ∷ []) x ↔ (Contains base x ⊎ (Contains causes x ⊎ Contains (learned ++ e ∷ []) x))
  exact_learned x = (
    (λ m. elim (Contains-push_cases live e x m) [
      | inl n ↦ elim ((exact x).0 n) [ inl b ↦ inl b | inr o ↦ inr (elim o [ inl c ↦ inl c | inr l ↦ inr (more learned x l) ]) ]
      | inr is ↦ inr (inr (last learned x is))
    ]),
    elim [
      | inl b ↦ old x (inl b)
      | inr o ↦ elim o [
        | inl c ↦ old x (inr (inl c))
        | inr l ↦ elim (Contains-push_cases learned e x l) [ inl n ↦ old x (inr (inr n)) | inr is ↦ here x is ]
      ]
    ],
  )

-- an entry that isn't among the numbers stays so beside the next number, since its own is lesser
not_among : (k : Kept) → IsNumbered k → (entries : List Numbered) (numbers : List ℕ) → ((x : Numbered) → Contains entries x → Contains k.live x)
    → All (λ (e : Numbered). ¬ Contains numbers e.number) entries → All (λ (e : Numbered). ¬ Contains (numbers ++ k.next ∷ []) e.number) entries
not_among k h entries numbers live none = All-of (λ (e : Numbered). ¬ Contains (numbers ++ k.next ∷ []) e.number) entries
    (λ x m n. elim (Contains-push_cases numbers k.next x.number n) [
      | inl o ↦ All-contains (λ (e : Numbered). ¬ Contains numbers e.number) entries x none m o
      | inr is ↦ (let l : x.number < k.next = All-contains (λ (e : Numbered). e.number < k.next) k.live x h.below (live x m) in absurd (omega arith))
    ])

module _ (k : Kept) (h : IsNumbered k) (base causes learned : List (List ℕ)) (w : Holds k base causes learned) (clause : List ℕ) where
  abbrev entry : Numbered
  entry = record { number = k.next; literals = clause }

  base_live : (x : Numbered) → Contains w.base_entries x → Contains k.live x
  base_live x m = (w.exact x).1 (inl m)

  -- the new number is none of the old ones
  fresh : (numbers : List ℕ) → All (IsLive k.live) numbers → ¬ Contains numbers k.next
  fresh numbers all m = let l = live_below k.live k.next k.next h.below (All-contains (IsLive k.live) numbers k.next all m) in absurd (omega arith)

  none_of : (numbers : List ℕ) → All (IsLive k.live) numbers → All (λ (e : Numbered). ¬ Contains numbers e.number) w.base_entries
      → All (λ (e : Numbered). ¬ Contains numbers e.number) (w.base_entries ++ entry ∷ [])
  none_of numbers all none = All-of (λ (e : Numbered). ¬ Contains numbers e.number) (w.base_entries ++ entry ∷ [])
      (λ x m n. elim (Contains-push_cases w.base_entries entry x m) [
        | inl o ↦ All-contains (λ (e : Numbered). ¬ Contains numbers e.number) w.base_entries x none o n
        | inr is ↦ fresh numbers all (subst (λ (e : Numbered). Contains numbers e.number) (sym is) n)
      ])

  pub holds_base : Holds (record k { live = k.live ++ entry ∷ []; next = k.next + 1 }) (base ++ clause ∷ []) causes learned
  holds_base = record {
    base_entries = w.base_entries ++ entry ∷ [];
    open_entries = w.open_entries;
    learned_entries = w.learned_entries;
    base_are = map-append (λ (e : Numbered). e.literals) w.base_entries (entry ∷ []) ∙ ap (λ (cs : List (List ℕ)). cs ++ clause ∷ []) w.base_are;
    open_are = w.open_are;
    learned_are = w.learned_are;
    exact = exact_base k.live w.base_entries w.open_entries w.learned_entries w.exact entry;
    not_open = none_of k.open_numbers h.open_live w.not_open;
    not_learned = none_of k.learned_numbers h.learned_live w.not_learned;
  }

  pub holds_causes : Holds (record k { live = k.live ++ entry ∷ []; next = k.next + 1; open_numbers = k.open_numbers ++ k.next ∷ [] })
      base (causes ++ clause ∷ []) learned
  holds_causes = record {
    base_entries = w.base_entries;
    open_entries = w.open_entries ++ entry ∷ [];
    learned_entries = w.learned_entries;
    base_are = w.base_are;
    open_are = entries_push w.open_entries k.open_numbers causes entry w.open_are;
    learned_are = w.learned_are;
    exact = exact_causes k.live w.base_entries w.open_entries w.learned_entries w.exact entry;
    not_open = not_among k h w.base_entries k.open_numbers base_live w.not_open;
    not_learned = w.not_learned;
  }

  pub holds_learned : Holds (record k { live = k.live ++ entry ∷ []; next = k.next + 1; learned_numbers = k.learned_numbers ++ k.next ∷ [] })
      base causes (learned ++ clause ∷ [])
  holds_learned = record {
    base_entries = w.base_entries;
    open_entries = w.open_entries;
    learned_entries = w.learned_entries ++ entry ∷ [];
    base_are = w.base_are;
    open_are = w.open_are;
    learned_are = entries_push w.learned_entries k.learned_numbers learned entry w.learned_are;
    exact = exact_learned k.live w.base_entries w.open_entries w.learned_entries w.exact entry;
    not_open = w.not_open;
    not_learned = not_among k h w.base_entries k.learned_numbers base_live w.not_learned;
  }

-- what holds are the live clauses
pub holds_live : (k : Kept) (base causes learned : List (List ℕ)) → Holds k base causes learned → HasLive k (base ++ causes ++ learned)
holds_live k base causes learned w c = (to, from)
  where
    live : (x : Numbered) → Contains k.live x → x.literals ≡ c → LiveIn k.live c
    live x m is = any_of (λ (e : Numbered). e.literals ≡ c) k.live x m is

    of : (part : List Numbered) (clauses : List (List ℕ)) → literals_of part ≡ clauses → ((x : Numbered) → Contains part x → Contains k.live x)
        → Contains clauses c → LiveIn k.live c
    of part clauses are inside m = let v = Contains-map_cases (λ (e : Numbered). e.literals) part c (subst (λ (cs : List (List ℕ)). Contains cs c)
        (sym are) m) in
        live v.0 (inside v.0 v.1) v.2

    to : Contains (base ++ causes ++ learned) c → LiveIn k.live c
    to m = elim (Contains-append_cases (base ++ causes) learned c m) [
      | inl n ↦ elim (Contains-append_cases base causes c n) [
        | inl b ↦ of w.base_entries base w.base_are (λ x v. (w.exact x).1 (inl v)) b
        | inr o ↦ of w.open_entries causes w.open_are.clauses_are (λ x v. (w.exact x).1 (inr (inl v))) o
      ]
      | inr l ↦ of w.learned_entries learned w.learned_are.clauses_are (λ x v. (w.exact x).1 (inr (inr v))) l
    ]

    within : (part : List Numbered) (clauses : List (List ℕ)) → literals_of part ≡ clauses → (x : Numbered) → Contains part x → x.literals ≡ c
        → Contains clauses c
    within part clauses are x m is = subst (λ (cs : List (List ℕ)). Contains cs c) are
        (subst (Contains (literals_of part)) is (Contains-map (λ (e : Numbered). e.literals) part x m))

    from : LiveIn k.live c → Contains (base ++ causes ++ learned) c
    from v = let (x, m, is) = of_any (λ (e : Numbered). e.literals ≡ c) k.live v in elim ((w.exact x).0 m) [
      | inl b ↦ Contains-append_left (base ++ causes) learned c (Contains-append_left base causes c (within w.base_entries base w.base_are x b is))
      | inr o ↦ elim o [
        | inl n ↦ Contains-append_left (base ++ causes) learned c
            (Contains-append_right base causes c (within w.open_entries causes w.open_are.clauses_are x n is))
        | inr l ↦ Contains-append_right (base ++ causes) learned c (within w.learned_entries learned w.learned_are.clauses_are x l is)
      ]
    ]

-- what the live clauses refute and have within a clause is what a list of them does
pub refutes_told : (live : List Numbered) (listed : List (List ℕ)) (assume : List ℕ) (answer : Bool)
    → ((c : List ℕ) → Contains listed c ↔ LiveIn live c) → (answer ≡ true) ↔ Refutes (LiveIn live) (Contains assume)
    → (answer ≡ true) ↔ Refutes (Contains listed) (Contains assume)
refutes_told live listed assume answer has t = (
  (λ e. Refutes-more (LiveIn live) (Contains listed) (Contains assume) (Contains assume) (λ c m. (has c).1 m) (λ l m. m) (t.0 e)),
  (λ r. t.1 (Refutes-more (Contains listed) (LiveIn live) (Contains assume) (Contains assume) (λ c m. (has c).0 m) (λ l m. m) r)),
)

pub contains_told : (live : List Numbered) (listed : List (List ℕ)) (clause : List ℕ) (answer : Bool)
    → ((c : List ℕ) → Contains listed c ↔ LiveIn live c) → (answer ≡ true) ↔ ContainsOneOf (LiveIn live) clause
    → (answer ≡ true) ↔ ContainsOneOf (Contains listed) clause
contains_told live listed clause answer has t = (
  (λ e. let w = t.0 e in (w.0, (has w.0).1 w.1, w.2)),
  (λ w. t.1 (w.0, (has w.0).0 w.1, w.2)),
)
