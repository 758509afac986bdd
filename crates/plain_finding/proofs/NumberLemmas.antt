-- The numbers of clauses in a checker: they stay in order when a clause is added and when some are forgotten.
use Rattle.std.proofs.Common.{◌≡◌, ◌<◌, ◌+◌, inl, inr, ℕ, List, [], ◌∷◌, ◌++◌, Contains, All, refl, subst, ap, arith}
use Rattle.std.specs.List.{Any}
use Rattle.std.proofs.lemmas.List.Elements.{All-contains, Contains-append_left, Contains-push, Contains-push_cases}
use Rattle.cq_terms.specs.Lists.{IsAscending}
use Rattle.cq_meaning.proofs.Ascending.{All-of}
use Rattle.repair_clauses.proofs.ListLemmas.{ascending_push}
use Rattle.rup_check.specs.State.{Numbered, IsLive}
use Rattle.plain_finding.specs.Kept.{Kept, IsNumbered}

-- some member is so
pub any_of : {X : Type 0} (P : X → Type 0) (xs : List X) (x : X) → Contains xs x → P x → Any P xs
any_of P xs x (k, l, e) w = (k, x, l, e, w)

pub of_any : {X : Type 0} (P : X → Type 0) (xs : List X) → Any P xs → (x : X) × Contains xs x × P x
of_any P xs (k, x, l, e, w) = (x, (k, l, e), w)

-- a live number stays live beside one more clause
pub live_more : (live : List Numbered) (e : Numbered) (n : ℕ) → IsLive live n → IsLive (live ++ e ∷ []) n
live_more live e n w = let (x, m, is) = of_any (λ (e : Numbered). e.number ≡ n) live w in
    any_of (λ (e : Numbered). e.number ≡ n) (live ++ e ∷ []) x (Contains-append_left live (e ∷ []) x m) is

pub live_last : (live : List Numbered) (e : Numbered) → IsLive (live ++ e ∷ []) e.number
live_last live e = any_of (λ (x : Numbered). x.number ≡ e.number) (live ++ e ∷ []) e (Contains-push live e) refl

-- a live number is below the next one
pub live_below : (live : List Numbered) (next n : ℕ) → All (λ (e : Numbered). e.number < next) live → IsLive live n → n < next
live_below live next n below w =
    let (x, m, is) = of_any (λ (e : Numbered). e.number ≡ n) live w in
    subst (λ (i : ℕ). i < next) is (All-contains (λ (e : Numbered). e.number < next) live x below m)

module _ (k : Kept) (h : IsNumbered k) (clause : List ℕ) where
  abbrev entry : Numbered
  entry = record { number = k.next; literals = clause }

  below_more : All (λ (e : Numbered). e.number < k.next + 1) (k.live ++ entry ∷ [])
  below_more = All-of (λ (e : Numbered). e.number < k.next + 1) (k.live ++ entry ∷ [])
      (λ x m. elim (Contains-push_cases k.live entry x m) [
        | inl n ↦ (let l : x.number < k.next = All-contains (λ (e : Numbered). e.number < k.next) k.live x h.below n in omega arith)
        | inr e ↦ (let same : k.next ≡ x.number = ap (λ (y : Numbered). y.number) e in omega arith)
      ])

  all_live : (numbers : List ℕ) → All (IsLive k.live) numbers → All (IsLive (k.live ++ entry ∷ [])) numbers
  all_live numbers all = All-of (IsLive (k.live ++ entry ∷ [])) numbers (λ n m. live_more k.live entry n (All-contains (IsLive k.live) numbers n all m))

  all_live_push : (numbers : List ℕ) → All (IsLive k.live) numbers → All (IsLive (k.live ++ entry ∷ [])) (numbers ++ k.next ∷ [])
  all_live_push numbers all = All-of (IsLive (k.live ++ entry ∷ [])) (numbers ++ k.next ∷ [])
      (λ n m. elim (Contains-push_cases numbers k.next n m) [
        | inl o ↦ live_more k.live entry n (All-contains (IsLive k.live) numbers n all o)
        | inr e ↦ subst (IsLive (k.live ++ entry ∷ [])) e (live_last k.live entry)
      ])

  -- each number of the list is below the next one
  pub below_next : (numbers : List ℕ) → All (IsLive k.live) numbers → (n : ℕ) → Contains numbers n → n < k.next
  below_next numbers all n m = live_below k.live k.next n h.below (All-contains (IsLive k.live) numbers n all m)

  up_push : (numbers : List ℕ) → All (IsLive k.live) numbers → IsAscending numbers → IsAscending (numbers ++ k.next ∷ [])
  up_push numbers all up = ascending_push numbers k.next up (All-of (λ n. n < k.next) numbers (below_next numbers all))

  -- one more clause, of no list
  pub numbered_more : IsNumbered (record k { live = k.live ++ entry ∷ []; next = k.next + 1 })
  numbered_more = record {
    below = below_more;
    open_live = all_live k.open_numbers h.open_live;
    learned_live = all_live k.learned_numbers h.learned_live;
    open_ascending = h.open_ascending;
    learned_ascending = h.learned_ascending;
    apart = h.apart;
  }

  -- one more clause of a cause
  pub numbered_open : IsNumbered (record k { live = k.live ++ entry ∷ []; next = k.next + 1; open_numbers = k.open_numbers ++ k.next ∷ [] })
  numbered_open = record {
    below = below_more;
    open_live = all_live_push k.open_numbers h.open_live;
    learned_live = all_live k.learned_numbers h.learned_live;
    open_ascending = up_push k.open_numbers h.open_live h.open_ascending;
    learned_ascending = h.learned_ascending;
    apart = λ n m w. elim (Contains-push_cases k.open_numbers k.next n m) [
      | inl o ↦ h.apart n o w
      | inr e ↦ (let l = below_next k.learned_numbers h.learned_live n w in absurd (omega arith))
    ];
  }

  -- one more learned clause
  pub numbered_learned : IsNumbered (record k { live = k.live ++ entry ∷ []; next = k.next + 1; learned_numbers = k.learned_numbers ++ k.next ∷ [] })
  numbered_learned = record {
    below = below_more;
    open_live = all_live k.open_numbers h.open_live;
    learned_live = all_live_push k.learned_numbers h.learned_live;
    open_ascending = h.open_ascending;
    learned_ascending = up_push k.learned_numbers h.learned_live h.learned_ascending;
    apart = λ n w m. elim (Contains-push_cases k.learned_numbers k.next n m) [
      | inl o ↦ h.apart n w o
      | inr e ↦ (let l = below_next k.open_numbers h.open_live n w in absurd (omega arith))
    ];
  }
