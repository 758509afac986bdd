-- Numbers that ascend below the next one.
use Rattle.std.proofs.Common.{ℕ, suc, ◌<◌, ◌+◌, List, [], ◌∷◌, ◌++◌, All, AllPairs, Bool, true, false, cond, Option, Some, None, arith}
use Rattle.std.specs.List.{filter}
use Rattle.std.proofs.lemmas.List.Elements.{All-nil, All-cons, All-head, All-tail, All-push, All-weaker}
use Rattle.std.proofs.lemmas.List.Kept.{AllPairs-cons}
use Rattle.std.proofs.lemmas.List.Quantifiers.{all_pairs_push}
use Rattle.cdcl_core.specs.State.{LiveClause, put_number, numbers_in}
use Rattle.cdcl_core.specs.Store.{AreNumbered}

pub AreNumbered-nil : (next : ℕ) → AreNumbered next []
AreNumbered-nil next = record { ascending = λ i j d p q. absurd (omega arith); below = All-nil (λ n. n < next) }

-- the next number comes last
pub AreNumbered-push : (next : ℕ) (numbers : List ℕ) → AreNumbered next numbers → AreNumbered (next + 1) (numbers ++ next ∷ [])
AreNumbered-push next numbers h = record {
  ascending = all_pairs_push (λ m n. m < n) numbers next h.ascending (λ k d p. h.below k d p);
  below = All-push (λ n. n < next + 1) numbers next (All-weaker (λ n. n < next) (λ n. n < next + 1) (λ n p. omega arith) numbers h.below) (omega arith);
}

abbrev less : ℕ → ℕ → Type 0
less m n = m < n

tail_pairs : (x : ℕ) (xs : List ℕ) → AllPairs less (x ∷ xs) → AllPairs less xs
tail_pairs x xs h i j d p q = h (suc i) (suc j) d (omega arith) (omega arith)

head_less : (x : ℕ) (xs : List ℕ) → AllPairs less (x ∷ xs) → All (less x) xs
head_less x xs h k d p = h 0 (suc k) d (omega arith) (omega arith)

-- the number, and those after it
All-put_number : (P : ℕ → Type 0) (n : Option ℕ) (xs ys : List ℕ) → All P (put_number n xs) → All P ys → All P (put_number n ys)
All-put_number P None xs ys h k = k
All-put_number P (Some m) xs ys h k = All-cons P m ys (All-head P m xs h) k

All-after_number : (P : ℕ → Type 0) (n : Option ℕ) (xs : List ℕ) → All P (put_number n xs) → All P xs
All-after_number P None xs h = h
All-after_number P (Some m) xs h = All-tail P m xs h

-- fewer clauses have fewer numbers
pub All-numbers_filter : (P : ℕ → Type 0) (p : LiveClause → Bool) (live : List LiveClause) → All P (numbers_in live) → All P (numbers_in (filter p live))
All-numbers_filter P p [] h = h
All-numbers_filter P p (x ∷ xs) h = step (p x) (All-numbers_filter P p xs (All-after_number P x.number (numbers_in xs) h))
  where
    step : (b : Bool) → All P (numbers_in (filter p xs)) → All P (numbers_in (cond b (x ∷ filter p xs) (filter p xs)))
    step true k = All-put_number P x.number (numbers_in xs) (numbers_in (filter p xs)) h k
    step false k = k

pairs_after_number : (n : Option ℕ) (xs : List ℕ) → AllPairs less (put_number n xs) → AllPairs less xs
pairs_after_number None xs h = h
pairs_after_number (Some m) xs h = tail_pairs m xs h

pairs_put_number : (p : LiveClause → Bool) (n : Option ℕ) (xs : List LiveClause) → AllPairs less (put_number n (numbers_in xs))
    → AllPairs less (numbers_in (filter p xs))
    → AllPairs less (put_number n (numbers_in (filter p xs)))
pairs_put_number p None xs h k = k
pairs_put_number p (Some m) xs h k = AllPairs-cons less m (numbers_in (filter p xs)) (All-numbers_filter (less m) p xs (head_less m (numbers_in xs) h)) k

pub ascending_filter : (p : LiveClause → Bool) (live : List LiveClause) → AllPairs less (numbers_in live) → AllPairs less (numbers_in (filter p live))
ascending_filter p [] h = h
ascending_filter p (x ∷ xs) h = step (p x) (ascending_filter p xs (pairs_after_number x.number (numbers_in xs) h))
  where
    step : (b : Bool) → AllPairs less (numbers_in (filter p xs)) → AllPairs less (numbers_in (cond b (x ∷ filter p xs) (filter p xs)))
    step true k = pairs_put_number p x.number xs h k
    step false k = k

pub AreNumbered-filter : (next : ℕ) (p : LiveClause → Bool) (live : List LiveClause) → AreNumbered next (numbers_in live)
    → AreNumbered next (numbers_in (filter p live))
AreNumbered-filter next p live h = record {
  ascending = ascending_filter p live h.ascending;
  below = All-numbers_filter (λ n. n < next) p live h.below;
}
