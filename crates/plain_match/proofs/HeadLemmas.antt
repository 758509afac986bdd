-- A head bound to a tuple, term by term.
use Rattle.std.proofs.Common.{◌≡◌, ℕ, zero, suc, ◌+◌, ◌<◌, ◌≤◌, List, [], ◌∷◌, length, get_or, take, take_all, Bool, true, false, refl, subst, arith}
use Rattle.std.specs.List.{AllZip}
use Rattle.std.proofs.lemmas.List.{take_more}
use Rattle.cq_terms.specs.declared.query.Term.{Term}
use Rattle.query_matching.specs.declared.bindings.Binding.{Binding}
use Rattle.query_matching.specs.Bindings.{TermIs, HeadIs, Binds, AreConsistent}
use Rattle.plain_match.specs.Endings.{NoVariable}
use Rattle.query_matching.proofs.BindingLemmas.{binds_none, binds_never, binds_both, binds_not_first}
use Rattle.query_matching.proofs.TupleLemmas.{AllZip-push}

module _ {A B : Type 0} (R : A → B → Type 0) where
  pub AllZip-length : (xs : List A) (ys : List B) → AllZip R xs ys → length xs ≡ length ys
  AllZip-length [] [] all = refl
  AllZip-length [] (y ∷ ys) all = absurd all
  AllZip-length (x ∷ xs) [] all = absurd all
  AllZip-length (x ∷ xs) (y ∷ ys) all = let h = AllZip-length xs ys all.1 in omega (arith, h)

  AllZip-take : (i : ℕ) (xs : List A) (ys : List B) → AllZip R xs ys → AllZip R (take i xs) (take i ys)
  AllZip-take zero xs ys all = tt
  AllZip-take (suc i) [] [] all = tt
  AllZip-take (suc i) [] (y ∷ ys) all = absurd all
  AllZip-take (suc i) (x ∷ xs) [] all = absurd all
  AllZip-take (suc i) (x ∷ xs) (y ∷ ys) all = (all.0, AllZip-take i xs ys all.1)

  AllZip-at : (i : ℕ) (xs : List A) (ys : List B) (d : A) (e : B) → AllZip R xs ys → i < length xs → R (get_or xs i d) (get_or ys i e)
  AllZip-at i [] ys d e all lt = absurd (omega (arith, lt))
  AllZip-at i (x ∷ xs) [] d e all lt = absurd all
  AllZip-at zero (x ∷ xs) (y ∷ ys) d e all lt = all.0
  AllZip-at (suc i) (x ∷ xs) (y ∷ ys) d e all lt = AllZip-at i xs ys d e all.1 (omega (arith, lt))

  AllZip-more : (i : ℕ) (xs : List A) (ys : List B) (d : A) (e : B) → i < length xs → i < length ys → AllZip R (take i xs) (take i ys)
      → R (get_or xs i d) (get_or ys i e) → AllZip R (take (i + 1) xs) (take (i + 1) ys)
  AllZip-more i xs ys d e left right all here = rw (take_more xs i d left, take_more ys i e right)
      (AllZip-push R (take i xs) (take i ys) (get_or xs i d) (get_or ys i e) all here)

  -- the first i + 1 are the first i and the next
  AllZip-less : (i : ℕ) (xs : List A) (ys : List B) (d : A) (e : B) → AllZip R (take (suc i) xs) (take (suc i) ys) → i < length xs
      → AllZip R (take i xs) (take i ys) × R (get_or xs i d) (get_or ys i e)
  AllZip-less i [] ys d e all lt = absurd (omega (arith, lt))
  AllZip-less i (x ∷ xs) [] d e all lt = absurd all
  AllZip-less zero (x ∷ xs) (y ∷ ys) d e all lt = (tt, all.0)
  AllZip-less (suc i) (x ∷ xs) (y ∷ ys) d e all lt = let h = AllZip-less i xs ys d e all.1 (omega (arith, lt)) in ((all.0, h.0), h.1)

module _ (head : List Term) (tuple : List ℕ) (old : List Binding) where
  -- a head is no tuple of another length
  pub head_is_longer : (length head ≡ length tuple → ⊥) → Binds (λ v. HeadIs v head tuple) NoVariable old old false
  head_is_longer other = binds_never (λ v. HeadIs v head tuple) NoVariable old (λ v agrees is. other (AllZip-length (TermIs v) head tuple is))

  pub head_none : AreConsistent old → Binds (λ v. HeadIs v (take 0 head) (take 0 tuple)) NoVariable old old true
  head_none consistent = binds_none (λ v. HeadIs v (take 0 head) (take 0 tuple)) NoVariable old consistent (λ v agrees. tt) (λ l none. absurd none)

  module _ (i : ℕ) (d : Term) (e : ℕ) (stands : ℕ → Type 0) (mid new : List Binding) (within : i < length head) (same : length head ≡ length tuple)
      (left : Binds (λ v. HeadIs v (take i head) (take i tuple)) NoVariable old mid true) where
    -- one more term of the head
    pub head_more : Binds (λ v. TermIs v (get_or head i d) (get_or tuple i e)) stands mid new true
        → Binds (λ v. HeadIs v (take (i + 1) head) (take (i + 1) tuple)) NoVariable old new true
    head_more right =
        binds_both (λ v. HeadIs v (take i head) (take i tuple)) (λ v. TermIs v (get_or head i d) (get_or tuple i e))
        (λ v. HeadIs v (take (i + 1) head) (take (i + 1) tuple)) NoVariable stands NoVariable old mid new true
        (λ v is. AllZip-less (TermIs v) i head tuple d e (subst (λ (n : ℕ). HeadIs v (take n head) (take n tuple)) next is) within)
        (λ v p q. AllZip-more (TermIs v) i head tuple d e within (omega (arith, within, same)) p q) (λ l none. absurd none) left right
      where
        next : i + 1 ≡ suc i
        next = omega arith

    -- a term of the head doesn't fit
    pub head_stops : Binds (λ v. TermIs v (get_or head i d) (get_or tuple i e)) stands mid new false → Binds (λ v. HeadIs v head tuple) NoVariable old new false
    head_stops right =
        let parts = binds_both (λ v. HeadIs v (take i head) (take i tuple)) (λ v. TermIs v (get_or head i d) (get_or tuple i e))
        (λ v. HeadIs v (take i head) (take i tuple) × TermIs v (get_or head i d) (get_or tuple i e)) NoVariable stands NoVariable old mid new false
        (λ v h. h) (λ v p q. (p, q)) (λ l none. absurd none) left right in
        binds_not_first (λ v. HeadIs v (take i head) (take i tuple) × TermIs v (get_or head i d) (get_or tuple i e)) (λ v. HeadIs v head tuple) NoVariable
        NoVariable old new
        (λ v is. (AllZip-take (TermIs v) i head tuple is, AllZip-at (TermIs v) i head tuple d e is within)) parts

  -- at its end the whole head is bound
  pub head_all : (i : ℕ) (new : List Binding) (fits : Bool) → length head ≤ i → length head ≡ length tuple
      → Binds (λ v. HeadIs v (take i head) (take i tuple)) NoVariable old new fits → Binds (λ v. HeadIs v head tuple) NoVariable old new fits
  head_all i new fits past same binds =
      subst (λ (xs : List Term). Binds (λ v. HeadIs v xs tuple) NoVariable old new fits) (take_all i head past)
      (subst (λ (ys : List ℕ). Binds (λ v. HeadIs v (take i head) ys) NoVariable old new fits) (take_all i tuple (omega (arith, past, same))) binds)
