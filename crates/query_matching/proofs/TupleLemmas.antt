-- The tuple of a head.
use Rattle.std.proofs.Common.{ℕ, ◌<◌, List, [], ◌∷◌, length, get_or, inl, inr, arith, take, ◌+◌, ◌++◌}
use Rattle.std.specs.List.{AllZip}
use Rattle.std.proofs.lemmas.List.{take_more}
use Rattle.cq_terms.specs.declared.query.Term.{Term}
use Rattle.cq_terms.specs.declared.query.Term.TheVariants as term
use Rattle.query_matching.specs.declared.bindings.Binding.{Binding}
use Rattle.query_matching.specs.Bindings.{MayBeSeveral, TermIs, HeadIs}
use Rattle.query_matching.specs.Extensions.{IsCovered}

-- a covered term of a whole match is one individual
pub covered_is_one : (bindings : List Binding) (t : Term) → IsCovered bindings [] t → MayBeSeveral bindings t → ⊥
covered_is_one bindings (term.Var l) (inl bound) several = several bound
covered_is_one bindings (term.Var l) (inr (k, a, lt, at, here)) several = absurd (omega arith)
covered_is_one bindings (term.Ind c) covered several = several
covered_is_one bindings term.Any covered several = covered

pub AllZip-push : {A B : Type 0} (R : A → B → Type 0) (xs : List A) (ys : List B) (x : A) (y : B) → AllZip R xs ys → R x y
    → AllZip R (xs ++ x ∷ []) (ys ++ y ∷ [])
AllZip-push R [] [] x y all here = (here, tt)
AllZip-push R [] (z ∷ ys) x y all here = absurd all
AllZip-push R (z ∷ xs) [] x y all here = absurd all
AllZip-push R (w ∷ xs) (z ∷ ys) x y all here = (all.0, AllZip-push R xs ys x y all.1 here)

-- one more term of the head
pub tuple_more : (v : ℕ → ℕ) (head : List Term) (i : ℕ) (d : Term) (tuple : List ℕ) (c : ℕ) → i < length head → HeadIs v (take i head) tuple
    → TermIs v (get_or head i d) c → HeadIs v (take (i + 1) head) (tuple ++ c ∷ [])
tuple_more v head i d tuple c lt before here = rw (take_more head i d lt) (AllZip-push (TermIs v) (take i head) tuple (get_or head i d) c before here)
