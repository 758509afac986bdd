-- Tests that tell the same, and lists that are compared place by place.
use Rattle.std.proofs.Common.{◌≡◌, ◌<◌, ◌/◌, ◌%◌, ◌↔◌, ℕ, zero, suc, List, [], ◌∷◌, length, map, get_or, Contains, Bool, true, false}
use Rattle.std.proofs.Common.{true≢false, refl, sym, ap, ◌∙◌, arith}
use Rattle.std.specs.List.{AllZip}
use Rattle.std.specs.Str.{bytes_eq}
use Rattle.std.proofs.lemmas.Slice.Eq.{bytes_eq-Decides}
use Rattle.priority_graph.specs.Split.{has}
use Rattle.priority_graph.proofs.SplitLemmas.{has_true, has_there}
use Rattle.repair_clauses.specs.BaseClauses.{present, absent}

-- two tests of one fact are the same
pub same_tests : {P : Type 0} (a b : Bool) → (a ≡ true) ↔ P → (b ≡ true) ↔ P → a ≡ b
same_tests true b t u = sym (u.1 (t.0 refl))
same_tests false true t u = absurd (true≢false (sym (t.1 (u.0 refl))))
same_tests false false t u = refl

pub same_has : (b : Bool) (list : List ℕ) (i : ℕ) → (b ≡ true) ↔ Contains list i → b ≡ has list i
same_has b list i t = same_tests b (has list i) t (has_there list i, has_true list i)

-- two lists are one, or aren't
pub same_lists : (xs ys : List ℕ) → xs ≡ ys → true ≡ bytes_eq xs ys
same_lists xs ys e = sym ((bytes_eq-Decides xs ys).1 e)

pub other_lists : (xs ys : List ℕ) → (xs ≡ ys → ⊥) → false ≡ bytes_eq xs ys
other_lists xs ys n = by (bytes_eq xs ys) (bytes_eq-Decides xs ys).0
  where
    by : (b : Bool) → (b ≡ true → xs ≡ ys) → false ≡ b
    by true h = absurd (n (h refl))
    by false h = refl

-- literals that say, each in its turn, that the facts are present
pub present_all : (ls fs : List ℕ) → length ls ≡ length fs → ((k : ℕ) → k < length ls → get_or ls k 0 ≡ present (get_or fs k 0)) → ls ≡ map present fs
present_all [] [] e h = refl
present_all [] (f ∷ fs) e h = absurd (omega arith)
present_all (l ∷ ls) [] e h = absurd (omega arith)
present_all (l ∷ ls) (f ∷ fs) e h =
    let a : l ≡ present f = h 0 (omega arith) in
    let b : ls ≡ map present fs = present_all ls fs (omega arith) (λ k m. h (suc k) (omega arith)) in
    ap (λ (x : ℕ). x ∷ ls) a ∙ ap (λ (xs : List ℕ). present f ∷ xs) b

pub present_at : (ls fs : List ℕ) → ls ≡ map present fs → (k : ℕ) → k < length fs → get_or ls k 0 ≡ present (get_or fs k 0)
present_at ls fs e k l = ap (λ (xs : List ℕ). get_or xs k 0) e ∙ at fs k l
  where
    at : (fs : List ℕ) (k : ℕ) → k < length fs → get_or (map present fs) k 0 ≡ present (get_or fs k 0)
    at [] k l = absurd (omega arith)
    at (f ∷ fs) zero l = refl
    at (f ∷ fs) (suc k) l = at fs k (omega arith)

-- a literal by its parts
pub present_from : (literal fact : ℕ) → literal % 2 ≡ 0 → literal / 2 ≡ fact → literal ≡ present fact
present_from literal fact e f = omega arith

pub absent_from : (literal fact : ℕ) → literal % 2 ≡ 1 → literal / 2 ≡ fact → literal ≡ absent fact
absent_from literal fact e f = omega arith

pub present_parts : (literal fact : ℕ) → literal ≡ present fact → (literal % 2 ≡ 0) × (literal / 2 ≡ fact)
present_parts literal fact e = (omega arith, omega arith)

pub absent_parts : (literal fact : ℕ) → literal ≡ absent fact → (literal % 2 ≡ 1) × (literal / 2 ≡ fact)
absent_parts literal fact e = (omega arith, omega arith)

-- what holds at each place of two lists
module _ {A B : Type 0} (R : A → B → Type 0) where
  pub zip_all : (xs : List A) (ys : List B) (d : A) (e : B) → length xs ≡ length ys → ((k : ℕ) → k < length xs → R (get_or xs k d) (get_or ys k e))
      → AllZip R xs ys
  zip_all [] [] d e s h = tt
  zip_all [] (y ∷ ys) d e s h = absurd (omega arith)
  zip_all (x ∷ xs) [] d e s h = absurd (omega arith)
  zip_all (x ∷ xs) (y ∷ ys) d e s h = (h 0 (omega arith), zip_all xs ys d e (omega arith) (λ k l. h (suc k) (omega arith)))

  pub zip_size : (xs : List A) (ys : List B) → AllZip R xs ys → length xs ≡ length ys
  zip_size [] [] w = refl
  zip_size [] (y ∷ ys) w = absurd w
  zip_size (x ∷ xs) [] w = absurd w
  zip_size (x ∷ xs) (y ∷ ys) (r, w) = let s = zip_size xs ys w in omega arith

  pub zip_at : (xs : List A) (ys : List B) (d : A) (e : B) → AllZip R xs ys → (k : ℕ) → k < length xs → R (get_or xs k d) (get_or ys k e)
  zip_at [] ys d e w k l = absurd (omega arith)
  zip_at (x ∷ xs) [] d e w k l = absurd w
  zip_at (x ∷ xs) (y ∷ ys) d e (r, w) zero l = r
  zip_at (x ∷ xs) (y ∷ ys) d e (r, w) (suc k) l = zip_at xs ys d e w k (omega arith)
