-- Blanks at either end, and digits.
use Rattle.std.proofs.Common.{◌≡◌, ℕ, Bool, true, false, ◌&&◌, List, [], ◌∷◌, ◌++◌, length, refl, sym, ap, ◌∙◌, arith, if◌then◌else◌}
use Rattle.std.specs.List.{list_all}
use Rattle.fact_tables.specs.Numbers.{after_blanks, before_blanks, is_blank}

-- ---- at the front

pub front_here : (xs : List ℕ) (b : ℕ) (rest : List ℕ) → xs ≡ b ∷ rest → is_blank b ≡ false → xs ≡ after_blanks xs
unfolding after_blanks
front_here xs b rest e blank_not = rw (e, blank_not) refl

pub front_skip : (xs : List ℕ) (b : ℕ) (rest : List ℕ) → xs ≡ b ∷ rest → is_blank b ≡ true → after_blanks rest ≡ after_blanks xs
unfolding after_blanks
front_skip xs b rest e blank_is = rw (e, blank_is) refl

pub front_end : (xs : List ℕ) → length xs ≡ 0 → xs ≡ after_blanks xs
unfolding after_blanks
front_end [] e = refl
front_end (x ∷ xs) e = absurd (omega (arith, e))

-- ---- at the end

list_all-push : (p : ℕ → Bool) (xs : List ℕ) (x : ℕ) → list_all p (xs ++ x ∷ []) ≡ (list_all p xs && p x)
list_all-push p [] x = by (p x)
  where
    by : (b : Bool) → (b && true) ≡ b
    by true = refl
    by false = refl
list_all-push p (y ∷ xs) x = by (p y) (list_all-push p xs x)
  where
    by : (b : Bool) → list_all p (xs ++ x ∷ []) ≡ (list_all p xs && p x) → (b && list_all p (xs ++ x ∷ [])) ≡ ((b && list_all p xs) && p x)
    by true h = h
    by false h = refl

none_after : (b : Bool) → (b && false) ≡ false
none_after true = refl
none_after false = refl

as_before : (b : Bool) → (b && true) ≡ b
as_before true = refl
as_before false = refl

before_here : (xs : List ℕ) (b : ℕ) → is_blank b ≡ false → before_blanks (xs ++ b ∷ []) ≡ xs ++ b ∷ []
unfolding before_blanks
before_here [] b blank_not = rw blank_not refl
before_here (x ∷ xs) b blank_not =
    let none : list_all is_blank (x ∷ xs ++ b ∷ []) ≡ false = list_all-push is_blank (x ∷ xs) b ∙ ap (λ t. list_all is_blank (x ∷ xs) && t) blank_not
    ∙ none_after _ in
    rw none (ap (λ t. x ∷ t) (before_here xs b blank_not))

before_skip : (xs : List ℕ) (b : ℕ) → is_blank b ≡ true → before_blanks (xs ++ b ∷ []) ≡ before_blanks xs
unfolding before_blanks
before_skip [] b blank_is = rw blank_is refl
before_skip (x ∷ xs) b blank_is =
    let same : list_all is_blank (x ∷ xs ++ b ∷ []) ≡ list_all is_blank (x ∷ xs) =
    list_all-push is_blank (x ∷ xs) b ∙ ap (λ t. list_all is_blank (x ∷ xs) && t) blank_is ∙ as_before _ in
    rw same (ap (λ t. if list_all is_blank (x ∷ xs) then [] else x ∷ t) (before_skip xs b blank_is))

pub end_here : (xs : List ℕ) (b : ℕ) (rest : List ℕ) → xs ≡ rest ++ b ∷ [] → is_blank b ≡ false → xs ≡ before_blanks xs
end_here xs b rest e blank_not = rw e (sym (before_here rest b blank_not))

pub end_skip : (xs : List ℕ) (b : ℕ) (rest : List ℕ) → xs ≡ rest ++ b ∷ [] → is_blank b ≡ true → before_blanks rest ≡ before_blanks xs
end_skip xs b rest e blank_is = rw e (sym (before_skip rest b blank_is))

pub end_end : (xs : List ℕ) → length xs ≡ 0 → xs ≡ before_blanks xs
unfolding before_blanks
end_end [] e = refl
end_end (x ∷ xs) e = absurd (omega (arith, e))
