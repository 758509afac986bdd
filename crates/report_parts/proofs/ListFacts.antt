-- Lists compared place by place.
use Rattle.std.proofs.Common.{◌≡◌, ℕ, zero, suc, ◌<◌, ◌&&◌, List, [], ◌∷◌, length, get_or, drop, refl}
use Rattle.std.proofs.Common.{ap, sym, ◌∙◌, arith, Bool, true, false, drop-cons, Some, slice_get, All, take, ◌++◌}
use Rattle.std.specs.List.{AllZip, list_all}
use Rattle.std.proofs.lemmas.Option.{slice_get-get_or}
use Rattle.std.proofs.lemmas.List.Elements.{All-contains}
use Rattle.cq_meaning.proofs.Ascending.{All-of}
use Rattle.cq_meaning.proofs.Listed.{append_right}
use Rattle.clause_meaning.proofs.Members.{Contains-take}

-- lists with the same at each place are one
pub same_at : {X : Type 0} (xs ys : List X) → length xs ≡ length ys → ((k : ℕ) (d : X) → k < length xs → get_or xs k d ≡ get_or ys k d) → xs ≡ ys
same_at [] [] e h = refl
same_at [] (y ∷ ys) e h = absurd (omega arith)
same_at (x ∷ xs) [] e h = absurd (omega arith)
same_at (x ∷ xs) (y ∷ ys) e h = ap (λ z. z ∷ xs) (h 0 x (omega arith))
    ∙ ap (λ zs. y ∷ zs) (same_at xs ys (omega arith) (λ k d l. h (suc k) d (omega arith)))

-- what holds at each place of two lists holds along them
pub zip_at : {X Y : Type 0} (R : X → Y → Type 0) (xs : List X) (ys : List Y) → length xs ≡ length ys
    → ((k : ℕ) (d : X) (e : Y) → k < length xs → R (get_or xs k d) (get_or ys k e)) → AllZip R xs ys
zip_at R [] [] e h = tt
zip_at R [] (y ∷ ys) e h = absurd (omega arith)
zip_at R (x ∷ xs) [] e h = absurd (omega arith)
zip_at R (x ∷ xs) (y ∷ ys) e h = (h 0 x y (omega arith), zip_at R xs ys (omega arith) (λ k d f l. h (suc k) d f (omega arith)))

-- and the other way round
pub at_zip : {X Y : Type 0} (R : X → Y → Type 0) (xs : List X) (ys : List Y) → AllZip R xs ys → (k : ℕ) (d : X) (e : Y) → k < length xs
    → R (get_or xs k d) (get_or ys k e)
at_zip R [] ys h k d e l = absurd (omega arith)
at_zip R (x ∷ xs) [] h k d e l = absurd h
at_zip R (x ∷ xs) (y ∷ ys) h zero d e l = h.0
at_zip R (x ∷ xs) (y ∷ ys) h (suc k) d e l = at_zip R xs ys h.1 k d e (omega arith)

-- lists along which something holds are as long
pub zip_long : {X Y : Type 0} (R : X → Y → Type 0) (xs : List X) (ys : List Y) → AllZip R xs ys → length xs ≡ length ys
zip_long R [] [] h = refl
zip_long R [] (y ∷ ys) h = absurd h
zip_long R (x ∷ xs) [] h = absurd h
zip_long R (x ∷ xs) (y ∷ ys) h = let more = zip_long R xs ys h.1 in omega arith

-- within a list the default plays no part
pub any_default : {X : Type 0} (xs : List X) (i : ℕ) (d e : X) → i < length xs → get_or xs i d ≡ get_or xs i e
any_default xs i d e l =
    let a = slice_get-get_or xs i d l in
    let b = slice_get-get_or xs i e l in
    let same : Some (get_or xs i d) ≡ Some (get_or xs i e) = sym a ∙ b in
    cc same

-- a test that fails at a place fails of all from there on
pub all_stops : {X : Type 0} (p : X → Bool) (xs : List X) (i : ℕ) (d : X) → i < length xs → p (get_or xs i d) ≡ false → list_all p (drop i xs) ≡ false
all_stops p xs i d l e = ap (λ ys. list_all p ys) (drop-cons xs i d l) ∙ ap (λ (b : Bool). b && list_all p (drop (suc i) xs)) e

-- and one that passes leaves it to the rest
pub all_goes_on : {X : Type 0} (p : X → Bool) (xs : List X) (i : ℕ) (d : X) → i < length xs → p (get_or xs i d) ≡ true
    → list_all p (drop i xs) ≡ list_all p (drop (suc i) xs)
all_goes_on p xs i d l e = ap (λ ys. list_all p ys) (drop-cons xs i d l) ∙ ap (λ (b : Bool). b && list_all p (drop (suc i) xs)) e

-- what is read at a place within the list stands there
pub got : {X : Type 0} (xs : List X) (i : ℕ) (x : X) → x ≡ get_or xs i x → i < length xs → slice_get xs i ≡ Some x
got xs i x e l = slice_get-get_or xs i x l ∙ ap Some (sym e)

-- what all of two lists in a row have, the second has
pub all_right : {X : Type 0} (P : X → Type 0) (xs ys : List X) → All P (xs ++ ys) → All P ys
all_right P xs ys h = All-of P ys (λ y m. All-contains P (xs ++ ys) y h (append_right xs ys y m))

-- and what all have, the first have
pub all_front : {X : Type 0} (P : X → Type 0) (n : ℕ) (xs : List X) → All P xs → All P (take n xs)
all_front P n xs h = All-of P (take n xs) (λ y m. All-contains P xs y h (Contains-take xs n y m))
