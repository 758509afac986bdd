-- Labels and clauses side by side.
use Rattle.std.proofs.Common.{◌≡◌, ℕ, zero, suc, ◌<◌, ◌≤◌, ◌+◌, List, [], ◌∷◌, ◌++◌, length, get_or, take, map, Any, Option, Some, None, refl, ap, ◌∙◌, arith}
use Rattle.std.proofs.lemmas.List.{take_more}
use Rattle.clause_arena.specs.State.{HeldClause, renamed}
use Rattle.cdcl_core.specs.declared.labels.Label.{Label}
use Rattle.cdcl_core.specs.State.{LiveClause, put_number, numbers_in}
use Rattle.cdcl_core.specs.Labels.{labelled, numbers_on}

-- one more of each
pub labelled-push : (labels : List Label) (live : List HeldClause) (label : Label) (held : HeldClause) → length labels ≡ length live
    → labelled (labels ++ label ∷ []) (live ++ held ∷ []) ≡ labelled labels live ++ record { number = label.number; literals = held.literals } ∷ []
labelled-push [] [] label held e = refl
labelled-push [] (h ∷ hs) label held e = absurd (omega arith)
labelled-push (n ∷ ns) [] label held e = absurd (omega arith)
labelled-push (n ∷ ns) (h ∷ hs) label held e =
    ap (λ (xs : List LiveClause). record { number = n.number; literals = h.literals } ∷ xs) (labelled-push ns hs label held (omega arith))

-- new references change nothing
pub labelled-renamed : (f : ℕ → ℕ) (labels : List Label) (live : List HeldClause) → labelled labels (map (renamed f) live) ≡ labelled labels live
labelled-renamed f [] live = refl
labelled-renamed f (n ∷ ns) [] = refl
labelled-renamed f (n ∷ ns) (h ∷ hs) = ap (λ (xs : List LiveClause). record { number = n.number; literals = h.literals } ∷ xs) (labelled-renamed f ns hs)

-- the numbers stand on the labels
pub numbers_in-labelled : (labels : List Label) (live : List HeldClause) → length labels ≡ length live → numbers_in (labelled labels live) ≡ numbers_on labels
numbers_in-labelled [] live e = refl
numbers_in-labelled (n ∷ ns) [] e = absurd (omega arith)
numbers_in-labelled (n ∷ ns) (h ∷ hs) e = ap (put_number n.number) (numbers_in-labelled ns hs (omega arith))

put_number-append : (n : Option ℕ) (xs ys : List ℕ) → put_number n (xs ++ ys) ≡ put_number n xs ++ ys
put_number-append None xs ys = refl
put_number-append (Some n) xs ys = refl

pub numbers_on-push : (labels : List Label) (label : Label) → numbers_on (labels ++ label ∷ []) ≡ numbers_on labels ++ put_number label.number []
numbers_on-push [] label = refl
numbers_on-push (n ∷ ns) label = ap (put_number n.number) (numbers_on-push ns label) ∙ put_number-append n.number (numbers_on ns) (put_number label.number [])

pub numbers_in-push : (live : List LiveClause) (entry : LiveClause) → numbers_in (live ++ entry ∷ []) ≡ numbers_in live ++ put_number entry.number []
numbers_in-push [] entry = refl
numbers_in-push (x ∷ xs) entry = ap (put_number x.number) (numbers_in-push xs entry) ∙ put_number-append x.number (numbers_in xs) (put_number entry.number [])

-- one more label of a prefix
pub numbers_on_more : (labels : List Label) (i : ℕ) (d : Label) → i < length labels
    → numbers_on (take (i + 1) labels) ≡ numbers_on (take i labels) ++ put_number (get_or labels i d).number []
numbers_on_more labels i d h = ap numbers_on (take_more labels i d h) ∙ numbers_on-push (take i labels) (get_or labels i d)

pub length-put_number : (n : Option ℕ) (xs : List ℕ) → length (put_number n xs) ≤ length xs + 1
length-put_number None xs = omega arith
length-put_number (Some n) xs = omega arith

pub length-numbers_on : (labels : List Label) → length (numbers_on labels) ≤ length labels
length-numbers_on [] = omega arith
length-numbers_on (n ∷ ns) =
    let rest = length-numbers_on ns in
    let this = length-put_number n.number (numbers_on ns) in
    omega (arith, rest, this)

-- a clause is among those side by side exactly where it is in the arena
pub labelled_live : (labels : List Label) (live : List HeldClause) (c : List ℕ) → length labels ≡ length live → Any (λ held. held.literals ≡ c) live
    → Any (λ entry. entry.literals ≡ c) (labelled labels live)
labelled_live labels [] c e (k, x, p, is, same) = absurd (omega arith)
labelled_live [] (h ∷ hs) c e m = absurd (omega arith)
labelled_live (n ∷ ns) (h ∷ hs) c e (zero, x, p, is, same) =
    (zero, record { number = n.number; literals = h.literals }, omega arith, refl, ap (λ (y : HeldClause). y.literals) is ∙ same)
labelled_live (n ∷ ns) (h ∷ hs) c e (suc k, x, p, is, same) =
    let rest = labelled_live ns hs c (omega arith) (k, x, omega arith, is, same) in
    (suc rest.0, rest.1, (let q = rest.2 in omega arith), rest.3, rest.4)

pub live_labelled : (labels : List Label) (live : List HeldClause) (c : List ℕ) → Any (λ entry. entry.literals ≡ c) (labelled labels live)
    → Any (λ held. held.literals ≡ c) live
live_labelled [] live c (k, x, p, is, same) = absurd (omega arith)
live_labelled (n ∷ ns) [] c (k, x, p, is, same) = absurd (omega arith)
live_labelled (n ∷ ns) (h ∷ hs) c (zero, x, p, is, same) = (zero, h, omega arith, refl, ap (λ (y : LiveClause). y.literals) is ∙ same)
live_labelled (n ∷ ns) (h ∷ hs) c (suc k, x, p, is, same) =
    let rest = live_labelled ns hs c (k, x, omega arith, is, same) in
    (suc rest.0, rest.1, (let q = rest.2 in omega arith), rest.3, rest.4)
