-- Texts that are written piece by piece.
use Rattle.std.proofs.Common.{◌≡◌, ℕ, ◌+◌, ◌<◌, ◌≤◌, min, List, [], ◌∷◌, ◌++◌, length, take, drop, get_or, Option, Some, None, refl, sym, ap, ◌∙◌, arith}
use Rattle.std.proofs.Common.{Bool, true, false, true≢false, Result, Ok, Err, OnOk, OnErr}
use Rattle.std.specs.List.{flat_map}
use Rattle.std.proofs.lemmas.List.{take_all, take-append-drop, take-append-le, take_min, take_more, append_assoc, append-nil}
use Rattle.std.proofs.lemmas.List.Concat.{flat_map-append}
use Rattle.std.proofs.Math.Seq.{take-append-add}
use Rattle.cq_io.specs.Faults.{CountsFault, TellsFault}
use Rattle.cq_io.specs.Writing.{appended}
use Rattle.cqapri_words.specs.Pieces.{AppendsFirst}

min-le_right : (m n : ℕ) → min m n ≤ n
min-le_right m n = omega arith

-- a write of nothing
pub appended-nil : (old : Option (List ℕ)) → appended old [] ≡ old
appended-nil None = refl
appended-nil (Some bytes) = ap Some (append-nil bytes)

-- two writes, one after the other
pub appended-append : (old : Option (List ℕ)) (first second : List ℕ) → appended (appended old first) second ≡ appended old (first ++ second)
appended-append None first second = refl
appended-append (Some bytes) first second = ap Some (append_assoc bytes first second)

module _ {X : Type 0} (f : X → List ℕ) where
  -- the texts of one more item
  pub flat_map-take_more : (xs : List X) (i : ℕ) (d : X) → i < length xs → flat_map f (take (i + 1) xs) ≡ flat_map f (take i xs) ++ f (get_or xs i d)
  flat_map-take_more xs i d l =
      ap (flat_map f) (take_more xs i d l) ∙ flat_map-append f (take i xs) (get_or xs i d ∷ [])
      ∙ ap (λ t. flat_map f (take i xs) ++ t) (append-nil (f (get_or xs i d)))

  -- the texts of all items are those before one, its own, and those after it
  whole : (xs : List X) (i : ℕ) (d : X) → i < length xs → flat_map f xs ≡ flat_map f (take i xs) ++ (f (get_or xs i d) ++ flat_map f (drop (i + 1) xs))
  whole xs i d l =
      ap (flat_map f) (sym (take-append-drop (i + 1) xs)) ∙ flat_map-append f (take (i + 1) xs) (drop (i + 1) xs)
      ∙ ap (λ t. t ++ flat_map f (drop (i + 1) xs)) (flat_map-take_more xs i d l)
      ∙ append_assoc (flat_map f (take i xs)) (f (get_or xs i d)) (flat_map f (drop (i + 1) xs))

  -- the texts before an item and the first bytes of its own are the first bytes of all
  pub first_of_all : (xs : List X) (i : ℕ) (d : X) → i < length xs → (count : ℕ)
      → (k : ℕ) × (flat_map f (take i xs) ++ take count (f (get_or xs i d)) ≡ take k (flat_map f xs))
  first_of_all xs i d l count =
      let done = flat_map f (take i xs) in
      let piece = f (get_or xs i d) in
      let rest = flat_map f (drop (i + 1) xs) in
      let m = min count (length piece) in (
        length done + m,
        sym (ap (take (length done + m)) (whole xs i d l) ∙ take-append-add done (piece ++ rest) m
            ∙ ap (λ t. done ++ t) (take-append-le m piece rest (min-le_right count (length piece)) ∙ take_min count piece)),
      )

  -- one more item was written
  pub written_more : (xs : List X) (i : ℕ) (d : X) → i < length xs → (old mid new : Option (List ℕ)) → mid ≡ appended old (flat_map f (take i xs))
      → new ≡ appended mid (f (get_or xs i d))
      → new ≡ appended old (flat_map f (take (i + 1) xs))
  written_more xs i d l old mid new e h =
      h ∙ ap (λ o. appended o (f (get_or xs i d))) e ∙ appended-append old (flat_map f (take i xs)) (f (get_or xs i d))
      ∙ ap (appended old) (sym (flat_map-take_more xs i d l))

  -- the first bytes of one more item were written
  pub written_part : (xs : List X) (i : ℕ) (d : X) → i < length xs → (old mid new : Option (List ℕ)) → mid ≡ appended old (flat_map f (take i xs))
      → (count : ℕ) → new ≡ appended mid (take count (f (get_or xs i d)))
      → AppendsFirst old new (flat_map f xs)
  written_part xs i d l old mid new e count h =
      let w = first_of_all xs i d l count in (
        w.0,
        h ∙ ap (λ o. appended o (take count (f (get_or xs i d)))) e ∙ appended-append old (flat_map f (take i xs)) (take count (f (get_or xs i d)))
            ∙ ap (appended old) w.1,
      )

-- what a failed call tells of its count
pub TellsFault-failed : (before now : ℕ) (failed : Bool) → failed ≡ true → CountsFault before now → TellsFault before now failed
TellsFault-failed before now true e w = w
TellsFault-failed before now false e w = absurd (true≢false (sym e))

-- whatever holds, holds where there is an error
pub OnErr-of : {T E P : Type 0} (r : Result T E) → P → OnErr r P
OnErr-of (Ok x) p = tt
OnErr-of (Err e) p = p

-- all bytes are first ones of them
pub all_first : (old mid new : Option (List ℕ)) (bytes : List ℕ) → mid ≡ appended old bytes → new ≡ mid → AppendsFirst old new bytes
all_first old mid new bytes e d = (length bytes, d ∙ e ∙ ap (appended old) (sym (take_all (length bytes) bytes (omega arith))))

-- what was written, under an equal text
pub OnOk-appended : {T E : Type 0} (r : Result T E) (old new : Option (List ℕ)) {x y : List ℕ} → x ≡ y → OnOk r (new ≡ appended old x)
    → OnOk r (new ≡ appended old y)
OnOk-appended (Ok v) old new e p = p ∙ ap (appended old) e
OnOk-appended (Err v) old new e p = p

-- and the first bytes of it
pub part_as : (old new : Option (List ℕ)) {x y : List ℕ} → x ≡ y → AppendsFirst old new x → AppendsFirst old new y
part_as old new e (count, w) = (count, w ∙ ap (λ t. appended old (take count t)) e)

pub OnErr-appends : {T E : Type 0} (r : Result T E) (old new : Option (List ℕ)) {x y : List ℕ} → x ≡ y → OnErr r (AppendsFirst old new x)
    → OnErr r (AppendsFirst old new y)
OnErr-appends (Ok v) old new e p = p
OnErr-appends (Err v) old new e p = part_as old new e p

-- a text after a text that was written whole
pub written_then : (old mid new : Option (List ℕ)) (first second : List ℕ) → mid ≡ appended old first → new ≡ appended mid second
    → new ≡ appended old (first ++ second)
written_then old mid new first second e h = h ∙ ap (λ o. appended o second) e ∙ appended-append old first second

-- the first bytes of a text after a text that was written whole
pub part_then : (old mid new : Option (List ℕ)) (first second : List ℕ) → mid ≡ appended old first → AppendsFirst mid new second
    → AppendsFirst old new (first ++ second)
part_then old mid new first second e (count, h) = (
  length first + count,
  h ∙ ap (λ o. appended o (take count second)) e ∙ appended-append old first (take count second)
      ∙ ap (appended old) (sym (take-append-add first second count)),
)

-- the first bytes of a text are those of a longer one
pub part_of_more : (old new : Option (List ℕ)) (first second : List ℕ) → AppendsFirst old new first → AppendsFirst old new (first ++ second)
part_of_more old new first second (count, h) =
    let m = min count (length first) in
    (m, h ∙ ap (appended old) (sym (take-append-le m first second (min-le_right count (length first)) ∙ take_min count first)))

-- what a last call writes after a text that was written whole
pub OnOk-then : {T E : Type 0} (r : Result T E) (old mid new : Option (List ℕ)) (first second whole : List ℕ) → first ++ second ≡ whole
    → mid ≡ appended old first → OnOk r (new ≡ appended mid second) → OnOk r (new ≡ appended old whole)
OnOk-then (Ok v) old mid new first second whole e d p = written_then old mid new first second d p ∙ ap (appended old) e
OnOk-then (Err v) old mid new first second whole e d p = p

pub OnErr-then : {T E : Type 0} (r : Result T E) (old mid new : Option (List ℕ)) (first second whole : List ℕ) → first ++ second ≡ whole
    → mid ≡ appended old first → OnErr r (AppendsFirst mid new second) → OnErr r (AppendsFirst old new whole)
OnErr-then (Ok v) old mid new first second whole e d p = p
OnErr-then (Err v) old mid new first second whole e d p = part_as old new e (part_then old mid new first second d p)
