-- Where a text stands among the texts of a set.
use Rattle.std.proofs.Common.{◌≡◌, ℕ, Bool, true, false, cond, ◌+◌, ◌||◌, List, [], ◌∷◌, map, get_or, slice_get, position, Some, refl, sym, ap, ◌∙◌}
use Rattle.std.proofs.Common.{option_map, not, String, Contains, subst}
use Rattle.std.specs.List.{list_any, position_or_len, AllByRecursion, IsDistinct}
use Rattle.std.specs.Cmp.{nat_eq_equiv}
use Rattle.std.specs.Cmp.Lexicographic.{lists_equiv}
use Rattle.std.proofs.lemmas.Map.Views.{list_any-from_Contains}
use Rattle.std.proofs.lemmas.List.Elements.{Contains-get_or}
use Rattle.std.specs.Str.{bytes_eq}
use Rattle.std.proofs.lemmas.List.{length-map}
use Rattle.std.proofs.lemmas.List.Quantifiers.{position-Some}
use Rattle.std.proofs.lemmas.Option.{slice_get-get_or, slice_get_within, get_or_from_slice_get}
use Rattle.std.proofs.lemmas.Slice.Eq.{bytes_eq-Decides}
use Rattle.std.proofs.lemmas.List.{map-append}
use Rattle.std.proofs.lemmas.Option.{slice_get-map}
use Rattle.std.specs.String.{string_bytes, string_eq}
use Rattle.indexmap.specs.IndexSet.{insert_key}
use Rattle.cq_terms.specs.Names.{with_text}

module _ {X Y : Type 0} (f : X → Y) (p : Y → Bool) where
  pub list_any-map : (xs : List X) → list_any p (map f xs) ≡ list_any (λ x. p (f x)) xs
  list_any-map [] = refl
  list_any-map (x ∷ xs) = ap (λ b. p (f x) || b) (list_any-map xs)

  pub position_or_len-map : (xs : List X) → position_or_len p (map f xs) ≡ position_or_len (λ x. p (f x)) xs
  position_or_len-map [] = refl
  position_or_len-map (x ∷ xs) = ap (λ n. cond (not (p (f x))) (1 + n) 0) (position_or_len-map xs)

  pub position-map : (xs : List X) → position p (map f xs) ≡ position (λ x. p (f x)) xs
  position-map xs = rw (position_or_len-map xs, length-map xs f) refl

-- the text that was found is there
pub slice_get-position : (texts : List (List ℕ)) (text : List ℕ) (i : ℕ) → position (bytes_eq text) texts ≡ Some i → slice_get texts i ≡ Some text
slice_get-position texts text i at =
    let found = position-Some (bytes_eq text) texts i [] at in
    slice_get-get_or texts i [] found.0 ∙ ap Some (sym ((bytes_eq-Decides text (get_or texts i [])).0 found.1))

module _ {A : Type 0} where
  -- the texts of a set after an insert
  pub texts-insert_key : (ks : List (String A)) (k : String A) → map string_bytes (insert_key string_eq ks k) ≡ with_text (map string_bytes ks) (string_bytes k)
  texts-insert_key ks k = by (list_any (string_eq k) ks) refl
    where
      by : (b : Bool) → list_any (string_eq k) ks ≡ b → map string_bytes (insert_key string_eq ks k) ≡ with_text (map string_bytes ks) (string_bytes k)
      by true e = rw (list_any-map string_bytes (bytes_eq (string_bytes k)) ks, e) refl
      by false e = rw (list_any-map string_bytes (bytes_eq (string_bytes k)) ks, e) (map-append string_bytes ks (k ∷ []))

  -- the text of the key that stands at a place
  pub text_stored : (ks : List (String A)) (i : ℕ) (k x : String A) → slice_get ks i ≡ Some k → string_eq x k ≡ true
      → slice_get (map string_bytes ks) i ≡ Some (string_bytes x)
  text_stored ks i k x at same = slice_get-map string_bytes ks i ∙ ap (option_map string_bytes) at
      ∙ ap Some (sym ((bytes_eq-Decides (string_bytes x) (string_bytes k)).0 same))

AllByRecursion-map : {X Y : Type 0} (f : X → Y) (P : Y → Type 0) (xs : List X) → AllByRecursion (λ x. P (f x)) xs → AllByRecursion P (map f xs)
AllByRecursion-map f P [] h = tt
AllByRecursion-map f P (x ∷ xs) h = (h.0, AllByRecursion-map f P xs h.1)

-- the texts of distinct keys are distinct
pub IsDistinct-texts : {A : Type 0} (ks : List (String A)) → IsDistinct string_eq ks → IsDistinct bytes_eq (map string_bytes ks)
unfolding IsDistinct
IsDistinct-texts [] h = tt
IsDistinct-texts (k ∷ ks) h = (AllByRecursion-map string_bytes (λ y. bytes_eq (string_bytes k) y ≡ false) ks h.0, IsDistinct-texts ks h.1)

-- a text that no key has is not there
pub not_there : (texts : List (List ℕ)) (text : List ℕ) → list_any (bytes_eq text) texts ≡ false → Contains texts text → ⊥
not_there texts text none there =
    let both : true ≡ false = sym (list_any-from_Contains (lists_equiv nat_eq_equiv) text texts there) ∙ none in
    cc both

-- a text at a place is there
pub there_at : (texts : List (List ℕ)) (text : List ℕ) (i : ℕ) → slice_get texts i ≡ Some text → Contains texts text
there_at texts text i at = subst (Contains texts) (get_or_from_slice_get texts i text [] at) (Contains-get_or texts i [] (slice_get_within texts i text at))
