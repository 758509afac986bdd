-- Numbers, words and lists as JSON: they are plain and shallow, and they read back.
use Rattle.std.proofs.Common.{◌≡◌, ℕ, ◌<◌, ◌≤◌, ◌^◌, Bool, false, true, List, [], ◌∷◌, Option, Some, None, option_map, option_and_then, map, refl, ap, ◌∙◌}
use Rattle.std.proofs.Common.{arith, rules, IsUtf8, All, IfSome, string_bytes, Global, String as Text}
use Rattle.std.specs.Prelude.{if◌then◌else◌}
use Rattle.std.proofs.lemmas.Bool.Decides.{nat_tests}
use Rattle.std.proofs.lemmas.List.Elements.{All-nil, All-cons, All-head, All-tail}
use Rattle.std.proofs.lemmas.Option.{option_and_then_some}
use Rattle.std.proofs.lemmas.Str.{IsUtf8-from_is_utf8, is_utf8-from_IsUtf8}
use Rattle.std.specs.Str.{is_utf8}
use Rattle.serde_json.specs.Data.{Data, string, Items, no_items, item, depth, items_depth}
use Rattle.serde_json.specs.Find.{get, at, as_number, as_u64, as_str, as_array}
use Rattle.serde_json.specs.View.{items_of, view}
use Rattle.serde_json.specs.declared.value.Value as value
use Rattle.serde_json.specs.declared.value.Value.{Value, the_lemmas}
use Rattle.report_fields.specs.Fields.{number_data, numbers_data, long_or_null_data, if_below, if_text, is_null, long_of, long_or_null, id_of, ids_of, text_in}
use Rattle.report_fields.specs.Fields.{each_of, id_in, long_at, long_or_null_at, id_at, items_at, longs_at, ids_at, id_lists_at, texts_at}
use Rattle.report_fields.proofs.Plain.{IsPlain, ArePlain}

-- PRINTED

-- numbers nest no deeper
pub items_depth-numbers : (ns : List ℕ) → items_depth (items_of (map number_data ns)) ≡ 0
items_depth-numbers [] = refl
items_depth-numbers (n ∷ ns) = omega (arith, items_depth-numbers ns)

-- texts nest no deeper
pub items_depth-texts : (ts : List (List ℕ)) → items_depth (items_of (map string ts)) ≡ 0
items_depth-texts [] = refl
items_depth-texts (t ∷ ts) = omega (arith, items_depth-texts ts)

-- numbers below 2^64 are plain
pub ArePlain-longs : (ns : List ℕ) → All (λ n. n < 2 ^ 64) ns → ArePlain (items_of (map number_data ns))
ArePlain-longs [] h = tt
ArePlain-longs (n ∷ ns) h = (All-head (λ n. n < 2 ^ 64) n ns h, ArePlain-longs ns (All-tail (λ n. n < 2 ^ 64) n ns h))

-- numbers below 2^32 are plain
pub ArePlain-ids : (ns : List ℕ) → All (λ n. n < 2 ^ 32) ns → ArePlain (items_of (map number_data ns))
ArePlain-ids [] h = tt
ArePlain-ids (n ∷ ns) h = let small : n < 2 ^ 32 = All-head (λ n. n < 2 ^ 32) n ns h in (omega arith, ArePlain-ids ns (All-tail (λ n. n < 2 ^ 32) n ns h))

-- UTF-8 texts are plain
pub ArePlain-texts : (ts : List (List ℕ)) → All IsUtf8 ts → ArePlain (items_of (map string ts))
ArePlain-texts [] h = tt
ArePlain-texts (t ∷ ts) h = (All-head IsUtf8 t ts h, ArePlain-texts ts (All-tail IsUtf8 t ts h))

-- items nest no deeper than each of them
pub items_depth-each : {X : Type 0} (f : X → Data) (n : ℕ) → ((x : X) → depth (f x) ≤ n) → (xs : List X) → items_depth (items_of (map f xs)) ≤ n
items_depth-each f n shallow [] = omega arith
items_depth-each f n shallow (x ∷ xs) = omega (arith, shallow x, items_depth-each f n shallow xs)

-- plain items are plain
pub ArePlain-each : {X : Type 0} (P : X → Type 0) (f : X → Data) → ((x : X) → P x → IsPlain (f x)) → (xs : List X) → All P xs → ArePlain (items_of (map f xs))
ArePlain-each P f plain [] h = tt
ArePlain-each P f plain (x ∷ xs) h = (plain x (All-head P x xs h), ArePlain-each P f plain xs (All-tail P x xs h))

-- lists of numbers nest once
pub items_depth-lists : (lists : List (List ℕ)) → items_depth (items_of (map numbers_data lists)) ≤ 1
items_depth-lists lists = items_depth-each numbers_data 1 (λ ns. omega (arith, items_depth-numbers ns)) lists

-- lists of numbers below 2^32 are plain
pub ArePlain-lists : (lists : List (List ℕ)) → All (λ ns. All (λ n. n < 2 ^ 32) ns) lists → ArePlain (items_of (map numbers_data lists))
ArePlain-lists lists h = ArePlain-each (λ ns. All (λ n. n < 2 ^ 32) ns) numbers_data ArePlain-ids lists h

-- a number or null does not nest
pub depth-long_or_null : (o : Option ℕ) → depth (long_or_null_data o) ≡ 0
depth-long_or_null None = refl
depth-long_or_null (Some n) = refl

-- a number below 2^64 or null is plain
pub IsPlain-long_or_null : (o : Option ℕ) → IfSome o (λ n. n < 2 ^ 64) → IsPlain (long_or_null_data o)
IsPlain-long_or_null None h = tt
IsPlain-long_or_null (Some n) h = h

-- READ BACK

-- a number below the bound passes
pub if_below-lt : (bound n : ℕ) → n < bound → if_below bound n ≡ Some n
if_below-lt bound n h = grind (arith, nat_tests)

-- numbers below 2^64 read back
pub each_of-longs : (ns : List ℕ) → All (λ n. n < 2 ^ 64) ns → each_of long_of (items_of (map number_data ns)) ≡ Some ns
each_of-longs [] h = refl
each_of-longs (n ∷ ns) h =
    ap (option_and_then (λ x. option_map (λ xs. x ∷ xs) (each_of long_of (items_of (map number_data ns)))))
    (if_below-lt (2 ^ 64) n (All-head (λ n. n < 2 ^ 64) n ns h))
    ∙ ap (option_map (λ xs. n ∷ xs)) (each_of-longs ns (All-tail (λ n. n < 2 ^ 64) n ns h))

-- numbers below 2^32 read back
pub each_of-ids : (ns : List ℕ) → All (λ n. n < 2 ^ 32) ns → each_of id_of (items_of (map number_data ns)) ≡ Some ns
each_of-ids [] h = refl
each_of-ids (n ∷ ns) h =
    ap (option_and_then (λ x. option_map (λ xs. x ∷ xs) (each_of id_of (items_of (map number_data ns)))))
    (if_below-lt (2 ^ 32) n (All-head (λ n. n < 2 ^ 32) n ns h))
    ∙ ap (option_map (λ xs. n ∷ xs)) (each_of-ids ns (All-tail (λ n. n < 2 ^ 32) n ns h))

-- items that read back are read back
pub each_of-each : {X : Type 0} (P : X → Type 0) (f : X → Data) (g : Data → Option X) → ((x : X) → P x → g (f x) ≡ Some x) → (xs : List X) → All P xs
    → each_of g (items_of (map f xs)) ≡ Some xs
each_of-each P f g back [] h = refl
each_of-each P f g back (x ∷ xs) h = rw (back x (All-head P x xs h), each_of-each P f g back xs (All-tail P x xs h)) refl

-- lists of numbers below 2^32 read back
pub each_of-lists : (lists : List (List ℕ)) → All (λ ns. All (λ n. n < 2 ^ 32) ns) lists → each_of ids_of (items_of (map numbers_data lists)) ≡ Some lists
each_of-lists lists h = each_of-each (λ ns. All (λ n. n < 2 ^ 32) ns) numbers_data ids_of each_of-ids lists h

-- a number below 2^64 or null reads back
pub long_or_null-data : (o : Option ℕ) → IfSome o (λ n. n < 2 ^ 64) → long_or_null (long_or_null_data o) ≡ Some o
long_or_null-data None h = refl
long_or_null-data (Some n) h = rw (if_below-lt (2 ^ 64) n h) refl

-- UTF-8 bytes pass
if_text-IsUtf8 : (t : List ℕ) → IsUtf8 t → if_text t ≡ Some t
if_text-IsUtf8 t h = rw (is_utf8-from_IsUtf8 t h) refl

-- the data of a string
view-String : (s : Text Global) → view (value.String s) ≡ string (string_bytes s)
view-String s = search (rules, the_lemmas)

-- a string of these UTF-8 bytes is the text
pub text_in-String : (v : Value) (s : Text Global) (t : List ℕ) → v ≡ value.String s → t ≡ string_bytes s → IsUtf8 t → text_in (view v) ≡ Some t
text_in-String v s t is e h = ap (λ v. text_in (view v)) is ∙ ap text_in (view-String s) ∙ rw (← e) (if_text-IsUtf8 t h)

-- UTF-8 texts read back
pub each_of-texts : (ts : List (List ℕ)) → All IsUtf8 ts → each_of text_in (items_of (map string ts)) ≡ Some ts
each_of-texts [] h = refl
each_of-texts (t ∷ ts) h =
    ap (option_and_then (λ x. option_map (λ xs. x ∷ xs) (each_of text_in (items_of (map string ts))))) (if_text-IsUtf8 t (All-head IsUtf8 t ts h))
    ∙ ap (option_map (λ xs. t ∷ xs)) (each_of-texts ts (All-tail IsUtf8 t ts h))

-- WHAT IS READ IS IN ITS RANGE

-- a number that passes is below the bound
below-if_below : (bound n m : ℕ) → if_below bound n ≡ Some m → m < bound
below-if_below bound n m e = grind (arith, nat_tests)

-- a number that is read as a long is below 2^64
pub below-long_of : (d : Data) (n : ℕ) → long_of d ≡ Some n → n < 2 ^ 64
below-long_of d n e = option_and_then_some (if_below (2 ^ 64)) (option_and_then as_u64 (as_number d)) n e (λ m from is. below-if_below (2 ^ 64) m n is)

-- a number that is read as an id is below 2^32
pub below-id_of : (d : Data) (n : ℕ) → id_of d ≡ Some n → n < 2 ^ 32
below-id_of d n e = option_and_then_some (if_below (2 ^ 32)) (option_and_then as_u64 (as_number d)) n e (λ m from is. below-if_below (2 ^ 32) m n is)

-- the same under a key
pub below-long_at : (key : List ℕ) (d : Data) (n : ℕ) → long_at key d ≡ Some n → n < 2 ^ 64
below-long_at key d n e = option_and_then_some long_of (get key d) n e (λ found from is. below-long_of found n is)

-- the same under a key
pub below-id_at : (key : List ℕ) (d : Data) (n : ℕ) → id_at key d ≡ Some n → n < 2 ^ 32
below-id_at key d n e = option_and_then_some id_of (get key d) n e (λ found from is. below-id_of found n is)

-- a number that is read where null may stand is below 2^64
below-long_or_null : (d : Data) (o : Option ℕ) → long_or_null d ≡ Some o → IfSome o (λ n. n < 2 ^ 64)
below-long_or_null d o e = by (is_null d) e
  where
    by : (b : Bool) → (if b then Some None else option_and_then (λ n. Some (Some n)) (long_of d)) ≡ Some o → IfSome o (λ n. n < 2 ^ 64)
    by true e = let same : None ≡ o = cc e in rw (← same) tt
    by false e = option_and_then_some (λ n. Some (Some n)) (long_of d) o e (λ n n_is is. let same : Some n ≡ o = cc is in rw (← same) (below-long_of d n n_is))

-- the same under a key
pub below-long_or_null_at : (key : List ℕ) (d : Data) (o : Option ℕ) → long_or_null_at key d ≡ Some o → IfSome o (λ n. n < 2 ^ 64)
below-long_or_null_at key d o e = option_and_then_some long_or_null (get key d) o e (λ found from is. below-long_or_null found o is)

-- the id at a place is below 2^32
pub below-id_in : (place : ℕ) (d : Data) (n : ℕ) → id_in place d ≡ Some n → n < 2 ^ 32
below-id_in place d n e = option_and_then_some id_of (at place d) n e (λ found from is. below-id_of found n is)

-- bytes that pass are UTF-8
text-if_text : (t s : List ℕ) → if_text t ≡ Some s → IsUtf8 s
text-if_text t s e = by (is_utf8 t) refl e
  where
    by : (b : Bool) → is_utf8 t ≡ b → (if b then Some t else None) ≡ Some s → IsUtf8 s
    by true h e = let same : t ≡ s = cc e in rw (← same) (IsUtf8-from_is_utf8 t h)
    by false h e = cc e

-- a text that is read is UTF-8
pub IsUtf8-text_in : (d : Data) (t : List ℕ) → text_in d ≡ Some t → IsUtf8 t
IsUtf8-text_in d t e = option_and_then_some if_text (as_str d) t e (λ s from is. text-if_text s t is)

-- what holds of each item read holds of all
pub All-each_of : {X : Type 0} (P : X → Type 0) (f : Data → Option X) → ((d : Data) (x : X) → f d ≡ Some x → P x) → (ds : Items) (xs : List X)
    → each_of f ds ≡ Some xs → All P xs
All-each_of P f each no_items xs e = let none : [] ≡ xs = cc e in rw (← none) (All-nil P)
All-each_of {X} P f each (item d ds) xs e = by (f d) (each d) (each_of f ds) (All-each_of P f each ds) e
  where
    by : (first : Option X) → ((x : X) → first ≡ Some x → P x) → (rest : Option (List X)) → ((ys : List X) → rest ≡ Some ys → All P ys)
        → option_and_then (λ x. option_map (λ ys. x ∷ ys) rest) first ≡ Some xs → All P xs
    by (Some x) here (Some ys) more is = let same : x ∷ ys ≡ xs = cc is in rw (← same) (All-cons P x ys (here x refl) (more ys refl))
    by (Some x) here None more is = cc is
    by None here rest more is = cc is

-- the longs under a key are below 2^64
pub All-longs_at : (key : List ℕ) (d : Data) (ns : List ℕ) → longs_at key d ≡ Some ns → All (λ n. n < 2 ^ 64) ns
All-longs_at key d ns e = option_and_then_some (each_of long_of) (items_at key d) ns e
    (λ items from is. All-each_of (λ n. n < 2 ^ 64) long_of below-long_of items ns is)

-- the ids of an array are below 2^32
pub All-ids_of : (d : Data) (ns : List ℕ) → ids_of d ≡ Some ns → All (λ n. n < 2 ^ 32) ns
All-ids_of d ns e = option_and_then_some (each_of id_of) (as_array d) ns e (λ items from is. All-each_of (λ n. n < 2 ^ 32) id_of below-id_of items ns is)

-- the ids under a key are below 2^32
pub All-ids_at : (key : List ℕ) (d : Data) (ns : List ℕ) → ids_at key d ≡ Some ns → All (λ n. n < 2 ^ 32) ns
All-ids_at key d ns e = option_and_then_some ids_of (get key d) ns e (λ found from is. All-ids_of found ns is)

-- and so are those of each list under a key
pub All-id_lists_at : (key : List ℕ) (d : Data) (lists : List (List ℕ)) → id_lists_at key d ≡ Some lists → All (λ ns. All (λ n. n < 2 ^ 32) ns) lists
All-id_lists_at key d lists e =
    option_and_then_some (each_of ids_of) (items_at key d) lists e
    (λ items from is. All-each_of (λ ns. All (λ n. n < 2 ^ 32) ns) ids_of All-ids_of items lists is)

-- the texts under a key are UTF-8
pub All-texts_at : (key : List ℕ) (d : Data) (ts : List (List ℕ)) → texts_at key d ≡ Some ts → All IsUtf8 ts
All-texts_at key d ts e = option_and_then_some (each_of text_in) (items_at key d) ts e (λ items from is. All-each_of IsUtf8 text_in IsUtf8-text_in items ts is)
