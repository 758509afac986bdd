-- What the fields of a line are as JSON: numbers, words, and arrays of numbers, of lists and of texts.
use Rattle.std.specs.Prelude.{ℕ, ◌==◌, ◌^◌, List, [], ◌∷◌, map, Bool, not, ◌&&◌, Option, Some, None, is_some, option_and_then, option_map, if◌then◌else◌}
use Rattle.std.specs.Prelude.{nat_lt, nat_le}
use Rattle.std.specs.List.{list_all}
use Rattle.std.specs.Str.{is_utf8}
use Rattle.serde_json.specs.Data.{Data, null, number, unsigned, string, array, Items, no_items, item}
use Rattle.serde_json.specs.Find.{get, at, as_null, as_number, as_u64, as_str, as_array}
use Rattle.serde_json.specs.View.{items_of}

-- PRINTED

-- a number
abbrev pub number_data : ℕ → Data
number_data n = number (unsigned n)

-- an array of numbers
abbrev pub numbers_data : List ℕ → Data
numbers_data numbers = array (items_of (map number_data numbers))

-- an array of arrays of numbers
abbrev pub lists_data : List (List ℕ) → Data
lists_data lists = array (items_of (map numbers_data lists))

-- a number, or null for none
abbrev pub long_or_null_data : Option ℕ → Data
long_or_null_data None = null
long_or_null_data (Some n) = number_data n

-- an array of texts
abbrev pub texts_data : List (List ℕ) → Data
texts_data texts = array (items_of (map string texts))

-- whether the byte stands for itself in a string: it is no control byte, quote or backslash
abbrev pub stands_for_itself : ℕ → Bool
stands_for_itself byte = nat_le 32 byte && (not (byte == 34) && not (byte == 92))

-- whether the text stands between quotes as it is
abbrev pub needs_no_escape : List ℕ → Bool
needs_no_escape text = list_all stands_for_itself text

-- READ

-- the number, where it is below the bound
abbrev pub if_below : ℕ → ℕ → Option ℕ
if_below bound n = if nat_lt n bound then Some n else None

-- the bytes, where they are UTF-8
abbrev pub if_text : List ℕ → Option (List ℕ)
if_text bytes = if is_utf8 bytes then Some bytes else None

-- the value as a number below 2^64
abbrev pub long_of : Data → Option ℕ
long_of d = option_and_then (if_below (2 ^ 64)) (option_and_then as_u64 (as_number d))

-- the value is null
abbrev pub is_null : Data → Bool
is_null d = is_some (as_null d)

-- the value as a number below 2^64, or none for null
abbrev pub long_or_null : Data → Option (Option ℕ)
long_or_null d = if is_null d then Some None else option_and_then (λ n. Some (Some n)) (long_of d)

-- the value as a number below 2^32
abbrev pub id_of : Data → Option ℕ
id_of d = option_and_then (if_below (2 ^ 32)) (option_and_then as_u64 (as_number d))

-- the value as a text
abbrev pub text_in : Data → Option (List ℕ)
text_in d = option_and_then if_text (as_str d)

-- what each item is, where each is something
abbrev pub each_of : {X : Type 0} → (Data → Option X) → Items → Option (List X)
each_of f no_items = Some []
each_of f (item d ds) = option_and_then (λ x. option_map (λ xs. x ∷ xs) (each_of f ds)) (f d)

-- the value as an array of numbers below 2^32
abbrev pub ids_of : Data → Option (List ℕ)
ids_of d = option_and_then (each_of id_of) (as_array d)

-- WHAT STANDS AT A PLACE OF AN ARRAY

-- the number below 2^32
abbrev pub id_in : ℕ → Data → Option ℕ
id_in place d = option_and_then id_of (at place d)

-- the string, whatever its bytes
abbrev pub word_in : ℕ → Data → Option (List ℕ)
word_in place d = option_and_then as_str (at place d)

-- WHAT STANDS UNDER A KEY

-- the number below 2^64
abbrev pub long_at : List ℕ → Data → Option ℕ
long_at key d = option_and_then long_of (get key d)

-- the number below 2^64, or none for null
abbrev pub long_or_null_at : List ℕ → Data → Option (Option ℕ)
long_or_null_at key d = option_and_then long_or_null (get key d)

-- the number below 2^32
abbrev pub id_at : List ℕ → Data → Option ℕ
id_at key d = option_and_then id_of (get key d)

-- the string, whatever its bytes
abbrev pub word_at : List ℕ → Data → Option (List ℕ)
word_at key d = option_and_then as_str (get key d)

-- the items of the array
abbrev pub items_at : List ℕ → Data → Option Items
items_at key d = option_and_then as_array (get key d)

-- the numbers below 2^64 in the array
abbrev pub longs_at : List ℕ → Data → Option (List ℕ)
longs_at key d = option_and_then (each_of long_of) (items_at key d)

-- the numbers below 2^32 in the array
abbrev pub ids_at : List ℕ → Data → Option (List ℕ)
ids_at key d = option_and_then ids_of (get key d)

-- the arrays of numbers below 2^32 in the array
abbrev pub id_lists_at : List ℕ → Data → Option (List (List ℕ))
id_lists_at key d = option_and_then (each_of ids_of) (items_at key d)

-- the texts in the array
abbrev pub texts_at : List ℕ → Data → Option (List (List ℕ))
texts_at key d = option_and_then (each_of text_in) (items_at key d)
