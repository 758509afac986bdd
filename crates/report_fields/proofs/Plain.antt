-- Plain data: no float, no negative number, UTF-8 in strings, keys that ascend. Its compact text is UTF-8 and reads back as the data.
use Rattle.std.proofs.Common.{◌≡◌, ℕ, ◌<◌, ◌≤◌, ◌^◌, Bool, true, false, ◌&&◌, List, [], ◌∷◌, Option, Some, option_map, option_and_then, refl, sym, ap, ◌∙◌}
use Rattle.std.proofs.Common.{arith, append-nil, decimal, IsUtf8}
use Rattle.std.proofs.lemmas.Str.{IsUtf8-append, IsUtf8-from_ascii}
use Rattle.std.proofs.lemmas.Fmt.{IsAscii-decimal}
use Rattle.std.specs.Prelude.{⊤}
use Rattle.std.specs.Ordering.{nat_cmp, match_ordering}
use Rattle.std.specs.declared.cmp.Ordering.{Ordering}
use Rattle.std.specs.declared.cmp.Ordering.TheVariants.{Less, Equal, Greater}
use Rattle.std.specs.Cmp.Lexicographic.{slice_cmp}
use Rattle.json.specs.Token.{Token}
use Rattle.json.specs.Lex.{tokens}
use Rattle.json.specs.Json as json
use Rattle.json.specs.Tree as tree
use Rattle.json.proofs.Printed.Tokens.{tokens-print}
use Rattle.json.proofs.Printed.Trees.{value-json_tokens, ArePrintable-json_tokens}
use Rattle.json.proofs.Printed.Decimals.{IsNumber-decimal}
use Rattle.json.proofs.Printed.Utf8.{IsUtf8-quoted, IsUtf8-are_ascii, IsUtf8-boolean}
use Rattle.serde_json.specs.Data.{Num, unsigned, negative, float, Data, null, boolean, number, string, array, object, Items, no_items, item, Members}
use Rattle.serde_json.specs.Data.{no_members, member, put, depth, items_depth, members_depth}
use Rattle.serde_json.specs.Read.{read, max_depth, of_json, of_items, of_members}
use Rattle.serde_json.specs.Written.{outline, items_outline, members_outline, compact_text, items_text, members_text, comma_if}
use Rattle.serde_json.proofs.Numbers.{number_of-decimal}
use Rattle.serde_json.proofs.Texts.{print-outline}

-- the key is above all of these
abbrev is_above : List ℕ → Members → Bool
is_above k no_members = true
is_above k (member l d ms) = match_ordering (slice_cmp nat_cmp k l) false false (is_above k ms)

-- the members, and then others
abbrev followed_by : Members → Members → Members
followed_by no_members ns = ns
followed_by (member k d ms) ns = member k d (followed_by ms ns)

-- each key is above those before it
abbrev ascend_after : Members → Members → Bool
ascend_after found no_members = true
ascend_after found (member k d ms) = is_above k found && ascend_after (followed_by found (member k d no_members)) ms

-- the number has no sign
abbrev IsPlainNumber : Num → Type 0
IsPlainNumber (unsigned n) = n < 2 ^ 64
IsPlainNumber (negative z) = ⊥
IsPlainNumber (float x) = ⊥

-- the data is plain
abbrev mutual
  pub IsPlain : Data → Type 0
  IsPlain null = ⊤
  IsPlain (boolean b) = ⊤
  IsPlain (number n) = IsPlainNumber n
  IsPlain (string s) = IsUtf8 s
  IsPlain (array ds) = ArePlain ds
  IsPlain (object ms) = (ascend_after no_members ms ≡ true) × HasPlain ms

  pub ArePlain : Items → Type 0
  ArePlain no_items = ⊤
  ArePlain (item d ds) = IsPlain d × ArePlain ds

  pub HasPlain : Members → Type 0
  HasPlain no_members = ⊤
  HasPlain (member k d ms) = IsUtf8 k × IsPlain d × HasPlain ms

-- KEYS

-- a key above all others goes last
put-last : (k : List ℕ) (d : Data) (ms : Members) → is_above k ms ≡ true → put k d ms ≡ followed_by ms (member k d no_members)
put-last k d no_members h = refl
put-last k d (member l e ms) h = by (slice_cmp nat_cmp k l) h (put-last k d ms)
  where
    by : (o : Ordering) → match_ordering o false false (is_above k ms) ≡ true → (is_above k ms ≡ true → put k d ms ≡ followed_by ms (member k d no_members))
        → match_ordering o (member k d (member l e ms)) (member l d ms) (member l e (put k d ms)) ≡ member l e (followed_by ms (member k d no_members))
    by Less h more = cc
    by Equal h more = cc
    by Greater h more = ap (member l e) (more h)

-- a member between two lists of members
followed_by-assoc : (a : Members) (k : List ℕ) (d : Data) (b : Members) → followed_by (followed_by a (member k d no_members)) b ≡ followed_by a (member k d b)
followed_by-assoc no_members k d b = refl
followed_by-assoc (member l e a) k d b = ap (member l e) (followed_by-assoc a k d b)

-- no members change nothing
followed_by-none : (found : Members) → found ≡ followed_by found no_members
followed_by-none no_members = refl
followed_by-none (member k d ms) = ap (member k d) (followed_by-none ms)

-- both of two tests hold
pub both : (a b : Bool) → (a && b) ≡ true → (a ≡ true) × (b ≡ true)
both true b h = (refl, h)
both false b h = cc

-- BACK FROM JSON

-- the JSON of plain data gives back the data
mutual
  of_json-outline : (d : Data) → IsPlain d → of_json (outline d) ≡ Some d
  of_json-outline null p = refl
  of_json-outline (boolean b) p = refl
  of_json-outline (number (unsigned n)) p = ap (option_map number) (number_of-decimal n p)
  of_json-outline (number (negative z)) p = absurd p
  of_json-outline (number (float x)) p = absurd p
  of_json-outline (string s) p = refl
  of_json-outline (array ds) p = ap (option_map array) (of_items-outline ds p)
  of_json-outline (object ms) p = ap (option_map object) (of_members-outline no_members ms p.0 p.1)

  of_items-outline : (ds : Items) → ArePlain ds → of_items (items_outline ds) ≡ Some ds
  of_items-outline no_items p = refl
  of_items-outline (item d ds) p =
      ap (option_and_then (λ e. option_map (item e) (of_items (items_outline ds)))) (of_json-outline d p.0) ∙ ap (option_map (item d)) (of_items-outline ds p.1)

  of_members-outline : (found ms : Members) → ascend_after found ms ≡ true → HasPlain ms → of_members (members_outline ms) found ≡ Some (followed_by found ms)
  of_members-outline found no_members h p = ap Some (followed_by-none found)
  of_members-outline found (member k d ms) h p =
      let parts = both (is_above k found) (ascend_after (followed_by found (member k d no_members)) ms) h in
      ap (option_and_then (λ e. of_members (members_outline ms) (put k e found))) (of_json-outline d p.1)
      ∙ ap (of_members (members_outline ms)) (put-last k d found parts.0)
      ∙ of_members-outline (followed_by found (member k d no_members)) ms parts.1 p.2
      ∙ ap Some (followed_by-assoc found k d ms)

-- the JSON of plain data has JSON's numbers
mutual
  numbers-outline : (d : Data) → IsPlain d → tree.HasNumbers (outline d)
  numbers-outline null p = tt
  numbers-outline (boolean b) p = tt
  numbers-outline (number (unsigned n)) p = IsNumber-decimal n p
  numbers-outline (number (negative z)) p = absurd p
  numbers-outline (number (float x)) p = absurd p
  numbers-outline (string s) p = tt
  numbers-outline (array ds) p = items_numbers-outline ds p
  numbers-outline (object ms) p = members_numbers-outline ms p.1

  items_numbers-outline : (ds : Items) → ArePlain ds → tree.ItemsHaveNumbers (items_outline ds)
  items_numbers-outline no_items p = tt
  items_numbers-outline (item d ds) p = (numbers-outline d p.0, items_numbers-outline ds p.1)

  members_numbers-outline : (ms : Members) → HasPlain ms → tree.MembersHaveNumbers (members_outline ms)
  members_numbers-outline no_members p = tt
  members_numbers-outline (member k d ms) p = (numbers-outline d p.1, members_numbers-outline ms p.2)

-- the JSON nests no deeper than the data
mutual
  depth-outline : (d : Data) → tree.depth (outline d) ≤ depth d
  depth-outline null = omega arith
  depth-outline (boolean b) = omega arith
  depth-outline (number n) = omega arith
  depth-outline (string s) = omega arith
  depth-outline (array ds) = omega (arith, items_depth-outline ds)
  depth-outline (object ms) = omega (arith, members_depth-outline ms)

  items_depth-outline : (ds : Items) → tree.items_depth (items_outline ds) ≤ items_depth ds
  items_depth-outline no_items = omega arith
  items_depth-outline (item d ds) = omega (arith, depth-outline d, items_depth-outline ds)

  members_depth-outline : (ms : Members) → tree.members_depth (members_outline ms) ≤ members_depth ms
  members_depth-outline no_members = omega arith
  members_depth-outline (member k d ms) = omega (arith, depth-outline d, members_depth-outline ms)

-- what the reader makes of tokens
from_tokens : List Token → Option Data
from_tokens ts = option_and_then of_json (option_and_then (λ p. json.if_last p.0 p.1) (json.value max_depth ts))

-- the compact text of plain data reads back as the data
pub read-compact_text : (d : Data) → IsPlain d → depth d ≤ max_depth → read (compact_text d) ≡ Some d
read-compact_text d p shallow =
    let printed = ap tokens (sym (print-outline d)) ∙ tokens-print (tree.json_tokens (outline d))
    (ArePrintable-json_tokens (outline d) (numbers-outline d p)) in
    ap (λ ts. option_and_then of_json (option_and_then (λ p. json.if_last p.0 p.1) (json.value max_depth ts)))
    (printed ∙ sym (append-nil (tree.json_tokens (outline d))))
    ∙ ap (λ r. option_and_then of_json (option_and_then (λ p. json.if_last p.0 p.1) r))
    (value-json_tokens (outline d) max_depth [] (omega (arith, depth-outline d, shallow)))
    ∙ of_json-outline d p

-- TEXT

-- a comma is UTF-8
IsUtf8-comma_if : (b : Bool) → IsUtf8 (comma_if b)
IsUtf8-comma_if true = IsUtf8-are_ascii (44 ∷ []) refl
IsUtf8-comma_if false = IsUtf8-are_ascii [] refl

-- the compact text of plain data is UTF-8
mutual
  pub IsUtf8-compact_text : (d : Data) → IsPlain d → IsUtf8 (compact_text d)
  IsUtf8-compact_text null p = IsUtf8-are_ascii (110 ∷ 117 ∷ 108 ∷ 108 ∷ []) refl
  IsUtf8-compact_text (boolean b) p = IsUtf8-boolean b
  IsUtf8-compact_text (number (unsigned n)) p = IsUtf8-from_ascii (decimal n) (IsAscii-decimal n p)
  IsUtf8-compact_text (number (negative z)) p = absurd p
  IsUtf8-compact_text (number (float x)) p = absurd p
  IsUtf8-compact_text (string s) p = IsUtf8-quoted s p
  IsUtf8-compact_text (array ds) p = IsUtf8-append (91 ∷ []) _ (IsUtf8-are_ascii (91 ∷ []) refl) (IsUtf8-items_text false ds p)
  IsUtf8-compact_text (object ms) p = IsUtf8-append (123 ∷ []) _ (IsUtf8-are_ascii (123 ∷ []) refl) (IsUtf8-members_text false ms p.1)

  IsUtf8-items_text : (b : Bool) (ds : Items) → ArePlain ds → IsUtf8 (items_text b ds)
  IsUtf8-items_text b no_items p = IsUtf8-are_ascii (93 ∷ []) refl
  IsUtf8-items_text b (item d ds) p = IsUtf8-append _ _ (IsUtf8-comma_if b) (IsUtf8-append _ _ (IsUtf8-compact_text d p.0) (IsUtf8-items_text true ds p.1))

  IsUtf8-members_text : (b : Bool) (ms : Members) → HasPlain ms → IsUtf8 (members_text b ms)
  IsUtf8-members_text b no_members p = IsUtf8-are_ascii (125 ∷ []) refl
  IsUtf8-members_text b (member k d ms) p =
      IsUtf8-append _ _ (IsUtf8-comma_if b) (IsUtf8-append _ _ (IsUtf8-quoted k p.0)
      (IsUtf8-append (58 ∷ []) _ (IsUtf8-are_ascii (58 ∷ []) refl) (IsUtf8-append _ _ (IsUtf8-compact_text d p.1) (IsUtf8-members_text true ms p.2))))
