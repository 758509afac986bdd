-- The compact text of plain data has no line feed.
use Rattle.std.proofs.Common.{◌≡◌, ℕ, ◌+◌, ◌<◌, ◌%◌, ◌^◌, Bool, true, false, ◌||◌, List, [], ◌∷◌, ◌++◌, refl, ◌∙◌, arith, decimal}
use Rattle.std.specs.Prelude.{◌==◌}
use Rattle.std.specs.List.{list_any}
use Rattle.std.proofs.lemmas.Bool.Decides.{nat_tests}
use Rattle.std.proofs.lemmas.List.Folds.{list_any-append}
use Rattle.std.proofs.lemmas.Fmt.{decimal_by_steps}
use Rattle.json.specs.Token as token
use Rattle.json.specs.Print.{escape_byte, escape, quoted, token_text}
use Rattle.serde_json.specs.Data.{unsigned, negative, float, Data, null, boolean, number, string, array, object, Items, no_items, item, Members, no_members}
use Rattle.serde_json.specs.Data.{member}
use Rattle.serde_json.specs.Written.{compact_text, items_text, members_text, comma_if}
use Rattle.report_fields.proofs.Plain.{IsPlain, ArePlain, HasPlain}

-- whether some byte is a line feed
abbrev pub has_line_feed : List ℕ → Bool
has_line_feed bytes = list_any (λ byte. 10 == byte) bytes

-- neither of two tests holds
pub neither : (a b : Bool) → a ≡ false → b ≡ false → (a || b) ≡ false
neither a b h k = rw (h, k) refl

-- two texts with no line feed, one after the other
none-append : (a b : List ℕ) → has_line_feed a ≡ false → has_line_feed b ≡ false → has_line_feed (a ++ b) ≡ false
none-append a b h k = list_any-append (λ x. 10 == x) a b ∙ neither _ _ h k

-- an escape has none, whatever the byte is
none-escape_byte : (x : ℕ) → has_line_feed (escape_byte x) ≡ false
unfolding escape_byte
none-escape_byte x = grind (arith, nat_tests)

-- nor has an escaped text
none-escape : (s : List ℕ) → has_line_feed (escape s) ≡ false
none-escape [] = refl
none-escape (x ∷ s) = none-append (escape_byte x) (escape s) (none-escape_byte x) (none-escape s)

-- nor has a quoted text
none-quoted : (s : List ℕ) → has_line_feed (quoted s) ≡ false
none-quoted s = none-append (escape s) (34 ∷ []) (none-escape s) refl

-- digits are no line feed
none-decimal : (n : ℕ) → n < 2 ^ 64 → has_line_feed (decimal n) ≡ false
none-decimal n small = decimal_by_steps (λ _ ds. has_line_feed ds ≡ false) (λ n below. grind (arith, nat_tests))
    (λ n ds above h. none-append ds ((48 + n % 10) ∷ []) h (grind (arith, nat_tests))) n small

-- nor has a word
none-boolean : (b : Bool) → has_line_feed (token_text (token.boolean b)) ≡ false
none-boolean true = refl
none-boolean false = refl

-- nor has a comma
none-comma_if : (b : Bool) → has_line_feed (comma_if b) ≡ false
none-comma_if true = refl
none-comma_if false = refl

-- nor has the text of plain data
mutual
  pub none-compact_text : (d : Data) → IsPlain d → has_line_feed (compact_text d) ≡ false
  none-compact_text null p = refl
  none-compact_text (boolean b) p = none-boolean b
  none-compact_text (number (unsigned n)) p = none-decimal n p
  none-compact_text (number (negative z)) p = absurd p
  none-compact_text (number (float x)) p = absurd p
  none-compact_text (string s) p = none-quoted s
  none-compact_text (array ds) p = none-items_text false ds p
  none-compact_text (object ms) p = none-members_text false ms p.1

  none-items_text : (b : Bool) (ds : Items) → ArePlain ds → has_line_feed (items_text b ds) ≡ false
  none-items_text b no_items p = refl
  none-items_text b (item d ds) p = none-append (comma_if b) _ (none-comma_if b)
      (none-append (compact_text d) _ (none-compact_text d p.0) (none-items_text true ds p.1))

  none-members_text : (b : Bool) (ms : Members) → HasPlain ms → has_line_feed (members_text b ms) ≡ false
  none-members_text b no_members p = refl
  none-members_text b (member k d ms) p =
      none-append (comma_if b) _ (none-comma_if b) (none-append (quoted k) _ (none-quoted k)
      (none-append (compact_text d) _ (none-compact_text d p.1) (none-members_text true ms p.2)))
