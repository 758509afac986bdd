-- The lines of a text and the words of a line.
use Rattle.std.specs.Prelude.{ℕ, Bool, true, false, ◌&&◌, ◌||◌, ◌==◌, List, [], ◌∷◌, if◌then◌else◌, map, filter}
use Rattle.std.specs.List.{onto_first, slice_split}

-- the three bytes of a byte order mark
abbrev pub is_mark : ℕ → ℕ → ℕ → Bool
is_mark a b c = a == 239 && b == 187 && c == 191

-- the bytes after every byte order mark at the beginning
unfoldable pub skip_marks : List ℕ → List ℕ
skip_marks [] = []
skip_marks (a ∷ []) = a ∷ []
skip_marks (a ∷ b ∷ []) = a ∷ b ∷ []
skip_marks (a ∷ b ∷ c ∷ rest) = if is_mark a b c then skip_marks rest else a ∷ b ∷ c ∷ rest

-- LF
abbrev pub is_line_end : ℕ → Bool
is_line_end byte = byte == 10

-- the pieces that end at each LF; what follows the last LF is one too, unless it is empty
unfoldable pub pieces : List ℕ → List (List ℕ)
pieces [] = []
pieces (byte ∷ bytes) = if is_line_end byte then [] ∷ pieces bytes else onto_first byte (pieces bytes)

-- the piece without a CR at its end
unfoldable pub without_return : List ℕ → List ℕ
without_return [] = []
without_return (byte ∷ []) = if byte == 13 then [] else byte ∷ []
without_return (byte ∷ next ∷ piece) = byte ∷ without_return (next ∷ piece)

-- the lines of a text that begins with no mark
abbrev pub lines_in : List ℕ → List (List ℕ)
lines_in text = map without_return (pieces text)

-- the lines of a text
abbrev pub lines_of : List ℕ → List (List ℕ)
lines_of bytes = lines_in (skip_marks bytes)

-- space or tab
abbrev pub is_blank : ℕ → Bool
is_blank byte = byte == 32 || byte == 9

-- blanks alone, or blanks and then `#` and anything
unfoldable pub is_silent : List ℕ → Bool
is_silent [] = true
is_silent (byte ∷ line) = if is_blank byte then is_silent line else byte == 35

-- what stands between two blanks is a word, unless it is empty
abbrev pub is_word : List ℕ → Bool
is_word [] = false
is_word (byte ∷ bytes) = true

-- the words of a line, in order
unfoldable pub words_of : List ℕ → List (List ℕ)
words_of line = filter is_word (slice_split is_blank line)
