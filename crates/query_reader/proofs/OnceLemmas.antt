-- One token is at the front of a text, and one fault.
use Rattle.std.proofs.Common.{◌≡◌, inl, inr, ℕ, true, ◌&&◌, ◌==◌, List, [], ◌∷◌, ◌++◌, if◌then◌else◌, refl, sym, ap, ◌∙◌, arith, subst}
use Rattle.std.specs.List.{list_all}
use Rattle.std.specs.Str.{IsValidUpTo}
use Rattle.std.proofs.lemmas.Bool.Decides.{nat_tests}
use Rattle.std.proofs.lemmas.Str.{utf8_valid_len-IsValidUpTo}
use Rattle.axiom_reader.specs.Name.{IsName, is_name_text, is_first, is_later}
use Rattle.axiom_reader.proofs.NameLemmas.{all_later, empty_is_no_name}
use Rattle.query_reader.specs.declared.place.Place.{Place}
use Rattle.query_reader.specs.Faults.{IsLeft, EndsInside, between, in_variable, in_arrow, in_constant, BreaksInside, FaultBehind, place_behind}
use Rattle.query_reader.specs.Parts.{halved}
use Rattle.query_reader.specs.Tokens.{Token, variable, constant, name, arrow, opening, closing, comma, Stands, after_gap, doubled, is_letter}
use Rattle.query_reader.proofs.InsideLemmas.{stands_inside, has_once, halved-doubled, no_break, some_bytes, other_byte}
use Rattle.query_reader.proofs.RunLemmas.{both, runs_once}

-- which token a text can begin with, by its first byte
kind_at : List ℕ → ℕ
kind_at [] = 7
kind_at (b ∷ bytes) =
    if b == 63 then 1 else (if b == 39 then 2 else (if b == 60 then 3 else (if b == 40 then 4 else (if b == 41 then 5 else (if b == 44 then 6 else 7)))))

-- the number of each kind of token
abbrev kind : Token → ℕ
kind (variable letters) = 1
kind (constant text) = 2
kind arrow = 3
kind opening = 4
kind closing = 5
kind comma = 6
kind (name text) = 7

-- a name begins with none of the marks
name_kind : (byte : ℕ) (bytes : List ℕ) → is_first byte ≡ true → kind_at (byte ∷ bytes) ≡ 7
unfolding kind_at
name_kind byte bytes h = grind (arith, nat_tests)

-- the first byte of a name
name_first : (byte : ℕ) (bytes : List ℕ) → IsName (byte ∷ bytes) → is_first byte ≡ true
unfolding is_name_text
name_first byte bytes h = (both (is_first byte) (list_all is_later bytes) (both (is_first byte && list_all is_later bytes) _ h).0).0

-- a token at the front shows in the first byte
kind_is : (token : Token) (text after : List ℕ) → Stands token text after → kind_at text ≡ kind token
unfolding kind_at
kind_is (variable letters) text after s = ap kind_at s.whole
kind_is (constant meant) text after s = ap kind_at s.whole
kind_is arrow text after s = ap kind_at s.whole
kind_is opening text after s = ap kind_at s.whole
kind_is closing text after s = ap kind_at s.whole
kind_is comma text after s = ap kind_at s.whole
kind_is (name []) text after s = absurd (empty_is_no_name [] refl s.valid)
kind_is (name (byte ∷ bytes)) text after s = ap kind_at s.whole ∙ name_kind byte (bytes ++ after) (name_first byte bytes s.valid)

-- two constants at the front are one
constant_once : (a b text after rest : List ℕ) → Stands (constant a) text after → Stands (constant b) text rest → (constant a ≡ constant b) × (after ≡ rest)
constant_once a b text after rest h k =
    let once = has_once text (doubled a) (39 ∷ after) (doubled b) (39 ∷ rest) (stands_inside text a after h) (stands_inside text b rest k) in
    let same : a ≡ b = sym (halved-doubled a) ∙ ap halved once.0 ∙ halved-doubled b in
    let tail : 39 ∷ after ≡ 39 ∷ rest = once.1 in
    (ap constant same, cc)

variable_once : (a b text after rest : List ℕ) → Stands (variable a) text after → Stands (variable b) text rest → (variable a ≡ variable b) × (after ≡ rest)
variable_once a b text after rest h k =
    let whole : 63 ∷ (a ++ after) ≡ 63 ∷ (b ++ rest) = sym h.whole ∙ k.whole in
    let once = runs_once is_letter a after b rest h.valid.1 h.ends k.valid.1 k.ends cc in
    (ap variable once.0, once.1)

name_once : (a b text after rest : List ℕ) → Stands (name a) text after → Stands (name b) text rest → (name a ≡ name b) × (after ≡ rest)
name_once a b text after rest h k =
    let once = runs_once is_later a after b rest (all_later a h.valid) h.ends (all_later b k.valid) k.ends (sym h.whole ∙ k.whole) in
    (ap name once.0, once.1)

-- what follows a mark
mark_once : (byte : ℕ) (after rest : List ℕ) → byte ∷ after ≡ byte ∷ rest → after ≡ rest
mark_once byte after rest e = cc

arrow_once : (after rest : List ℕ) → 60 ∷ 45 ∷ after ≡ 60 ∷ 45 ∷ rest → after ≡ rest
arrow_once after rest e = cc

-- tokens of one kind at the front are one
kind_once : (t u : Token) (text after rest : List ℕ) → kind t ≡ kind u → Stands t text after → Stands u text rest → (t ≡ u) × (after ≡ rest)
kind_once (variable a) (variable b) text after rest e h k = variable_once a b text after rest h k
kind_once (constant a) (constant b) text after rest e h k = constant_once a b text after rest h k
kind_once (name a) (name b) text after rest e h k = name_once a b text after rest h k
kind_once arrow arrow text after rest e h k = (refl, arrow_once after rest (sym h.whole ∙ k.whole))
kind_once opening opening text after rest e h k = (refl, mark_once 40 after rest (sym h.whole ∙ k.whole))
kind_once closing closing text after rest e h k = (refl, mark_once 41 after rest (sym h.whole ∙ k.whole))
kind_once comma comma text after rest e h k = (refl, mark_once 44 after rest (sym h.whole ∙ k.whole))
kind_once t u text after rest e h k = let no : ⊥ = cc e in absurd no

-- one token is at the front
pub token_once : (t u : Token) (text after rest : List ℕ) → Stands t text after → Stands u text rest → (t ≡ u) × (after ≡ rest)
token_once t u text after rest h k = kind_once t u text after rest (sym (kind_is t text after h) ∙ kind_is u text rest k) h k

-- where a text ends inside a token, it breaks in no constant
ends_or_breaks : (place : Place) (text : List ℕ) (left : ℕ) → EndsInside place text → BreaksInside place text left → ⊥
ends_or_breaks place text left ends breaks =
    elim ends [
      | between e ↦ some_bytes text _ 39 breaks.is_inside.whole e
      | in_variable may e ↦ other_byte text _ [] 39 63 (λ k. cc k) breaks.is_inside.whole e
      | in_arrow may e ↦ other_byte text _ [] 39 60 (λ k. cc k) breaks.is_inside.whole e
      | in_constant may inside unclosed utf8 ↦ no_break inside breaks.valid utf8
          (subst (λ bytes. IsValidUpTo bytes breaks.valid) (has_once text breaks.inside breaks.tail inside [] breaks.is_inside unclosed).0 breaks.utf8_until)
    ]

-- a text breaks in one way
break_once : (place : Place) (text : List ℕ) (left other : ℕ) → BreaksInside place text left → BreaksInside place text other → left ≡ other
break_once place text left other h k =
    let once = has_once text h.inside h.tail k.inside k.tail h.is_inside k.is_inside in
    let first = utf8_valid_len-IsValidUpTo k.inside h.valid (subst (λ bytes. IsValidUpTo bytes h.valid) once.0 h.utf8_until) in
    let second = utf8_valid_len-IsValidUpTo k.inside k.valid k.utf8_until in
    let same : h.valid ≡ k.valid = sym first ∙ second in
    omega (arith, h.left_is, k.left_is)

-- a place has one fault
left_once : (place : Place) (text : List ℕ) (left other : ℕ) → IsLeft place text left → IsLeft place text other → left ≡ other
left_once place text left other (inl a) (inl b) = a.1 ∙ sym b.1
left_once place text left other (inl a) (inr (inl b)) = absurd (ends_or_breaks place text other a.0 b)
left_once place text left other (inl a) (inr (inr b)) = absurd (b.0 a.0)
left_once place text left other (inr (inl a)) (inl b) = absurd (ends_or_breaks place text left b.0 a)
left_once place text left other (inr (inl a)) (inr (inl b)) = break_once place text left other a b
left_once place text left other (inr (inl a)) (inr (inr b)) = absurd (b.1 left a)
left_once place text left other (inr (inr a)) (inl b) = absurd (a.0 b.0)
left_once place text left other (inr (inr a)) (inr (inl b)) = absurd (a.1 other b)
left_once place text left other (inr (inr a)) (inr (inr b)) = a.2 ∙ sym b.2

-- a text has one first fault from a place on
pub fault_once : (read others : List Token) (place : Place) (text : List ℕ) (left other : ℕ) → FaultBehind read place text left
    → FaultBehind others place text other → left ≡ other
fault_once [] [] place text left other h k = left_once place (after_gap text) left other h.left_is k.left_is
fault_once [] (u ∷ others) place text left other h (may, (after, stands, k)) = absurd (h.none u after may stands)
fault_once (t ∷ read) [] place text left other (may, (after, stands, h)) k = absurd (k.none t after may stands)
fault_once (t ∷ read) (u ∷ others) place text left other (may, (after, stands, h)) (also, (rest, again, k)) =
    let once = token_once t u (after_gap text) after rest stands again in
    let there : FaultBehind others (place_behind place t after) after other =
    subst (λ bytes. FaultBehind others (place_behind place t bytes) bytes other) (sym once.1)
    (subst (λ token. FaultBehind others (place_behind place token rest) rest other) (sym once.0) k) in
    fault_once read others (place_behind place t after) after left other h there
