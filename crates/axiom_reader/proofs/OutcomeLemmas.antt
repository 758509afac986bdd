-- Each line gives one thing, and each text comes to one thing.
use Rattle.std.proofs.Common.{◌≡◌, ◌≢◌, ℕ, ◌+◌, ◌≤◌, ◌<◌, ◌⊎◌, inl, inr, Bool, true, false, cond, eqb, List, [], ◌∷◌, ◌++◌, length, Option, Some, None, refl}
use Rattle.std.proofs.Common.{sym, ap, ◌∙◌, subst, arith}
use Rattle.std.specs.Str.{IsUtf8, is_utf8}
use Rattle.std.proofs.lemmas.Str.{IsUtf8-from_is_utf8, is_utf8-from_IsUtf8}
use Rattle.std.proofs.lemmas.Bool.Decides.{Decides-eqb}
use Rattle.axiom_reader.specs.Axioms.{NamedAxiom, Says}
use Rattle.axiom_reader.specs.Lines.{is_silent, lines_of, words_of}
use Rattle.axiom_reader.specs.Parts.{axiom_at}
use Rattle.axiom_reader.specs.Reading.{LineOutcome, nothing, one, not_utf8, bad, Gives, GiveAxioms, Fault, line_not_utf8, bad_line, too_many, HasFault}
use Rattle.axiom_reader.specs.Reading.{TextOutcome, reads, refuses, ComesTo, most_axioms}
use Rattle.axiom_reader.proofs.TestLemmas.{untrue}
use Rattle.axiom_reader.proofs.ParseLemmas.{axiom_complete, axiom_sound}

-- what words say, or that they say nothing
abbrev said : Option NamedAxiom → LineOutcome
said None = bad
said (Some named) = one named

-- what a line gives, computed
abbrev outcome : List ℕ → LineOutcome
outcome line = cond (is_silent line) nothing (cond (is_utf8 line) (said (axiom_at (words_of line))) not_utf8)

-- bytes that aren't UTF-8 fail the test
fails_utf8 : (line : List ℕ) → ¬ (IsUtf8 line) → is_utf8 line ≡ false
fails_utf8 line h = untrue (is_utf8 line) (λ e. h (IsUtf8-from_is_utf8 line e))

-- words that say nothing are parsed as nothing
says_none : (line : List ℕ) → ((named : NamedAxiom) → ¬ (Says line named)) → axiom_at (words_of line) ≡ None
says_none line none = by (axiom_at (words_of line)) refl
  where
    by : (o : Option NamedAxiom) → axiom_at (words_of line) ≡ o → o ≡ None
    by None e = refl
    by (Some named) e = let says = axiom_sound (words_of line) named e in absurd (none named (record { names = says.0; words = says.1 }))

-- what a line gives is what is computed
gives_outcome : (line : List ℕ) (given : LineOutcome) → Gives line given → outcome line ≡ given
gives_outcome line nothing h = rw h refl
gives_outcome line (one named) h =
    let says : axiom_at (words_of line) ≡ Some named = ap axiom_at h.2.words ∙ axiom_complete named h.2.names in
    rw (untrue (is_silent line) h.0, is_utf8-from_IsUtf8 line h.1, says) refl
gives_outcome line not_utf8 h = rw (untrue (is_silent line) h.0, fails_utf8 line h.1) refl
gives_outcome line bad h = rw (untrue (is_silent line) h.0, is_utf8-from_IsUtf8 line h.1, says_none line h.2) refl

-- no line gives two things
pub gives_once : (line : List ℕ) (first second : LineOutcome) → Gives line first → Gives line second → first ≡ second
gives_once line first second h k = sym (gives_outcome line first h) ∙ gives_outcome line second k

-- a line gives something
pub gives_some : (line : List ℕ) → (given : LineOutcome) × Gives line given
gives_some line = by (is_silent line) refl
  where
    parsed : (o : Option NamedAxiom) → axiom_at (words_of line) ≡ o → ¬ (is_silent line ≡ true) → IsUtf8 line
        → (given : LineOutcome) × Gives line given
    parsed None e loud utf8 = (bad, (loud, utf8, λ named says. let yes = sym e ∙ ap axiom_at says.words ∙ axiom_complete named says.names in cc))
    parsed (Some named) e loud utf8 = let says = axiom_sound (words_of line) named e in (one named, (loud, utf8, record { names = says.0; words = says.1 }))

    tested : (b : Bool) → is_utf8 line ≡ b → ¬ (is_silent line ≡ true) → (given : LineOutcome) × Gives line given
    tested true e loud = parsed (axiom_at (words_of line)) refl loud (IsUtf8-from_is_utf8 line e)
    tested false e loud = (not_utf8, (loud, λ utf8. let yes = is_utf8-from_IsUtf8 line utf8 in cc))

    by : (b : Bool) → is_silent line ≡ b → (given : LineOutcome) × Gives line given
    by true e = (nothing, e)
    by false e = tested (is_utf8 line) refl (λ silent. cc)

-- one more axiom in front
abbrev with_first : NamedAxiom → TextOutcome → TextOutcome
with_first named (reads axioms) = reads (named ∷ axioms)
with_first named (refuses fault number) = refuses fault number

-- what a line makes of what comes after it
abbrev onward : LineOutcome → ℕ → ℕ → TextOutcome → TextOutcome → TextOutcome
onward nothing count number skipped taken = skipped
onward (one named) count number skipped taken = cond (eqb count most_axioms) (refuses too_many number) (with_first named taken)
onward not_utf8 count number skipped taken = refuses line_not_utf8 number
onward bad count number skipped taken = refuses bad_line number

-- what lines come to after so many axioms, where the first has this number, computed
come : ℕ → ℕ → List (List ℕ) → TextOutcome
come count number [] = reads []
come count number (line ∷ lines) = onward (outcome line) count number (come count (number + 1) lines) (come (count + 1) (number + 1) lines)

-- a silent line is passed over
come_nothing : (count number : ℕ) (line : List ℕ) (lines : List (List ℕ)) → Gives line nothing
    → come count number (line ∷ lines) ≡ come count (number + 1) lines
unfolding come
come_nothing count number line lines h = rw (gives_outcome line nothing h) refl

-- an axiom is taken, where there is room
come_one : (count number : ℕ) (line : List ℕ) (lines : List (List ℕ)) (named : NamedAxiom) → Gives line (one named)
    → count < most_axioms → come count number (line ∷ lines) ≡ with_first named (come (count + 1) (number + 1) lines)
unfolding come
come_one count number line lines named h room =
    let no : eqb count most_axioms ≡ false = untrue (eqb count most_axioms)
    (λ e. let full : count ≡ most_axioms = (Decides-eqb count most_axioms).0 e in omega arith) in
    rw (gives_outcome line (one named) h, no) refl

-- a line with a fault ends it
come_fault : (count number : ℕ) (fault : Fault) (line : List ℕ) (lines : List (List ℕ)) → HasFault fault count line
    → come count number (line ∷ lines) ≡ refuses fault number
unfolding come
come_fault count number line_not_utf8 line lines h = rw (gives_outcome line not_utf8 h) refl
come_fault count number bad_line line lines h = rw (gives_outcome line bad h) refl
come_fault count number too_many line lines h =
    let yes : eqb count most_axioms ≡ true = (Decides-eqb count most_axioms).1 h.0 in
    rw (gives_outcome line (one h.1.0) h.1.1, yes) refl

-- lines without a fault come to their axioms
come_reads : (lines : List (List ℕ)) (axioms : List NamedAxiom) (count number : ℕ) → GiveAxioms lines axioms
    → count + length axioms ≤ most_axioms → come count number lines ≡ reads axioms
unfolding come
come_reads [] axioms count number h few = ap reads (sym h)
come_reads (line ∷ lines) axioms count number (inl g) few = come_nothing count number line lines g.0 ∙ come_reads lines axioms count (number + 1) g.1 few
come_reads (line ∷ lines) axioms count number (inr (first, more, given, rest, e)) few =
    let size : length axioms ≡ length more + 1 = ap length e ∙ omega arith in
    come_one count number line lines first given (omega arith) ∙ ap (with_first first) (come_reads lines more (count + 1) (number + 1) rest (omega arith))
    ∙ ap reads (sym e)

-- lines of which one has the first fault come to it
come_refuses : (before : List (List ℕ)) (line : List ℕ) (after : List (List ℕ)) (axioms : List NamedAxiom) (fault : Fault) (count number : ℕ)
    → GiveAxioms before axioms → count + length axioms ≤ most_axioms
    → HasFault fault (count + length axioms) line → come count number (before ++ line ∷ after) ≡ refuses fault (number + length before)
come_refuses [] line after axioms fault count number h few has =
    let none : count + length axioms ≡ count = rw h (omega arith) in
    let here : HasFault fault count line = subst (λ n. HasFault fault n line) none has in
    come_fault count number fault line after here ∙ ap (refuses fault) (omega arith)
come_refuses (first ∷ before) line after axioms fault count number (inl g) few has =
    come_nothing count number first (before ++ line ∷ after) g.0 ∙ come_refuses before line after axioms fault count (number + 1) g.1 few has
    ∙ ap (refuses fault) (omega arith)
come_refuses (first ∷ before) line after axioms fault count number (inr (named, more, given, rest, e)) few has =
    let size : length axioms ≡ length more + 1 = ap length e ∙ omega arith in
    let same : count + length axioms ≡ count + 1 + length more = omega arith in
    let later : HasFault fault (count + 1 + length more) line = subst (λ n. HasFault fault n line) same has in
    come_one count number first (before ++ line ∷ after) named given (omega arith)
    ∙ ap (with_first named) (come_refuses before line after more fault (count + 1) (number + 1) rest (omega arith) later) ∙ ap (refuses fault) (omega arith)

-- what a text comes to is what is computed
comes_computed : (bytes : List ℕ) (given : TextOutcome) → ComesTo bytes given → come 0 1 (lines_of bytes) ≡ given
comes_computed bytes (reads axioms) h = come_reads (lines_of bytes) axioms 0 1 h.0 (omega (arith, h.1))
comes_computed bytes (refuses fault number) h =
    let none : length h.axioms ≡ 0 + length h.axioms = omega arith in
    let here : HasFault fault (0 + length h.axioms) h.line = subst (λ n. HasFault fault n h.line) none h.has_fault in
    ap (come 0 1) h.lines ∙ come_refuses h.before h.line h.after h.axioms fault 0 1 h.given (omega (arith, h.few)) here
    ∙ ap (refuses fault) (omega (arith, h.place))

-- no text comes to two things
pub comes_once : (bytes : List ℕ) (first second : TextOutcome) → ComesTo bytes first → ComesTo bytes second → first ≡ second
comes_once bytes first second h k = sym (comes_computed bytes first h) ∙ comes_computed bytes second k

-- lines after so many axioms come to axioms, or to a first fault
abbrev CameTo : ℕ → List (List ℕ) → Type 0
CameTo count lines =
    ((axioms : List NamedAxiom) × GiveAxioms lines axioms × (count + length axioms ≤ most_axioms))
    ⊎ ((fault : Fault) × (before : List (List ℕ)) × (line : List ℕ) × (after : List (List ℕ)) × (axioms : List NamedAxiom) × (lines ≡ before ++ line ∷ after)
    × GiveAxioms before axioms × (count + length axioms ≤ most_axioms) × HasFault fault (count + length axioms) line)

-- a first line with a fault
came_fault : (count : ℕ) (fault : Fault) (line : List ℕ) (lines : List (List ℕ)) → count ≤ most_axioms → HasFault fault count line
    → CameTo count (line ∷ lines)
came_fault count fault line lines few faulty =
    let none : count ≡ count + 0 = omega arith in
    inr (fault, [], line, lines, [], refl, refl, omega arith, subst (λ n. HasFault fault n line) none faulty)

-- a silent line in front
came_nothing : (count : ℕ) (line : List ℕ) (lines : List (List ℕ)) → Gives line nothing → CameTo count lines → CameTo count (line ∷ lines)
came_nothing count line lines g (inl (axioms, h, few)) = inl (axioms, inl (g, h), few)
came_nothing count line lines g (inr (fault, before, at, after, axioms, e, h, few, faulty)) =
    inr (fault, line ∷ before, at, after, axioms, ap (λ lines. line ∷ lines) e, inl (g, h), few, faulty)

-- an axiom in front
came_one : (count : ℕ) (line : List ℕ) (lines : List (List ℕ)) (named : NamedAxiom) → Gives line (one named) → CameTo (count + 1) lines
    → CameTo count (line ∷ lines)
came_one count line lines named g (inl (axioms, h, few)) = inl (named ∷ axioms, inr (named, axioms, g, h, refl), omega arith)
came_one count line lines named g (inr (fault, before, at, after, axioms, e, h, few, faulty)) =
    let same : count + 1 + length axioms ≡ count + length (named ∷ axioms) = omega arith in
    inr (
      fault,
      line ∷ before,
      at,
      after,
      named ∷ axioms,
      ap (λ lines. line ∷ lines) e,
      inr (named, axioms, g, h, refl),
      omega arith,
      subst (λ n. HasFault fault n at) same faulty,
    )

-- a line in front, by what it gives and what the others come to
came_step : (count : ℕ) (line : List ℕ) (lines : List (List ℕ)) → count ≤ most_axioms → (given : LineOutcome) → Gives line given
    → ((n : ℕ) → n ≤ most_axioms → CameTo n lines) → CameTo count (line ∷ lines)
came_step count line lines few nothing g rest = came_nothing count line lines g (rest count few)
came_step count line lines few (one named) g rest = by (eqb count most_axioms) refl
  where
    by : (b : Bool) → eqb count most_axioms ≡ b → CameTo count (line ∷ lines)
    by true e = came_fault count too_many line lines few ((Decides-eqb count most_axioms).0 e, (named, g))
    by false e =
        let room : count ≢ most_axioms = λ full. let yes = (Decides-eqb count most_axioms).1 full in cc in
        came_one count line lines named g (rest (count + 1) (omega arith))
came_step count line lines few not_utf8 g rest = came_fault count line_not_utf8 line lines few g
came_step count line lines few bad g rest = came_fault count bad_line line lines few g

-- lines come to something
came_to : (lines : List (List ℕ)) (count : ℕ) → count ≤ most_axioms → CameTo count lines
came_to [] count few = inl ([], refl, omega arith)
came_to (line ∷ lines) count few = let given = gives_some line in came_step count line lines few given.0 given.1 (came_to lines)

-- a text comes to something
pub comes_some : (bytes : List ℕ) → (given : TextOutcome) × ComesTo bytes given
comes_some bytes = by (came_to (lines_of bytes) 0 (omega arith))
  where
    by : CameTo 0 (lines_of bytes) → (given : TextOutcome) × ComesTo bytes given
    by (inl (axioms, h, few)) = (reads axioms, (h, omega arith))
    by (inr (fault, before, line, after, axioms, e, h, few, faulty)) =
        let none : 0 + length axioms ≡ length axioms = omega arith in (
          refuses fault (length before + 1),
          record {
            before = before;
            line = line;
            after = after;
            axioms = axioms;
            lines = e;
            place = refl;
            given = h;
            few = omega arith;
            has_fault = subst (λ n. HasFault fault n line) none faulty;
          },
        )
