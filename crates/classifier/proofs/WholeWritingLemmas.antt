-- Lines that are written one after another, and when they are right.
use Rattle.std.proofs.Common.{◌≡◌, ℕ, ◌+◌, ◌<◌, List, [], ◌∷◌, ◌++◌, length, map, take, drop, get_or, Option, Some, None}
use Rattle.std.proofs.Common.{Result, Ok, Err, refl, sym, subst, ap, ◌∙◌}
use Rattle.std.specs.Prelude.{reverse, IfSome}
use Rattle.std.specs.List.{flat_map}
use Rattle.std.specs.Result.{IsErrAnd}
use Rattle.std.proofs.lemmas.List.{append-nil, append_assoc, map-append, map_more, take_more, take-append-drop}
use Rattle.report_text.specs.declared.line.Line.{Line}
use Rattle.report_text.specs.declared.report.LineFault.{LineFault}
use Rattle.report_text.specs.declared.report.LineFault.TheVariants.{Failed, NoMemory}
use Rattle.report_text.specs.Reports.{StayTold, torn_after}
use Rattle.report_rules.specs.Inputs.{Input}
use Rattle.report_rules.specs.Accepted.{Right, AreRight}
use Rattle.report_laws.proofs.ListLemmas.{reverse-cons}
use Rattle.answer_desk.specs.declared.plan.ClassifyFault.{ClassifyFault}
use Rattle.answer_desk.specs.Answering.{AreRightAfter}
use Rattle.classifier.specs.WholeWriting.{AddsLines, TearsFirst, StopsAmong, WritesAll, with_lines, AreRightInTurn, IsRightSoFar}

-- ---- what is added

pub adds_none : (old : Option (List Line)) → AddsLines old old []
adds_none None = tt
adds_none (Some lines) = ap (λ (xs : List Line). Some xs) (sym (append-nil lines))

pub adds_stay : (old new : Option (List Line)) → StayTold old new → AddsLines old new []
adds_stay None new s = tt
adds_stay (Some lines) new s = s ∙ ap (λ (xs : List Line). Some xs) (sym (append-nil lines))

pub adds_more : (old mid new : Option (List Line)) (first second : List Line) → AddsLines old mid first → AddsLines mid new second
    → AddsLines old new (first ++ second)
adds_more None mid new first second a b = tt
adds_more (Some lines) mid new first second a b =
    let told : new ≡ Some ((lines ++ first) ++ second) = subst (λ (o : Option (List Line)). AddsLines o new second) a b in
    told ∙ ap (λ (xs : List Line). Some xs) (append_assoc lines first second)

-- ---- calls that stop

-- nothing of the lines was written
pub stops_at_once : (old new : Option (List Line)) (lines : List Line) → AddsLines old new [] → StopsAmong old new None lines
stops_at_once old new lines added = record { written = []; rest = lines; parts = refl; added = added; torn_next = tt }

-- a call for one line
pub stops_at_line : (old new : Option (List Line)) (torn : Option Line) (fault : LineFault) (line : Line) → StayTold old new
    → torn ≡ torn_after {T = Unit {0}} (Err fault) line → StopsAmong old new torn (line ∷ [])
stops_at_line old new torn Failed line stay e = record {
  written = [];
  rest = line ∷ [];
  parts = refl;
  added = adds_stay old new stay;
  torn_next = subst (λ (t : Option Line). TearsFirst t (line ∷ [])) (sym e) ([], refl);
}
stops_at_line old new torn NoMemory line stay e = record {
  written = [];
  rest = line ∷ [];
  parts = refl;
  added = adds_stay old new stay;
  torn_next = subst (λ (t : Option Line). TearsFirst t (line ∷ [])) (sym e) tt;
}

tears_more : (torn : Option Line) (rest more : List Line) → TearsFirst torn rest → TearsFirst torn (rest ++ more)
tears_more None rest more t = tt
tears_more (Some l) rest more (later, e) = (later ++ more, ap (λ (xs : List Line). xs ++ more) e)

-- more lines were to come
pub stops_before : (old new : Option (List Line)) (torn : Option Line) (first second : List Line) → StopsAmong old new torn first
    → StopsAmong old new torn (first ++ second)
stops_before old new torn first second s = record {
  written = s.written;
  rest = s.rest ++ second;
  parts = ap (λ (xs : List Line). xs ++ second) s.parts ∙ append_assoc s.written s.rest second;
  added = s.added;
  torn_next = tears_more torn s.rest second s.torn_next;
}

-- lines were written before
pub stops_behind : (old mid new : Option (List Line)) (torn : Option Line) (first second : List Line) → AddsLines old mid first
    → StopsAmong mid new torn second → StopsAmong old new torn (first ++ second)
stops_behind old mid new torn first second a s = record {
  written = first ++ s.written;
  rest = s.rest;
  parts = ap (λ (xs : List Line). first ++ xs) s.parts ∙ sym (append_assoc first s.written s.rest);
  added = adds_more old mid new first s.written a s.added;
  torn_next = s.torn_next;
}

-- what a `?` passes on
pub stopped_all : {T : Type 0} (Q : ClassifyFault → Type 0) (r : Result T ClassifyFault) → IsErrAnd r Q → (old new : Option (List Line))
    (torn : Option Line) (lines : List Line) → StopsAmong old new torn lines → WritesAll r old new torn lines
stopped_all Q (Ok v) is old new torn lines s = absurd is
stopped_all Q (Err f) is old new torn lines s = s

-- between lines that were written and lines that were to come
pub stops_between : (old mid new : Option (List Line)) (torn : Option Line) (first here last all : List Line) → all ≡ (first ++ here) ++ last
    → AddsLines old mid first → StopsAmong mid new torn here → StopsAmong old new torn all
stops_between old mid new torn first here last all split a s = subst (StopsAmong old new torn) (sym split)
    (stops_before old new torn (first ++ here) last (stops_behind old mid new torn first here a s))

-- a call for the others behind lines that were written
pub writes_behind : {T : Type 0} (r : Result T ClassifyFault) (old mid new : Option (List Line)) (torn : Option Line) (first second : List Line)
    → AddsLines old mid first → WritesAll r mid new torn second → WritesAll r old new torn (first ++ second)
writes_behind (Ok v) old mid new torn first second a w = (adds_more old mid new first second a w.0, w.1)
writes_behind (Err f) old mid new torn first second a w = stops_behind old mid new torn first second a w

-- ---- lines item by item

pub map_next : {X : Type 0} (f : X → Line) (xs : List X) (i : ℕ) (x : X) → i < length xs → x ≡ get_or xs i x
    → map f (take (i + 1) xs) ≡ map f (take i xs) ++ f x ∷ []
map_next {X} f xs i x inside at = map_more f xs i x inside ∙ ap (λ (y : X). map f (take i xs) ++ f y ∷ []) (sym at)

-- the lines of the items before, of one item, and of the later ones
pub map_split : {X : Type 0} (f : X → Line) (xs : List X) (i : ℕ) (x : X) → i < length xs → x ≡ get_or xs i x
    → map f xs ≡ (map f (take i xs) ++ f x ∷ []) ++ map f (drop (i + 1) xs)
map_split f xs i x inside at = ap (map f) (sym (take-append-drop (i + 1) xs))
    ∙ (map-append f (take (i + 1) xs) (drop (i + 1) xs) ∙ ap (λ (ls : List Line). ls ++ map f (drop (i + 1) xs)) (map_next f xs i x inside at))

flat_append : {X : Type 0} (f : X → List Line) (xs ys : List X) → flat_map f (xs ++ ys) ≡ flat_map f xs ++ flat_map f ys
flat_append f [] ys = refl
flat_append f (x ∷ xs) ys = ap (λ (ls : List Line). f x ++ ls) (flat_append f xs ys) ∙ sym (append_assoc (f x) (flat_map f xs) (flat_map f ys))

pub flat_next : {X : Type 0} (f : X → List Line) (xs : List X) (i : ℕ) (x : X) → i < length xs → x ≡ get_or xs i x
    → flat_map f (take (i + 1) xs) ≡ flat_map f (take i xs) ++ f x
flat_next {X} f xs i x inside at = ap (flat_map f) (take_more xs i x inside ∙ ap (λ (y : X). take i xs ++ y ∷ []) (sym at))
    ∙ (flat_append f (take i xs) (x ∷ []) ∙ ap (λ (ls : List Line). flat_map f (take i xs) ++ ls) (append-nil (f x)))

pub flat_split : {X : Type 0} (f : X → List Line) (xs : List X) (i : ℕ) (x : X) → i < length xs → x ≡ get_or xs i x
    → flat_map f xs ≡ (flat_map f (take i xs) ++ f x) ++ flat_map f (drop (i + 1) xs)
flat_split f xs i x inside at = ap (flat_map f) (sym (take-append-drop (i + 1) xs))
    ∙ (flat_append f (take (i + 1) xs) (drop (i + 1) xs) ∙ ap (λ (ls : List Line). ls ++ flat_map f (drop (i + 1) xs)) (flat_next f xs i x inside at))

-- ---- lines in turn

pub with_lines-append : (before xs ys : List Line) → with_lines before (xs ++ ys) ≡ with_lines (with_lines before xs) ys
with_lines-append before [] ys = refl
with_lines-append before (x ∷ xs) ys = with_lines-append (x ∷ before) xs ys

pub reverse-with_lines : (before xs : List Line) → reverse (with_lines before xs) ≡ reverse before ++ xs
reverse-with_lines before [] = sym (append-nil (reverse before))
reverse-with_lines before (x ∷ xs) = reverse-with_lines (x ∷ before) xs
    ∙ (ap (λ (ys : List Line). ys ++ xs) (reverse-cons x before) ∙ append_assoc (reverse before) (x ∷ []) xs)

pub in_turn_append : (input : Input) (before xs ys : List Line) → AreRightInTurn input before xs → AreRightInTurn input (with_lines before xs) ys
    → AreRightInTurn input before (xs ++ ys)
in_turn_append input before [] ys r s = s
in_turn_append input before (x ∷ xs) ys r s = (r.0, in_turn_append input (x ∷ before) xs ys r.1 s)

pub in_turn_parts : (input : Input) (before xs ys : List Line) → AreRightInTurn input before (xs ++ ys)
    → AreRightInTurn input before xs × AreRightInTurn input (with_lines before xs) ys
in_turn_parts input before [] ys r = (tt, r)
in_turn_parts input before (x ∷ xs) ys r = let w = in_turn_parts input (x ∷ before) xs ys r.1 in ((r.0, w.0), w.1)

pub right_with : (input : Input) (before xs : List Line) → AreRight input before → AreRightInTurn input before xs → AreRight input (with_lines before xs)
right_with input before [] a r = a
right_with input before (x ∷ xs) a r = right_with input (x ∷ before) xs (r.0, a) r.1

-- right lines after right lines, newest first
pub right_after : (input : Input) (before more : List Line) → AreRight input before → AreRightAfter input before more → AreRight input (more ++ before)
right_after input before [] a r = a
right_after input before (l ∷ more) a r = (r.0, right_after input before more a r.1)

-- ---- what the report tells

torn_is_right : (input : Input) (before : List Line) (torn : Option Line) (rest : List Line) → TearsFirst torn rest → AreRightInTurn input before rest
    → IfSome torn (Right input before)
torn_is_right input before None rest t r = tt
torn_is_right input before (Some l) rest (more, e) r = (subst (AreRightInTurn input before) e r).0

-- where it stopped among lines that are right in turn
pub stopped_right : (input : Input) (before lines : List Line) (old new : Option (List Line)) (torn : Option Line) → old ≡ Some (reverse before)
    → AreRight input before → AreRightInTurn input before lines → StopsAmong old new torn lines → IsRightSoFar input new torn
stopped_right input before lines old new torn told right turn s =
    let parts = in_turn_parts input before s.written s.rest (subst (AreRightInTurn input before) s.parts turn) in
    let added : new ≡ Some (reverse before ++ s.written) = subst (λ (o : Option (List Line)). AddsLines o new s.written) told s.added in
    record {
      before = with_lines before s.written;
      lines = added ∙ ap (λ (xs : List Line). Some xs) (sym (reverse-with_lines before s.written));
      right = right_with input before s.written right parts.0;
      torn_right = torn_is_right input (with_lines before s.written) torn s.rest s.torn_next parts.1;
    }

-- and where all were written
pub told_with : (before lines : List Line) (old new : Option (List Line)) → old ≡ Some (reverse before) → AddsLines old new lines
    → new ≡ Some (reverse (with_lines before lines))
told_with before lines old new told a =
    let added : new ≡ Some (reverse before ++ lines) = subst (λ (o : Option (List Line)). AddsLines o new lines) told a in
    added ∙ ap (λ (xs : List Line). Some xs) (sym (reverse-with_lines before lines))
