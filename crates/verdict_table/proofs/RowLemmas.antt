-- Records that are written one after another.
use Rattle.std.proofs.Common.{◌≡◌, ℕ, ◌+◌, ◌≤◌, min, List, [], ◌++◌, length, take, Option, Some, None, Result, Ok, Err, OnErr, refl, sym, ap, ◌∙◌}
use Rattle.std.proofs.Common.{arith, append_assoc}
use Rattle.std.proofs.lemmas.List.{append-nil, take-append-le, take_min}
use Rattle.std.proofs.Math.Seq.{take-append-add}
use Rattle.cq_io.specs.Writing.{appended}
use Rattle.cqapri_words.specs.Pieces.{AppendsFirst}
use Rattle.report_text.specs.declared.line.Line.{Line}
use Rattle.report_text.proofs.PieceFacts.{no_pieces}
use Rattle.report_lines.specs.Cutting.{IsBroken, BeginsWith}
use Rattle.verdict_table.specs.Tables.{row_of, rows_of, table_text}

-- a write of nothing
appended-nil : (old : Option (List ℕ)) → appended old [] ≡ old
appended-nil None = refl
appended-nil (Some bytes) = ap Some (append-nil bytes)

-- two writes, one after the other
appended-append : (old : Option (List ℕ)) (first second : List ℕ) → appended (appended old first) second ≡ appended old (first ++ second)
appended-append None first second = refl
appended-append (Some bytes) first second = ap Some (append_assoc bytes first second)

written_then : (old mid new : Option (List ℕ)) (first second : List ℕ) → mid ≡ appended old first → new ≡ appended mid second
    → new ≡ appended old (first ++ second)
written_then old mid new first second e h = h ∙ ap (λ o. appended o second) e ∙ appended-append old first second

-- the first bytes of a text after a text that was written whole
part_then : (old mid new : Option (List ℕ)) (first second : List ℕ) → mid ≡ appended old first → AppendsFirst mid new second
    → AppendsFirst old new (first ++ second)
part_then old mid new first second e (count, h) = (
  length first + count,
  h ∙ ap (λ o. appended o (take count second)) e ∙ appended-append old first (take count second)
      ∙ ap (appended old) (sym (take-append-add first second count)),
)

min-le_right : (m n : ℕ) → min m n ≤ n
min-le_right m n = omega arith

-- the first bytes of a text are those of a longer one
part_of_more : (old new : Option (List ℕ)) (first second : List ℕ) → AppendsFirst old new first → AppendsFirst old new (first ++ second)
part_of_more old new first second (count, h) =
    let m = min count (length first) in
    (m, h ∙ ap (appended old) (sym (take-append-le m first second (min-le_right count (length first)) ∙ take_min count first)))

-- the same under an equal text
part_as : (old new : Option (List ℕ)) {x y : List ℕ} → x ≡ y → AppendsFirst old new x → AppendsFirst old new y
part_as old new e (count, w) = (count, w ∙ ap (λ t. appended old (take count t)) e)

-- the records before the rest are written, and no fault was counted
pub record WrittenSo (old new : Option (List ℕ)) (before now : ℕ) (report rest : List ℕ) : Type 0 where
  pub done : List ℕ
  pub written : new ≡ appended old done
  pub same : table_text report ≡ done ++ table_text rest
  pub no_fault : now ≡ before

-- whatever holds, holds where there is an error
pub OnErr-of : {T E P : Type 0} (r : Result T E) → P → OnErr r P
OnErr-of (Ok x) p = tt
OnErr-of (Err e) p = p

-- before the first line
pub none_written : (old : Option (List ℕ)) (before : ℕ) (report : List ℕ) → WrittenSo old old before before report report
none_written old before report = record { done = []; written = sym (appended-nil old); same = refl; no_fault = refl }

-- behind one line more
pub one_more : (old mid new : Option (List ℕ)) (before middle now : ℕ) (report rest more : List ℕ) (l : Line)
    → WrittenSo old mid before middle report rest → BeginsWith rest l more → new ≡ appended mid (row_of l) → now ≡ middle
    → WrittenSo old new before now report more
one_more old mid new before middle now report rest more l w b h n = record {
  done = w.done ++ row_of l;
  written = written_then old mid new w.done (row_of l) w.written h;
  same = w.same ∙ ap (λ ps. w.done ++ rows_of ps) b.exact ∙ sym (append_assoc w.done (row_of l) (table_text more));
  no_fault = n ∙ w.no_fault;
}

-- at the end of the lines
pub all_written : (old new : Option (List ℕ)) (before now : ℕ) (report rest : List ℕ) → WrittenSo old new before now report rest
    → table_text rest ≡ [] → new ≡ appended old (table_text report)
all_written old new before now report rest w e =
    w.written ∙ ap (appended old) (sym (append-nil w.done) ∙ ap (λ t. w.done ++ t) (sym e) ∙ sym w.same)

-- no bytes have no records, and neither have bytes whose first piece is no line
pub none_left : (rest : List ℕ) → rest ≡ [] → table_text rest ≡ []
none_left rest e = ap table_text e ∙ ap rows_of no_pieces

pub broken_left : (rest : List ℕ) → IsBroken rest → table_text rest ≡ []
broken_left rest (others, e) = ap rows_of e

-- where nothing more is written
pub part_written : (old new : Option (List ℕ)) (before now : ℕ) (report rest : List ℕ) → WrittenSo old new before now report rest
    → AppendsFirst old new (table_text report)
part_written old new before now report rest w =
    part_as old new (sym w.same) (part_then old new new w.done (table_text rest) w.written (0, sym (appended-nil new)))

-- where a part of one line's record is written
pub part_more : (old mid new : Option (List ℕ)) (before middle : ℕ) (report rest more : List ℕ) (l : Line)
    → WrittenSo old mid before middle report rest → BeginsWith rest l more → AppendsFirst mid new (row_of l)
    → AppendsFirst old new (table_text report)
part_more old mid new before middle report rest more l w b p =
    part_as old new (sym (w.same ∙ ap (λ ps. w.done ++ rows_of ps) b.exact))
    (part_then old mid new w.done (row_of l ++ table_text more) w.written (part_of_more mid new (row_of l) (table_text more) p))
