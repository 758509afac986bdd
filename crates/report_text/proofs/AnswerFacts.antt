-- Answers: their JSON is plain and reads back as them, and what is read is right.
use Rattle.std.proofs.Common.{◌≡◌, ℕ, ◌≤◌, List, Some, codes, refl, arith, IsUtf8}
use Rattle.std.proofs.lemmas.Option.{option_and_then_some}
use Rattle.json.proofs.Printed.Utf8.{IsUtf8-are_ascii}
use Rattle.serde_json.specs.Data.{Data, depth}
use Rattle.serde_json.specs.Read.{max_depth}
use Rattle.report_text.specs.declared.line.Line.{Line}
use Rattle.report_text.specs.declared.line.Line.TheVariants as line
use Rattle.report_text.specs.declared.line.Verdict.{Verdict}
use Rattle.report_text.specs.declared.line.Verdict.TheVariants.{Yes, No, Undecided}
use Rattle.report_fields.specs.Fields.{longs_at, ids_at, texts_at}
use Rattle.report_text.specs.AnswerLine.{IsWellFormedAnswer, verdict_word, verdict_of, verdict_at, answer_data, answer_at}
use Rattle.report_text.specs.Lines.{IsWellFormed}
use Rattle.report_fields.proofs.Plain.{IsPlain}
use Rattle.report_fields.proofs.FieldFacts.{items_depth-numbers, items_depth-texts, ArePlain-longs, ArePlain-ids, ArePlain-texts, each_of-longs, each_of-ids}
use Rattle.report_fields.proofs.FieldFacts.{each_of-texts, All-longs_at, All-ids_at, All-texts_at}

-- a verdict's word is UTF-8
IsUtf8-verdict_word : (verdict : Verdict) → IsUtf8 (verdict_word verdict)
IsUtf8-verdict_word Yes = IsUtf8-are_ascii _ refl
IsUtf8-verdict_word No = IsUtf8-are_ascii _ refl
IsUtf8-verdict_word Undecided = IsUtf8-are_ascii _ refl

-- a verdict's word gives back the verdict
verdict_of-word : (verdict : Verdict) → verdict_of (verdict_word verdict) ≡ Some verdict
verdict_of-word Yes = refl
verdict_of-word No = refl
verdict_of-word Undecided = refl

-- a well-formed answer's JSON is plain
pub IsPlain-answer_data : (brave ar iar : Verdict) (cores : List ℕ) (names : List (List ℕ)) (tuple : List ℕ) → IsWellFormedAnswer cores names tuple
    → IsPlain (answer_data brave ar iar cores names tuple)
IsPlain-answer_data brave ar iar cores names tuple h = (
  refl,
  (
    IsUtf8-are_ascii _ refl,
    IsUtf8-verdict_word ar,
    (
      IsUtf8-are_ascii _ refl,
      IsUtf8-verdict_word brave,
      (
        IsUtf8-are_ascii _ refl,
        ArePlain-longs cores h.cores_fit,
        (
          IsUtf8-are_ascii _ refl,
          IsUtf8-verdict_word iar,
          (
            IsUtf8-are_ascii _ refl,
            IsUtf8-are_ascii _ refl,
            (IsUtf8-are_ascii _ refl, ArePlain-texts names h.names_are_texts, (IsUtf8-are_ascii _ refl, ArePlain-ids tuple h.tuple_fits, tt)),
          ),
        ),
      ),
    ),
  ),
)

-- an answer's JSON is shallow
pub depth-answer_data : (brave ar iar : Verdict) (cores : List ℕ) (names : List (List ℕ)) (tuple : List ℕ)
    → depth (answer_data brave ar iar cores names tuple) ≤ max_depth
depth-answer_data brave ar iar cores names tuple = omega (arith, items_depth-numbers cores, items_depth-texts names, items_depth-numbers tuple)

-- a well-formed answer's JSON gives back the answer
pub answer_at-answer_data : (brave ar iar : Verdict) (cores : List ℕ) (names : List (List ℕ)) (tuple : List ℕ) → IsWellFormedAnswer cores names tuple
    → answer_at (answer_data brave ar iar cores names tuple) ≡ Some (line.Answer brave ar iar cores names tuple)
answer_at-answer_data brave ar iar cores names tuple h =
    rw (
      verdict_of-word brave,
      verdict_of-word ar,
      verdict_of-word iar,
      each_of-longs cores h.cores_fit,
      each_of-texts names h.names_are_texts,
      each_of-ids tuple h.tuple_fits,
    ) refl

-- an answer that is found is well formed
pub IsWellFormed-answer_at : (d : Data) (found : Line) → answer_at d ≡ Some found → IsWellFormed found
IsWellFormed-answer_at d found e =
    option_and_then_some _ (verdict_at (codes "brave") d) found e (λ brave brave_is e.
    option_and_then_some _ (verdict_at (codes "ar") d) found e (λ ar ar_is e.
    option_and_then_some _ (verdict_at (codes "iar") d) found e (λ iar iar_is e.
    option_and_then_some _ (longs_at (codes "cores") d) found e (λ cores cores_is e.
    option_and_then_some _ (texts_at (codes "names") d) found e (λ names names_is e.
    option_and_then_some _ (ids_at (codes "tuple") d) found e (λ tuple tuple_is e.
    let same : line.Answer brave ar iar cores names tuple ≡ found = cc e in
    rw (← same) (record {
      cores_fit = All-longs_at (codes "cores") d cores cores_is;
      names_are_texts = All-texts_at (codes "names") d names names_is;
      tuple_fits = All-ids_at (codes "tuple") d tuple tuple_is;
    })))))))
