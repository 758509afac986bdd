-- A text behind its byte order marks.
use Rattle.std.proofs.Common.{◌≡◌, ℕ, ◌<◌, ◌≤◌, ◌^◌, Bool, true, false, cond, ◌&&◌, ◌==◌, List, [], ◌∷◌, length, Result, Ok, Err, IfOk, IfErr, arith, sym}
use Rattle.std.proofs.Common.{subst, suc}
use Rattle.cq_terms.specs.declared.names.Vocab.{Vocab}
use Rattle.axiom_reader.specs.Numbering.{HasRoom}
use Rattle.query_reader.specs.Queries.{after_marks, GrowsBy}

-- the marks are bytes of it
marks_le : (bytes : List ℕ) → length (after_marks bytes) ≤ length bytes
marks_le [] = omega arith
marks_le (a ∷ []) = omega arith
marks_le (a ∷ b ∷ []) = omega arith
marks_le (a ∷ b ∷ c ∷ bytes) = by (a == 239 && b == 187 && c == 191) (after_marks bytes) (marks_le bytes)
  where
    by : (yes : Bool) (rest : List ℕ) → length rest ≤ length bytes → length (cond yes rest (a ∷ b ∷ c ∷ bytes)) ≤ suc (suc (suc (length bytes)))
    by true rest le = omega arith
    by false rest le = omega arith

pub text_le : (bytes text : List ℕ) → text ≡ after_marks bytes → length text ≤ length bytes
text_le bytes text same = subst (λ rest. length rest ≤ length bytes) (sym same) (marks_le bytes)

-- what there is room for before, there is behind them
pub text_room : (bytes text : List ℕ) (vocab : Vocab) → text ≡ after_marks bytes → HasRoom bytes vocab → HasRoom text vocab
text_room bytes text vocab same room =
    let le = text_le bytes text same in
    record { concepts = omega (arith, room.concepts); roles = omega (arith, room.roles); inds = omega (arith, room.inds) }

pub text_fits : (bytes text : List ℕ) (vocab : Vocab) → text ≡ after_marks bytes → HasRoom bytes vocab → length text < 2 ^ 32
text_fits bytes text vocab same room = let le = text_le bytes text same in omega (arith, room.concepts)

pub text_grown : (bytes text : List ℕ) (old new : Vocab) → text ≡ after_marks bytes → GrowsBy (length text) old new → GrowsBy (length bytes) old new
text_grown bytes text old new same h =
    let le = text_le bytes text same in
    record { concepts = omega (arith, h.concepts); roles = omega (arith, h.roles); inds = omega (arith, h.inds) }

-- what two facts of a value give
pub both_ok : {T E : Type 0} (r : Result T E) (P Q R : T → Type 0) → ((x : T) → P x → Q x → R x) → IfOk r P → IfOk r Q → IfOk r R
both_ok (Ok x) P Q R f h k = f x h k
both_ok (Err e) P Q R f h k = tt

pub if_err : {T E : Type 0} (r : Result T E) (P Q : E → Type 0) → ((e : E) → P e → Q e) → IfErr r P → IfErr r Q
if_err (Ok x) P Q f h = tt
if_err (Err e) P Q f h = f e h
