-- How far a reader has come in a text.
use Rattle.std.proofs.Common.{◌≡◌, ℕ, ◌+◌, ◌≤◌, inl, inr, Bool, true, false, List, [], ◌∷◌, ◌++◌, length, refl, sym, ap, ◌∙◌, subst, arith, append_assoc}
use Rattle.std.proofs.Common.{append-nil, length-append}
use Rattle.std.specs.List.{flat_map}
use Rattle.cq_terms.specs.declared.axioms.Axiom.{Axiom}
use Rattle.cq_terms.specs.declared.names.Vocab.{Vocab}
use Rattle.axiom_reader.specs.declared.refusal.AxiomRefusal.{AxiomRefusal}
use Rattle.axiom_reader.specs.declared.refusal.AxiomRefusal.TheVariants as refusal
use Rattle.axiom_reader.specs.Axioms.{NamedAxiom, NamedBasic, concept, has, concepts, roles, Says, axiom_words, basic_words, role_words, sign_words}
use Rattle.axiom_reader.specs.Lines.{lines_in, lines_of, skip_marks, words_of, pieces}
use Rattle.axiom_reader.specs.Meaning.{AreAxiomsOf, Reads, IsRefused}
use Rattle.axiom_reader.specs.Numbering.{Keeps, Grows, with_names, with_axioms, axiom_concepts, axiom_roles}
use Rattle.axiom_reader.specs.Parts.{IsFirstLine, IsTaken, IsLineRefused}
use Rattle.axiom_reader.specs.Reading.{nothing, one, Gives, GiveAxioms, Fault, line_not_utf8, bad_line, too_many, HasFault, FirstFault, most_axioms}
use Rattle.axiom_reader.proofs.TextLemmas.{Keeps-with_names, with_axioms-push, AreAxiomsOf-keeps, AreAxiomsOf-push, AreAxiomsOf-length}
use Rattle.axiom_reader.proofs.WordLemmas.{words_long}

-- a role takes a word at least
role_long : (name : List ℕ) (inverse : Bool) → 1 ≤ length (role_words (record { name = name; inverse = inverse }))
role_long name true = omega arith
role_long name false = omega arith

-- so does a basic concept
basic_long : (basic : NamedBasic) → 1 ≤ length (basic_words basic)
basic_long (concept name) = omega arith
basic_long (has role) = omega (arith, role_long role.name role.inverse)

-- so does a sign
sign_long : (negated : Bool) → 1 ≤ length (sign_words negated)
sign_long true = omega arith
sign_long false = omega arith

-- an axiom takes three words at least
words_three : (named : NamedAxiom) → 3 ≤ length (axiom_words named)
words_three (concepts left negated right) =
    omega (
      arith,
      length-append (basic_words left) (sign_words negated ++ basic_words right),
      length-append (sign_words negated) (basic_words right),
      basic_long left,
      sign_long negated,
      basic_long right,
    )
words_three (roles left negated right) =
    omega (
      arith,
      length-append (role_words left) (sign_words negated ++ role_words right),
      length-append (sign_words negated) (role_words right),
      role_long left.name left.inverse,
      sign_long negated,
      role_long right.name right.inverse,
    )

-- a line that says an axiom has three bytes at least
pub says_long : (line : List ℕ) (named : NamedAxiom) → Says line named → 3 ≤ length line
says_long line named says =
    let size : length (words_of line) ≡ length (axiom_words named) = ap length says.words in
    omega (arith, words_three named, words_long line)

-- the names of an axiom are fewer than the bytes of its line
pub Grows-line : (line : List ℕ) (named : NamedAxiom) (old new : Vocab) → Gives line (one named) → Grows 2 old new
    → Grows (length line) old new
Grows-line line named old new gives grows = record {
  concepts = omega (arith, says_long line named gives.2, grows.concepts);
  roles = omega (arith, says_long line named gives.2, grows.roles);
}

-- so many lines were read from the front of the bytes, and the rest remains
pub record IsReadTo (bytes rest : List ℕ) (number : ℕ) (old new : Vocab) (axioms : List Axiom) : Type 0 where
  pub before : List (List ℕ)
  pub named : List NamedAxiom
  pub lines : lines_of bytes ≡ before ++ lines_in rest
  pub given : GiveAxioms before named
  pub names : new ≡ with_axioms old named
  pub meaning : AreAxiomsOf new named axioms
  pub few : length axioms ≤ most_axioms
  pub place : number ≡ length before
  pub short : number + length rest ≤ length bytes
  pub long : length axioms + length rest ≤ length bytes
  pub concepts : length new.concepts + length rest ≤ length old.concepts + length bytes
  pub roles : length new.roles + length rest ≤ length old.roles + length bytes

-- nothing is read at first
pub reads_none : (bytes rest : List ℕ) (vocab : Vocab) → rest ≡ skip_marks bytes → length rest ≤ length bytes
    → IsReadTo bytes rest 0 vocab vocab []
reads_none bytes rest vocab from shorter = record {
  before = [];
  named = [];
  lines = ap lines_in (sym from);
  given = refl;
  names = refl;
  meaning = tt;
  few = omega arith;
  place = refl;
  short = omega arith;
  long = omega arith;
  concepts = omega arith;
  roles = omega arith;
}

-- one more line that gives nothing
give_nothing : (before : List (List ℕ)) (axioms : List NamedAxiom) (line : List ℕ) → GiveAxioms before axioms → Gives line nothing
    → GiveAxioms (before ++ line ∷ []) axioms
give_nothing [] axioms line h g = inl (g, h)
give_nothing (first ∷ before) axioms line (inl h) g = inl (h.0, give_nothing before axioms line h.1 g)
give_nothing (first ∷ before) axioms line (inr (named, more, given, rest, e)) g = inr (named, more, given, give_nothing before more line rest g, e)

-- one more line that gives an axiom
give_one : (before : List (List ℕ)) (axioms : List NamedAxiom) (line : List ℕ) (last : NamedAxiom) → GiveAxioms before axioms
    → Gives line (one last) → GiveAxioms (before ++ line ∷ []) (axioms ++ last ∷ [])
give_one [] axioms line last h g = inr (last, [], g, refl, ap (λ axioms. axioms ++ last ∷ []) h)
give_one (first ∷ before) axioms line last (inl h) g = inl (h.0, give_one before axioms line last h.1 g)
give_one (first ∷ before) axioms line last (inr (named, more, given, rest, e)) g =
    inr (named, more ++ last ∷ [], given, give_one before more line last rest g, ap (λ axioms. axioms ++ last ∷ []) e)

-- one more line is read
pub reads_more : (bytes rest line after : List ℕ) (number : ℕ) (old mid new : Vocab) (axioms more : List Axiom)
    → IsReadTo bytes rest number old mid axioms → IsFirstLine rest line after
    → IsTaken line mid new axioms more → Grows (length line) mid new → IsReadTo bytes after (number + 1) old new more
reads_more bytes rest line after number old mid new axioms more read first (inl (gives, same, kept)) grows = record {
  before = read.before ++ line ∷ [];
  named = read.named;
  lines = read.lines ∙ ap (λ lines. read.before ++ lines) first.lines ∙ sym (append_assoc read.before (line ∷ []) (lines_in after));
  given = give_nothing read.before read.named line read.given gives;
  names = same ∙ read.names;
  meaning = rw (same, kept) read.meaning;
  few = rw kept read.few;
  place = omega (arith, read.place, length-append read.before (line ∷ []));
  short = omega (arith, read.short, first.ends);
  long = rw kept (omega (arith, read.long, first.ends));
  concepts = omega (arith, read.concepts, first.shorter, grows.concepts);
  roles = omega (arith, read.roles, first.shorter, grows.roles);
}
reads_more bytes rest line after number old mid new axioms more read first (inr (named, given, gives, room, put, meant, pushed)) grows =
    let kept : Keeps mid new = rw put (Keeps-with_names mid (axiom_concepts named) (axiom_roles named)) in
    record {
      before = read.before ++ line ∷ [];
      named = read.named ++ named ∷ [];
      lines = read.lines ∙ ap (λ lines. read.before ++ lines) first.lines ∙ sym (append_assoc read.before (line ∷ []) (lines_in after));
      given = give_one read.before read.named line named read.given gives;
      names = put ∙ ap (λ vocab. with_names vocab (axiom_concepts named) (axiom_roles named)) read.names ∙ sym (with_axioms-push old read.named named);
      meaning = rw pushed (AreAxiomsOf-push new read.named axioms named given (AreAxiomsOf-keeps mid new read.named axioms kept read.meaning) meant);
      few = rw pushed (omega (arith, room, length-append axioms (given ∷ [])));
      place = omega (arith, read.place, length-append read.before (line ∷ []));
      short = omega (arith, read.short, first.ends);
      long = rw pushed (omega (arith, read.long, first.ends, length-append axioms (given ∷ [])));
      concepts = omega (arith, read.concepts, first.shorter, grows.concepts);
      roles = omega (arith, read.roles, first.shorter, grows.roles);
    }

-- where the next line has a fault, it is the first that has one
first_fault : (bytes rest line after : List ℕ) (number : ℕ) (old new : Vocab) (axioms : List Axiom) (fault : Fault)
    → IsReadTo bytes rest number old new axioms → IsFirstLine rest line after
    → HasFault fault (length axioms) line → FirstFault bytes fault (number + 1)
first_fault bytes rest line after number old new axioms fault read first faulty =
    let size = AreAxiomsOf-length new read.named axioms read.meaning in
    record {
      before = read.before;
      line = line;
      after = lines_in after;
      axioms = read.named;
      lines = read.lines ∙ ap (λ lines. read.before ++ lines) first.lines;
      place = omega (arith, read.place);
      given = read.given;
      few = omega (arith, size, read.few);
      has_fault = subst (λ n. HasFault fault n line) (sym size) faulty;
    }

-- the refusal of the next line is that of the bytes
pub refuses_line : (bytes rest line after : List ℕ) (number : ℕ) (old new : Vocab) (axioms : List Axiom) (why : AxiomRefusal)
    → IsReadTo bytes rest number old new axioms → IsFirstLine rest line after
    → IsLineRefused (length axioms) (number + 1) line why → IsRefused bytes why
refuses_line bytes rest line after number old new axioms (refusal.NotUtf8 place) read first h =
    rw h.1 (first_fault bytes rest line after number old new axioms line_not_utf8 read first h.0)
refuses_line bytes rest line after number old new axioms (refusal.BadLine place) read first h =
    rw h.1 (first_fault bytes rest line after number old new axioms bad_line read first h.0)
refuses_line bytes rest line after number old new axioms refusal.TooMany read first h =
    (number + 1, first_fault bytes rest line after number old new axioms too_many read first h)
refuses_line bytes rest line after number old new axioms refusal.NoMemory read first h = tt

-- where nothing remains, the bytes are read
pub reads_all : (bytes rest : List ℕ) (number : ℕ) (old new : Vocab) (axioms : List Axiom) → IsReadTo bytes rest number old new axioms
    → length rest ≡ 0 → Reads bytes old new axioms
unfolding pieces
reads_all bytes [] number old new axioms read none = record {
  named = read.named;
  text = (
    subst (λ lines. GiveAxioms lines read.named) (sym (read.lines ∙ append-nil read.before)) read.given,
    omega (arith, AreAxiomsOf-length new read.named axioms read.meaning, read.few),
  );
  names = read.names;
  meaning = read.meaning;
}
reads_all bytes (x ∷ rest) number old new axioms read none = absurd (omega arith)

-- the names of before stay
pub reads_kept : (bytes rest : List ℕ) (number : ℕ) (old new : Vocab) (axioms : List Axiom) → IsReadTo bytes rest number old new axioms
    → Keeps old new
reads_kept bytes rest number old new axioms read = rw read.names (Keeps-with_names old (flat_map axiom_concepts read.named) (flat_map axiom_roles read.named))

-- individuals stay
pub reads_inds : (bytes rest : List ℕ) (number : ℕ) (old new : Vocab) (axioms : List Axiom) → IsReadTo bytes rest number old new axioms
    → new.inds ≡ old.inds
reads_inds bytes rest number old new axioms read = rw read.names refl
