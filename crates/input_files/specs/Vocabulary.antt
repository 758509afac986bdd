-- How the lists of names grow by a file.
use Rattle.std.specs.Prelude.{ℕ, ◌+◌, ◌<◌, ◌≤◌, ◌^◌, length}
use Rattle.cq_terms.specs.declared.names.Vocab.{Vocab}
use Rattle.cqapri_words.specs.Files.{limit_of}
use Rattle.cqapri_words.specs.declared.files.File.{File}

-- each list has room for as many names as the file may have bytes
pub record HasRoomFor (f : File) (vocab : Vocab) : Type 0 where
  pub concepts : length vocab.concepts + limit_of f < 2 ^ 31
  pub roles : length vocab.roles + limit_of f < 2 ^ 31
  pub inds : length vocab.inds + limit_of f < 2 ^ 31

-- from the old length, at most this much was added
abbrev pub GrowsFrom : ℕ → ℕ → ℕ → Type 0
GrowsFrom old new most = (old ≤ new) × (new ≤ old + most)

-- no list is shorter, and each has gained at most as many names as the file may have bytes
pub record GrowsBy (f : File) (old new : Vocab) : Type 0 where
  pub concepts : GrowsFrom (length old.concepts) (length new.concepts) (limit_of f)
  pub roles : GrowsFrom (length old.roles) (length new.roles) (limit_of f)
  pub inds : GrowsFrom (length old.inds) (length new.inds) (limit_of f)
