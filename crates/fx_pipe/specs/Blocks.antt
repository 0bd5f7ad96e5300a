-- What the parts of a round leave.
use Rattle.std.specs.Prelude.{◌≡◌, ℕ, ◌+◌, ◌≤◌, Bool, true, List, [], ◌∷◌, ◌++◌, length, map, Vec, Result, Ok, Err, OnOk, IfErr}
use Rattle.std.specs.declared.alloc.Global.{Global}
use Rattle.fx_outside.specs.Outside.{Files, HasRisen, SameFiles, SameBut}
use Rattle.fx_seq.specs.Filling.{IsQuiet}
use Rattle.fx_seq.specs.declared.source.SourceFrame.{SourceFrame}
use Rattle.fx_pipe.specs.declared.made.Made.{Made}
use Rattle.fx_pipe.specs.declared.put.PutStop.{PutStop}
use Rattle.fx_pipe.specs.declared.put.PutStop.TheVariants.{Failed, Memory}
use Rattle.fx_pipe.specs.Moments.{AreMade, all_of, with_all}

-- the frames of the moments of a block
abbrev pub fetched_in : List (Vec SourceFrame Global) → List (List SourceFrame)
fetched_in block = map (λ frames. frames.items) block

-- the frames of some first moments of a block were handed in
pub record SeesSome (block : List (List SourceFrame)) (old new : List SourceFrame) : Type 0 where
  pub some : List (List SourceFrame)
  pub rest : List (List SourceFrame)
  pub split : block ≡ some ++ rest
  pub seen : new ≡ old ++ all_of some

-- a put that failed has the last name that failed
abbrev pub PutShows : (before now : ℕ) (was last : List ℕ) → PutStop → Type 0
PutShows before now was last (Failed name) = HasRisen before now × (last ≡ name)
PutShows before now was last Memory = IsQuiet before now was last

-- the files before one were put, and nothing else but that one, which has this name
pub record PutBut (tells : Type 0) (block : List Made) (old new : Files) (name : List ℕ) : Type 0 where
  pub some : List Made
  pub one : Made
  pub rest : List Made
  pub split : block ≡ some ++ one ∷ rest
  pub name_is : one.name ≡ name
  pub files : tells → SameBut name (with_all some old) new

-- some first files were put, and nothing else
pub record PutSome (tells : Type 0) (block : List Made) (old new : Files) : Type 0 where
  pub some : List Made
  pub rest : List Made
  pub split : block ≡ some ++ rest
  pub files : tells → SameFiles (with_all some old) new

abbrev pub PutLeaves : Type 0 → List Made → (old new : Files) → PutStop → Type 0
PutLeaves tells block old new (Failed name) = PutBut tells block old new name
PutLeaves tells block old new Memory = PutSome tells block old new

-- what is left of a block: nothing where all of it was put, and else the files behind the one that was not
abbrev pub IsLeft : Type 0 → (block left : List Made) → (old new : Files) → Result (Unit {0}) PutStop → Type 0
IsLeft tells block left old new (Ok done) = left ≡ []
IsLeft tells block left old new (Err (Failed name)) = (put : PutBut tells block old new name) × (put.rest ≡ left)
IsLeft tells block left old new (Err Memory) =
    (put : PutSome tells block old new) × (one : Made) × (put.rest ≡ one ∷ left)

-- behind the bytes that were spare stand more, at most one for each file that was taken from a block
pub record Spares (block left : List Made) (old new : List (Vec ℕ Global)) : Type 0 where
  pub more : List (Vec ℕ Global)
  pub behind : new ≡ old ++ more
  pub few : length more + length left ≤ length block

-- The files of a block were put, or the puts stopped
pub record Puts (tells : Type 0) (block : List Made) (old new : Files) (before now : ℕ) (was last : List ℕ)
    (result : Result (Unit {0}) PutStop) : Type 0 where
  pub ok : tells → OnOk result (SameFiles (with_all block old) new)
  pub quiet : OnOk result (IsQuiet before now was last)
  pub shows : IfErr result (λ e. PutShows before now was last e)
  pub leaves : IfErr result (λ e. PutLeaves tells block old new e)

-- The files of a block's moments were made, the first of which is `first`; or memory was wanting
pub record Makes (right : List SourceFrame → ℕ → Made → Type 0) (first : ℕ) (block : List (List SourceFrame))
    (made : List Made) (old new : List SourceFrame) (next : ℕ) (all : Bool) : Type 0 where
  pub next_is : all ≡ true → next ≡ first + length block
  pub seen : all ≡ true → new ≡ old ++ all_of block
  pub right_ones : all ≡ true → AreMade right old first block made
  pub some : SeesSome block old new
