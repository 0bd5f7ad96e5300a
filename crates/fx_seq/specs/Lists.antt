-- Lists of source frames: which image a node's frame has there, what the moments of a run use of them, and what is read.
use Rattle.std.specs.Prelude.{◌≡◌, ◌≤◌, ◌+◌, ◌^◌, ◌++◌, ℕ, ℤ, ◌&&◌, nat_eq, Bool, List, [], ◌∷◌, map, sum_by, if◌then◌else◌, All, AllPairs, Some, None}
use Rattle.std.specs.List.{AllZip}
use Rattle.std.specs.Ordering.{int_eq}
use Rattle.fx_seq.specs.declared.kept.Kept.{Kept}
use Rattle.fx_outside.specs.Outside.{Files}
use Rattle.fx_seq.specs.declared.source.SourceFrame.{SourceFrame}
use Rattle.fx_seq.specs.declared.used.Use.{Use}
use Rattle.fx_seq.specs.declared.wanted.Wanted.{Wanted}
use Rattle.fx_seq.specs.Filling.{first_refused}
use Rattle.fx_seq.specs.Frames.{Frames, IsPicture, image_size}
use Rattle.fx_seq.specs.Moments.{is_used}

-- whether it is this node's frame
abbrev pub is_of : ℕ → ℤ → SourceFrame → Bool
is_of n f s = nat_eq s.node n && int_eq s.frame f

-- the image of each node's frame, where it is listed
abbrev pub frames_in : List SourceFrame → Frames
frames_in [] n f = None
frames_in (s ∷ ss) n f = if is_of n f s then Some s.image else frames_in ss n f

-- the frames that these keep
abbrev pub seen_in : List (Kept SourceFrame) → List SourceFrame
seen_in keeps = map (λ s. s.value) keeps

-- how many bytes frames are counted as
abbrev pub size_of_all : List SourceFrame → ℕ
size_of_all frames = sum_by (λ s. s.size) frames

-- whether a frame is used at the moment or later
abbrev pub is_used_frame : List Use → ℕ → SourceFrame → Bool
is_used_frame uses moment s = is_used uses moment s.node s.frame

-- how many bytes a frame is counted as that is used at the moment or later; any other as none
abbrev pub used_part : List Use → ℕ → SourceFrame → ℕ
used_part uses moment s = if is_used_frame uses moment s then s.size else 0

-- how many bytes the frames are counted as that are used at the moment or later
abbrev pub used_size : List Use → ℕ → List SourceFrame → ℕ
used_size uses moment frames = sum_by (used_part uses moment) frames

-- ---- what is read

-- of the wanted frame, counted as its image's own size
pub record IsFrameOf (w : Wanted) (s : SourceFrame) : Type 0 where
  pub node : s.node ≡ w.node
  pub frame : s.frame ≡ w.frame
  pub size : s.size ≡ image_size s.image

-- one for each, in their order
abbrev pub AreFramesOf : List Wanted → List SourceFrame → Type 0
AreFramesOf wanted frames = AllZip IsFrameOf wanted frames

-- each with the image of its file
abbrev pub ArePictures : Files → ℕ → List Wanted → List SourceFrame → Type 0
ArePictures files side wanted frames = AllZip (λ w s. IsPicture files side w.name s.image) wanted frames

-- ---- one after the other

-- what was read of these wanted frames, after others that have `sum` bytes
pub record ReadsMore (tells : Type 0) (files : Files) (side limit sum : ℕ) (due : List Wanted)
    (old new : List SourceFrame) (all : ℕ) : Type 0 where
  pub added : List SourceFrame
  pub items : new ≡ old ++ added
  pub are : AreFramesOf due added
  pub pictures : tells → ArePictures files side due added
  pub accepted :
      tells → (rest : List Wanted)
      → first_refused files side limit sum (due ++ rest) ≡ first_refused files side limit all rest
  pub all_is : all ≡ sum + size_of_all added
  pub fits : sum ≤ limit → all ≤ limit
  pub few : sum ≤ 2 ^ 62 → limit ≤ 2 ^ 62 → all ≤ 2 ^ 62

-- no two of the frames are of one node and frame, and none is one that has an image
pub record IsNew (frames : Frames) (came : List SourceFrame) : Type 0 where
  pub apart : AllPairs (λ s t. s.node ≡ t.node → s.frame ≡ t.frame → ⊥) came
  pub none : All (λ s. frames s.node s.frame ≡ None) came
