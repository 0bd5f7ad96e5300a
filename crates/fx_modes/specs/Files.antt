-- The source frames that a run reads, and the files that it puts.
use Rattle.std.specs.Prelude.{◌≡◌, ℕ, zero, suc, ℤ, List, map, All, Contains, Some, None, if◌then◌else◌}
use Rattle.std.specs.Str.{bytes_eq}
use Rattle.fx_base.specs.declared.limits.TheConstants.{MOST_SIDE}
use Rattle.fx_outside.specs.Outside.{Files, SameFiles, SameBut}
use Rattle.fx_image.specs.Image.{Image}
use Rattle.fx_pam.specs.Reading.{IsPam}
use Rattle.fx_seq.specs.declared.used.Use.{Use}
use Rattle.fx_seq.specs.declared.wanted.Wanted.{Wanted}
use Rattle.fx_seq.specs.declared.fault.SeqFault.{SeqFault}
use Rattle.fx_seq.specs.Filling.{ComesTo}
use Rattle.fx_seq.specs.Moments as seq
use Rattle.fx_seq.specs.Moments.{due_at, held_bytes}
use Rattle.fx_scene.specs.Scenes.{Images}
use Rattle.fx_scene.specs.Uses.{AreUses}
use Rattle.fx_scene.specs.Wants.{IsNamedIn, Lists}
use Rattle.fx_modes.specs.Reels.{Reel, file_name, file_text, moments_in, wanting_in}
use Rattle.fx_modes.specs.declared.sources.TheConstants.{MOST_BYTES}

-- ---- source frames

-- the source frames that the moments want, by node and then frame, with the first and the last moment that wants each,
-- under the names of their files
pub record AreUsesOf (r : Reel) (uses : List Use) : Type 0 where
  pub moments : AreUses (wanting_in r) (moments_in r) uses
  pub names : All (λ u. IsNamedIn r.graph u.wanted) uses

abbrev pub wanted_of : List Use → List Wanted
wanted_of uses = map (λ u. u.wanted) uses

-- none of the source frames that the first n moments are the first to want is refused: sides go up to 8,192, and what is
-- held with what is due up to 2^31 bytes
abbrev pub AreAccepted : Files → List Use → ℕ → Type 0
AreAccepted library uses n = seq.AreAccepted library MOST_SIDE MOST_BYTES uses n

-- the first of those of moment j is refused for this, and none of the moments before
abbrev pub IsRefusedAt : Files → List Use → ℕ → SeqFault → Type 0
IsRefusedAt library uses j e = seq.IsRefusedAt library MOST_SIDE MOST_BYTES uses j e

-- the fetch of this one of those of moment j was reached: none before it is refused
pub record IsReachedAt (library : Files) (uses : List Use) (j : ℕ) (w : Wanted) : Type 0 where
  pub before : AreAccepted library uses j
  pub here : ComesTo library MOST_SIDE MOST_BYTES (held_bytes library uses j) (due_at uses j) w

-- the bytes under the name are a file of this image
pub record IsFileOf (library : Files) (name : List ℕ) (image : Image) : Type 0 where
  pub bytes : List ℕ
  pub told : library name ≡ Some bytes
  pub reads : IsPam bytes MOST_SIDE image

-- each wanted frame has the image of its file, and no other frame has any
pub record AreImages (library : Files) (wanted : List Wanted) (images : Images) : Type 0 where
  pub each : (w : Wanted) → Contains wanted w
      → (image : Image) × (images w.node w.frame ≡ Some image) × IsFileOf library w.name image
  pub only : (n : ℕ) (f : ℤ) → (Lists wanted n f → ⊥) → images n f ≡ None

-- ---- the files of moments

-- files, of which one has these bytes now
abbrev pub with_file : List ℕ → List ℕ → Files → Files
with_file name bytes files other = if bytes_eq name other then Some bytes else files other

-- files, to which those of the first n moments are added, one after the other: each has the text of its picture. A later
-- take may write an earlier one's file anew.
abbrev pub with_moments : Reel → Images → ℕ → Files → Files
with_moments r images zero files = files
with_moments r images (suc n) files = with_file (file_name r n) (file_text r images n) (with_moments r images n files)

-- the depot has gained the files of the first n moments, and nothing else
abbrev pub HasGained : Reel → Images → ℕ → Files → Files → Type 0
HasGained r images n old new = SameFiles (with_moments r images n old) new

-- the same, but the file of the moment behind them holds anything or is absent
abbrev pub HasGainedBut : Reel → Images → ℕ → Files → Files → Type 0
HasGainedBut r images n old new = SameBut (file_name r n) (with_moments r images n old) new
