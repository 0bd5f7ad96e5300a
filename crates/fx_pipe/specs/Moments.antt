-- The frames of moments, what is made of them, and the files that are put.
use Rattle.std.specs.Prelude.{◌≡◌, ℕ, ◌+◌, ℤ, List, [], ◌∷◌, ◌++◌, map, Some, if◌then◌else◌}
use Rattle.std.specs.Str.{bytes_eq}
use Rattle.fx_outside.specs.Outside.{Files}
use Rattle.fx_seq.specs.declared.source.SourceFrame.{SourceFrame}
use Rattle.fx_pipe.specs.declared.made.Made.{Made}

-- the nodes and frames of a list
abbrev pub places : List SourceFrame → List (ℕ × ℤ)
places frames = map (λ s. (s.node, s.frame)) frames

-- the frames of all moments of a list, one moment after the other
abbrev pub all_of : List (List SourceFrame) → List SourceFrame
all_of [] = []
all_of (f ∷ fs) = f ++ all_of fs

-- the frames of the moments from m on are those that are due
abbrev pub AreDue : (ℕ → List (ℕ × ℤ)) → ℕ → List (List SourceFrame) → Type 0
AreDue due m [] = Unit {0}
AreDue due m (f ∷ fs) = (places f ≡ due m) × AreDue due (m + 1) fs

-- what was made of each of the moments from m on is right for its frames and those before, which begin with these
abbrev pub AreMade : (List SourceFrame → ℕ → Made → Type 0) → List SourceFrame → ℕ → List (List SourceFrame)
    → List Made → Type 0
AreMade right seen m [] [] = Unit {0}
AreMade right seen m [] (d ∷ ds) = ⊥
AreMade right seen m (f ∷ fs) [] = ⊥
AreMade right seen m (f ∷ fs) (d ∷ ds) = right (seen ++ f) m d × AreMade right (seen ++ f) (m + 1) fs ds

-- files, of which one has these bytes now
abbrev pub with_file : List ℕ → List ℕ → Files → Files
with_file name bytes files other = if bytes_eq name other then Some bytes else files other

-- files, to which those that were made are added one after the other
abbrev pub with_all : List Made → Files → Files
with_all [] files = files
with_all (d ∷ ds) files = with_all ds (with_file d.name d.bytes.items files)
