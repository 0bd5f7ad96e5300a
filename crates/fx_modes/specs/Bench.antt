-- What a bench renders, reports, and why it ends early. It renders what is made of a number, and reads and puts nothing
-- outside.
use Rattle.std.specs.Prelude.{◌≡◌, ℕ, List, ◌∷◌, ◌++◌, length, sum, map, find, Option, Some, None, option_map}
use Rattle.std.specs.List.{flat_map, range_with_len}
use Rattle.std.specs.Str.{bytes_eq}
use Rattle.std.specs.Str.Parse.{digits_value}
use Rattle.fx_outside.specs.Outside.{Files, AddsPrefix}
use Rattle.fx_outside.specs.Sure.{or_empty}
use Rattle.fx_bench.specs.Graphs.{graph_text}
use Rattle.fx_bench.specs.Frames.{behind_graph, frame_file}
use Rattle.fx_scene.specs.Scenes.{Images}
use Rattle.fx_words.specs.Ordered.{Ordered}
use Rattle.fx_words.specs.Texts.{bench_text}
use Rattle.fx_words.specs.declared.fault.RunFault.{RunFault}
use Rattle.fx_words.specs.declared.fault.RunFault.TheVariants as run
use Rattle.fx_modes.specs.Reels.{Reel, file_text, scaled_in}
use Rattle.fx_modes.specs.Files.{AreImages, wanted_of}
use Rattle.fx_modes.specs.Run.{IsAccepted, Cause, count_in}

-- ---- what is rendered

-- the files of a list by their names
abbrev pub files_in : List (List ℕ × List ℕ) → Files
files_in files name = option_map (λ file. file.1) (find (λ file. bytes_eq file.0 name) files)

-- the number that a word writes
abbrev pub number_of : List ℕ → ℕ
number_of word = digits_value 10 word

-- under the word the graph that is made of its number, and under their names the four frames of that graph's source
abbrev pub made_files : List ℕ → List (List ℕ × List ℕ)
made_files word =
    let number = number_of word in
    (word, graph_text number) ∷ map (frame_file (behind_graph number)) (range_with_len 0 4)

-- these, and no bytes under any other name
abbrev pub made_of : List ℕ → Files
made_of word = or_empty (files_in (made_files word))

abbrev pub made_for : Option Ordered → Files
made_for (Some order) = made_of order.graph
made_for None = λ name. None

-- ---- what it reports

-- the bytes of the files of the first n moments, one file behind the other
abbrev pub bytes_of : Reel → Images → ℕ → List ℕ
bytes_of r images n = flat_map (file_text r images) (range_with_len 0 n)

-- how many frames were rendered, how many bytes their files have, and the sum of these bytes
pub record IsBenchReport (asked : Option Ordered) (text : List ℕ) : Type 0 where
  pub known : IsAccepted asked (made_for asked)
  pub images : Images
  pub are : AreImages (made_for asked) (wanted_of known.job.uses) images
  pub told :
      let bytes = bytes_of known.job.reel (scaled_in known.job.reel images) (count_in known.job) in
      text ≡ bench_text (count_in known.job) (length bytes) (sum bytes)

-- the report was written
abbrev pub HasBenched : Option Ordered → List ℕ → List ℕ → Type 0
HasBenched asked old new = (text : List ℕ) × IsBenchReport asked text × (new ≡ old ++ text)

-- ---- why it ends early

-- the cause of a fault at moment j: that of a render of what is made; nothing is read or written outside
abbrev pub BenchCause : Option Ordered → ℕ → RunFault → Type 0
BenchCause asked j (run.Read name) = ⊥
BenchCause asked j (run.Write name) = ⊥
BenchCause asked j fault = Cause asked (made_for asked) j fault

-- a fault of the report leaves a front of it, and each other fault nothing
abbrev pub LeavesBenchReport : Option Ordered → RunFault → List ℕ → List ℕ → Type 0
LeavesBenchReport asked run.Report old new = (text : List ℕ) × IsBenchReport asked text × AddsPrefix text old new
LeavesBenchReport asked other old new = new ≡ old
