-- The source frames that are made of a number.
use Rattle.std.specs.Prelude.{◌≡◌, ℕ, ◌*◌, ◌%◌, List, ◌++◌, map, codes, decimal}
use Rattle.std.specs.List.{range_with_len}
use Rattle.std.specs.declared.alloc.Global.{Global}
use Rattle.std.specs.declared.vec.Vec.{Vec}
use Rattle.fx_bench.specs.Generator.{state, draw}

-- how many samples a frame has: 320 by 240 pixels of four
abbrev pub frame_samples : ℕ
frame_samples = 307200

-- samples of as many draws
unfoldable pub samples : ℕ → ℕ → List ℕ
samples number count = map (λ i. draw number i % 256) (range_with_len 1 count)

abbrev pub frame_name : ℕ → List ℕ
frame_name f = codes "in" ++ (decimal f ++ codes ".pam")

abbrev pub header : List ℕ
header = codes "P7\nWIDTH 320\nHEIGHT 240\nDEPTH 4\nMAXVAL 255\nTUPLTYPE RGB_ALPHA\nENDHDR\n"

-- the file of frame f: its samples in the order of the raster, of the draws behind those of the frames before
abbrev pub frame_text : ℕ → ℕ → List ℕ
frame_text number f = header ++ samples (state number (f * frame_samples)) frame_samples

-- a frame's name, and its file
abbrev pub frame_file : ℕ → ℕ → List ℕ × List ℕ
frame_file number f = (frame_name f, frame_text number f)

-- a name and bytes
abbrev pub file_of : List ℕ × Vec ℕ Global → List ℕ × List ℕ
file_of file = (file.0, file.1.items)

-- the files of the first frames
abbrev pub AreFrames : ℕ → ℕ → List (List ℕ × Vec ℕ Global) → Type 0
AreFrames number count files = map file_of files ≡ map (frame_file number) (range_with_len 0 count)

-- the graph takes the first nineteen draws
abbrev pub behind_graph : ℕ → ℕ
behind_graph number = state number 19
