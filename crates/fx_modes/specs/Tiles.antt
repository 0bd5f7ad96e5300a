-- What became of the window tiles of a run.
use Rattle.std.specs.Prelude.{◌≡◌, ◌+◌, ◌≤◌, ℕ, pos, List, count_by, sum_by}
use Rattle.std.specs.List.{flat_map, range_with_len}
use Rattle.fx_region.specs.Counts.{is_asked, is_passed, is_void, window_ends}
use Rattle.fx_region.specs.Ends.{EndShown}
use Rattle.fx_scene.specs.Nodes.{Nodes}
use Rattle.fx_scene.specs.Scenes.{Images, graph_nodes}
use Rattle.fx_shipped.specs.Shipped.{meaning_of}
use Rattle.fx_tile.specs.Moments.{renders_for}
use Rattle.fx_tile.specs.declared.count.TileCount.{TileCount}
use Rattle.fx_words.specs.declared.order.Mode.{Mode}
use Rattle.fx_words.specs.declared.order.Mode.TheVariants.{Takes}
use Rattle.fx_words.specs.declared.report.Report.{Report}
use Rattle.fx_words.specs.declared.report.Report.TheVariants as report
use Rattle.fx_modes.specs.Reels.{Reel, frame_in, graph_in}

-- the nodes at moment j
abbrev pub nodes_in : Reel → Images → ℕ → Nodes
nodes_in r images j = graph_nodes meaning_of (graph_in r j) images

-- where its window tiles are found at the output's node
abbrev pub moment_ends : Reel → Images → ℕ → ℕ → List EndShown
moment_ends r images side j =
    window_ends (nodes_in r images j) r.graph.output side r.graph.project (pos (frame_in r j))

-- how many renders those of them need that are renders
abbrev pub moment_renders : Reel → Images → ℕ → ℕ → ℕ
moment_renders r images side j = renders_for (nodes_in r images j) side (moment_ends r images side j)

-- the same of the first n moments
abbrev pub ends_in : Reel → Images → ℕ → ℕ → List EndShown
ends_in r images side n = flat_map (moment_ends r images side) (range_with_len 0 n)

abbrev pub renders_in : Reel → Images → ℕ → ℕ → ℕ
renders_in r images side n = sum_by (moment_renders r images side) (range_with_len 0 n)

-- The count is that of these tiles over a grid of this side. Each that is asked landed, or was found kept; where nothing
-- may be kept, nothing was found kept, and each that is asked landed, and so did each render that it needs.
pub record HasCounted (r : Reel) (images : Images) (side cache n : ℕ) (count : TileCount) : Type 0 where
  pub void_tiles : count.void_tiles ≡ count_by is_void (ends_in r images side n)
  pub passed : count.passed ≡ count_by is_passed (ends_in r images side n)
  pub asked : count.asked ≡ count_by is_asked (ends_in r images side n)
  pub enough : count.asked ≤ count.landed + count.hits
  pub no_hits : cache ≡ 0 → count.hits ≡ 0
  pub none_kept : cache ≡ 0 → count.asked + renders_in r images side n ≤ count.landed

-- the report of so many frames with this count of their tiles; in mode `takes` it has the number of takes too
abbrev pub report_of : Mode → ℕ → ℕ → TileCount → Report
report_of Takes takes frames n =
    report.Takes takes frames (n.void_tiles + n.passed + n.asked) n.void_tiles n.passed n.asked n.landed n.hits
report_of other takes frames n =
    report.Render frames (n.void_tiles + n.passed + n.asked) n.void_tiles n.passed n.asked n.landed n.hits
