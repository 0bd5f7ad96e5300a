use Rattle.std.proofs.Common.{◌≡◌, ◌<◌, ℕ, length, map, false, slice_index_or}
use Rattle.fx_graph.specs.Shown.{shown}
use Rattle.fx_scene.specs.Takes.{is_touched}
use Rattle.fx_scene.proofs.eras.touched_by.Given as goal

abbrev pub invariant-loop-n : goal.invariant-loop-n
invariant-loop-n g l =
    record {
      long : length l.touched.items ≡ l.n;
      touched : (k : ℕ) → k < l.n → slice_index_or l.touched.items k false ≡ is_touched (map shown l.nodes) l.edits k;
    }
