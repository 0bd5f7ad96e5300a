use Rattle.std.proofs.Common.{◌≡◌, ◌≤◌, ◌+◌}
use Rattle.fx_outside.specs.Outside.{SameFiles}
use Rattle.fx_seq.specs.Filling.{IsQuiet}
use Rattle.fx_modes.specs.Graphs.{frame_count}
use Rattle.fx_modes.specs.Planning.{IsPlanning, done_by, seen_by}
use Rattle.fx_modes.specs.Reels.{plain_reel}
use Rattle.fx_modes.specs.Sources.{HasSources}
use Rattle.fx_modes.proofs.planning.Planning.add_each.Given as goal

abbrev pub invariant-loop-frame : goal.invariant-loop-frame
invariant-loop-frame g l =
    let lib = g.L.Library in
    record {
      graph : l.self.scene.graph ≡ l.fn.self.scene.graph;
      planning : IsPlanning (plain_reel l.fn.self.scale l.fn.self.scene.graph l.first l.last) l.uses l.grid l.self;
      next : done_by l.self + l.first ≡ l.frame;
      low : done_by l.self ≤ frame_count l.first l.last;
      sources : HasSources lib.tells (lib.file l.fn.library) l.uses (done_by l.self) (seen_by l.self);
      quiet : IsQuiet (lib.faults l.fn.library) (lib.faults l.library) (lib.last l.fn.library) (lib.last l.library);
      same : lib.tells → SameFiles (lib.file l.fn.library) (lib.file l.library);
    }
