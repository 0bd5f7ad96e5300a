use Rattle.std.proofs.Common.{take}
use Rattle.fx_image.specs.Stored.{SameFrame}
use Rattle.fx_tile.specs.Moments.{ShowsTiles, job_picture, rects_of}
use Rattle.fx_tile.proofs.bands.BandJob.write_tiles.Given as goal

abbrev pub invariant-loop-found : goal.invariant-loop-found
invariant-loop-found g l =
    record {
      frame : SameFrame l.fn.band l.band;
      tiles : ShowsTiles (job_picture g.E.ImageEffect.meaning l.self) (rects_of (take l.found-index l.tiles)) l.band;
    }
