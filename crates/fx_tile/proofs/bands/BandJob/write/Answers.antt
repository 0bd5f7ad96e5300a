use Rattle.std.proofs.Common.{◌*◌, ◌+◌, ◌-◌, ℕ, List, sym, subst, arith}
use Rattle.std.proofs.lemmas.List.Elements.{All-drop, All-take}
use Rattle.std.proofs.lemmas.Result.{on_ok_weaker}
use Rattle.fx_base.specs.Bounds.{Bounds}
use Rattle.fx_tile.specs.declared.found.FoundTile.{FoundTile}
use Rattle.fx_tile.specs.Moments.{Cover, IsFoundTile, job_picture}
use Rattle.fx_tile.proofs.WriteLemmas.{shows_all, slice_rects}
use Rattle.fx_tile.proofs.bands.BandJob.write.Goals as goal

pub returns : goal.returns
returns g c =
    let job = c.args.self.now in
    let old = c.args.band.now in
    let new = c.write_tiles.new.band in
    let first = c.args.index * job.columns in
    let own = slice_rects job.found.now first (first + job.columns - first) job.columns (omega arith) in
    let cover = subst (λ (ts : List Bounds). Cover ts old.rect) (sym own) c.requires.cover in
    let frame = c.write_tiles.ensures.frame in
    on_ok_weaker c.write_tiles.result
    (λ shows. record { frame = frame; pixels = shows_all (job_picture g.E.ImageEffect.meaning job) _ old new frame cover shows })
    c.write_tiles.ensures.tiles

pub slice_bounds-tiles-count : goal.slice_bounds-tiles-count
slice_bounds-tiles-count g c = omega arith

pub write_tiles-requires-clause-found : goal.write_tiles-requires-clause-found
write_tiles-requires-clause-found g c =
    let job = c.args.self.now in
    let Found = λ (f : ℕ × FoundTile). IsFoundTile g.E.ImageEffect.meaning job.setup.now job.frame f.1 in
    All-take Found _ _ (All-drop Found (c.args.index * job.columns) job.found.now c.requires.found)

pub write_tiles-requires-clause-band : goal.write_tiles-requires-clause-band
write_tiles-requires-clause-band g c = c.requires.is
