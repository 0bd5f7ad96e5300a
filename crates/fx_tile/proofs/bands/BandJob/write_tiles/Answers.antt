use Rattle.std.proofs.Common.{◌≡◌, ◌+◌, ◌∙◌, ◌++◌, ◌∷◌, [], List, ℕ, ap, sym, subst, take}
use Rattle.std.proofs.lemmas.List.{map-append, take_all, take_more}
use Rattle.fx_base.specs.Bounds.{Bounds}
use Rattle.fx_tile.specs.declared.found.FoundTile.{FoundTile}
use Rattle.fx_tile.specs.Moments.{IsFoundTile, ShowsTiles, job_picture, rects_of}
use Rattle.fx_tile.proofs.WriteLemmas.{band_still, frame_after, shows_more}
use Rattle.fx_tile.proofs.bands.BandJob.write_tiles.Goals as goal

pub write_tile-requires-clause-found : goal.write_tile-requires-clause-found
write_tile-requires-clause-found g c =
    let job = c.args.self.now in
    let out = c.loop-found-item.result in
    subst (λ (o : ℕ × FoundTile). IsFoundTile g.E.ImageEffect.meaning job.setup.now job.frame o.1) (sym c.loop-found-item.is)
    (c.requires.found c.loop-found.found-index out c.loop-found-test.true)

pub write_tile-requires-clause-band : goal.write_tile-requires-clause-band
write_tile-requires-clause-band g c = band_still c.args.self.now.setup.now.scene.now.graph c.args.band.now c.loop-found.band c.loop-found.invariant.frame c.requires.band

pub loop-found-preserved : goal.loop-found-preserved
loop-found-preserved g c =
    let picture = job_picture g.E.ImageEffect.meaning c.args.self.now in
    let tiles = c.args.tiles.now in
    let i = c.loop-found.found-index in
    let out = c.loop-found-item.result in
    let old = c.loop-found.band in
    let new = c.write_tile.new.band in
    let step = c.write_tile.ensures.frame in
    let more = take_more tiles i out c.loop-found-test.true ∙ ap (λ (o : ℕ × FoundTile). take i tiles ++ o ∷ []) (sym c.loop-found-item.is) in
    let rects : rects_of (take (i + 1) tiles) ≡ rects_of (take i tiles) ++ out.1.tile ∷ [] =
    ap rects_of more ∙ map-append (λ (f : ℕ × FoundTile). f.1.tile) (take i tiles) (out ∷ []) in
    record {
      frame = frame_after c.args.band.now old new c.loop-found.invariant.frame step;
      tiles = subst (λ (ts : List Bounds). ShowsTiles picture ts new) (sym rects)
          (shows_more picture (rects_of (take i tiles)) out.1.tile old new step.rect c.in_ok-write_tile.ensures.writes c.loop-found.invariant.tiles);
    }

pub returns-clause-tiles : goal.returns-clause-tiles
returns-clause-tiles g c =
    let picture = job_picture g.E.ImageEffect.meaning c.args.self.now in
    subst (λ (fs : List (ℕ × FoundTile)). ShowsTiles picture (rects_of fs) c.loop-found.band)
    (take_all c.loop-found.found-index c.args.tiles.now c.loop-found-test.false) c.loop-found.invariant.tiles
