use Rattle.std.proofs.Common.{◌≡◌, ◌∙◌, ℤ, rules, refl, ap, sym, subst, OnOk}
use Rattle.fx_base.specs.Bounds.{Bounds}
use Rattle.fx_base.specs.Rect.{Holds, IsWithin, meet}
use Rattle.fx_base.proofs.RectLaws.{IsWithin-meet_first, IsWithin-meet_second}
use Rattle.fx_image.specs.Image.{pixel_at}
use Rattle.fx_image.specs.Part.{IsWritten, narrowed}
use Rattle.fx_image.specs.Stored.{SameFrame, Stored}
use Rattle.fx_scene.specs.Scenes.{images_in, picture}
use Rattle.fx_tile.specs.Moments.{WritesTile, job_picture}
use Rattle.fx_tile.proofs.WriteLemmas.{wrote}
use Rattle.fx_tile.proofs.bands.BandJob.write_tile.Goals as goal

-- the place is that of the tile within the band
pub show-requires-clause-in_tile : goal.show-requires-clause-in_tile
show-requires-clause-in_tile g c =
    subst (λ (r : Bounds). IsWithin r c.args.found.now.tile) (sym c.meet-place.ensures.bounds)
    (IsWithin-meet_first c.args.found.now.tile c.rect-rect.result)

pub show-requires-clause-within : goal.show-requires-clause-within
show-requires-clause-within g c =
    subst (λ (r : Bounds). IsWithin c.meet-place.result r) (sym c.part-out.ensures.rect)
    (subst (λ (r : Bounds). IsWithin r c.rect-rect.result) (sym c.meet-place.ensures.bounds)
    (IsWithin-meet_second c.args.found.now.tile c.rect-rect.result))

pub show-requires-clause-project : goal.show-requires-clause-project
show-requires-clause-project g c = λ x y here.
    let inside : Holds c.rect-rect.result x y =
    IsWithin-meet_second c.args.found.now.tile c.rect-rect.result x y (subst (λ (r : Bounds). Holds r x y) c.meet-place.ensures.bounds here) in
    c.requires.band.within x y (subst (λ (r : Bounds). Holds r x y) c.rect-rect.ensures inside)

pub returns-clause-frame : goal.returns-clause-frame
returns-clause-frame g c =
    subst (λ (s : Stored). SameFrame c.args.band.now s) (search rules)
    (subst (λ (s : Stored). SameFrame s c.show.new.out.image.now) c.part-out.ensures.value c.show.ensures.part.2)

pub returns-clause-writes : goal.returns-clause-writes
returns-clause-writes g c =
    let job = c.args.self.now in
    let found = c.args.found.now in
    let shown = job_picture g.E.ImageEffect.meaning job in
    let scene = job.setup.now.scene.now in
    let p = c.part-out.result in
    let q = c.show.new.out in
    let at = c.meet-place.result in
    let place : at ≡ meet found.tile c.args.band.now.rect = c.meet-place.ensures.bounds ∙ ap (meet found.tile) c.rect-rect.ensures in
    let framed = subst (λ (t : ℤ). OnOk c.show.result (IsWritten (narrowed p at) (narrowed q at) (pixel_at (picture g.E.ImageEffect.meaning scene.graph (images_in scene.store) t))))
    c.requires.found.frame_is c.show.ensures.pixels in
    let written = subst (λ (r : Bounds). OnOk c.show.result (IsWritten (narrowed p r) (narrowed q r) (pixel_at shown))) place framed in
    subst (λ (s : Stored). OnOk c.show.result (WritesTile shown found.tile c.args.band.now s)) (search rules)
    (wrote shown found.tile p q c.args.band.now q.image.now c.part-out.ensures.value refl (IsWithin-meet_first found.tile c.args.band.now.rect) c.show.result written)
