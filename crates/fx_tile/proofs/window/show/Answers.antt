use Rattle.std.proofs.Common.{◌∙◌, ap, w64, rules}
use Rattle.std.proofs.lemmas.Int.{to_z-of_z}
use mir.Val.{SFits}
use Rattle.fx_pixel.specs.declared.Depth.{Depth}
use Rattle.fx_pixel.specs.declared.Components.{Components}
use Rattle.fx_image.specs.Image.{pixel_at}
use Rattle.fx_image.specs.Part.{narrowed}
use Rattle.fx_effect.specs.Given.{row_pixel}
use Rattle.fx_region.specs.Ends.{end_pixel, end_shown}
use Rattle.fx_scene.specs.Scenes.{images_in, picture}
use Rattle.fx_scene.specs.Sites.{scene_nodes}
use Rattle.fx_tile.proofs.WindowLemmas.{shows_picture, written_as}
use Rattle.fx_tile.proofs.window.show.Goals as goal

pub returns-clause-pixels : goal.returns-clause-pixels
returns-clause-pixels g c =
    let m = g.E.ImageEffect.meaning in
    let scene = c.args.setup.now.scene.now in
    let found = c.args.found.now in
    let fits : SFits w64 found.need.frame = search rules in
    let nodes = scene_nodes m scene in
    let e = end_shown found.need.end in
    let image = c.args.out.now.image.now in
    let is = c.requires.found in
    let written = simp to_z-of_z at c.copy_rows.ensures.pixels in
    let pixels = c.in_ok-inputs.ensures.pixels in
    written_as (narrowed c.args.out.now c.args.place) (narrowed c.copy_rows.new.out c.args.place) (row_pixel c.in_ok-inputs.inputs 0 found.need.frame)
    (pixel_at (picture m scene.graph (images_in scene.store) found.need.frame))
    (λ x y inside.
    pixels x y
    ∙ ap (λ (d : Depth). end_pixel nodes e d c.components.result x y) c.depth.ensures
    ∙ ap (λ (k : Components). end_pixel nodes e image.depth k x y) c.components.ensures
    ∙ shows_picture m scene.graph (images_in scene.store) found.need.frame found.tile e image.depth image.components c.requires.depth c.requires.components is.shows
    x y (c.requires.in_tile x y inside) (c.requires.project x y inside))
    written
