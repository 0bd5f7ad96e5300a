use Rattle.std.proofs.Common.{◌∙◌, ap, sym}
use Rattle.std.proofs.lemmas.Int.{to_z-of_z}
use Rattle.fx_image.specs.Stored.{Stored, pixel_in}
use Rattle.fx_image.proofs.ImageLaws.{run_here}
use Rattle.fx_image.proofs.ImageWrites.{puts_one}
use Rattle.fx_image.proofs.image.Image.put.Goals as goal

pub run_mut-requires : goal.run_mut-requires
run_mut-requires c =
    let fx = c.ranges.x in
    let fy = c.ranges.y in
    simp to_z-of_z (run_here c.args.self.now c.args.x c.args.y c.requires.inside)

pub returns : goal.returns
returns c =
    let fx = c.ranges.x in
    let fy = c.ranges.y in
    let there =
    ap (λ depth. pixel_in depth c.args.self.now.components c.set_pixel.new.row 0) (sym (ap (λ (s : Stored). s.depth) c.self.view_is))
    ∙ ap (λ components. pixel_in c.self.inside.depth components c.set_pixel.new.row 0) (sym c.requires.components)
    ∙ c.set_pixel.ensures.there in
    simp to_z-of_z
    (puts_one c.args.self.now c.args.x c.args.y c.args.p c.set_pixel.new.row c.run_mut.ensures.stored c.run_mut.ensures.rows c.requires.inside (c.set_pixel.auto.row ∙ c.run_mut.ensures.len) there)
