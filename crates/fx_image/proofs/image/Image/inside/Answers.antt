use Rattle.std.proofs.Common.{◌∙◌, ◌≡◌, pos, ◌+ℤ◌, ap, arith}
use Rattle.std.proofs.lemmas.Int.{ints, to_z-of_z}
use Rattle.fx_image.specs.Stored.{Stored, pixel_in, shown}
use Rattle.fx_image.proofs.ImageLaws.{run_here, run_shown}
use Rattle.fx_image.proofs.image.Image.inside.Goals as goal

pub returns : goal.returns
returns c =
    let fx = c.ranges.x in
    let fy = c.ranges.y in
    let run = simp to_z-of_z at c.run.ensures.value in
    let here : (c.args.x +ℤ pos 0) ≡ c.args.x = omega (arith, ints) in
    c.pixel.ensures.value
    ∙ ap (λ depth. pixel_in depth c.self.inside.components c.run.result.now 0) (ap (λ (s : Stored). s.depth) c.self.view_is)
    ∙ ap (λ components. pixel_in c.args.self.now.depth components c.run.result.now 0) (ap (λ (s : Stored). s.components) c.self.view_is)
    ∙ ap (λ bytes. pixel_in c.args.self.now.depth c.args.self.now.components bytes 0) run
    ∙ run_shown c.args.self.now c.args.x c.args.y 1 0 (run_here c.args.self.now c.args.x c.args.y c.requires) (omega arith)
    ∙ ap (λ x. shown c.args.self.now x c.args.y) here
