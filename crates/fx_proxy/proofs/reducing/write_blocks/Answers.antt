use Rattle.std.proofs.Common.{◌∙◌, subst, sym, ap, arith, rules}
use Rattle.fx_base.specs.Bounds.{Bounds}
use Rattle.fx_base.specs.Rect.{Holds}
use Rattle.fx_image.specs.Stored.{SameFrame, Stored, image_of}
use Rattle.fx_image.proofs.ImageLaws.{place_from}
use Rattle.fx_proxy.specs.Reduced.{HasBlocks, reduced_pixel}
use Rattle.fx_proxy.proofs.MadeLaws.{square_some}
use Rattle.fx_proxy.proofs.reducing.write_blocks.Goals as goal

pub of-requires-clause-some : goal.of-requires-clause-some
of-requires-clause-some c =
    let some = square_some c.args.q c.requires.scale.0 in
    omega (arith, some, c.from.ensures)

pub returns : goal.returns
returns c =
    let image = c.args.image.now in
    let q = c.args.q in
    let old = c.part-part.result in
    let new = c.fill_with.new.out in
    let before = c.part-part.ensures in
    let written = c.fill_with.ensures.written in
    let rect_is = before.rect ∙ c.rect-window.ensures in
    subst (λ (t : Stored). HasBlocks q (image_of image) c.args.small.now t) (search rules)
    (record {
      frame = subst (λ (s : Stored). SameFrame s new.image.now) before.value written.0.2;
      pixels = λ x y there.
          let here : Holds old.rect x y = subst (λ (b : Bounds). Holds b x y) (sym rect_is) there in
          written.1.inside x y here (place_from old.rect x y here).top
          ∙ ap (λ (s : Stored). reduced_pixel q (image_of s) x y) c.view.ensures.value;
    })
