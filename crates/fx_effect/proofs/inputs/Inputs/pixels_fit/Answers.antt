use Rattle.std.proofs.Common.{slice_index_or}
use Rattle.fx_pixel.specs.declared.Components.TheVariants as components
use Rattle.fx_effect.proofs.inputs.Inputs.pixels_fit.Goals as goal

pub returns : goal.returns
returns c =
    let fits = rw c.as_slice.ensures.value at c.pieces_fit.ensures in
    let of = c.self.inside in
    rw (← c.self.view_is) (record {
      depth = λ t. (fits of.depth (slice_index_or of.components.items t.clip components.Rgba) t).0;
      components = λ t. (fits of.depth (slice_index_or of.components.items t.clip components.Rgba) t).1;
    })
