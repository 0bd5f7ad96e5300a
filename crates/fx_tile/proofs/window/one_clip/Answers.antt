use Rattle.std.proofs.Common.{◌≡◌, ◌∙◌, ◌++◌, ap, rules, arith, List, length, [], ◌∷◌}
use Rattle.fx_pixel.specs.declared.Components.{Components}
use Rattle.fx_effect.specs.Given.{Given}
use Rattle.fx_scene.specs.Sites.{scene_nodes}
use Rattle.fx_tile.proofs.WindowLemmas.{shows_alone}
use Rattle.fx_tile.proofs.window.one_clip.Goals as goal

pub returns-in_ok-add_piece-in_default : goal.returns-in_ok-add_piece-in_default
returns-in_ok-add_piece-in_default g c =
    let nodes = scene_nodes g.E.ImageEffect.meaning c.args.setup.now.scene.now in
    let old = c.in_ok-inputs.inputs in
    let blank : old ≡ record { depth = c.args.depth; components = c.args.components ∷ []; pieces = [] } = search rules in
    let adds = c.in_ok-add_piece-in_default.ensures in
    let made = adds.added ∙ ap (λ (h : Given). record h { pieces = h.pieces ++ adds.piece ∷ [] }) blank in
    record {
      depth = ap (λ (h : Given). h.depth) made;
      components = ap (λ (h : Given). h.components) made;
      pixels = λ x y. shows_alone nodes c.args.need.now old c.add_piece.new.inputs c.args.depth c.args.components adds blank c.requires.clip x y;
    }

pub add_piece-requires : goal.add_piece-requires
add_piece-requires g c =
    let filled = ap (λ (h : Given). length h.components) c.in_ok-inputs.ensures in
    let long : length c.in_ok-vec.field-0.items ≡ 1 = ap (λ (ks : List Components). length ks) c.in_ok-vec.ensures.items in
    record {
      clip = omega (arith, c.requires.clip, filled, long);
      found = c.in_default.not-Void;
      ready = c.requires.ready;
      tile = c.requires.image;
    }
