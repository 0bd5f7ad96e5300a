use Rattle.std.proofs.Common.{rules, ◌≡◌, ◌∙◌, ℤ, pos, subst, sym, to_z, of_z, w64}
use mir.Val.{SFits}
use Rattle.std.proofs.lemmas.Int.{to_z-of_z}
use Rattle.fx_scene.specs.Right.{HasWanted}
use Rattle.fx_scene.specs.Scenes.{images_in}
use Rattle.fx_shipped.specs.Shipped.{meaning_of}
use Rattle.fx_rows.proofs.engines.tiles_of.Goals as goal

pub render_moment-made-requires-clause-holds : goal.render_moment-made-requires-clause-holds
render_moment-made-requires-clause-holds g c κs within =
    let fits : SFits w64 c.from-at.result = search rules in
    let same : to_z w64 (of_z w64 c.from-at.result) ≡ pos c.args.at =
    to_z-of_z w64 c.from-at.result fits ∙ c.from-at.ensures in
    subst (λ (t : ℤ). let s = c.args.scene.now in HasWanted meaning_of s.graph (images_in s.store) s.graph.output t)
    (sym same) c.requires.holds
