use Rattle.std.proofs.Common.{◌≡◌, ◌∙◌, sym, ap, subst, rules, w64, Some, None}
use Rattle.std.specs.Option.{option_copied}
use Rattle.std.proofs.lemmas.Int.{to_z-of_z}
use mir.Val.{SFits}
use Rattle.fx_base.specs.Bounds.{Bounds}
use Rattle.fx_base.specs.Rect.{Holds}
use Rattle.fx_image.specs.Stored.{Stored}
use Rattle.std.specs.Arc.{arc_value}
use Rattle.fx_region.specs.declared.ends.End.TheVariants.{Render}
use Rattle.fx_scene.specs.Right.{IsTile}
use Rattle.fx_scene.specs.Sites.{scene_nodes}
use Rattle.fx_tile.specs.Setups.{IsReady, IsTileOf}
use Rattle.fx_tile.proofs.inputs.add_piece.Goals as goal

one : (a b : Stored) → Some a ≡ Some b → a ≡ b
one a b h = cc

nothing : (a : Stored) → None ≡ Some a → ⊥
nothing a h = cc

pub unreachable-requires-in_default : goal.unreachable-requires-in_default
unreachable-requires-in_default g c =
    let fits : SFits w64 c.in-Frame.frame = search rules in
    let shown = rw c.in-Frame.is at c.requires.ready in
    let none = ap option_copied c.in_default.is in
    let there = simp to_z-of_z at c.frame.ensures in
    nothing shown.image (sym none ∙ there ∙ shown.is_held)

pub push_view-requires-clause-within : goal.push_view-requires-clause-within
push_view-requires-clause-within g c x y h =
    let fits : SFits w64 c.in-Frame.frame = search rules in
    let shown = rw c.in-Frame.is at c.requires.ready in
    let there = simp to_z-of_z at c.frame.ensures in
    let is = one c.in-Some.image.now shown.image (sym (ap option_copied c.in-Some.is) ∙ there ∙ shown.is_held) in
    subst (λ (s : Stored). Holds s.rect x y) (sym is) (shown.within x y h)

pub push_view-requires-in-Render-clause-clip : goal.push_view-requires-in-Render-clause-clip
push_view-requires-in-Render-clause-clip g c = c.requires.clip

pub push_view-requires-in-Render-clause-within : goal.push_view-requires-in-Render-clause-within
push_view-requires-in-Render-clause-within g c x y h =
    let meaning = g.E.ImageEffect.meaning in
    let setup = c.args.setup.now in
    let ready = subst (IsReady meaning setup c.args._before) c.in-Render.is c.requires.ready in
    let held = subst (λ e. IsTileOf (scene_nodes meaning setup.scene.now) e c.args.tile.now) c.in-Render.is c.requires.tile in
    let e = c.in-Render in
    let end = Render e.node e.frame e.region e.cut e.through in
    let tile : IsTile (scene_nodes meaning setup.scene.now) e.node e.frame e.region (arc_value c.in-Some-tile.image) =
    subst (IsTileOf (scene_nodes meaning setup.scene.now) end) c.in-Some-tile.is held in
    subst (λ (r : Bounds). Holds r x y) (sym tile.rect ∙ ap (λ (s : Stored). s.rect) (sym c.deref.ensures)) (ready.2 x y h)
