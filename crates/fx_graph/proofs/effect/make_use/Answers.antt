use Rattle.std.proofs.Common.{◌≡◌, ◌∙◌, ap, sym, subst, map, All, rules}
use Rattle.std.specs.Prelude.{ℕ, Bool, List, Option}
use Rattle.std.specs.BTreeMap.{get_by_text}
use Rattle.fx_effect.specs.Shape.{is_mask, clip_names}
use Rattle.fx_params.specs.Parameter.{IsSound}
use Rattle.fx_graph.specs.Shown.{Shown, shown}
use Rattle.fx_graph.specs.Uses.{connection}
use Rattle.fx_graph.specs.Params.{param_of}
use Rattle.fx_graph.specs.Nodes.{form_of}
use Rattle.fx_graph.proofs.Using.{made_use, masks_map}
use Rattle.fx_graph.proofs.effect.make_use.Goals as goal

pub returns-clause-made : goal.returns-clause-made
returns-clause-made g c =
    let e = c.args.effect in
    let s = (g.E.ImageEffect.meaning e).shape in
    let before = map shown c.args.before.now in
    let inputs = s.clips c.args.context in
    let clips = map (connection (get_by_text c.args.places.now) c.args.clips.now) inputs in
    let used = c.in_ok-used.used in
    let nodes : used.nodes.items ≡ clips = rw (c.deref.ensures.value, c.requires.inputs) at c.in_ok-used.ensures.nodes in
    let masks : used.masks ≡ map is_mask (clip_names s c.args.context) = (rw (c.deref.ensures.value, c.requires.inputs) at c.in_ok-used.ensures.masks) ∙ masks_map inputs in
    let names = rw (c.deref.ensures.value, c.requires.inputs) at c.in_ok-used.ensures.names in
    let optional = rw (c.deref.ensures.value, c.requires.inputs) at c.in_ok-used.ensures.optional in
    let ps = rw c.requires.params at c.in_ok-params.ensures.made in
    let form : c.in_ok-form.form ≡ form_of s c.args.project before used.nodes.items used.masks = rw (c.requires.byte, c.requires.short, c.requires.alpha) at c.in_ok-form.ensures in
    made_use e s c.args.project before c.args.name.now c.args.context clips c.args.params.now c.in_ok-copied.field-0 c.in_ok-form.form used.nodes.items used.names used.optional used.masks c.in_ok-params.params.items c.in_ok-copied.ensures nodes names optional masks ps form

pub returns-clause-sound : goal.returns-clause-sound
returns-clause-sound g c =
    let made = rw c.requires.params at c.in_ok-params.ensures.made in
    subst (All IsSound) made c.in_ok-params.ensures.sound
