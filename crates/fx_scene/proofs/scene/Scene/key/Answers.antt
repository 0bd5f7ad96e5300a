use Rattle.std.proofs.Common.{◌≡◌, List, ℕ, ap, ◌∙◌, w64}
use Rattle.std.proofs.lemmas.Int.{to_z-of_z}
use mir.Val.{SFits}
use Rattle.fx_scene.specs.Scenes.{Script, Shot, graph_shown, node_values}
use Rattle.fx_scene.specs.Scripts.{edits_kept, era_in, era_of}
use Rattle.fx_scene.proofs.ScriptLemmas.{era_at, key_is}
use Rattle.fx_scene.proofs.scene.Scene.key.Goals as goal

pub returns : goal.returns
returns g c =
    let fits : SFits w64 c.args.frame = c.ranges.frame in
    let scene = c.args.self.now in
    let inside = c.self.inside in
    let n = c.args.node in
    let script : Script _ = record { written = graph_shown inside.written.value; takes = edits_kept inside.takes; take = inside.take } in
    let of_era : c.era_in.result ≡ era_of scene.script n =
    c.era_in.ensures ∙ ap (λ (eras : List ℕ). era_in eras n) c.as_slice.ensures.value
    ∙ era_at g.E.ImageEffect.meaning (graph_shown inside.graph) scene.graph script scene.script inside.eras.items n
    (ap (λ (s : Shot _). s.graph) c.self.view_is) (ap (λ (s : Shot _). s.script) c.self.view_is) c.self.invariant.0 c.self.invariant.1 c.requires in
    (simp to_z-of_z at c.in_ok-new.ensures.ok)
    ∙ key_is n c.args.frame c.args.region c.in_ok-values.values (node_values scene.graph n c.args.frame) c.era_in.result (era_of scene.script n)
    (simp to_z-of_z at c.in_ok-values.ensures) of_era
