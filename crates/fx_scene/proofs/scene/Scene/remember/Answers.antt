use Rattle.std.proofs.Common.{◌≡◌, ◌≤◌, ◌∙◌, ap, subst, sym, length, arith}
use Rattle.std.proofs.lemmas.List.{length-map}
use Rattle.fx_text.specs.declared.raw.TheConstants.{MOST_TAKES}
use Rattle.fx_scene.specs.declared.take.Takes.{Takes}
use Rattle.fx_scene.specs.Scenes.{Script, Shot, graph_shown}
use Rattle.fx_scene.specs.Scripts.{edits_kept}
use Rattle.fx_scene.specs.Takes.{edits_of}
use Rattle.fx_scene.specs.Takes.{AreEdits}
use Rattle.fx_scene.proofs.ScriptLemmas.{eras_with, played_with}
use Rattle.fx_scene.proofs.scene.Scene.remember.Goals as goal

pub invariant_of-self : goal.invariant_of-self
invariant_of-self g c =
    let inside = c.self.inside in
    let script : Script _ = record { written = graph_shown inside.written.value; takes = edits_kept inside.takes; take = inside.take } in
    let list = c.of.result.value.list.items in
    let same : script ≡ c.args.self.now.script = ap (λ (s : Shot _). s.script) c.self.view_is in
    let first : script.take ≡ 0 = ap (λ (s : Script _). s.take) same ∙ c.requires.first in
    let long = length-map list (λ t. t.edits.items) in
    let few = subst (λ (t : Takes). length t.list.items ≤ MOST_TAKES) (sym c.of.ensures) c.requires.few in
    let edits : AreEdits script.written.nodes (edits_of list) =
    subst (λ (s : Script _). AreEdits s.written.nodes (edits_of list)) (sym same)
    (subst (λ (t : Takes). AreEdits c.args.self.now.script.written.nodes (edits_of t.list.items)) (sym c.of.ensures) c.requires.edits) in (
      played_with g.E.ImageEffect.meaning (graph_shown inside.graph) script (edits_of list) first c.self.invariant.0 (omega (arith, few, long)) edits,
      eras_with g.E.ImageEffect.meaning (graph_shown inside.graph) script (edits_of list) first inside.eras.items c.self.invariant.1,
    )
