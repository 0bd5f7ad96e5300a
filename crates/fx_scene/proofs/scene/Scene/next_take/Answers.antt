use Rattle.std.proofs.Common.{◌≡◌, ◌≤◌, ◌<◌, ◌+◌, ◌∙◌, ℕ, List, Bool, false, cond, length, map, slice_index_or, ap, subst, sym, arith}
use Rattle.fx_base.specs.declared.limits.TheConstants.{MOST_NODES}
use Rattle.fx_text.specs.declared.raw.TheConstants.{MOST_TAKES}
use Rattle.fx_graph.specs.declared.node.Node.{Node}
use Rattle.fx_graph.specs.Shown.{shown}
use Rattle.fx_scene.specs.declared.take.Edit.{Edit}
use Rattle.fx_scene.specs.Scenes.{Script, Shot, graph_shown}
use Rattle.fx_scene.specs.Scripts.{edits_kept, era_in}
use Rattle.fx_scene.specs.Takes.{edits_after, is_touched}
use Rattle.fx_scene.proofs.ScriptLemmas.{eras_low, eras_next, graph_next, may_edit, played_next, taken_is}
use Rattle.fx_scene.proofs.scene.Scene.next_take.Goals as goal

pub touched_by-requires : goal.touched_by-requires
touched_by-requires g c =
    let few = c.self.inside.graph.rendered.few in
    subst (λ (ns : List (Node _)). length ns ≤ MOST_NODES) (sym c.as_slice.ensures.value) few

pub raised-requires : goal.raised-requires
raised-requires g c =
    let inside = c.self.inside in
    let script : Script _ = record { written = graph_shown inside.written.value; takes = edits_kept inside.takes; take = inside.take } in
    let same : script ≡ c.args.self.now.script = ap (λ (s : Shot _). s.script) c.self.view_is in
    let more : script.take < length script.takes = subst (λ (s : Script _). s.take < length s.takes) (sym same) c.requires.more in
    let long = ap (λ (xs : List Bool). length xs) c.as_slice-4.ensures.value in
    let nodes = ap (λ (ns : List (Node _)). length ns) c.as_slice.ensures.value in
    let touched = c.in-Ok.ensures.length in
    λ n low.
    subst (λ (eras : List ℕ). era_in eras n < MOST_TAKES) (sym c.as_slice-3.ensures.value)
    (eras_low g.E.ImageEffect.meaning inside.graph script c.self.invariant.0 inside.eras.items c.self.invariant.1 more n (omega (arith, low, long, nodes, touched)))

pub edit_all-requires : goal.edit_all-requires
edit_all-requires g c =
    let inside = c.self.inside in
    let script : Script _ = record { written = graph_shown inside.written.value; takes = edits_kept inside.takes; take = inside.take } in
    let same : script ≡ c.args.self.now.script = ap (λ (s : Shot _). s.script) c.self.view_is in
    may_edit g.E.ImageEffect.meaning inside.graph script c.self.invariant.0 c.args.edits.items
    (c.requires.next ∙ ap (λ (s : Script _). edits_after s.takes s.take) (sym same))

pub invariant_of-self : goal.invariant_of-self
invariant_of-self g c =
    let inside = c.self.inside in
    let meaning = g.E.ImageEffect.meaning in
    let script : Script _ = record { written = graph_shown inside.written.value; takes = edits_kept inside.takes; take = inside.take } in
    let same : script ≡ c.args.self.now.script = ap (λ (s : Shot _). s.script) c.self.view_is in
    let next = c.requires.next ∙ ap (λ (s : Script _). edits_after s.takes s.take) (sym same) in
    let more : script.take < length script.takes = subst (λ (s : Script _). s.take < length s.takes) (sym same) c.requires.more in
    let new = c.edit_all.new.graph in
    let edits = c.args.edits.items in
    let is = graph_next meaning inside.graph script c.self.invariant.0 edits next new c.edit_all.ensures.nodes c.edit_all.ensures.others in
    let nodes = c.as_slice.ensures.value in
    let touched = c.in-Ok.touched.items in
    let long : length touched ≡ length inside.graph.nodes.items = c.in-Ok.ensures.length ∙ ap (λ (ns : List (Node _)). length ns) nodes in
    let known : (n : ℕ) → n < length inside.graph.nodes.items → slice_index_or touched n false ≡ is_touched (map shown inside.graph.nodes.items) edits n =
    subst (λ (ns : List (Node _)). (n : ℕ) → n < length ns → slice_index_or touched n false ≡ is_touched (map shown ns) edits n) nodes
    (subst (λ (es : List Edit). (n : ℕ) → n < length c.as_slice.result.now → slice_index_or touched n false ≡ is_touched (map shown c.as_slice.result.now) es n)
    c.as_slice-2.ensures.value c.in-Ok.ensures.touched) in
    let rises : (n : ℕ) → n < length touched → era_in c.in-Ok-raised.eras.items n ≡ era_in inside.eras.items n + cond (slice_index_or touched n false) 1 0 =
    subst (λ (eras : List ℕ). (n : ℕ) → n < length touched → era_in c.in-Ok-raised.eras.items n ≡ era_in eras n + cond (slice_index_or touched n false) 1 0) c.as_slice-3.ensures.value
    (subst (λ (ts : List Bool). (n : ℕ) → n < length ts → era_in c.in-Ok-raised.eras.items n ≡ era_in c.as_slice-3.result.now n + cond (slice_index_or ts n false) 1 0)
    c.as_slice-4.ensures.value c.in-Ok-raised.ensures) in (
      played_next meaning inside.graph script c.self.invariant.0 edits next (graph_shown new) is more,
      eras_next meaning inside.graph script c.self.invariant.0 edits next inside.eras.items c.in-Ok-raised.eras.items touched c.self.invariant.1 long known rises,
    )

pub returns-clause-ok : goal.returns-clause-ok
returns-clause-ok g c =
    let inside = c.self.inside in
    let meaning = g.E.ImageEffect.meaning in
    let script : Script _ = record { written = graph_shown inside.written.value; takes = edits_kept inside.takes; take = inside.take } in
    let same : script ≡ c.args.self.now.script = ap (λ (s : Shot _). s.script) c.self.view_is in
    let next = c.requires.next ∙ ap (λ (s : Script _). edits_after s.takes s.take) (sym same) in
    let new = c.edit_all.new.graph in
    taken_is (graph_shown inside.graph) (graph_shown new) inside.store inside.number script c.args.self.now c.self.view_is
    (graph_next meaning inside.graph script c.self.invariant.0 c.args.edits.items next new c.edit_all.ensures.nodes c.edit_all.ensures.others)
