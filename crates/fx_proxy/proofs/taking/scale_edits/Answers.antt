use Rattle.std.proofs.Common.{◌∙◌, ap, map, subst, sym}
use Rattle.std.specs.List.{AllByRecursion}
use Rattle.fx_graph.specs.Shown.{shown}
use Rattle.fx_takes.specs.Shown.{edit_shown}
use Rattle.fx_proxy.specs.Scaled.{IsShownEdit, scaled_edit}
use Rattle.fx_proxy.proofs.ScaledLemmas.{item_all, more_items}
use Rattle.fx_proxy.proofs.taking.scale_edits.Goals as goal

pub scale_edit-requires-clause-edit : goal.scale_edit-requires-clause-edit
scale_edit-requires-clause-edit g c =
    let nodes = map shown c.args.graph.now.nodes.items in
    item_all (IsShownEdit nodes) (scaled_edit g.E.Catalogue.number_of c.args.q nodes) edit_shown c.deref_mut-edit-items.result.now c.loop-edit.edit-items c.loop-edit.edit-index
    c.edit-item.result c.loop-edit-test.true c.loop-edit.invariant
    (subst (λ items. AllByRecursion (IsShownEdit nodes) (map edit_shown items)) (sym c.deref_mut-edit-items.ensures.value) c.requires.edits)

pub loop-edit-preserved : goal.loop-edit-preserved
loop-edit-preserved g c =
    let f = scaled_edit g.E.Catalogue.number_of c.args.q (map shown c.args.graph.now.nodes.items) in
    more_items f edit_shown c.deref_mut-edit-items.result.now c.loop-edit.edit-items c.loop-edit.edit-index
    c.scale_edit.new.edit c.edit-item.result c.loop-edit-test.true c.loop-edit.invariant (c.scale_edit.ensures ∙ ap (λ x. f (edit_shown x)) (sym c.edit-item.is)) c.edit-item.is
