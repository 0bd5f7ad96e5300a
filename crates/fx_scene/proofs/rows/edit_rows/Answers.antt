use Rattle.std.proofs.Common.{rules, ap, sym, ◌∙◌, subst, arith, List}
use Rattle.std.specs.List.{AllByRecursion}
use Rattle.fx_params.specs.Parameter.{Parameter}
use Rattle.fx_scene.specs.Rows.{HasPlace, rows_in, with_param_at}
use Rattle.fx_scene.proofs.RowLemmas.{edits_next, places_still}
use Rattle.fx_scene.proofs.rows.edit_rows.Goals as goal

pub loop-edit-preserved : goal.loop-edit-preserved
loop-edit-preserved c =
    let e = c.edit-item.result in
    let es = c.args.edits.now in
    let rows = rows_in c.loop-edit.rows.items in
    record {
      edited = c.edit_row.ensures
          ∙ ap (with_param_at e.node e.param e.value) c.loop-edit.invariant.edited
          ∙ edits_next es c.loop-edit.edit-index e (rows_in c.args.rows.now.items) (omega (arith, c.loop-edit-test.true)) (search rules);
      places = subst (λ (rs : List (List Parameter)). AllByRecursion (HasPlace rs) es) (sym c.edit_row.ensures)
          (places_still e.node e.param e.value rows es c.loop-edit.invariant.places);
    }
