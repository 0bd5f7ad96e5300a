use Rattle.std.proofs.Common.{◌<◌, ◌*◌, ◌^◌, subst, sym, refl, ◌∙◌}
use Rattle.std.proofs.lemmas.List.{nil_from_length}
use Rattle.fx_image.specs.Rows.{Raster, HasRows, AreBlocks, HaveRows}
use Rattle.fx_image.proofs.RowsCut.{CutSoFar, none_cut, cut_more, cut_all, block_has_rows}
use Rattle.fx_image.proofs.rows.Rows.into_bands.Goals as goal

pub loop-block-init : goal.loop-block-init
loop-block-init c = rw (← c.self.view_is, c.new-bands.ensures.items, c.into_iter-block-iterator.ensures.into_iter_gives.0) (record { pitch_is = refl; step_is = refl; cut = none_cut _ })

pub invariant_of-push : goal.invariant_of-push
invariant_of-push c =
    let has = subst HasRows c.self.view_is c.self.invariant.1 in
    let small = subst (λ (s : Raster). s.step * s.pitch < 2 ^ 32) c.self.view_is c.self.invariant.0 in
    let inv = c.loop-block.invariant in
    rw (c.in_ok-push.ensures.items, c.new-own.ensures.items, c.min-rows.ensures, inv.pitch_is, inv.step_is) (small, block_has_rows c.args.self _ _ _ _ _ has inv.cut c.in-Some.ensures.steps.0)

pub loop-block-preserved : goal.loop-block-preserved
loop-block-preserved c =
    let inv = c.loop-block.invariant in
    record {
      pitch_is = inv.pitch_is;
      step_is = inv.step_is;
      cut = rw (c.in_ok-push-2.ensures.items, c.in_ok-push.ensures.items, c.new-own.ensures.items, c.min-rows.ensures, inv.pitch_is, inv.step_is) (cut_more c.args.self _ _ _ _ _ inv.cut c.in-Some.ensures.steps.0);
    }

all_cut : (c : goal.After-drop-block-iterator-2) → AreBlocks c.args.self c.loop-block.bands.items × HaveRows c.args.self c.loop-block.bands.items
all_cut c =
    let none = nil_from_length c.loop-block.block-iterator.rest.items (sym c.loop-block.block-iterator.rest.ok.0 ∙ c.in-None.ensures.steps.0) in
    cut_all c.args.self c.loop-block.bands.items c.loop-block.left (subst HasRows c.self.view_is c.self.invariant.1)
    (subst (λ r. CutSoFar c.args.self c.loop-block.bands.items r c.loop-block.left) none c.loop-block.invariant.cut)

pub returns-clause-bands : goal.returns-clause-bands
returns-clause-bands c = (all_cut c).0

pub returns-clause-rows : goal.returns-clause-rows
returns-clause-rows c = (all_cut c).1
