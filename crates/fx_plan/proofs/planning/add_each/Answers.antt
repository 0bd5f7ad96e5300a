use Rattle.std.proofs.Common.{◌≡◌, ◌∙◌, sym, ap, subst, List, map, take, All}
use Rattle.std.proofs.lemmas.List.{take_all}
use Rattle.std.proofs.lemmas.List.Elements.{All-nil}
use Rattle.std.proofs.lemmas.List.Folds.{flat_map-map}
use Rattle.std.specs.List.{flat_map}
use Rattle.fx_region.specs.Needs.{need_shown}
use Rattle.fx_region.specs.declared.ends.Need.{Need}
use Rattle.fx_plan.specs.Keys.{Adds, HasRect}
use Rattle.fx_plan.specs.Plan.{need_entry}
use Rattle.fx_plan.specs.declared.entry.Entry.{Entry}
use Rattle.fx_plan.proofs.KeyLemmas.{adds_none}
use Rattle.fx_plan.proofs.StepLemmas.{adds_more, all_more}
use Rattle.fx_plan.proofs.planning.add_each.Goals as goal

pub loop-need-init : goal.loop-need-init
loop-need-init c = (adds_none c.args.pending.now, All-nil HasRect)

pub loop-need-preserved : goal.loop-need-preserved
loop-need-preserved c =
    let f = λ (n : Need). need_entry (need_shown n) in
    let needs = c.args.needs.now in
    let i = c.loop-need.need-index in
    let need = c.need-item.result in
    let inv = c.loop-need.invariant in (
      adds_more f needs i need need c.args.pending.now c.loop-need.pending c.add_end.new.pending c.loop-need-test.true c.need-item.is inv.0 c.in_ok-add_end.ensures.added,
      all_more HasRect f needs i need need c.loop-need-test.true c.need-item.is inv.1 c.in_ok-add_end.ensures.rects,
    )

pub returns-clause-added : goal.returns-clause-added
returns-clause-added c =
    let f = λ (n : Need). need_entry (need_shown n) in
    let needs = c.args.needs.now in
    let i = c.loop-need.need-index in
    let is : flat_map f (take i needs) ≡ flat_map need_entry (map need_shown needs) =
    ap (flat_map f) (take_all i needs c.loop-need-test.false) ∙ sym (flat_map-map need_entry need_shown needs) in
    subst (λ (es : List Entry). Adds es c.args.pending.now c.loop-need.pending) is c.loop-need.invariant.0

pub returns-clause-rects : goal.returns-clause-rects
returns-clause-rects c =
    let f = λ (n : Need). need_entry (need_shown n) in
    let needs = c.args.needs.now in
    let i = c.loop-need.need-index in
    let is : flat_map f (take i needs) ≡ flat_map need_entry (map need_shown needs) =
    ap (flat_map f) (take_all i needs c.loop-need-test.false) ∙ sym (flat_map-map need_entry need_shown needs) in
    subst (All HasRect) is c.loop-need.invariant.1
