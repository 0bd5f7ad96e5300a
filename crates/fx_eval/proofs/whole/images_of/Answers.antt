use Rattle.std.proofs.Common.{◌≡◌, ◌+◌, ◌∙◌, ap, length, map, sym, subst, List}
use Rattle.std.proofs.lemmas.List.{length-map, take_all}
use Rattle.std.specs.Arc.{arc_value}
use Rattle.std.specs.List.{All}
use Rattle.fx_base.specs.Bounds.{Bounds}
use Rattle.fx_gate.specs.Gates.{GateSeatState}
use Rattle.fx_image.specs.Stored.{Stored}
use Rattle.fx_eval.specs.Cuts.{Cover, IsCut}
use Rattle.fx_eval.specs.Setups.{IsFree}
use Rattle.fx_scene.specs.Windows.{IsWindowOf}
use Rattle.fx_eval.specs.Flights.{after_renders}
use Rattle.fx_eval.specs.Wholes.{rect_of}
use Rattle.fx_eval.proofs.FlightLemmas.{drops_none, on_err, renders_drop, renders_fail, renders_idle, renders_more, renders_push}
use Rattle.fx_eval.proofs.WholeLemmas.{each_more, rects_more, values_more}
use Rattle.fx_eval.proofs.whole.images_of.Goals as goal

pub loop-region-preserved : goal.loop-region-preserved
loop-region-preserved g c =
    let m = g.E.ImageEffect.meaning c.args.node.now.effect.now in
    let is_window = λ (r : Bounds) (image : Stored). IsWindowOf m c.args.values.now c.args.inputs.now c.args.node.now.depth c.args.node.now.components r image in
    let image = arc_value c.in_ok-image.image in
    let window = c.in_ok-image.ensures.window in
    let pushed = values_more c.loop-region.images.items c.push.new.self.items c.in_ok-image.image c.in_ok-push.ensures.items in
    record {
      rects = rects_more (map arc_value c.loop-region.images.items) (map arc_value c.push.new.self.items) image c.deref-region-items.result.now c.loop-region.region-index c.region-item.result c.loop-region-test.true pushed window.rect c.region-item.is c.loop-region.invariant.rects;
      each = each_more (λ image. is_window image.rect image) (map arc_value c.loop-region.images.items) (map arc_value c.push.new.self.items) image pushed c.loop-region.invariant.each
          (subst (λ (r : Bounds). is_window r image) (sym window.rect) window);
      renders = renders_push c.args.core.now c.loop-region.core c.window_of.new.core c.loop-region.images.items c.push.new.self.items c.in_ok-image.image
          c.loop-region.invariant.renders c.in_ok-image.ensures.lands c.in_ok-push.ensures.items;
      seat = c.window_of.ensures.seat ∙ c.loop-region.invariant.seat;
    }

pub returns-clause-windows : goal.returns-clause-windows
returns-clause-windows g c =
    let cuts : c.deref-region-items.result.now ≡ c.in_ok-cuts.cuts.items = c.deref-region-items.ensures.value in
    let rects = c.loop-region.invariant.rects ∙ take_all c.loop-region.region-index c.deref-region-items.result.now c.loop-region-test.false ∙ cuts in
    record {
      each = c.loop-region.invariant.each;
      small = subst (λ (rs : List Bounds). All IsCut rs) (sym rects) c.in_ok-cuts.ensures.small;
      cover = subst (λ (rs : List Bounds). Cover rs c.args.area) (sym rects) c.in_ok-cuts.ensures.cover;
    }

pub returns-clause-lands : goal.returns-clause-lands
returns-clause-lands g c =
    let cuts : c.deref-region-items.result.now ≡ c.in_ok-cuts.cuts.items = c.deref-region-items.ensures.value in
    let rects = c.loop-region.invariant.rects ∙ take_all c.loop-region.region-index c.deref-region-items.result.now c.loop-region-test.false ∙ cuts in
    let many : length c.loop-region.images.items ≡ length c.in_ok-cuts.cuts.items =
    sym (length-map c.loop-region.images.items arc_value) ∙ sym (length-map (map arc_value c.loop-region.images.items) rect_of) ∙ ap (λ (rs : List Bounds). length rs) rects in
    c.loop-region.invariant.renders ∙ ap (after_renders c.args.core.now) (many ∙ c.in_ok-cuts.ensures.count)

pub window_of-requires-clause-idle : goal.window_of-requires-clause-idle
window_of-requires-clause-idle g c = renders_idle c.args.core.now c.loop-region.core _ c.loop-region.invariant.renders c.requires.idle

pub window_of-requires-clause-free : goal.window_of-requires-clause-free
window_of-requires-clause-free g c =
    subst (λ (s : GateSeatState). IsFree c.args.setup.now s) (sym c.loop-region.invariant.seat) c.requires.free

pub returns-in_err-cuts-clause-drops : goal.returns-in_err-cuts-clause-drops
returns-in_err-cuts-clause-drops g c = on_err c.from_residual.result (drops_none c.args.core.now)

pub returns-in_err-image-clause-drops : goal.returns-in_err-image-clause-drops
returns-in_err-image-clause-drops g c =
    on_err c.from_residual-in_err-image.result
    (renders_drop c.args.core.now c.loop-region.core c.window_of.new.core (length c.loop-region.images.items) c.loop-region.invariant.renders c.in_err-image.ensures.drops)

pub returns-in_err-push-clause-drops : goal.returns-in_err-push-clause-drops
returns-in_err-push-clause-drops g c =
    let so_far = length c.loop-region.images.items in
    on_err c.from_residual-in_err-push.result
    (renders_fail c.args.core.now c.window_of.new.core (so_far + 1)
    (renders_more c.args.core.now c.loop-region.core c.window_of.new.core so_far 1 c.loop-region.invariant.renders c.in_ok-image.ensures.lands))
