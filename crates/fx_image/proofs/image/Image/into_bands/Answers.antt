use Rattle.std.proofs.Common.{◌<◌, ◌*◌, length, subst, sym, ◌∙◌, arith}
use Rattle.std.proofs.lemmas.List.{nil_from_length}
use Rattle.fx_image.specs.Rows.{AreBlocks, HaveRows}
use Rattle.fx_image.specs.Stored.{Stored}
use Rattle.fx_image.specs.Bands.{layout_of, AreBands, AreWhole, ShowBands}
use Rattle.fx_image.proofs.BandLaws.{CutImages, band_stored, made_more, next_block, are_bands, are_whole, show_bands}
use Rattle.fx_image.proofs.image.Image.into_bands.Goals as goal

pub invariant_of-push : goal.invariant_of-push
invariant_of-push c =
    let s : Stored = record { rect = c.self.inside.rect; depth = c.self.inside.depth; components = c.self.inside.components; raster = c.self.inside.rows } in
    let inv = subst (λ (t : Stored). CutImages t c.into_iter-own-iterator.result.rest.items c.loop-own.own-iterator.rest.items c.loop-own.bands.items) (sym c.self.view_is) c.loop-own.invariant in
    let have = subst (λ l. AreBlocks s.raster l) (sym c.into_iter-own-iterator.ensures.into_iter_gives.0) c.in_ok-all.ensures.bands in
    let next = next_block s _ _ _ _ _ have inv c.in-Some.ensures.steps.0 in
    let some : 0 < s.raster.step = omega (arith, c.step-step.ensures.value, c.step-step.ensures.some) in
    let there = subst (λ n. length c.loop-own.bands.items * s.raster.step < n) c.self.invariant.row_count next.1 in
    rw (c.band_rect-place.ensures, c.len.ensures, c.loop-own.bands.ok.0, c.step-step.ensures.value) (band_stored s _ _ c.self.invariant some there next.0)

pub loop-own-preserved : goal.loop-own-preserved
loop-own-preserved c =
    let s : Stored = record { rect = c.self.inside.rect; depth = c.self.inside.depth; components = c.self.inside.components; raster = c.self.inside.rows } in
    let inv = subst (λ (t : Stored). CutImages t c.into_iter-own-iterator.result.rest.items c.loop-own.own-iterator.rest.items c.loop-own.bands.items) (sym c.self.view_is) c.loop-own.invariant in
    rw (← c.self.view_is, c.in_ok-push.ensures.items, c.band_rect-place.ensures, c.len.ensures, c.loop-own.bands.ok.0, c.step-step.ensures.value) (made_more s _ _ _ _ _ inv c.in-Some.ensures.steps.0)

all_cut : (c : goal.After-drop-own-iterator-2) → AreBands (layout_of c.args.self) c.loop-own.bands.items × AreWhole (layout_of c.args.self) c.loop-own.bands.items × ShowBands c.args.self c.loop-own.bands.items
all_cut c =
    let s : Stored = record { rect = c.self.inside.rect; depth = c.self.inside.depth; components = c.self.inside.components; raster = c.self.inside.rows } in
    let all = c.into_iter-own-iterator.result.rest.items in
    let none = nil_from_length c.loop-own.own-iterator.rest.items (sym c.loop-own.own-iterator.rest.ok.0 ∙ c.in-None.ensures.steps.0) in
    let inv = subst (λ (t : Stored). CutImages t all c.loop-own.own-iterator.rest.items c.loop-own.bands.items) (sym c.self.view_is) c.loop-own.invariant in
    let done = subst (λ rest. CutImages s all rest c.loop-own.bands.items) none inv in
    let gives = sym c.into_iter-own-iterator.ensures.into_iter_gives.0 in
    let have = subst (λ l. AreBlocks s.raster l) gives c.in_ok-all.ensures.bands in
    let rows_are = subst (λ l. HaveRows s.raster l) gives c.in_ok-all.ensures.rows in
    let some : 0 < s.raster.step = omega (arith, c.step-step.ensures.value, c.step-step.ensures.some) in
    let bands = are_bands s all c.loop-own.bands.items c.self.invariant some have rows_are done in
    rw (← c.self.view_is) (
      bands,
      are_whole (layout_of s) c.loop-own.bands.items c.self.invariant.rect some bands,
      show_bands s all c.loop-own.bands.items c.self.invariant some have rows_are done,
    )

pub returns-clause-bands : goal.returns-clause-bands
returns-clause-bands c = (all_cut c).0

pub returns-clause-whole : goal.returns-clause-whole
returns-clause-whole c = (all_cut c).1

pub returns-clause-pixels : goal.returns-clause-pixels
returns-clause-pixels c = (all_cut c).2
