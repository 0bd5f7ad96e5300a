use Rattle.std.proofs.Common.{◌≡◌, ◌∙◌, ◌+ℤ◌, sym, subst, ap, refl, arith, w64, to_z, of_z, FitsSigned, rules}
use Rattle.std.proofs.lemmas.Int.{ints, to_z-of_z}
use Rattle.fx_base.specs.Bounds.{Bounds}
use Rattle.fx_base.specs.Rect.{shifted}
use Rattle.fx_effect.specs.Tap.{tap}
use Rattle.fx_effect.specs.Given.{row_pixel, clip_components}
use Rattle.fx_effect.specs.Rows.{IsLine, ShowsRow}
use Rattle.fx_move.specs.declared.translate.Along.{Along}
use Rattle.fx_effect.specs.SourceLaws.{shows_source}
use Rattle.fx_move.specs.Translate.{across, upward, translate_shape}
use Rattle.fx_move.specs.TranslateLaws.{axes_are}
use Rattle.fx_move.proofs.MirrorRows.{row_wide}
use Rattle.fx_move.proofs.TranslateRows.{row_fits, moved_row, shifted_line, shifted_pixel, whole_pixel}
use Rattle.fx_move.proofs.translate.WholeRowsRowKernel.fill_row.Goals as goal

pub shift-there-requires-clause-dx_low : goal.shift-there-requires-clause-dx_low
shift-there-requires-clause-dx_low c =
    let k = c.args.self.now in
    let m = c.requires.makes in
    let first = (axes_are m.0.context k.values.now m.0.lawful).0.first in
    let is = ap (λ (a : Along). a.first) m.2 in
    let low = first.0 in let high = first.1 in
    omega (arith, ints, is, low, high)

pub shift-there-requires-clause-dx_high : goal.shift-there-requires-clause-dx_high
shift-there-requires-clause-dx_high c =
    let k = c.args.self.now in
    let m = c.requires.makes in
    let first = (axes_are m.0.context k.values.now m.0.lawful).0.first in
    let is = ap (λ (a : Along). a.first) m.2 in
    let low = first.0 in let high = first.1 in
    omega (arith, ints, is, low, high)

pub shift-there-requires-clause-dy_low : goal.shift-there-requires-clause-dy_low
shift-there-requires-clause-dy_low c =
    let k = c.args.self.now in
    let m = c.requires.makes in
    let first = (axes_are m.0.context k.values.now m.0.lawful).1.first in
    let is = ap (λ (a : Along). a.first) m.3 in
    let low = first.0 in let high = first.1 in
    omega (arith, ints, is, low, high)

pub shift-there-requires-clause-dy_high : goal.shift-there-requires-clause-dy_high
shift-there-requires-clause-dy_high c =
    let k = c.args.self.now in
    let m = c.requires.makes in
    let first = (axes_are m.0.context k.values.now m.0.lawful).1.first in
    let is = ap (λ (a : Along). a.first) m.3 in
    let low = first.0 in let high = first.1 in
    omega (arith, ints, is, low, high)

pub overflow_add-y : goal.overflow_add-y
overflow_add-y c =
    let k = c.args.self.now in
    let m = c.requires.makes in
    let row = c.requires.row in
    let first = (axes_are m.0.context k.values.now m.0.lawful).1.first in
    row_fits c.args.rect c.args.y k.upward.first (upward k.values.now).first row.near row.above row.below (ap (λ (a : Along). a.first) m.3) first.0 first.1

pub read_row-requires-clause-row : goal.read_row-requires-clause-row
read_row-requires-clause-row c =
    let k = c.args.self.now in
    let v = k.values.now in
    let m = c.requires.makes in
    let row = c.requires.row in
    let rect = c.args.rect in
    let d = c.args._depth in
    let s = c.args._components in
    let axes = axes_are m.0.context v m.0.lawful in
    let a = ap (λ (x : Along). x.first) m.2 in
    let b = ap (λ (x : Along). x.first) m.3 in
    let across_low = axes.0.first.0 in let across_high = axes.0.first.1 in
    let upward_low = axes.1.first.0 in let upward_high = axes.1.first.1 in
    let p : to_z w64 (of_z w64 k.across.first) ≡ (across v).first = omega (arith, ints) in
    let q : to_z w64 (of_z w64 k.upward.first) ≡ (upward v).first = omega (arith, ints) in
    let there = c.shift-there.ensures.bounds ∙ ap (λ z. shifted rect z (to_z w64 (of_z w64 k.upward.first))) p ∙ ap (shifted rect (across v).first) q in
    let level = to_z-of_z w64 (to_z w64 (of_z w64 c.args.y) +ℤ to_z w64 (of_z w64 k.upward.first)) (row_fits rect c.args.y k.upward.first (upward v).first row.near row.above row.below b upward_low upward_high) ∙ moved_row rect c.args.y k.upward.first (upward v).first row.near row.above row.below b upward_low upward_high in
    let shows = shows_source translate_shape v k.inputs.now d s (λ context. refl) m.0 in
    let wide = row_wide rect c.args.y row.bounds row.above row.below in
    rw (shows.depth_is, shows.components_are)
    (subst (λ j. IsLine d s c.shift-there.result j c.args.row.now) (sym level)
    (subst (λ (r : Bounds). IsLine d s r (c.args.y +ℤ (upward v).first) c.args.row.now) (sym there)
    (shifted_line d s rect c.args.y (across v).first (upward v).first wide row.above row.below c.args.row.now row.long)))

pub returns-clause-shows : goal.returns-clause-shows
returns-clause-shows c x inside =
    let k = c.args.self.now in
    let v = k.values.now in
    let given = k.inputs.now in
    let m = c.requires.makes in
    let row = c.requires.row in
    let rect = c.args.rect in
    let d = c.args._depth in
    let s = c.args._components in
    let bytes = c.read_row.new.row in
    let f = row_pixel given 0 v.frame in
    let frame : FitsSigned w64 v.frame = search rules in
    let axes = axes_are m.0.context v m.0.lawful in
    let a = ap (λ (x : Along). x.first) m.2 in
    let b = ap (λ (x : Along). x.first) m.3 in
    let across_low = axes.0.first.0 in let across_high = axes.0.first.1 in
    let upward_low = axes.1.first.0 in let upward_high = axes.1.first.1 in
    let p : to_z w64 (of_z w64 k.across.first) ≡ (across v).first = omega (arith, ints) in
    let q : to_z w64 (of_z w64 k.upward.first) ≡ (upward v).first = omega (arith, ints) in
    let there = c.shift-there.ensures.bounds ∙ ap (λ z. shifted rect z (to_z w64 (of_z w64 k.upward.first))) p ∙ ap (shifted rect (across v).first) q in
    let level = to_z-of_z w64 (to_z w64 (of_z w64 c.args.y) +ℤ to_z w64 (of_z w64 k.upward.first)) (row_fits rect c.args.y k.upward.first (upward v).first row.near row.above row.below b upward_low upward_high) ∙ moved_row rect c.args.y k.upward.first (upward v).first row.near row.above row.below b upward_low upward_high in
    let shows = shows_source translate_shape v given d s (λ context. refl) m.0 in
    let wide = row_wide rect c.args.y row.bounds row.above row.below in
    let read = subst (λ t. ShowsRow given.depth (clip_components given 0) c.shift-there.result (to_z w64 (of_z w64 (to_z w64 (of_z w64 c.args.y) +ℤ to_z w64 (of_z w64 k.upward.first)))) (row_pixel given 0 t) bytes) (to_z-of_z w64 v.frame frame) c.read_row.ensures in
    let at_row = subst (λ j. ShowsRow given.depth (clip_components given 0) c.shift-there.result j f bytes) level read in
    let shown : ShowsRow d s c.shift-there.result (c.args.y +ℤ (upward v).first) f bytes = rw (← shows.depth_is, ← shows.components_are) at_row in
    let moved : ShowsRow d s (shifted rect (across v).first (upward v).first) (c.args.y +ℤ (upward v).first) f bytes = subst (λ (r : Bounds). ShowsRow d s r (c.args.y +ℤ (upward v).first) f bytes) there shown in
    let of = c.pixels_fit.ensures.components (tap 0 v.frame (x +ℤ (across v).first) (c.args.y +ℤ (upward v).first)) ∙ shows.components_are in
    shifted_pixel d s rect c.args.y (across v).first (upward v).first wide row.above row.below bytes f x inside moved
    ∙ whole_pixel v given d s x c.args.y m.1 of
