use Rattle.std.proofs.Common.{◌≡◌, ◌∙◌, true, false, sym, subst, ap, refl, arith, w64, to_z, of_z, FitsSigned, rules}
use Rattle.std.proofs.lemmas.Int.{ints, to_z-of_z}
use Rattle.std.specs.Int.{int_gap}
use Rattle.fx_base.specs.Bounds.{Bounds}
use Rattle.fx_base.specs.Rect.{columns}
use Rattle.fx_base.proofs.RectLaws.{IsUpTo-near, IsUpTo-more}
use Rattle.fx_image.proofs.ImageLaws.{gap_below, place_from}
use Rattle.fx_effect.specs.Given.{row_pixel}
use Rattle.fx_effect.specs.Rows.{IsLine, ShowsRow}
use Rattle.fx_effect.specs.SourceLaws.{shows_source}
use Rattle.fx_move.specs.Mirror.{turns_columns, opposite, mirrored, mirror_shape}
use Rattle.fx_move.proofs.MirrorRows.{row_wide, turned_line, other_line, turned_pixel, other_pixel, mirror_turned, mirror_other}
use Rattle.fx_move.proofs.mirror.MirrorRowsRowKernel.fill_row.Goals as goal

pub mirrored-there-requires-clause-near : goal.mirrored-there-requires-clause-near
mirrored-there-requires-clause-near c =
    let row = c.requires.row in
    IsUpTo-more 1073741824 2147483648 c.args.rect (omega arith) (IsUpTo-near c.args.rect row.bounds row.near)

pub opposite-y-requires-clause-count : goal.opposite-y-requires-clause-count
opposite-y-requires-clause-count c =
    let is = ap (λ (b : Bounds). b.y2) c.project.view_is in
    let high = c.requires.makes.lawful.project.high in
    (omega (arith, ints), omega (arith, ints))

pub read_row-requires-clause-row : goal.read_row-requires-clause-row
read_row-requires-clause-row c =
    let k = c.args.self.now in
    let v = k.values.now in
    let row = c.requires.row in
    let d = c.args.depth in
    let s = c.args.components in
    let y : FitsSigned w64 c.args.y = c.ranges.y in
    let shows = shows_source mirror_shape v k.inputs.now d s (λ context. refl) c.requires.makes in
    let test : turns_columns v ≡ true = sym c.turns_columns.ensures ∙ c.if-turns_columns.true in
    let wide = row_wide c.args.rect c.args.y row.bounds row.above row.below in
    simp to_z-of_z (rw (shows.depth_is, shows.components_are)
    (subst (λ (r : Bounds). IsLine d s r c.args.y c.args.bytes.now) (sym c.mirrored-there.ensures)
    (turned_line v d s c.args.rect c.args.y wide row.above row.below c.args.bytes.now test c.requires.bytes)))

pub read_row-requires-else-turns_columns-clause-row : goal.read_row-requires-else-turns_columns-clause-row
read_row-requires-else-turns_columns-clause-row c =
    let k = c.args.self.now in
    let v = k.values.now in
    let row = c.requires.row in
    let d = c.args.depth in
    let s = c.args.components in
    let y : FitsSigned w64 c.args.y = c.ranges.y in
    let up : FitsSigned w64 c.opposite-y.result = search rules in
    let side = ap (λ (b : Bounds). b.y2) c.project.view_is in
    let high = c.requires.makes.lawful.project.high in
    let a : to_z w64 (of_z w64 c.project.inside.y2) ≡ v.project.y2 = omega (arith, ints) in
    let is = c.opposite-y.ensures ∙ ap (λ n. opposite n (to_z w64 (of_z w64 c.args.y))) a ∙ ap (opposite v.project.y2) (to_z-of_z w64 c.args.y y) in
    let there : to_z w64 (of_z w64 c.opposite-y.result) ≡ opposite v.project.y2 c.args.y = to_z-of_z w64 c.opposite-y.result up ∙ is in
    let shows = shows_source mirror_shape v k.inputs.now d s (λ context. refl) c.requires.makes in
    let test : turns_columns v ≡ false = sym c.turns_columns.ensures ∙ c.if-turns_columns.false in
    let wide = row_wide c.args.rect c.args.y row.bounds row.above row.below in
    rw (shows.depth_is, shows.components_are)
    (subst (λ j. IsLine d s c.mirrored-there.result j c.args.row.now) (sym there)
    (subst (λ (r : Bounds). IsLine d s r (opposite v.project.y2 c.args.y) c.args.row.now) (sym c.mirrored-there.ensures)
    (other_line v d s c.args.rect c.args.y wide row.above row.below c.args.row.now test row.long)))

pub returns-then-turns_columns-clause-shows : goal.returns-then-turns_columns-clause-shows
returns-then-turns_columns-clause-shows c x inside =
    let k = c.args.self.now in
    let v = k.values.now in
    let given = k.inputs.now in
    let rect = c.args.rect in
    let row = c.requires.row in
    let d = c.args.depth in
    let s = c.args.components in
    let y : FitsSigned w64 c.args.y = c.ranges.y in
    let frame : FitsSigned w64 v.frame = search rules in
    let shows = shows_source mirror_shape v given d s (λ context. refl) c.requires.makes in
    let test : turns_columns v ≡ true = sym c.turns_columns.ensures ∙ c.if-turns_columns.true in
    let wide = row_wide rect c.args.y row.bounds row.above row.below in
    let read = simp to_z-of_z at c.read_row.ensures in
    let shown : ShowsRow d s c.mirrored-there.result c.args.y (row_pixel given 0 v.frame) c.read_row.new.row = rw (← shows.depth_is, ← shows.components_are) read in
    let there : ShowsRow d s (mirrored v rect) c.args.y (row_pixel given 0 v.frame) c.read_row.new.row = subst (λ (r : Bounds). ShowsRow d s r c.args.y (row_pixel given 0 v.frame) c.read_row.new.row) c.mirrored-there.ensures shown in
    let place = place_from rect x c.args.y inside in
    c.turn_pixels.ensures (columns rect) (int_gap rect.x1 x) (sym (c.read_row.auto.row ∙ c.requires.bytes)) (gap_below rect.x1 x rect.x2 place.left place.right)
    ∙ turned_pixel v d s rect c.args.y wide row.above row.below c.read_row.new.row (row_pixel given 0 v.frame) x test inside there
    ∙ mirror_turned v d s rect c.args.y wide row.above row.below given x test

pub returns-else-turns_columns-clause-shows : goal.returns-else-turns_columns-clause-shows
returns-else-turns_columns-clause-shows c x inside =
    let k = c.args.self.now in
    let v = k.values.now in
    let given = k.inputs.now in
    let rect = c.args.rect in
    let row = c.requires.row in
    let d = c.args.depth in
    let s = c.args.components in
    let f = row_pixel given 0 v.frame in
    let bytes = c.read_row-else-turns_columns.new.row in
    let y : FitsSigned w64 c.args.y = c.ranges.y in
    let up : FitsSigned w64 c.opposite-y.result = search rules in
    let frame : FitsSigned w64 v.frame = search rules in
    let side = ap (λ (b : Bounds). b.y2) c.project.view_is in
    let high = c.requires.makes.lawful.project.high in
    let a : to_z w64 (of_z w64 c.project.inside.y2) ≡ v.project.y2 = omega (arith, ints) in
    let is = c.opposite-y.ensures ∙ ap (λ n. opposite n (to_z w64 (of_z w64 c.args.y))) a ∙ ap (opposite v.project.y2) (to_z-of_z w64 c.args.y y) in
    let shows = shows_source mirror_shape v given d s (λ context. refl) c.requires.makes in
    let test : turns_columns v ≡ false = sym c.turns_columns.ensures ∙ c.if-turns_columns.false in
    let wide = row_wide rect c.args.y row.bounds row.above row.below in
    let read = simp to_z-of_z at c.read_row-else-turns_columns.ensures in
    let shown : ShowsRow d s c.mirrored-there.result c.opposite-y.result f bytes = rw (← shows.depth_is, ← shows.components_are) read in
    let moved : ShowsRow d s c.mirrored-there.result (opposite v.project.y2 c.args.y) f bytes = subst (λ j. ShowsRow d s c.mirrored-there.result j f bytes) is shown in
    let there : ShowsRow d s (mirrored v rect) (opposite v.project.y2 c.args.y) f bytes = subst (λ (r : Bounds). ShowsRow d s r (opposite v.project.y2 c.args.y) f bytes) c.mirrored-there.ensures moved in
    other_pixel v d s rect c.args.y wide row.above row.below bytes f x test inside there
    ∙ mirror_other v d s rect c.args.y wide row.above row.below given x test
