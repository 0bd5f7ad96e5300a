use Rattle.std.proofs.Common.{◌≡◌, pos, ◌+ℤ◌, sym, subst, arith, w64, to_z, of_z, FitsSigned, rules}
use Rattle.std.proofs.lemmas.Int.{ints, to_z-of_z}
use Rattle.fx_base.specs.Bounds.{Bounds}
use Rattle.fx_effect.specs.Given.{row_pixel}
use Rattle.fx_effect.specs.Rows.{IsLine, ShowsRow}
use Rattle.fx_area.proofs.LineLaws.{line_is, line_row, line_pixel}
use Rattle.fx_area.proofs.lines.read_line.Goals as goal

pub read_row-requires-clause-row : goal.read_row-requires-clause-row
read_row-requires-clause-row c =
    let l = c.args.line in
    let d = c.args.depth in
    let s = c.args.components in
    let left = c.requires.place.0.0 in let right = c.requires.place.0.1 in
    let low = c.requires.place.1.0 in let high = c.requires.place.1.1 in
    let few = c.requires.few in
    let x = to_z w64 (of_z w64 l.x) in
    let y = to_z w64 (of_z w64 l.y) in
    let is = line_is c.of-rect.result x y (to_z w64 (of_z w64 (x +ℤ to_z w64 l.count))) (to_z w64 (of_z w64 (y +ℤ pos 1))) l.x l.y l.count c.of-rect.ensures (omega (arith, ints)) (omega (arith, ints)) (omega (arith, ints)) (omega (arith, ints)) c.requires.some in
    let level : y ≡ l.y = omega (arith, ints) in
    rw (c.requires.source.depth_is, c.requires.source.components_are)
    (subst (λ j. IsLine d s c.of-rect.result j c.args.row.now) (sym level)
    (subst (λ (r : Bounds). IsLine d s r l.y c.args.row.now) (sym is) (line_row d s l.x l.y l.count c.args.row.now c.requires.long)))

pub returns : goal.returns
returns c i less =
    let l = c.args.line in
    let d = c.args.depth in
    let s = c.args.components in
    let given = c.args.inputs.now in
    let left = c.requires.place.0.0 in let right = c.requires.place.0.1 in
    let low = c.requires.place.1.0 in let high = c.requires.place.1.1 in
    let few = c.requires.few in
    let x = to_z w64 (of_z w64 l.x) in
    let y = to_z w64 (of_z w64 l.y) in
    let is = line_is c.of-rect.result x y (to_z w64 (of_z w64 (x +ℤ to_z w64 l.count))) (to_z w64 (of_z w64 (y +ℤ pos 1))) l.x l.y l.count c.of-rect.ensures (omega (arith, ints)) (omega (arith, ints)) (omega (arith, ints)) (omega (arith, ints)) c.requires.some in
    let level : FitsSigned w64 l.y = search rules in
    let frame : FitsSigned w64 l.frame = search rules in
    let read = simp to_z-of_z at c.read_row.ensures in
    let f = row_pixel given 0 l.frame in
    let shown : ShowsRow d s c.of-rect.result l.y f c.read_row.new.row = rw (← c.requires.source.depth_is, ← c.requires.source.components_are) read in
    line_pixel d s l.x l.y l.count c.read_row.new.row f i less (subst (λ (r : Bounds). ShowsRow d s r l.y f c.read_row.new.row) is shown)
