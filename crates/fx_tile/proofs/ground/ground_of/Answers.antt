use Rattle.std.proofs.Common.{◌≡◌, ◌≤◌, ◌<◌, ◌*◌, ◌+◌, ◌/◌, ◌∙◌, ap, sym, subst, arith, w64, length, List, All}
use Rattle.std.proofs.lemmas.Int.{ints, to_z-of_z}
use mir.Val.{SFits}
use Rattle.fx_base.specs.Bounds.{Bounds}
use Rattle.fx_base.specs.Rect.{rows}
use Rattle.fx_base.proofs.RectLaws.{gap_is}
use Rattle.fx_effect.specs.Shape.{IsProject}
use Rattle.fx_graph.specs.Shown.{GraphShown}
use Rattle.fx_image.specs.Bands.{AreBands, AreWhole}
use Rattle.fx_image.specs.Stored.{Stored}
use Rattle.fx_image.specs.declared.layout.Layout.{Layout}
use Rattle.fx_region.specs.Counts.{window_tiles}
use Rattle.fx_tile.specs.Moments.{AreInBands, IsWindowTile, layout_over}
use Rattle.fx_tile.proofs.BandLemmas.{few_bands, some_of, tiles_in_bands}
use Rattle.fx_tile.proofs.ground.ground_of.Goals as goal

few_rows : (p : Bounds) → IsProject p → rows p ≤ 8192
few_rows p is =
    let bottom = is.bottom in let low = is.high.0 in let high = is.high.1 in
    let g = gap_is p.y1 p.y2 (omega (arith, ints)) in omega (arith, ints)

some_rows : (p : Bounds) → IsProject p → 0 < rows p
some_rows p is =
    let bottom = is.bottom in let low = is.high.0 in
    let g = gap_is p.y1 p.y2 (omega (arith, ints)) in omega (arith, ints)

-- the bands of an image that is laid out over a project
module _ (p : Bounds) (is : IsProject p) (l : Layout) (rect : l.rect ≡ p) (bands : List Stored) (are : AreBands l bands) where
  some_bands : 0 < length bands
  some_bands = some_of (length bands) l.band_rows (rows p) (subst (λ (r : Bounds). rows r ≤ length bands * l.band_rows) rect are.enough) (some_rows p is)

  not_many : 0 < l.band_rows → length bands ≤ 8192
  not_many some =
      let few = few_bands (length bands) l.band_rows (rows p) some (subst (λ (r : Bounds). length bands * l.band_rows < rows r + l.band_rows) rect are.no_spare) in
      let low = few_rows p is in
      omega (arith, few, low)

pub nonzero_div-columns : goal.nonzero_div-columns
nonzero_div-columns g c =
    let bands = subst (λ (m : Layout). AreBands m c.in_ok-bands.bands.items) c.in_ok-in_bands.ensures.layout c.in_ok-bands.ensures.bands in
    let rect = ap (λ (m : Layout). m.rect) c.layout_over-layout.ensures.layout in
    let some = some_bands c.graph-graph.result.now.project c.graph-graph.result.now.extent c.layout_over-layout.result rect c.in_ok-bands.bands.items bands in
    let long = c.len-2.ensures in
    omega (arith, some, long, c.in_ok-bands.bands.ok.0)

pub returns : goal.returns
returns g c =
    let fits : SFits w64 c.args.frame = c.ranges.frame in
    let h = c.args.scene.now.graph in
    let side = c.args.grid in
    let shown = c.graph-graph.ensures.shown in
    let project = ap (λ (z : GraphShown _). z.project) shown in
    let depth = ap (λ (z : GraphShown _). z.depth) shown in
    let format = ap (λ (z : GraphShown _). z.format) shown in
    let extent : IsProject h.project = subst IsProject project c.graph-graph.result.now.extent in
    let l = c.layout_over-layout.result in
    let items = c.in_ok-bands.bands.items in
    let tiles = c.in_ok-tiles.tiles.items in
    let is : l ≡ layout_over h.project h.depth h.format side =
    c.layout_over-layout.ensures.layout ∙ (λ i. layout_over (project i) (depth i) (format i) side) in
    let rect : l.rect ≡ h.project = ap (λ (m : Layout). m.rect) is in
    let step : l.band_rows ≡ side = ap (λ (m : Layout). m.band_rows) is in
    let are = subst (λ (m : Layout). AreBands m items) c.in_ok-in_bands.ensures.layout c.in_ok-bands.ensures.bands in
    let whole = subst (λ (m : Layout). AreWhole m items) c.in_ok-in_bands.ensures.layout c.in_ok-bands.ensures.whole in
    let some = c.layout_over-layout.ensures.side in
    let window : tiles ≡ window_tiles side h.project = c.in_ok-tiles.ensures.tiles ∙ ap (window_tiles side) project in
    let long_tiles : c.len.result ≡ length tiles = omega (arith, c.len.ensures, c.in_ok-tiles.tiles.ok.0) in
    let long_bands : c.len-2.result ≡ length items = omega (arith, c.len-2.ensures, c.in_ok-bands.bands.ok.0) in
    let columns : length tiles / length items ≡ c.len.result / c.len-2.result = (λ i. sym long_tiles i / sym long_bands i) in
    let few = not_many h.project extent l rect items are (omega (arith, some, step)) in
    record {
      regions = simp to_z-of_z at c.in_ok-regions.ensures;
      tiles = window;
      few = c.in_ok-tiles.ensures.few;
      each = subst (λ (b : Bounds). All (IsWindowTile b) tiles) project c.in_ok-tiles.ensures.each;
      layout = is;
      laid = c.layout_over-layout.ensures.laid;
      in_bands =
          subst (λ n. AreInBands l n tiles items) columns
          (tiles_in_bands side h.project (omega (arith, some)) extent.left extent.bottom extent.wide.0 extent.high.0 l items are whole rect step tiles window);
      few_bands = omega (arith, few, c.in_ok-bands.bands.ok.0);
    }
