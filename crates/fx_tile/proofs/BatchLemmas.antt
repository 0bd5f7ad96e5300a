-- A picture whose bands are drawn batch by batch.
use Rattle.std.proofs.Common.{◌≡◌, ℕ, suc, ℤ, ◌<◌, ◌≤◌, ◌+◌, ◌-◌, ◌*◌, List, ◌++◌, All, drop, get_or, length, map, take, take-add, sym, ap, ◌∙◌, subst, arith, inl, inr}
use Rattle.std.proofs.Math.Nat.{mul-le-mul_right, suc-mul}
use Rattle.std.proofs.Math.Seq.{get_or-append-add}
use Rattle.std.proofs.lemmas.List.{drop-drop, drop-take, get_or-drop, get_or-take, get_or_append_left, length-append, length-drop, length-take, map-append, take_all, take-take}
use Rattle.std.proofs.lemmas.Bool.{cases_lt}
use Rattle.fx_base.specs.Bounds.{Bounds}
use Rattle.fx_base.specs.Rect.{Holds}
use Rattle.fx_image.specs.Bands.{AreBands, AreWhole, ShowBands, band_rect, layout_of}
use Rattle.fx_image.specs.Image.{SameImage}
use Rattle.fx_image.specs.Stored.{Stored, image_of}
use Rattle.fx_image.specs.declared.layout.Layout.{Layout}
use Rattle.fx_image.proofs.BandLaws.{same_layout, still_bands}
use Rattle.fx_effect.specs.Meaning.{Meaning}
use Rattle.fx_graph.specs.Shown.{GraphShown}
use Rattle.fx_pool.specs.Weights.{plus}
use Rattle.fx_region.specs.Ends.{EndShown, end_of}
use Rattle.fx_scene.specs.Nodes.{Nodes}
use Rattle.fx_scene.specs.Scenes.{Shot, images_in, picture}
use Rattle.fx_scene.specs.Sites.{scene_nodes}
use Rattle.fx_tile.specs.declared.count.TileCount.{TileCount}
use Rattle.fx_tile.specs.declared.setup.Setup.{Setup}
use Rattle.fx_tile.specs.Counts.{both_counts}
use Rattle.fx_tile.specs.Moments.{AreBandsOf, AreDrawn, AreInBands, CountsTiles, Cover, IsBand, ShowEach, ShowsPicture, count_weight, layout_over, picture_at, tiles_of_band}
use Rattle.fx_tile.proofs.CountLemmas.{counts_both}
use Rattle.fx_tile.proofs.WholeLemmas.{whole_picture}

-- ---- the tiles of a batch

-- the tiles of band j of a batch are those of band k + j
tiles_behind : {A : Type 0} (c k n j : ℕ) (xs : List A) → j < n → tiles_of_band c (take (n * c) (drop (k * c) xs)) j ≡ tiles_of_band c xs (k + j)
tiles_behind c k n j xs low =
    let m = (n - suc j) * c in
    let more : n * c ≡ j * c + (c + m) = let s = suc-mul j c in let t : n ≡ suc j + (n - suc j) = omega (arith, low) in ap (λ (z : ℕ). z * c) t ∙ omega (arith, s) in
    let at : k * c + j * c ≡ (k + j) * c = omega arith in
    ap (λ (z : ℕ). take c (drop (j * c) (take z (drop (k * c) xs)))) more
    ∙ ap (take c) (drop-take (j * c) (c + m) (drop (k * c) xs))
    ∙ take-take c (c + m) (drop (j * c) (drop (k * c) xs)) (omega arith)
    ∙ ap (take c) (drop-drop (j * c) (k * c) xs)
    ∙ ap (λ (z : ℕ). take c (drop z xs)) at

module _ {E : Type 0} (graph : GraphShown E) (c : ℕ) (tiles : List Bounds) (bands : List Stored) (are : AreBandsOf graph c tiles bands) where
  -- so many bands behind the first k
  pub bands_behind : (k n : ℕ) → k + n ≤ length bands → AreBandsOf graph c (take (n * c) (drop (k * c) tiles)) (take n (drop k bands))
  bands_behind k n low =
      let many = are.many in
      let up : (k + n) * c ≤ length bands * c = mul-le-mul_right c low in
      let left = length-drop k bands in
      let first = length-take n (drop k bands) in
      let behind = length-drop (k * c) tiles in
      let own = length-take (n * c) (drop (k * c) tiles) in
      let is : length (take n (drop k bands)) ≡ n = omega (arith, low, left, first) in
      let both : (k + n) * c ≡ k * c + n * c = omega arith in
      let at : (j : ℕ) (d : Stored) → j < n → get_or (take n (drop k bands)) j d ≡ get_or bands (k + j) d =
      λ j d less. get_or-take n (drop k bands) j d less ∙ get_or-drop k bands j d in
      record {
        many = ap (λ (z : ℕ). z * c) is ∙ omega (arith, many, up, behind, own, both);
        cover = λ j d there.
            let less : j < n = omega (arith, there, is) in
            subst (λ (ts : List Bounds). Cover ts (get_or (take n (drop k bands)) j d).rect) (sym (tiles_behind c k n j tiles less))
            (subst (λ (b : Stored). Cover (tiles_of_band c tiles (k + j)) b.rect) (sym (at j d less)) (are.cover (k + j) d (omega (arith, low, less))));
        each = λ j d there.
            let less : j < n = omega (arith, there, is) in
            subst (IsBand graph) (sym (at j d less)) (are.each (k + j) d (omega (arith, low, less)));
      }

  -- the next bands have these tiles
  pub next_bands : (own : List Bounds) (next : List Stored) (k n : ℕ) → k + n ≤ length bands
      → own ≡ take (n * c) (drop (k * c) tiles) → next ≡ take n (drop k bands) → AreBandsOf graph c own next
  next_bands own next k n low tiles_are bands_are =
      subst (λ (ts : List Bounds). AreBandsOf graph c ts next) (sym tiles_are)
      (subst (AreBandsOf graph c (take (n * c) (drop (k * c) tiles))) (sym bands_are) (bands_behind k n low))

-- the first of what is left is what comes next
pub next_is : {A : Type 0} (bands left next : List A) (a b k n : ℕ) → k ≡ a → n ≡ b → left ≡ drop a bands → next ≡ take b left
    → next ≡ take n (drop k bands)
next_is bands left next a b k n at many was is =
    is ∙ ap (take b) was ∙ ap (λ (z : ℕ). take b (drop z bands)) (sym at) ∙ ap (λ (z : ℕ). take z (drop k bands)) (sym many)

pub left_is : {A : Type 0} (bands left rest : List A) (a n all : ℕ) → all ≡ a + n → left ≡ drop a bands → rest ≡ drop n left → rest ≡ drop all bands
left_is bands left rest a n all sum was is = is ∙ ap (drop n) was ∙ drop-drop n a bands ∙ ap (λ (z : ℕ). drop z bands) (sym sum)

-- the tiles of bands are among all
pub room : (k n c b t : ℕ) → k + n ≤ b → b * c ≡ t → k * c + n * c ≤ t
room k n c b t low many =
    let up : (k + n) * c ≤ b * c = mul-le-mul_right c low in let both : (k + n) * c ≡ k * c + n * c = omega arith in omega (arith, up, both, many)

-- no more than there are in all
pub few_behind : {A : Type 0} (xs own : List A) (k n most : ℕ) → own ≡ take n (drop k xs) → length xs ≤ most → length own ≤ most
few_behind xs own k n most is few =
    let left = length-drop k xs in
    let first = length-take n (drop k xs) in
    subst (λ ys. length ys ≤ most) (sym is) (omega (arith, left, first, few))

pub all_behind : {A : Type 0} (P : A → Type 0) (xs own : List A) (a n : ℕ) → own ≡ take n (drop a xs) → All P xs → All P own
all_behind P xs own a n is all =
    subst (All P) (sym is)
    (λ k d low.
    let first = length-take n (drop a xs) in
    let left = length-drop a xs in
    let less : k < n = omega (arith, low, first) in
    subst P (sym (get_or-take n (drop a xs) k d less ∙ get_or-drop a xs k d)) (all (a + k) d (omega (arith, low, first, left))))

-- ---- what was drawn

module _ {E : Type 0} {c e : _} (meaning : E → Meaning) (setup : Setup E c e) (frame : ℤ) where
  abbrev nodes : Nodes
  nodes = scene_nodes meaning setup.scene.now

  abbrev ends : List Bounds → List EndShown
  ends tiles = map (end_of nodes setup.scene.now.graph.output frame) tiles

  module _ (columns : ℕ) (tiles : List Bounds) (bands : List Stored) where
    -- all of them
    pub drawn_counts : (drawn : List Stored) (count : TileCount) → length drawn ≡ length bands → length bands * columns ≡ length tiles
        → AreDrawn meaning setup frame columns tiles bands drawn count → CountsTiles nodes setup.shared.now.grid (ends tiles) count
    drawn_counts drawn count same many are =
        let long : length drawn * columns ≡ length tiles = ap (λ (n : ℕ). n * columns) same ∙ many in
        subst (λ (ts : List Bounds). CountsTiles nodes setup.shared.now.grid (ends ts) count)
        (take_all (length drawn * columns) tiles (omega (arith, long))) are.counts

    -- a batch more
    module _ (done next more all : List Stored) (own : List Bounds) (k n : ℕ) (a b sum : TileCount) (at : k ≡ length done) (low : k + n ≤ length bands)
        (long : length more ≡ n) (own_is : own ≡ take (n * columns) (drop (k * columns) tiles)) (next_are : next ≡ take n (drop k bands))
        (all_are : all ≡ done ++ more) (sum_is : sum ≡ both_counts a b) where
      both : length all ≡ k + n
      both = let app = length-append done more in let is = ap length all_are in omega (arith, is, app, at, long)

      shows : ShowEach (picture_at meaning setup frame) bands done → ShowEach (picture_at meaning setup frame) next more
          → ShowEach (picture_at meaning setup frame) bands all
      shows was is j d there =
          elim (cases_lt j k) [
            | inl less ↦
                let same : get_or all j d ≡ get_or done j d =
                ap (λ (l : List Stored). get_or l j d) all_are ∙ get_or_append_left done more d j (omega (arith, less, at)) in
                subst (ShowsPicture (picture_at meaning setup frame) (get_or bands j d)) (sym same) (was j d (omega (arith, less, at)))
            | inr over ↦
                let i = j - k in
                let from : k + i ≡ j = omega (arith, over) in
                let less : i < n = omega (arith, there, both, over) in
                let new : get_or all j d ≡ get_or more i d =
                ap (λ (l : List Stored). get_or l j d) all_are ∙ ap (λ (z : ℕ). get_or (done ++ more) z d) {x = j} {y = length done + i} (omega (arith, from, at))
                ∙ get_or-append-add done more i d in
                let old : get_or next i d ≡ get_or bands j d =
                ap (λ (l : List Stored). get_or l i d) next_are ∙ get_or-take n (drop k bands) i d less ∙ get_or-drop k bands i d
                ∙ ap (λ (z : ℕ). get_or bands z d) from in
                subst (ShowsPicture (picture_at meaning setup frame) (get_or bands j d)) (sym new)
                (subst (λ (s : Stored). ShowsPicture (picture_at meaning setup frame) s (get_or more i d)) old (is i d (omega (arith, less, long))))
          ]

      counts : CountsTiles nodes setup.shared.now.grid (ends (take (length done * columns) tiles)) a → CountsTiles nodes setup.shared.now.grid (ends own) b
          → CountsTiles nodes setup.shared.now.grid (ends (take (length all * columns) tiles)) sum
      counts was is =
          let end = end_of nodes setup.scene.now.graph.output frame in
          let so : length all * columns ≡ k * columns + n * columns = ap (λ (z : ℕ). z * columns) both ∙ omega arith in
          let they : ends (take (length all * columns) tiles) ≡ ends (take (length done * columns) tiles) ++ ends own =
          ap (λ (z : ℕ). ends (take z tiles)) so ∙ ap ends (take-add (k * columns) (n * columns) tiles)
          ∙ map-append end (take (k * columns) tiles) (take (n * columns) (drop (k * columns) tiles))
          ∙ ap (λ (z : ℕ). ends (take (z * columns) tiles) ++ ends (take (n * columns) (drop (k * columns) tiles))) at
          ∙ ap (λ (ts : List Bounds). ends (take (length done * columns) tiles) ++ ends ts) (sym own_is) in
          subst (λ (es : List EndShown). CountsTiles nodes setup.shared.now.grid es sum) (sym they)
          (subst (CountsTiles nodes setup.shared.now.grid (ends (take (length done * columns) tiles) ++ ends own)) (sym sum_is)
          (counts_both nodes setup.shared.now.grid (ends (take (length done * columns) tiles)) (ends own) a b was is))

      pub drawn_more : AreDrawn meaning setup frame columns tiles bands done a → ShowEach (picture_at meaning setup frame) next more
          → CountsTiles nodes setup.shared.now.grid (ends own) b → AreDrawn meaning setup frame columns tiles bands all sum
      drawn_more was show count =
          record { few = omega (arith, both, low); show = shows was.show show; counts = counts was.counts count }

-- what a batch more weighs
pub rises_more : (w u v : ℕ × ℕ) (a b sum : TileCount) → sum ≡ both_counts a b → u ≡ plus w (count_weight a) → v ≡ plus u (count_weight b)
    → v ≡ plus w (count_weight sum)
rises_more w u v a b sum is first then =
    let l = ap (λ (n : TileCount). n.landed) is in
    let h = ap (λ (n : TileCount). n.hits) is in
    let u0 = ap (λ (p : ℕ × ℕ). p.0) first in
    let u1 = ap (λ (p : ℕ × ℕ). p.1) first in
    let v0 = ap (λ (p : ℕ × ℕ). p.0) then in
    let v1 = ap (λ (p : ℕ × ℕ). p.1) then in
    let x : v.0 ≡ w.0 + sum.landed = omega (arith, l, u0, v0) in
    let y : v.1 ≡ w.1 + sum.hits = omega (arith, h, u1, v1) in
    λ i. (x i, y i)

-- ---- the whole picture

module _ {E : Type 0} (graph : GraphShown E) (l : Layout) (side columns : ℕ) (tiles : List Bounds) (bands : List Stored)
    (is : l ≡ layout_over graph.project graph.depth graph.format side) (have : AreInBands l columns tiles bands) where
  -- the bands of an image like the picture are bands of it
  pub bands_of : AreBandsOf graph columns tiles bands
  bands_of =
      record {
        many = have.many;
        cover = have.cover;
        each = λ k d low.
            let own = have.are.each k d low in
            let at : (get_or bands k d).rect ≡ band_rect l.rect l.band_rows k = ap (λ (m : Layout). m.rect) own in
            record {
              within = λ x y here.
                  subst (λ (r : Bounds). Holds r x y) (ap (λ (m : Layout). m.rect) is)
                  (have.whole.within k low x y (subst (λ (r : Bounds). Holds r x y) at here));
              depth = ap (λ (m : Layout). m.depth) own ∙ ap (λ (m : Layout). m.depth) is;
              components = ap (λ (m : Layout). m.components) own ∙ ap (λ (m : Layout). m.components) is;
            };
      }

module _ {E : Type 0} (meaning : E → Meaning) (scene : Shot E) (frame : ℤ) (l : Layout) (side columns : ℕ) (tiles : List Bounds) (bands after : List Stored)
    (is : l ≡ layout_over scene.graph.project scene.graph.depth scene.graph.format side) (have : AreInBands l columns tiles bands)
    (many : length after ≡ length bands) (show : ShowEach (picture meaning scene.graph (images_in scene.store) frame) bands after) where
  -- what was drawn is the bands of an image
  pub are_bands : AreBands l after
  are_bands =
      still_bands l bands after have.are many
      (λ k d low. same_layout (get_or bands k d) (get_or after k d) (show k d (omega (arith, many, low))).frame)

  -- that image is the picture
  pub is_picture : (image : Stored) → layout_of image ≡ l → AreWhole l after → ShowBands image after
      → SameImage (image_of image) (picture meaning scene.graph (images_in scene.store) frame)
  is_picture image laid whole shows =
      whole_picture l image after (picture meaning scene.graph (images_in scene.store) frame) laid whole shows
      (λ k low x y here.
      let there : k < length bands = subst (λ n. k < n) many low in
      let at : (get_or bands k image).rect ≡ band_rect l.rect l.band_rows k = ap (λ (m : Layout). m.rect) (have.are.each k image there) in
      (show k image low).pixels x y (subst (λ (r : Bounds). Holds r x y) (sym at) here))
      (ap (λ (m : Layout). m.rect) is) (ap (λ (m : Layout). m.depth) is) (ap (λ (m : Layout). m.components) is)
