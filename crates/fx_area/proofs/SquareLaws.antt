-- Samples of an area that are picked along both strides are those of squares.
use Rattle.std.proofs.Common.{◌≡◌, ◌≢◌, inl, inr, w64, to_z, ◌≤◌, ◌<◌, ◌∙◌, ℕ, ◌+◌, ◌-◌, ◌*◌, ℤ, pos, ◌+ℤ◌, ◌-ℤ◌, ◌≤ℤ◌, ◌<ℤ◌, List, length, map, All, ap, sym, subst, refl, arith}
use Rattle.std.specs.List.{Contains}
use Rattle.std.specs.Int.{int_gap}
use Rattle.std.proofs.Math.Nat.{mul-le-mul_left, mul-le-mul_right}
use Rattle.std.proofs.lemmas.Int.{ints}
use Rattle.std.proofs.lemmas.List.Elements.{All-map}
use Rattle.fx_base.proofs.RunLaws.{Contains-map}
use Rattle.fx_base.specs.Bounds.{Bounds, IsRect, none}
use Rattle.fx_base.specs.Rect.{Holds, columns, rows, grown, IsNear}
use Rattle.fx_base.proofs.RectLaws.{gap_is}
use Rattle.fx_base.proofs.RectLemmas.{grown-proper}
use Rattle.fx_pixel.specs.declared.Depth.{Depth}
use Rattle.fx_pixel.specs.declared.Components.{Components}
use Rattle.fx_pixel.specs.declared.Pixel.{Pixel}
use Rattle.fx_pixel.specs.Pixel.{count, greatest, IsOfDepth}
use Rattle.fx_image.specs.Part.{IsWritten}
use Rattle.fx_image.specs.Stored.{sample_in, pixel_in}
use Rattle.fx_image.specs.declared.part.Part.{Part}
use Rattle.fx_image.proofs.ImageLaws.{place_from}
use Rattle.fx_kernel.specs.Samples.{nth}
use Rattle.fx_kernel.specs.SampleLaws.{nth_bound}
use Rattle.fx_kernel.specs.RowLaws.{sample_at, pixel_of_samples}
use Rattle.fx_kernel.specs.Around.{square}
use Rattle.fx_kernel.specs.AroundLaws.{All-square, length-square, length-mapped}
use Rattle.fx_effect.specs.Tap.{Tap, tap}
use Rattle.fx_effect.specs.Given.{Given, input_pixel}
use Rattle.fx_effect.specs.declared.values.Values.{Values}
use Rattle.fx_area.specs.declared.extreme.Extreme.{Extreme}
use Rattle.fx_area.specs.Extreme.{picked, extreme_of, Leads}
use Rattle.fx_area.specs.ExtremeLaws.{one_extreme, leads_each, leads_picked}
use Rattle.fx_area.specs.Erode.{radius}
use Rattle.fx_area.specs.ErodeLaws.{in_square}
use Rattle.fx_area.specs.Gathered.{AreGathered, ArePicked, IsProperArea, ShowsArea, area_pixel, extreme_pixel}

at_place : {X : Type 0} (P : X → Type 0) (xs : List X) (x : X) → All P xs → Contains xs x → P x
at_place P xs x all (k, low, is) = subst P is (all k x low)

-- the sample at a column and a row that are so far on
place_on : (n w i j a b k : ℕ) → k + n * (j * w + i) + n * a + (w * n) * b ≡ k + n * ((j + b) * w + (i + a))
place_on n w i j a b k = omega arith

-- the last sample that is read lies in the area
last_room : (n w h i j k r : ℕ) → k < n → i + 2 * r < w → j + 2 * r < h
    → k + n * (j * w + i) + n * (2 * r) + (w * n) * (2 * r) < h * w * n
last_room n w h i j k r few low under =
    let p : (j + 2 * r + 1) * w ≤ h * w = mul-le-mul_right w (omega (arith, under)) in
    let q : (j + 2 * r) * w + (i + 2 * r) + 1 ≤ h * w = omega (arith, p, low) in
    let s = mul-le-mul_right n q in
    omega (arith, s, few)

two_radii : (r : ℕ) → (2 * r + 1) - 1 ≡ 2 * r
two_radii r = omega arith

up_to_radii : (a r : ℕ) → a < 2 * r + 1 → a ≤ 2 * r
up_to_radii a r less = omega (arith, less)

-- how far a place of the square lies from the first column, or row, of it
offset_of : (x0 : ℤ) (r : ℕ) (x : ℤ) (i : ℕ) → ((x0 +ℤ pos (i + r)) -ℤ pos r) ≤ℤ x → x0 +ℤ pos (i + int_gap (x0 +ℤ pos i) x) ≡ x
offset_of x0 r x i low = let p = gap_is (x0 +ℤ pos i) x (omega (arith, ints, low)) in omega (arith, ints, p)

offset_few : (x0 : ℤ) (r : ℕ) (x : ℤ) (i : ℕ) → ((x0 +ℤ pos (i + r)) -ℤ pos r) ≤ℤ x → x ≤ℤ ((x0 +ℤ pos (i + r)) +ℤ pos r) → int_gap (x0 +ℤ pos i) x < 2 * r + 1
offset_few x0 r x i low high = let p = gap_is (x0 +ℤ pos i) x (omega (arith, ints, low)) in omega (arith, ints, p, high)

module _ (e : Extreme) (given : Given) (frame : ℤ) (d : Depth) (c : Components) (x0 y0 : ℤ) (w h r : ℕ) (old mid new : List ℕ)
    (shows : (i j : ℕ) → i < w → j < h → pixel_in d c old (j * w + i) ≡ input_pixel given (tap 0 frame (x0 +ℤ pos i) (y0 +ℤ pos j)))
    (deep : (t : Tap) → IsOfDepth d (input_pixel given t))
    (columns : AreGathered e d (h * w * count c) (w * count c) (2 * r + 1) old mid)
    (rows : AreGathered e d (h * w * count c) (count c) (2 * r + 1) mid new) where
  -- sample k of the pixel that is a columns and b rows on
  old_sample : (i j k a b : ℕ) → k < count c → i + a < w → j + b < h
      → sample_in d old (k + count c * (j * w + i) + count c * a + (w * count c) * b)
      ≡ nth (input_pixel given (tap 0 frame (x0 +ℤ pos (i + a)) (y0 +ℤ pos (j + b)))) k
  old_sample i j k a b few low under =
      ap (sample_in d old) (place_on (count c) w i j a b k)
      ∙ sample_at d c old ((j + b) * w + (i + a)) k (input_pixel given (tap 0 frame (x0 +ℤ pos (i + a)) (y0 +ℤ pos (j + b)))) few (shows (i + a) (j + b) low under)

  abbrev samples : ℕ → ℕ → ℕ → List ℕ
  samples i j k = map (λ p. nth p k) (map (input_pixel given) (square (tap 0 frame) r r (x0 +ℤ pos (i + r)) (y0 +ℤ pos (j + r))))

  few_samples : (i j k : ℕ) → All (λ n. n ≤ greatest d) (samples i j k)
  few_samples i j k =
      All-map (λ n. n ≤ greatest d) (λ p. nth p k) (map (input_pixel given) (square (tap 0 frame) r r (x0 +ℤ pos (i + r)) (y0 +ℤ pos (j + r))))
      (All-map (λ p. nth p k ≤ greatest d) (input_pixel given) (square (tap 0 frame) r r (x0 +ℤ pos (i + r)) (y0 +ℤ pos (j + r)))
      (All-square (λ t. nth (input_pixel given t) k ≤ greatest d) (tap 0 frame) r r (x0 +ℤ pos (i + r)) (y0 +ℤ pos (j + r))
      (λ x y a b l m. nth_bound d (input_pixel given (tap 0 frame x y)) k (deep (tap 0 frame x y)))))

  some_samples : (i j k : ℕ) → 0 < length (samples i j k)
  some_samples i j k =
      let taps = square (tap 0 frame) r r (x0 +ℤ pos (i + r)) (y0 +ℤ pos (j + r)) in
      let is = length-mapped (λ p. nth p k) (map (input_pixel given) taps) ∙ length-mapped (input_pixel given) taps ∙ length-square (tap 0 frame) r r (x0 +ℤ pos (i + r)) (y0 +ℤ pos (j + r)) in
      omega (arith, is)

  room_rows : (i j k : ℕ) → k < count c → i + 2 * r < w → j + 2 * r < h
      → k + count c * (j * w + i) + count c * ((2 * r + 1) - 1) < h * w * count c
  room_rows i j k few low under =
      let last = last_room (count c) w h i j k r few low under in
      omega (arith, last, ap (λ n. count c * n) (two_radii r))

  room_columns : (i j k a : ℕ) → k < count c → i + 2 * r < w → j + 2 * r < h → a < 2 * r + 1
      → k + count c * (j * w + i) + count c * a + (w * count c) * ((2 * r + 1) - 1) < h * w * count c
  room_columns i j k a few low under less =
      let last = last_room (count c) w h i j k r few low under in
      let part = mul-le-mul_left (count c) (up_to_radii a r less) in
      omega (arith, last, part, ap (λ n. (w * count c) * n) (two_radii r))

  abbrev value : (i j k a b : ℕ) → ℕ
  value i j k a b = nth (input_pixel given (tap 0 frame (x0 +ℤ pos (i + a)) (y0 +ℤ pos (j + b)))) k

  -- a number that leads what was picked leads each sample of the square
  leads_old : (i j k a b n : ℕ) → k < count c → i + 2 * r < w → j + 2 * r < h → a < 2 * r + 1 → b < 2 * r + 1
      → Leads e n (sample_in d new (k + count c * (j * w + i))) → Leads e n (value i j k a b)
  leads_old i j k a b n few low under less high lead =
      let s = k + count c * (j * w + i) in
      let first = (rows s (room_rows i j k few low under)).leads n a less lead in
      let then = (columns (s + count c * a) (room_columns i j k a few low under less)).leads n b high first in
      subst (Leads e n) (old_sample i j k a b few (omega (arith, low, less)) (omega (arith, under, high))) then

  leads_new : (i j k n : ℕ) → k < count c → i + 2 * r < w → j + 2 * r < h
      → ((a b : ℕ) → a < 2 * r + 1 → b < 2 * r + 1 → Leads e n (value i j k a b))
      → Leads e n (sample_in d new (k + count c * (j * w + i)))
  leads_new i j k n few low under all =
      let s = k + count c * (j * w + i) in
      (rows s (room_rows i j k few low under)).led n
      (λ a less. (columns (s + count c * a) (room_columns i j k a few low under less)).led n
      (λ b high. subst (Leads e n) (sym (old_sample i j k a b few (omega (arith, low, less)) (omega (arith, under, high)))) (all a b less high)))

  leads_square : (i j k n : ℕ) → k < count c → i + 2 * r < w → j + 2 * r < h
      → Leads e n (sample_in d new (k + count c * (j * w + i))) → Leads e n (picked e (greatest d) (samples i j k))
  leads_square i j k n few low under lead =
      let x = x0 +ℤ pos (i + r) in
      let y = y0 +ℤ pos (j + r) in
      let taps = square (tap 0 frame) r r x y in
      leads_picked e n (greatest d) (samples i j k) (some_samples i j k) (few_samples i j k)
      (All-map (λ m. Leads e n m) (λ p. nth p k) (map (input_pixel given) taps)
      (All-map (λ p. Leads e n (nth p k)) (input_pixel given) taps
      (All-square (λ t. Leads e n (nth (input_pixel given t) k)) (tap 0 frame) r r x y
      (λ p q left right bottom top.
      let a = int_gap (x0 +ℤ pos i) p in
      let b = int_gap (y0 +ℤ pos j) q in
      let u : x0 +ℤ pos (i + a) ≡ p = offset_of x0 r p i left in
      let v : y0 +ℤ pos (j + b) ≡ q = offset_of y0 r q j bottom in
      subst (λ z. Leads e n (nth (input_pixel given (tap 0 frame z q)) k)) u
      (subst (λ z. Leads e n (nth (input_pixel given (tap 0 frame (x0 +ℤ pos (i + a)) z)) k)) v
      (leads_old i j k a b n few low under (offset_few x0 r p i left right) (offset_few y0 r q j bottom top) lead))))))

  led_square : (i j k n : ℕ) → k < count c → i + 2 * r < w → j + 2 * r < h
      → Leads e n (picked e (greatest d) (samples i j k)) → Leads e n (sample_in d new (k + count c * (j * w + i)))
  led_square i j k n few low under lead =
      let x = x0 +ℤ pos (i + r) in
      let y = y0 +ℤ pos (j + r) in
      let taps = square (tap 0 frame) r r x y in
      let each_one = leads_each e n (greatest d) (samples i j k) lead in
      leads_new i j k n few low under
      (λ a b less high.
      let t = tap 0 frame (x0 +ℤ pos (i + a)) (y0 +ℤ pos (j + b)) in
      let there : Contains taps t = in_square (tap 0 frame) r r x y (x0 +ℤ pos (i + a)) (y0 +ℤ pos (j + b)) (omega (arith, ints, less)) (omega (arith, ints, less)) (omega (arith, ints, high)) (omega (arith, ints, high)) in
      at_place (λ m. Leads e n m) (samples i j k) (nth (input_pixel given t) k) each_one
      (Contains-map (λ p. nth p k) (map (input_pixel given) taps) (input_pixel given t) (Contains-map (input_pixel given) taps t there)))

  -- the pixel of the square
  pub square_pixel : (i j : ℕ) → i + 2 * r < w → j + 2 * r < h
      → pixel_in d c new (j * w + i)
      ≡ extreme_of e c (greatest d) (map (input_pixel given) (square (tap 0 frame) r r (x0 +ℤ pos (i + r)) (y0 +ℤ pos (j + r))))
  square_pixel i j low under =
      pixel_of_samples d c new (j * w + i) (λ k. picked e (greatest d) (samples i j k))
      (λ k few. one_extreme e (sample_in d new (k + count c * (j * w + i))) (picked e (greatest d) (samples i j k))
      (λ n lead. leads_square i j k n few low under lead)
      (λ n lead. led_square i j k n few low under lead))

-- ---- the pixels of a part

-- a rectangle that is grown to all sides
abbrev pub wider : Bounds → ℕ → Bounds
wider rect r =
    record { x1 = rect.x1 -ℤ pos r; y1 = rect.y1 -ℤ pos r; x2 = rect.x2 +ℤ pos r; y2 = rect.y2 +ℤ pos r }

pub is_wider : (rect : Bounds) (r : ℕ) → rect.x1 <ℤ rect.x2 → rect.y1 <ℤ rect.y2
    → grown rect (pos r) (pos r) ≡ wider rect r
is_wider rect r wide high = grown-proper rect (pos r) (pos r) (grind (arith, ints))

pub wider_gap : (a b : ℤ) (r : ℕ) → a ≤ℤ b → int_gap (a -ℤ pos r) (b +ℤ pos r) ≡ int_gap a b + 2 * r
wider_gap a b r low =
    let p = gap_is a b low in
    let q = gap_is (a -ℤ pos r) (b +ℤ pos r) (omega (arith, ints, low)) in
    omega (arith, ints, p, q)

gap_few : (a x b : ℤ) → a ≤ℤ x → x <ℤ b → int_gap a x < int_gap a b
gap_few a x b low high =
    let p = gap_is a x low in
    let q = gap_is a b (omega (arith, ints, low, high)) in
    omega (arith, ints, p, q, high)

first_of : (a x : ℤ) (r : ℕ) → a ≤ℤ x → (a -ℤ pos r) +ℤ pos (int_gap a x + r) ≡ x
first_of a x r low = let p = gap_is a x low in omega (arith, ints, p)

pub part_pixel : (e : Extreme) (v : Values) (given : Given) (d : Depth) (c : Components) (rect area : Bounds) (old new : List ℕ)
    → rect.x1 <ℤ rect.x2 → rect.y1 <ℤ rect.y2 → area ≡ wider rect (radius v)
    → ((t : Tap) → IsOfDepth d (input_pixel given t)) → ShowsArea given v.frame d c area (rows area) old
    → ArePicked e d c (columns area) (rows area) (radius v) old new
    → (x y : ℤ) → Holds rect x y
    → area_pixel rect.x1 rect.y1 (columns area) d c new x y ≡ extreme_pixel e v given d c x y
part_pixel e v given d c rect area old new wide high is deep shows picked x y inside =
    let r = radius v in
    let place = place_from rect x y inside in
    let i = int_gap rect.x1 x in
    let j = int_gap rect.y1 y in
    let low = gap_few rect.x1 x rect.x2 place.left place.right in
    let under = gap_few rect.y1 y rect.y2 place.bottom place.top in
    let w = ap columns is ∙ wider_gap rect.x1 rect.x2 r (omega (arith, ints, wide)) in
    let h = ap rows is ∙ wider_gap rect.y1 rect.y2 r (omega (arith, ints, high)) in
    let left = ap (λ (b : Bounds). b.x1 +ℤ pos (i + r)) is ∙ first_of rect.x1 x r place.left in
    let bottom = ap (λ (b : Bounds). b.y1 +ℤ pos (j + r)) is ∙ first_of rect.y1 y r place.bottom in
    square_pixel e given v.frame d c area.x1 area.y1 (columns area) (rows area) r old picked.middle new shows deep
    picked.along_columns picked.along_rows i j (omega (arith, w, low)) (omega (arith, h, under))
    ∙ ap (λ z. extreme_of e c (greatest d) (map (input_pixel given) (square (tap 0 v.frame) r r z (area.y1 +ℤ pos (j + r))))) left
    ∙ ap (λ z. extreme_of e c (greatest d) (map (input_pixel given) (square (tap 0 v.frame) r r x z))) bottom

-- the same pixels in another's words
pub written_as : (p q : Part) (f g : ℤ → ℤ → Pixel) → ((x y : ℤ) → Holds p.rect x y → f x y ≡ g x y) → IsWritten p q f
    → IsWritten p q g
written_as p q f g same written = (
  written.0,
  record {
    inside = λ x y held below. written.1.inside x y held below ∙ same x y held;
    outside = written.1.outside;
  },
)

-- the area that the squares of a rectangle's pixels lie in
pub record IsRound (rect area : Bounds) (r : ℕ) : Type 0 where
  pub wide : rect.x1 <ℤ rect.x2
  pub high : rect.y1 <ℤ rect.y2
  pub area_is : area ≡ wider rect r
  pub proper : IsProperArea area
  pub columns_are : columns area ≡ columns rect + 2 * r
  pub rows_are : rows area ≡ rows rect + 2 * r
  pub some_columns : 0 < columns rect
  pub some_rows : 0 < rows rect

wider_proper : (rect : Bounds) (r : ℕ) → rect.x1 <ℤ rect.x2 → rect.y1 <ℤ rect.y2 → IsNear rect → r ≤ 32
    → IsProperArea (wider rect r)
wider_proper rect r wide high near few =
    let a = near.left in
    let b = near.right in
    let c = near.bottom in
    let d = near.top in
    record {
      wide = omega (arith, ints, wide);
      high = omega (arith, ints, high);
      near = record {
        left = (omega (arith, ints, a, few), omega (arith, ints, wide, b));
        bottom = (omega (arith, ints, c, few), omega (arith, ints, high, d));
        right = (omega (arith, ints, a, wide), omega (arith, ints, b, few));
        top = (omega (arith, ints, c, high), omega (arith, ints, d, few));
      };
    }

pub round_of : (rect area : Bounds) (n r : ℕ) → IsRect rect → rect ≢ none → IsNear rect → n ≡ r → n ≤ 32
    → area ≡ grown rect (to_z w64 n) (to_z w64 n) → IsRound rect area r
round_of rect area n r (inl is) some near same few grow = absurd (some is)
round_of rect area n r (inr proper) some near same few grow =
    let z : to_z w64 n ≡ pos r = omega (arith, ints, same, few) in
    let is : area ≡ wider rect r = grow ∙ rw z (is_wider rect r proper.0 proper.1) in
    let p = gap_is rect.x1 rect.x2 (omega (arith, ints, proper.0)) in
    let q = gap_is rect.y1 rect.y2 (omega (arith, ints, proper.1)) in
    record {
      wide = proper.0;
      high = proper.1;
      area_is = is;
      proper =
          subst IsProperArea (sym is)
          (wider_proper rect r proper.0 proper.1 near (omega (arith, same, few)));
      columns_are = ap columns is ∙ wider_gap rect.x1 rect.x2 r (omega (arith, ints, proper.0));
      rows_are = ap rows is ∙ wider_gap rect.y1 rect.y2 r (omega (arith, ints, proper.1));
      some_columns = omega (arith, ints, p, proper.0);
      some_rows = omega (arith, ints, q, proper.1);
    }

-- what was read and picked, in the words of the effect
pub shows_as : (given : Given) (f g : ℤ) (d k : Depth) (c s : Components) (area : Bounds) (n : ℕ) (bytes other : List ℕ)
    → f ≡ g → d ≡ k → c ≡ s → bytes ≡ other → ShowsArea given f d c area n bytes → ShowsArea given g k s area n other
shows_as given f g d k c s area n bytes other p q r t shows =
    subst (λ x. ShowsArea given g k s area n x) t
    (subst (λ x. ShowsArea given g k x area n bytes) r
    (subst (λ x. ShowsArea given g x c area n bytes) q (subst (λ x. ShowsArea given x d c area n bytes) p shows)))

pub picked_as : (e : Extreme) (d k : Depth) (c s : Components) (w v h g r q : ℕ) (old new : List ℕ) → d ≡ k → c ≡ s
    → w ≡ v → h ≡ g → r ≡ q → ArePicked e d c w h r old new → ArePicked e k s v g q old new
picked_as e d k c s w v h g r q old new deep seen wide high far picked =
    subst (λ x. ArePicked e k s v g x old new) far
    (subst (λ x. ArePicked e k s v x r old new) high
    (subst (λ x. ArePicked e k s x h r old new) wide
    (subst (λ x. ArePicked e k x w h r old new) seen (subst (λ x. ArePicked e x c w h r old new) deep picked))))

pub area_as : (l m b n : ℤ) (w v : ℕ) (d : Depth) (c : Components) (bytes other : List ℕ) (x y : ℤ) → l ≡ m → b ≡ n
    → w ≡ v → bytes ≡ other → area_pixel l b w d c bytes x y ≡ area_pixel m n v d c other x y
area_as l m b n w v d c bytes other x y p q r s = rw (p, q, r, s) refl
