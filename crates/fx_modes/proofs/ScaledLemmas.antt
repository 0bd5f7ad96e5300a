-- Source frames that are held at a fraction of their size: which are held, and what is rendered of them.
use Rattle.std.proofs.Common.{◌≡◌, ◌<◌, ◌≤◌, ◌+◌, ◌-◌, ◌*◌, nat_le, ℕ, zero, suc, ℤ, pos, ◌+ℤ◌, ◌*ℤ◌, ◌≤ℤ◌, Bool, true, false, cond, List, [], ◌∷◌, ◌++◌, map, filter, get_or, length, All, Contains, IsSome, Option, Some, None, inr, refl, sym, ap, subst, ◌∙◌, arith}
use mathlib.Core.Path.{fun_ext}
use Rattle.std.specs.Prelude.{Vec}
use Rattle.std.specs.declared.alloc.Global.{Global}
use Rattle.std.specs.List.{AllZip, flat_map}
use Rattle.std.specs.Option.{option_map}
use Rattle.std.proofs.Math.Nat.{suc-mul, zero-mul}
use Rattle.std.proofs.lemmas.Bool.{false≢true}
use Rattle.std.proofs.lemmas.Bool.Decides.{nat_tests}
use Rattle.std.proofs.lemmas.Int.{ints}
use Rattle.std.proofs.lemmas.Grind.{flat_map-append}
use Rattle.std.proofs.lemmas.List.{append-nil, length-append, length-map}
use Rattle.std.proofs.lemmas.List.Elements.{All-append, All-cons, All-contains, All-nil, AllZip-get_or, filter-append}
use Rattle.std.proofs.lemmas.List.Sums.{sum_by-append, sum_by-cons}
use Rattle.std.proofs.lemmas.Option.{none-some, same_Some}
use Rattle.fx_base.specs.Rect.{within}
use Rattle.fx_base.specs.Run.{int_run}
use Rattle.fx_base.specs.declared.limits.TheConstants.{MOST_SIDE}
use Rattle.fx_pixel.specs.Pixel.{IsOfDepth, components_of, zero as clear}
use Rattle.fx_pixel.specs.declared.Components.{Components}
use Rattle.fx_pixel.specs.declared.Components.TheVariants as components
use Rattle.fx_pixel.specs.declared.Depth.{Depth}
use Rattle.fx_pixel.specs.declared.Depth.TheVariants.{Byte, Short}
use Rattle.fx_pixel.specs.declared.Pixel.{Pixel}
use Rattle.fx_image.specs.Image.{Image, PixelsFit, SameImage, pixel_at}
use Rattle.fx_image.specs.Stored.{Stored, image_of}
use Rattle.fx_kernel.specs.Samples.{mean_of}
use Rattle.fx_kernel.specs.SampleLaws.{mean_is_pixel}
use Rattle.fx_seq.specs.Frames.{IsSourceFrame}
use Rattle.fx_seq.specs.Held.{fetched, got_frames, held, held_frames}
use Rattle.fx_seq.specs.Lists.{AreFramesOf, IsFrameOf, IsNew, frames_in, is_used_frame, size_of_all, used_part, used_size}
use Rattle.fx_seq.specs.Moments.{AreOnce, due_at, due_until, is_used}
use Rattle.fx_seq.specs.declared.kept.Kept.{Kept}
use Rattle.fx_seq.specs.declared.source.SourceFrame.{SourceFrame}
use Rattle.fx_seq.specs.declared.store.Store.{Store}
use Rattle.fx_seq.specs.declared.used.Use.{Use}
use Rattle.fx_seq.specs.declared.wanted.Wanted.{Wanted}
use Rattle.fx_seq.proofs.LookLemmas.{frames_sound, look-filter}
use Rattle.fx_seq.proofs.MomentLemmas.{due_is_new, filter-filter, from_due, size-filter, some_in, to_until, used_at, zip_to}
use Rattle.fx_seq.proofs.Reading.{zip_append}
use Rattle.fx_pipe.specs.Reads.{kept_of}
use Rattle.fx_pipe.proofs.ReadLemmas.{kept_less, kept_used, used_few}
use Rattle.fx_proxy.specs.Proxy.{IsScaledFrame, scaled_images}
use Rattle.fx_proxy.specs.Reduced.{IsScale, block, reduced, reduced_pixel, reduced_rect}
use Rattle.fx_proxy.proofs.FrameLemmas.{images_scaled}
use Rattle.fx_proxy.proofs.ScaledLemmas.{side_stays}
use Rattle.fx_scene.specs.Depends.{AreImages, AreSame}
use Rattle.fx_scene.specs.Nodes.{IsFrameImage}
use Rattle.fx_scene.specs.Right.{HasGrown}
use Rattle.fx_scene.specs.Scenes.{Images, fetched_in}
use Rattle.fx_modes.specs.Making.{HoldsScaled, handed_in}
use Rattle.fx_modes.specs.Moments.{images_of}

-- ---- the same places

pub zip_back : {A B : Type 0} (R : A → B → Type 0) (xs : List A) (ys : List B) → AllZip R xs ys → (y : B) → Contains ys y
    → (x : A) × Contains xs x × R x y
zip_back R [] [] z y at = absurd (omega (arith, at.1))
zip_back R [] (b ∷ ys) z y at = absurd z
zip_back R (a ∷ xs) [] z y at = absurd z
zip_back {A} {B} R (a ∷ xs) (b ∷ ys) z y (zero, low, e) = (a, (0, omega arith, refl), subst (λ (v : B). R a v) e z.0)
zip_back R (a ∷ xs) (b ∷ ys) z y (suc k, low, e) =
    let r = zip_back R xs ys z.1 y (k, omega (arith, low), e) in
    let at = r.1 in
    let under = at.1 in
    (r.0, (suc at.0, omega (arith, under), at.2), r.2)

-- a small frame is there exactly where the frame is
small_some : (q : ℕ) (seen got : List SourceFrame) → AllZip (IsScaledFrame q) seen got → (n : ℕ) (f : ℤ)
    → IsSome (frames_in seen n f) → IsSome (frames_in got n f)
small_some q seen got are n f some = by (frames_in seen n f) (frames_in got n f) (images_scaled q n f seen got are) some
  where
    by : (a b : Option Stored) → AreSame (option_map image_of b) (option_map (reduced q) (option_map image_of a)) → IsSome a → IsSome b
    by None b same some = absurd (false≢true some)
    by (Some a) None same some = absurd same
    by (Some a) (Some b) same some = refl

small_none : (q : ℕ) (seen got : List SourceFrame) → AllZip (IsScaledFrame q) seen got → (n : ℕ) (f : ℤ)
    → frames_in seen n f ≡ None → frames_in got n f ≡ None
small_none q seen got are n f none = by (frames_in seen n f) (frames_in got n f) (images_scaled q n f seen got are) none
  where
    by : (a b : Option Stored) → AreSame (option_map image_of b) (option_map (reduced q) (option_map image_of a)) → a ≡ None → b ≡ None
    by None None same none = refl
    by None (Some b) same none = absurd same
    by (Some a) b same none = absurd (none-some a (sym none))

zip_long : {A B : Type 0} (R : A → B → Type 0) (xs : List A) (ys : List B) → AllZip R xs ys → length xs ≡ length ys
zip_long R [] [] z = refl
zip_long R [] (b ∷ ys) z = absurd z
zip_long R (a ∷ xs) [] z = absurd z
zip_long R (a ∷ xs) (b ∷ ys) z = ap suc (zip_long R xs ys z.1)

-- frames that are new are new when they are small
pub small_new : (q : ℕ) (seen got came small : List SourceFrame) → AllZip (IsScaledFrame q) seen got → AllZip (IsScaledFrame q) came small
    → IsNew (frames_in seen) came → IsNew (frames_in got) small
small_new q seen got came small before now new =
    record {
      apart = λ i j d low high node frame.
          let a = AllZip-get_or R came small i d d now (omega (arith, low, high, long)) in
          let b = AllZip-get_or R came small j d d now (omega (arith, high, long)) in
          new.apart i j d low (omega (arith, high, long)) (sym a.node ∙ node ∙ b.node) (sym a.frame ∙ frame ∙ b.frame);
      none = λ k d low.
          let s = get_or came k d in
          let a = AllZip-get_or R came small k d d now (omega (arith, low, long)) in
          ap (λ (n : ℕ). frames_in got n (get_or small k d).frame) a.node
          ∙ ap (frames_in got s.node) a.frame
          ∙ small_none q seen got before s.node s.frame (new.none k d (omega (arith, low, long)));
    }
  where
    R : SourceFrame → SourceFrame → Type 0
    R = IsScaledFrame q

    long : length came ≡ length small
    long = zip_long R came small now

-- ---- what is held

filter_all : {X : Type 0} (p : X → Bool) (xs : List X) → ((x : X) → Contains xs x → p x ≡ true) → filter p xs ≡ xs
filter_all p [] each = refl
filter_all {X} p (x ∷ xs) each =
    ap (λ (t : Bool). cond t (x ∷ filter p xs) (filter p xs)) (each x (0, omega arith, refl))
    ∙ ap (λ (ys : List X). x ∷ ys) (filter_all p xs (λ y at. let low = at.1 in each y (suc at.0, omega (arith, low), at.2)))

at_least : (a b : ℕ) → a ≤ b → nat_le a b ≡ true
at_least a b low = grind (arith, nat_tests)

module _ (q : ℕ) (uses : List Use) (once : AreOnce uses) (m : ℕ) where
  -- what is due at a moment is used then
  due_is_used : (came small : List SourceFrame) → AreFramesOf (due_at uses m) came → AllZip (IsScaledFrame q) came small
      → (s : SourceFrame) → Contains small s → is_used_frame uses m s ≡ true
  due_is_used came small due are s at =
      let r = zip_back (IsScaledFrame q) came small are s at in
      let w = zip_back IsFrameOf (due_at uses m) came due r.0 r.1 in
      let u = from_due uses m w.0 w.1 in
      let order = All-contains (λ (v : Use). v.from ≤ v.until) uses u.0 once.order u.1 in
      let from = u.2 in
      let here : nat_le m u.0.until ≡ true = at_least m u.0.until (omega (arith, order, from)) in
      let node : s.node ≡ u.0.wanted.node = r.2.node ∙ w.2.node ∙ sym (ap (λ (x : Wanted). x.node) u.3) in
      let frame : s.frame ≡ u.0.wanted.frame = r.2.frame ∙ w.2.frame ∙ sym (ap (λ (x : Wanted). x.frame) u.3) in
      ap (λ (n : ℕ). is_used uses m n s.frame) node ∙ ap (λ (f : ℤ). is_used uses m u.0.wanted.node f) frame
      ∙ used_at uses once m u.0 u.1 ∙ here

  -- a moment's frames came
  pub holds_more : (seen came small : List SourceFrame) (old new : Store) → HoldsScaled q uses m seen old
      → AreFramesOf (due_at uses m) came → AllZip (IsScaledFrame q) came small
      → held_frames new ≡ filter (is_used_frame uses m) (held_frames old) ++ small → got_frames new ≡ got_frames old ++ small
      → HoldsScaled q uses (m + 1) (seen ++ came) new
  holds_more seen came small old new holds due are left got =
      let still = is_used_frame uses m in
      let was : filter still (held_frames old) ≡ filter still (got_frames old) =
      ap (filter still) holds.held ∙ filter-filter uses (m - 1) m (omega arith) (got_frames old) in
      let all : held_frames new ≡ filter still (got_frames new) =
      left ∙ ap (λ (ss : List SourceFrame). ss ++ small) was
      ∙ ap (λ (ss : List SourceFrame). filter still (got_frames old) ++ ss) (sym (filter_all still small (due_is_used came small due are)))
      ∙ sym (filter-append still (got_frames old) small) ∙ ap (filter still) (sym got) in
      let same : m ≡ m + 1 - 1 = omega arith in
      let next : suc m ≡ m + 1 = omega arith in
      record {
        seen_are =
            subst (λ (k : ℕ). AreFramesOf (due_until uses k) (seen ++ came)) next
            (zip_append IsFrameOf (due_until uses m) (due_at uses m) seen came holds.seen_are due);
        got =
            subst (λ (ss : List SourceFrame). AllZip (IsScaledFrame q) (seen ++ came) ss) (sym got)
            (zip_append (IsScaledFrame q) seen came (got_frames old) small holds.got are);
        held = subst (λ (k : ℕ). held_frames new ≡ filter (is_used_frame uses k) (got_frames new)) same all;
      }

  pub came_new : (seen came small : List SourceFrame) (store : Store) → HoldsScaled q uses m seen store
      → AreFramesOf (due_at uses m) came → AllZip (IsScaledFrame q) came small → IsNew (fetched store) small
  came_new seen came small store holds due are =
      small_new q seen (got_frames store) came small holds.got are (due_is_new uses once m seen came holds.seen_are due)

  -- and all that the moment uses is held
  pub holds_used : (seen : List SourceFrame) (store : Store) → HoldsScaled q uses (m + 1) seen store
      → (u : Use) → Contains uses u → u.from ≤ m → m ≤ u.until → IsSome (held store u.wanted.node u.wanted.frame)
  holds_used seen store holds u at from until = subst (λ (o : Option Stored). IsSome o) (sym same) there
    where
      n : ℕ
      n = u.wanted.node

      f : ℤ
      f = u.wanted.frame

      same : held store n f ≡ fetched store n f
      same =
          let back : m + 1 - 1 ≡ m = omega arith in
          ap (λ (ss : List SourceFrame). frames_in ss n f)
          (subst (λ (k : ℕ). held_frames store ≡ filter (is_used_frame uses k) (got_frames store)) back holds.held)
          ∙ look-filter uses m (got_frames store) n f
          ∙ ap (λ (b : Bool). cond b (fetched store n f) None) (used_at uses once m u at ∙ at_least m u.until until)

      there : IsSome (fetched store n f)
      there =
          let z = zip_to IsFrameOf (due_until uses (m + 1)) seen holds.seen_are u.wanted (to_until uses u at (m + 1) (omega (arith, from))) in
          small_some q seen (got_frames store) holds.got n f
          (subst (λ (k : ℕ). IsSome (frames_in seen k f)) z.2.node
          (subst (λ (t : ℤ). IsSome (frames_in seen z.0.node t)) z.2.frame (some_in seen z.0 z.1)))

pub holds_none : (q : ℕ) (uses : List Use) (seen : List SourceFrame) (store : Store) → seen ≡ [] → held_frames store ≡ []
    → got_frames store ≡ [] → HoldsScaled q uses 0 seen store
holds_none q uses seen store none left got =
    record {
      seen_are = subst (λ (ss : List SourceFrame). AreFramesOf [] ss) (sym none) tt;
      got =
          subst (λ (ss : List SourceFrame). AllZip (IsScaledFrame q) ss (got_frames store)) (sym none)
          (subst (λ (ss : List SourceFrame). AllZip (IsScaledFrame q) [] ss) (sym got) tt);
      held = left ∙ ap (filter (is_used_frame uses (0 - 1))) (sym got);
    }

-- ---- how many bytes they are counted as

-- small frames are counted as their files
used_same : (q : ℕ) (uses : List Use) (m : ℕ) (seen got : List SourceFrame) → AllZip (IsScaledFrame q) seen got
    → used_size uses m got ≡ used_size uses m seen
used_same q uses m [] [] are = refl
used_same q uses m [] (t ∷ ts) are = absurd are
used_same q uses m (s ∷ ss) [] are = absurd are
used_same q uses m (s ∷ ss) (t ∷ ts) are =
    let a = sum_by-cons (used_part uses m) t ts in
    let b = sum_by-cons (used_part uses m) s ss in
    let rest = used_same q uses m ss ts are.1 in
    let one : used_part uses m t ≡ used_part uses m s =
    ap (λ (n : ℕ). cond (is_used uses m n t.frame) t.size 0) are.0.node
    ∙ ap (λ (f : ℤ). cond (is_used uses m s.node f) t.size 0) are.0.frame
    ∙ ap (λ (k : ℕ). cond (is_used_frame uses m s) k 0) are.0.size in
    omega (arith, a, b, rest, one)

size_same : (q : ℕ) (seen got : List SourceFrame) → AllZip (IsScaledFrame q) seen got → size_of_all got ≡ size_of_all seen
size_same q [] [] are = refl
size_same q [] (t ∷ ts) are = absurd are
size_same q (s ∷ ss) [] are = absurd are
size_same q (s ∷ ss) (t ∷ ts) are =
    let a = sum_by-cons (λ (f : SourceFrame). f.size) t ts in
    let b = sum_by-cons (λ (f : SourceFrame). f.size) s ss in
    let rest = size_same q ss ts are.1 in
    let one = are.0.size in
    omega (arith, a, b, rest, one)

used_less : (uses : List Use) (m : ℕ) (ss : List SourceFrame) → used_size uses (m + 1) ss ≤ used_size uses m ss
used_less uses m ss =
    let a = kept_used uses (m + 1) ss in
    let b = kept_used uses m ss in
    let less = kept_less uses m (map kept_of ss) in
    omega (arith, a, b, less)

-- what is held has no more bytes that are still used than before, and those that came
pub size_more : (q : ℕ) (uses : List Use) (m : ℕ) (came small : List SourceFrame) (old new : Store) → AllZip (IsScaledFrame q) came small
    → held_frames new ≡ filter (is_used_frame uses m) (held_frames old) ++ small
    → used_size uses (m + 1) (held_frames new) ≤ used_size uses m (held_frames old) + size_of_all came
size_more q uses m came small old new are left =
    let next = used_part uses (m + 1) in
    let all : used_size uses (m + 1) (held_frames new) ≡ used_size uses (m + 1) (filter (is_used_frame uses m) (held_frames old) ++ small) =
    ap (used_size uses (m + 1)) left in
    let parts = sum_by-append next (filter (is_used_frame uses m) (held_frames old)) small in
    let still = size-filter uses m (m + 1) (omega arith) (held_frames old) in
    let less = used_less uses m (held_frames old) in
    let few = used_few uses (m + 1) small in
    let size = size_same q came small are in
    omega (arith, all, parts, still, less, few, size)

-- what is held is counted as the frames that were handed in and are still wanted
pub held_as_seen : (q : ℕ) (uses : List Use) (m : ℕ) (seen : List SourceFrame) (store : Store) → HoldsScaled q uses m seen store
    → used_size uses m (held_frames store) ≡ used_size uses m seen
held_as_seen q uses m seen store holds =
    ap (used_size uses m) holds.held ∙ size-filter uses (m - 1) m (omega arith) (got_frames store)
    ∙ used_same q uses m seen (got_frames store) holds.got

-- ---- small images

-- over the same places there are the same images
pub same_images : (q : ℕ) (seen : List SourceFrame) (store : Store) → AllZip (IsScaledFrame q) seen (got_frames store)
    → (n : ℕ) (f : ℤ) → AreSame (fetched_in store n f) (scaled_images q (images_of seen) n f)
same_images q seen store are n f = images_scaled q n f seen (got_frames store) are

-- each pixel of a block is one of the image, and there are q * q of them
all_map : (P : Pixel → Type 0) (g : ℤ → Pixel) → ((y : ℤ) → P (g y)) → (ys : List ℤ) → All P (map g ys)
all_map P g each [] = All-nil P
all_map P g each (y ∷ ys) = All-cons P (g y) (map g ys) (each y) (all_map P g each ys)

block_all : (P : Pixel → Type 0) (at : ℤ → ℤ → Pixel) → ((x y : ℤ) → P (at x y)) → (ys xs : List ℤ) → All P (flat_map (λ i. map (at i) ys) xs)
block_all P at each ys [] = All-nil P
block_all P at each ys (x ∷ xs) = All-append P (map (at x) ys) (flat_map (λ i. map (at i) ys) xs) (all_map P (at x) (each x) ys) (block_all P at each ys xs)

run_long : (a : ℤ) (n : ℕ) → length (int_run a n) ≡ n
run_long a zero = refl
run_long a (suc n) = ap suc (run_long (a +ℤ pos 1) n)

block_long : (at : ℤ → ℤ → Pixel) (ys xs : List ℤ) → length (flat_map (λ i. map (at i) ys) xs) ≡ length xs * length ys
block_long at ys [] = sym (zero-mul (length ys))
block_long at ys (x ∷ xs) =
    length-append (map (at x) ys) (flat_map (λ i. map (at i) ys) xs)
    ∙ ap (λ n. n + length (flat_map (λ i. map (at i) ys) xs)) (length-map ys (at x))
    ∙ step (length xs) (length ys) (length (flat_map (λ i. map (at i) ys) xs)) (block_long at ys xs)
  where
    step : (n m k : ℕ) → k ≡ n * m → m + k ≡ suc n * m
    step n m k is = let more = suc-mul n m in omega (arith, is, more)

zero_fits : (depth : Depth) (c : Components) → IsOfDepth depth (clear c)
zero_fits Byte components.Rgba = (omega arith, omega arith, omega arith, omega arith)
zero_fits Short components.Rgba = (omega arith, omega arith, omega arith, omega arith)
zero_fits Byte components.Alpha = omega arith
zero_fits Short components.Alpha = omega arith

zero_components : (c : Components) → components_of (clear c) ≡ c
zero_components components.Rgba = refl
zero_components components.Alpha = refl

square_some : (k : ℕ) → 1 ≤ k → 0 < k * k
square_some zero some = omega (arith, some)
square_some (suc k) some = omega arith

-- small images are those of sources' frames
module _ (q : ℕ) (scale : IsScale q) where
  small_fits : (image : Image) → PixelsFit image → PixelsFit (reduced q image)
  small_fits image fit =
      record {
        depth = λ x y. (at x y (within (reduced_rect q image.rect) x y)).0;
        components = λ x y. (at x y (within (reduced_rect q image.rect) x y)).1;
      }
    where
      many : (x y : ℤ) → length (block (pixel_at image) q x y) ≡ q * q
      many x y =
          block_long (pixel_at image) (int_run (pos q *ℤ y) q) (int_run (pos q *ℤ x) q)
          ∙ ap (λ n. n * length (int_run (pos q *ℤ y) q)) (run_long (pos q *ℤ x) q)
          ∙ ap (λ n. q * n) (run_long (pos q *ℤ y) q)

      fits : (x y : ℤ) → IsOfDepth image.depth (reduced_pixel q image x y) × (components_of (reduced_pixel q image x y) ≡ image.components)
      fits x y =
          mean_is_pixel image.depth image.components (q * q) (block (pixel_at image) q x y) (square_some q scale.0) (many x y)
          (block_all (IsOfDepth image.depth) (pixel_at image) fit.depth (int_run (pos q *ℤ y) q) (int_run (pos q *ℤ x) q))

      at : (x y : ℤ) (b : Bool)
          → IsOfDepth image.depth (cond b (reduced_pixel q image x y) (clear image.components))
          × (components_of (cond b (reduced_pixel q image x y) (clear image.components)) ≡ image.components)
      at x y true = fits x y
      at x y false = (zero_fits image.depth image.components, zero_components image.components)

  -- that of a whole image of a file's sides
  pub small_image : (image : Image) → image.rect.x1 ≡ pos 0 → image.rect.y1 ≡ pos 0
      → (pos 1 ≤ℤ image.rect.x2) × (image.rect.x2 ≤ℤ pos MOST_SIDE) → (pos 1 ≤ℤ image.rect.y2) × (image.rect.y2 ≤ℤ pos MOST_SIDE)
      → PixelsFit image → IsFrameImage (reduced q image)
  small_image image left bottom wide high fit =
      let w = side_stays q image.rect.x1 image.rect.x2 scale.0 left wide in
      let h = side_stays q image.rect.y1 image.rect.y2 scale.0 bottom high in
      let a = w.0 in
      let b = w.1 in
      let c = h.0 in
      let d = h.1 in
      record {
        bounds = inr (omega (arith, ints, a), omega (arith, ints, c));
        near = record {
          left = (omega (arith, ints), omega (arith, ints));
          bottom = (omega (arith, ints), omega (arith, ints));
          right = (omega (arith, ints, a), b);
          top = (omega (arith, ints, c), d);
        };
        fit = small_fits image fit;
      }

  frame_small : (s : Stored) → IsSourceFrame s → IsFrameImage (reduced q (image_of s))
  frame_small s h =
      small_image (image_of s) h.wide.from_zero h.high.from_zero (h.wide.some, h.wide.most) (h.high.some, h.high.most) h.fit

  pub small_images : (frames : List SourceFrame) → AreImages (scaled_images q (images_of frames))
  small_images frames n f image e = by (frames_in frames n f) refl e
    where
      by : (o : Option Stored) → frames_in frames n f ≡ o → option_map (reduced q) (option_map image_of o) ≡ Some image → IsFrameImage image
      by None there is = absurd (none-some image is)
      by (Some s) there is =
          subst (λ (i : Image). IsFrameImage i) (same_Some (reduced q (image_of s)) image is) (frame_small s (frames_sound frames n f s there))

-- and more of them are more
pub small_grow : (q : ℕ) (old new : Images) → HasGrown old new → HasGrown (scaled_images q old) (scaled_images q new)
small_grow q old new grown n f image there = by (old n f) refl there
  where
    by : (o : Option Image) → old n f ≡ o → option_map (reduced q) o ≡ Some image → scaled_images q new n f ≡ Some image
    by None is e = absurd (none-some image e)
    by (Some i) is e = ap (option_map (reduced q)) (grown n f i is) ∙ e

pub small_there : (q : ℕ) (images : Images) (n : ℕ) (f : ℤ) → IsSome (images n f) → IsSome (scaled_images q images n f)
small_there q images n f some = by (images n f) some
  where
    by : (o : Option Image) → IsSome o → IsSome (option_map (reduced q) o)
    by None some = some
    by (Some i) some = refl

-- what was handed in, once one moment's frames came
pub handed_more : (old new : List (Kept (Vec SourceFrame Global))) (one : Kept (Vec SourceFrame Global)) (frames : Vec SourceFrame Global)
    → new ≡ old ++ one ∷ [] → one.value ≡ frames
    → handed_in new ≡ handed_in old ++ frames.items
handed_more old new one frames pushed is =
    ap (flat_map (λ k. k.value.items)) pushed
    ∙ flat_map-append (λ k. k.value.items) old (one ∷ [])
    ∙ ap (λ ss. flat_map (λ k. k.value.items) old ++ ss) (append-nil one.value.items ∙ ap (λ (v : Vec SourceFrame Global). v.items) is)

-- two images that are the same are the same when they are small
pub small_same : (q : ℕ) (a b : Image) → SameImage a b → SameImage (reduced q a) (reduced q b)
small_same q a b same =
    record {
      rect = ap (reduced_rect q) same.rect;
      depth = same.depth;
      components = same.components;
      pixels = λ x y i. cond (within (reduced_rect q (same.rect i)) x y) (small x y i) (clear (same.components i));
    }
  where
    at : pixel_at a ≡ pixel_at b
    at = fun_ext (λ x. fun_ext (λ y. same.pixels x y))

    small : (x y : ℤ) → reduced_pixel q a x y ≡ reduced_pixel q b x y
    small x y i = mean_of (same.components i) (q * q) (block (at i) q x y)

pub same_small : (q : ℕ) (a b : Option Image) → AreSame a b → AreSame (option_map (reduced q) a) (option_map (reduced q) b)
same_small q None None same = tt
same_small q None (Some b) same = absurd same
same_small q (Some a) None same = absurd same
same_small q (Some a) (Some b) same = small_same q a b same
