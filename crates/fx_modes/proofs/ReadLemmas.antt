-- What is read of a run's moments: the images of their source frames, and what is known where more were read.
use Rattle.std.proofs.Common.{◌≡◌, ◌≤◌, ◌<◌, ◌+◌, ℕ, zero, suc, ℤ, pos, ◌<ℤ◌, List, [], ◌∷◌, length, All, Contains, Option, Some, None, IsSome, inl, inr, refl, sym, ap, subst, ◌∙◌, arith, get_or}
use Rattle.std.specs.List.{AllZip}
use Rattle.std.specs.Option.{option_map}
use Rattle.std.proofs.lemmas.Bool.{cases_lt, false≢true}
use Rattle.std.proofs.lemmas.Int.{ints}
use Rattle.std.proofs.lemmas.List.{get_or-map, length-map}
use Rattle.std.proofs.lemmas.List.Elements.{Contains-get_or}
use Rattle.std.proofs.lemmas.Option.{none-some}
use Rattle.fx_base.specs.declared.limits.TheConstants.{MOST_SIDE}
use Rattle.fx_outside.specs.Outside.{Files}
use Rattle.fx_image.specs.Image.{Image}
use Rattle.fx_image.specs.Stored.{Stored, image_of}
use Rattle.fx_seq.specs.Frames.{IsPicture}
use Rattle.fx_seq.specs.Filling.{IsApart}
use Rattle.fx_seq.specs.Held.{held}
use Rattle.fx_seq.specs.Lists.{AreFramesOf, ArePictures, IsFrameOf, frames_in}
use Rattle.fx_seq.specs.Moments.{AreOnce, due_until}
use Rattle.fx_seq.specs.declared.source.SourceFrame.{SourceFrame}
use Rattle.fx_seq.specs.declared.store.Store.{Store}
use Rattle.fx_seq.specs.declared.used.Use.{Use}
use Rattle.fx_seq.specs.declared.wanted.Wanted.{Wanted}
use Rattle.fx_seq.proofs.LookLemmas.{frames_from, only_held}
use Rattle.fx_seq.proofs.MomentLemmas.{from_until, some_in, to_until, use_once, zip_to}
use Rattle.fx_scene.specs.Right.{HasWanted}
use Rattle.fx_scene.specs.Scenes.{Images, images_in}
use Rattle.fx_scene.specs.Wants.{IsBefore}
use Rattle.fx_shipped.specs.Shipped.{meaning_of}
use Rattle.fx_modes.specs.Files.{AreImages, AreUsesOf, IsFileOf, wanted_of}
use Rattle.fx_modes.specs.Making.{HoldsScaled}
use Rattle.fx_modes.specs.Moments.{images_of}
use Rattle.fx_modes.specs.Reels.{Reel, frame_in, graph_in, moments_in, scaled_in, wanting_in}
use Rattle.fx_modes.proofs.ScaledLemmas.{holds_used, small_there, zip_back}

-- ---- uses

before_apart : (v w : Wanted) → IsBefore v w → IsApart v w
before_apart v w (inl low) node frame = omega (arith, low, node)
before_apart v w (inr same) node frame = let low = same.1 in absurd (not_less v.frame w.frame frame low)
  where
    not_less : (a b : ℤ) → a ≡ b → a <ℤ b → ⊥
    not_less a b e low = omega (arith, ints, e, low)

-- each node's frame is used once
pub uses_are_once : (r : Reel) (uses : List Use) → AreUsesOf r uses → AreOnce uses
uses_are_once r uses are =
    record {
      apart = λ i j d low high.
          let many : length (wanted_of uses) ≡ length uses = length-map uses (λ u. u.wanted) in
          let pair : IsBefore (get_or (wanted_of uses) i d.wanted) (get_or (wanted_of uses) j d.wanted) =
          are.moments.order i j d.wanted low (omega (arith, high, many)) in
          let first = get_or-map (λ (u : Use). u.wanted) uses i d d.wanted (omega (arith, low, high)) in
          let then = get_or-map (λ (u : Use). u.wanted) uses j d d.wanted high in
          before_apart (get_or uses i d).wanted (get_or uses j d).wanted
          (subst (λ (w : Wanted). IsBefore (get_or uses i d).wanted w) then
          (subst (λ (w : Wanted). IsBefore w (get_or (wanted_of uses) j d.wanted)) first pair));
      order = All-of uses (λ u at. (are.moments.each u at).order);
    }
  where
    All-of : (us : List Use) → ((u : Use) → Contains us u → u.from ≤ u.until) → All (λ u. u.from ≤ u.until) us
    All-of us each = λ i d low. each (get_or us i d) (Contains-get_or us i d low)

-- the use of what moment j wants: it is wanted from j or before, and until j or later
pub use_at : (r : Reel) (uses : List Use) → AreUsesOf r uses → (j k : ℕ) (f : ℤ) → j < moments_in r → wanting_in r j k f
    → (u : Use) × Contains uses u × (u.wanted.node ≡ k) × (u.wanted.frame ≡ f) × (u.from ≤ j) × (j ≤ u.until)
use_at r uses are j k f low here =
    let W = wanting_in r in
    let l = are.moments.all j k f low here in
    let is = are.moments.each l.use_ l.listed in
    let there : W j l.use_.wanted.node l.use_.wanted.frame =
    subst (λ (m : ℕ). W j m l.use_.wanted.frame) (sym l.node) (subst (λ (t : ℤ). W j k t) (sym l.frame) here) in (
      l.use_,
      l.listed,
      l.node,
      l.frame,
      elim (cases_lt j l.use_.from) [ inl h ↦ absurd (is.none_before j h there) | inr h ↦ h ],
      elim (cases_lt l.use_.until j) [ inl h ↦ absurd (is.none_after j h low there) | inr h ↦ h ],
    )

-- ---- what is held, and what was read

-- the images have what moment j wants
abbrev pub WantsIn : Reel → ℕ → Images → Type 0
WantsIn r j images = HasWanted meaning_of (graph_in r j) images r.graph.output (pos (frame_in r j))

-- a store that got the frames of the moments up to m holds what moment m wants
pub holds_wanted : (r : Reel) (uses : List Use) → AreUsesOf r uses → (m : ℕ) → m < moments_in r → (seen : List SourceFrame)
    (store : Store) → HoldsScaled r.scale uses (m + 1) seen store → WantsIn r m (images_in store)
holds_wanted r uses are m low seen store read k f wants =
    let u = use_at r uses are m k f low wants in
    let there = holds_used r.scale uses (uses_are_once r uses are) m seen store read u.0 u.1 u.4 u.5 in
    some_image store k f
    (subst (λ (i : ℕ). IsSome (held store i f)) u.2 (subst (λ (t : ℤ). IsSome (held store u.0.wanted.node t)) u.3 there))
  where
    some_image : (store : Store) (k : ℕ) (f : ℤ) → IsSome (held store k f) → IsSome (images_in store k f)
    some_image store k f is = by (held store k f) is
      where
        by : (o : Option Stored) → IsSome o → IsSome (option_map image_of o)
        by None is = is
        by (Some s) is = refl

-- the frames that were read up to a moment have what each moment before wants
pub has_wanted : (r : Reel) (uses : List Use) → AreUsesOf r uses → (m : ℕ) (got : List SourceFrame)
    → AreFramesOf (due_until uses m) got → (j : ℕ) → j < moments_in r → j < m → WantsIn r j (images_of got)
has_wanted r uses are m got read j low before k f wants =
    let u = use_at r uses are j k f low wants in
    let from = u.4 in
    let z = zip_to IsFrameOf (due_until uses m) got read u.0.wanted (to_until uses u.0 u.1 m (omega (arith, from, before))) in
    let there : IsSome (frames_in got z.0.node z.0.frame) = some_in got z.0 z.1 in
    some_image (frames_in got k f)
    (subst (λ (i : ℕ). IsSome (frames_in got i f)) (z.2.node ∙ u.2)
    (subst (λ (t : ℤ). IsSome (frames_in got z.0.node t)) (z.2.frame ∙ u.3) there))
  where
    some_image : (o : Option Stored) → IsSome o → IsSome (option_map image_of o)
    some_image None is = is
    some_image (Some s) is = refl

-- and so have they at any size
pub small_wanted : (r : Reel) (j : ℕ) (images : Images) → WantsIn r j images → WantsIn r j (scaled_in r images)
small_wanted r j images has k f wants = small_there r.scale images k f (has k f wants)

-- ---- the images of what was read

zip_both : {A B : Type 0} (R S : A → B → Type 0) (xs : List A) (ys : List B) → AllZip R xs ys → AllZip S xs ys
    → AllZip (λ x y. R x y × S x y) xs ys
zip_both R S [] [] r s = tt
zip_both R S [] (b ∷ ys) r s = absurd r
zip_both R S (a ∷ xs) [] r s = absurd r
zip_both R S (a ∷ xs) (b ∷ ys) r s = ((r.0, s.0), zip_both R S xs ys r.1 s.1)

-- of the frames that are due at the first moments two of one node's frame are one
due_once : (uses : List Use) → AreOnce uses → (m : ℕ) (v w : Wanted) → Contains (due_until uses m) v → Contains (due_until uses m) w
    → v.node ≡ w.node → v.frame ≡ w.frame → v ≡ w
due_once uses once m v w at_v at_w node frame =
    let a = from_until uses m v at_v in
    let b = from_until uses m w at_w in
    let same : a.0 ≡ b.0 = use_once uses once a.0 b.0 a.1 b.1
    (ap (λ (x : Wanted). x.node) a.3 ∙ node ∙ sym (ap (λ (x : Wanted). x.node) b.3))
    (ap (λ (x : Wanted). x.frame) a.3 ∙ frame ∙ sym (ap (λ (x : Wanted). x.frame) b.3)) in
    sym a.3 ∙ ap (λ (u : Use). u.wanted) same ∙ b.3

-- each wanted frame has the image of its file, and no other frame has any
pub images_read : (library : Files) (uses : List Use) → AreOnce uses → (m : ℕ) (got : List SourceFrame)
    → AreFramesOf (due_until uses m) got → ArePictures library MOST_SIDE (due_until uses m) got
    → AreImages library (due_until uses m) (images_of got)
images_read library uses once m got are pictures =
    record {
      each = λ w at.
          let r = zip_to Both ws got both w at in
          by w at (frames_in got w.node w.frame) refl
          (subst (λ (i : ℕ). IsSome (frames_in got i w.frame)) r.2.0.node
          (subst (λ (t : ℤ). IsSome (frames_in got r.0.node t)) r.2.0.frame (some_in got r.0 r.1)));
      only = λ n f none. ap (option_map image_of)
          (only_held ws got are n f (λ w has node frame. none (record { entry = w; listed = has; node = node; frame = frame })));
    }
  where
    ws : List Wanted
    ws = due_until uses m

    Both : Wanted → SourceFrame → Type 0
    Both w s = IsFrameOf w s × IsPicture library MOST_SIDE w.name s.image

    both : AllZip Both ws got
    both = zip_both IsFrameOf (λ w s. IsPicture library MOST_SIDE w.name s.image) ws got are pictures

    none-some_is : (o : Option Stored) → o ≡ None → IsSome o → ⊥
    none-some_is None none some = false≢true some
    none-some_is (Some s) none some = none-some s (sym none)

    by : (w : Wanted) → Contains ws w → (o : Option Stored) → frames_in got w.node w.frame ≡ o → IsSome (frames_in got w.node w.frame)
        → (image : Image) × (images_of got w.node w.frame ≡ Some image) × IsFileOf library w.name image
    by w at None none some = absurd (none-some_is (frames_in got w.node w.frame) none some)
    by w at (Some stored) there some =
        let s = frames_from got w.node w.frame stored there in
        let b = zip_back Both ws got both s.0 s.1 in
        let one : b.0 ≡ w = due_once uses once m b.0 w b.1 at (sym b.2.0.node ∙ s.2) (sym b.2.0.frame ∙ s.3) in
        let picture : IsPicture library MOST_SIDE w.name stored =
        subst (λ (i : Stored). IsPicture library MOST_SIDE w.name i) s.4
        (subst (λ (v : Wanted). IsPicture library MOST_SIDE v.name s.0.image) one b.2.1) in (
          image_of stored,
          ap (option_map image_of) there,
          record { bytes = picture.bytes; told = picture.under; reads = picture.reads },
        )

-- what is due at all moments is what is wanted
pub all_due : (library : Files) (r : Reel) (uses : List Use) → AreUsesOf r uses → (images : Images)
    → AreImages library (due_until uses (moments_in r)) images → AreImages library (wanted_of uses) images
all_due library r uses are images shown =
    record {
      each = λ w at.
          let u = from_map uses w at in
          let is = are.moments.each u.0 u.1 in
          let order = is.order in
          let end = is.end in
          shown.each w (subst (λ (x : Wanted). Contains (due_until uses (moments_in r)) x) u.2 (to_until uses u.0 u.1 (moments_in r) (omega (arith, order, end))));
      only = λ m f none. shown.only m f (λ l.
          let u = from_until uses (moments_in r) l.entry l.listed in
          none (record {
            entry = l.entry;
            listed = subst (λ (x : Wanted). Contains (wanted_of uses) x) u.3 (to_map uses u.0 u.1);
            node = l.node;
            frame = l.frame;
          }));
    }
  where
    from_map : (us : List Use) (w : Wanted) → Contains (wanted_of us) w → (u : Use) × Contains us u × (u.wanted ≡ w)
    from_map [] w at = absurd (omega (arith, at.1))
    from_map (u ∷ us) w (zero, low, e) = (u, (0, omega arith, refl), e)
    from_map (u ∷ us) w (suc k, low, e) =
        let r = from_map us w (k, omega (arith, low), e) in
        let at = r.1 in
        let under = at.1 in
        (r.0, (suc at.0, omega (arith, under), at.2), r.2)

    to_map : (us : List Use) (u : Use) → Contains us u → Contains (wanted_of us) u.wanted
    to_map [] u at = absurd (omega (arith, at.1))
    to_map (v ∷ us) u (zero, low, e) = (0, omega arith, ap (λ (x : Use). x.wanted) e)
    to_map (v ∷ us) u (suc k, low, e) =
        let r = to_map us u (k, omega (arith, low), e) in
        let under = r.1 in
        (suc r.0, omega (arith, under), r.2)
