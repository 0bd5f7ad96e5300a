-- Scaled frames are sources' frames, and their images are those of the frames, scaled.
use Rattle.std.proofs.Common.{◌≡◌, ◌≤◌, ◌<◌, ◌++◌, take, length, get_or, ℕ, ◌+◌, ◌&&◌, nat_eq, ℤ, pos, ◌≤ℤ◌, Bool, true, false, cond, List, [], ◌∷◌, Option, Some, refl, sym, ap, subst, ◌∙◌}
use Rattle.std.specs.Int.{int_gap}
use Rattle.std.specs.List.{AllZip}
use Rattle.std.specs.Ordering.{int_eq}
use Rattle.std.specs.Prelude.{option_map}
use Rattle.std.proofs.lemmas.List.{take_more}
use Rattle.fx_base.specs.Bounds.{Bounds}
use Rattle.fx_base.specs.declared.limits.TheConstants.{MOST_SIDE}
use Rattle.fx_image.specs.Image.{Image, PixelsFit, SameImage}
use Rattle.fx_image.specs.Runs.{row_size}
use Rattle.fx_image.specs.Stored.{Stored, image_of}
use Rattle.fx_scene.specs.Depends.{AreSame}
use Rattle.fx_seq.specs.Frames.{IsSide, IsSourceFrame}
use Rattle.fx_seq.specs.Lists.{frames_in, is_of}
use Rattle.fx_seq.specs.declared.source.SourceFrame.{SourceFrame}
use Rattle.fx_seq.proofs.Reading.{zip_append}
use Rattle.fx_proxy.specs.Proxy.{IsScaledFrame}
use Rattle.fx_proxy.specs.Reduced.{IsWhole, over, reduced}
use Rattle.fx_proxy.proofs.ScaledLemmas.{side_stays, side_some}
use Rattle.fx_proxy.proofs.WholeLemmas.{image_back}

pub frame_whole : (image : Stored) → IsSourceFrame image → IsWhole image.rect
frame_whole image h =
    record {
      left = h.wide.from_zero;
      bottom = h.high.from_zero;
      wide = side_some image.rect.x1 image.rect.x2 h.wide.from_zero h.wide.some;
      high = side_some image.rect.y1 image.rect.y2 h.high.from_zero h.high.some;
    }

-- a side of a reduced image
pub side_scaled : (q : ℕ) (a b x1 x2 : ℤ) → 1 ≤ q → IsSide x1 x2 → a ≡ pos 0 → b ≡ pos (over q (int_gap x1 x2)) → IsSide a b
side_scaled q a b x1 x2 some h left right =
    let near = side_stays q x1 x2 some h.from_zero (h.some, h.most) in
    record {
      from_zero = left;
      some = subst (λ (x : ℤ). pos 1 ≤ℤ x) (sym right) near.0;
      most = subst (λ (x : ℤ). x ≤ℤ pos MOST_SIDE) (sym right) near.1;
    }

pub reduced_frame : (q : ℕ) (old new : Stored) → 1 ≤ q → IsSourceFrame old → SameImage (image_of new) (reduced q (image_of old))
    → new.raster.pitch ≡ row_size new new.rect → PixelsFit (image_of new) → IsSourceFrame new
reduced_frame q old new some h same narrow fit =
    let at = λ (f : Bounds → ℤ). ap f same.rect in
    record {
      wide = side_scaled q new.rect.x1 new.rect.x2 old.rect.x1 old.rect.x2 some h.wide (at (λ r. r.x1)) (at (λ r. r.x2));
      high = side_scaled q new.rect.y1 new.rect.y2 old.rect.y1 old.rect.y2 some h.high (at (λ r. r.y1)) (at (λ r. r.y2));
      components = same.components ∙ h.components;
      narrow = narrow;
      fit = fit;
    }

-- ---- the images of frames

same_of : (q : ℕ) (s t : SourceFrame) (n : ℕ) (f : ℤ) → IsScaledFrame q s t → is_of n f t ≡ is_of n f s
same_of q s t n f h = ap (λ (k : ℕ). nat_eq k n && int_eq t.frame f) h.node ∙ ap (λ (k : ℤ). nat_eq s.node n && int_eq k f) h.frame

module _ (q : ℕ) (n : ℕ) (f : ℤ) where
  abbrev image_in : List SourceFrame → Option Image
  image_in ss = option_map image_of (frames_in ss n f)

  here_or_there : (here : Bool) (s t : SourceFrame) (o p : Option Stored) → SameImage (image_of t.image) (reduced q (image_of s.image))
      → AreSame (option_map image_of p) (option_map (reduced q) (option_map image_of o))
      → AreSame (option_map image_of (cond here (Some t.image) p)) (option_map (reduced q) (option_map image_of (cond here (Some s.image) o)))
  here_or_there true s t o p same rest = same
  here_or_there false s t o p same rest = rest

  pub images_scaled : (ss ts : List SourceFrame) → AllZip (IsScaledFrame q) ss ts
      → AreSame (image_in ts) (option_map (reduced q) (image_in ss))
  images_scaled [] [] are = tt
  images_scaled [] (t ∷ ts) are = absurd are
  images_scaled (s ∷ ss) [] are = absurd are
  images_scaled (s ∷ ss) (t ∷ ts) are =
      subst (λ (b : Bool). AreSame (option_map image_of (cond b (Some t.image) (frames_in ts n f))) (option_map (reduced q) (image_in (s ∷ ss))))
      (sym (same_of q s t n f are.0))
      (here_or_there (is_of n f s) s t (frames_in ss n f) (frames_in ts n f) are.0.image (images_scaled ss ts are.1))

-- at the whole size each frame is as it was
pub frames_whole : (ss : List SourceFrame) → AllZip (IsScaledFrame 1) ss ss
frames_whole [] = tt
frames_whole (s ∷ ss) = (
  record { node = refl; frame = refl; size = refl; image = image_back (image_of s.image) (frame_whole s.image s.sound) s.sound.fit },
  frames_whole ss,
)

-- one more frame
pub frame_next : (q : ℕ) (ss small new : List SourceFrame) (n : ℕ) (s t : SourceFrame) → n < length ss → s ≡ get_or ss n s
    → AllZip (IsScaledFrame q) (take n ss) small → new ≡ small ++ t ∷ [] → IsScaledFrame q s t
    → AllZip (IsScaledFrame q) (take (n + 1) ss) new
frame_next q ss small new n s t low is are pushed scaled =
    let R = IsScaledFrame q in
    let one : take (n + 1) ss ≡ take n ss ++ s ∷ [] =
    take_more ss n s low ∙ ap (λ (x : SourceFrame). take n ss ++ x ∷ []) (sym is) in
    subst (λ (xs : List SourceFrame). AllZip R xs new) (sym one)
    (subst (λ (ys : List SourceFrame). AllZip R (take n ss ++ s ∷ []) ys) (sym pushed)
    (zip_append R (take n ss) (s ∷ []) small (t ∷ []) are (scaled, tt)))
