-- The images of a store are those of sources' frames.
use Rattle.std.proofs.Common.{◌≡◌, ℕ, ℤ, Bool, true, false, cond, List, [], ◌∷◌, ◌++◌, Option, Some, None, Result, Ok, Err, OnErr, OnOk, refl, sym, ap, ◌∙◌, subst, arith, inr}
use Rattle.std.proofs.lemmas.Int.{ints}
use Rattle.std.proofs.lemmas.Option.{none-some, same_Some}
use Rattle.std.specs.Option.{option_map}
use Rattle.fx_image.specs.Image.{Image}
use Rattle.fx_image.specs.Stored.{Stored, image_of}
use Rattle.fx_seq.specs.declared.store.Store.{Store}
use Rattle.fx_seq.specs.Frames.{AreAmong, AreSound, Frames, IsSourceFrame}
use Rattle.fx_seq.specs.declared.source.SourceFrame.{SourceFrame}
use Rattle.fx_seq.specs.Held.{SameStore, fetched, got_frames, held}
use Rattle.fx_seq.specs.Lists.{frames_in, is_of}
use Rattle.fx_scene.specs.Depends.{AreImages}
use Rattle.fx_scene.specs.Nodes.{IsFrameImage}
use Rattle.fx_scene.specs.Right.{HasGrown}
use Rattle.fx_scene.specs.Scenes.{fetched_in, images_in}

frame_image : (s : Stored) → IsSourceFrame s → IsFrameImage (image_of s)
frame_image s h =
    let a = h.wide.from_zero in
    let b = h.wide.some in
    let c = h.wide.most in
    let d = h.high.from_zero in
    let e = h.high.some in
    let f = h.high.most in
    record {
      bounds = inr (omega (arith, ints), omega (arith, ints));
      near = record {
        left = (omega (arith, ints), omega (arith, ints));
        bottom = (omega (arith, ints), omega (arith, ints));
        right = (omega (arith, ints), omega (arith, ints));
        top = (omega (arith, ints), omega (arith, ints));
      };
      fit = h.fit;
    }

-- frames that are sound are images of frames
pub shown_images : (frames : Frames) → AreSound frames → (n : ℕ) (f : ℤ) (image : Image) → option_map image_of (frames n f) ≡ Some image
    → IsFrameImage image
shown_images frames sound n f image e = by (frames n f) refl e
  where
    by : (o : Option Stored) → frames n f ≡ o → option_map image_of o ≡ Some image → IsFrameImage image
    by None there is = absurd (none-some image is)
    by (Some s) there is =
        subst (λ (i : Image). IsFrameImage i) (same_Some (image_of s) image is) (frame_image s (sound n f s there))

pub store_images : (store : Store) → AreSound (held store) → AreImages (images_in store)
store_images store sound = shown_images (held store) sound

-- and so are those of all that it ever got, which has what is held
pub fetched_images : (store : Store) → AreSound (fetched store) → AreImages (fetched_in store)
fetched_images store sound = shown_images (fetched store) sound

images_more : (p q : Frames) → AreAmong p q → HasGrown (λ n f. option_map image_of (p n f)) (λ n f. option_map image_of (q n f))
images_more p q among n f image e = by (p n f) refl e
  where
    by : (o : Option Stored) → p n f ≡ o → option_map image_of o ≡ Some image → option_map image_of (q n f) ≡ Some image
    by None there is = absurd (none-some image is)
    by (Some s) there is = ap (option_map image_of) (among n f s there) ∙ is

pub held_fetched : (store : Store) → AreAmong (held store) (fetched store) → HasGrown (images_in store) (fetched_in store)
held_fetched store among = images_more (held store) (fetched store) among

-- ---- frames that come

-- those that are there stay first
frames_more : (xs ys : List SourceFrame) → AreAmong (frames_in xs) (frames_in (xs ++ ys))
frames_more [] ys n f s h = absurd (none-some s h)
frames_more (x ∷ xs) ys n f s h = by (is_of n f x) (Some x.image) (frames_in xs n f) (frames_in (xs ++ ys) n f) (frames_more xs ys n f s) h
  where
    by : (b : Bool) (u v w : Option Stored) → (v ≡ Some s → w ≡ Some s) → cond b u v ≡ Some s → cond b u w ≡ Some s
    by true u v w g is = is
    by false u v w g is = g is

-- once frames came, or did not
pub fetched_more : {A B : Type 0} (r : Result A B) (old new : Store) (frames : List SourceFrame)
    → OnOk r (got_frames new ≡ got_frames old ++ frames) → OnErr r (SameStore old new) → HasGrown (fetched_in old) (fetched_in new)
fetched_more (Ok x) old new frames came same =
    images_more (fetched old) (fetched new)
    (subst (λ (fs : List SourceFrame). AreAmong (fetched old) (frames_in fs)) (sym came) (frames_more (got_frames old) frames))
fetched_more (Err x) old new frames came same =
    images_more (fetched old) (fetched new)
    (subst (λ (fs : List SourceFrame). AreAmong (fetched old) (frames_in fs)) (sym same.got) (λ n f s is. is))
