-- A region is followed one node at a time.
use Rattle.std.proofs.Common.{◌≡◌, ◌≢◌, ℕ, ◌<◌, ◌≤◌, ℤ, List, length, Bool, true, false, refl, arith, sym, ap, ◌∙◌, subst, Option, Some, None, is_some, inl, inr}
use Rattle.std.proofs.lemmas.Bool.{cond-true, cond-false}
use Rattle.std.proofs.lemmas.Int.{ints}
use Rattle.std.proofs.lemmas.List.{length-map}
use Rattle.std.proofs.lemmas.Option.{slice_get_within}
use Rattle.fx_base.specs.Bounds.{Bounds, IsRect, none}
use Rattle.fx_base.specs.Rect.{IsNear, IsWithin, is_empty, meet}
use Rattle.fx_base.proofs.RectLaws.{IsRect-meet, IsWithin-meet_second}
use Rattle.fx_base.proofs.RectLemmas.{Encloses-from_within, IsProper, IsProper-from_rect, IsProper-from_test, holds_corner, is_empty-none, is_empty-proper}
use Rattle.fx_pixel.specs.declared.Pixel.{Pixel}
use Rattle.fx_pixel.specs.Pixel.{zero as zero_pixel}
use Rattle.fx_pixel.specs.PixelLaws.{zero_form}
use Rattle.fx_effect.specs.Asked.{IsWindow}
use Rattle.fx_effect.specs.Laws.{IsSameAs}
use Rattle.fx_effect.specs.Tap.{Tap, tap}
use Rattle.fx_effect.specs.declared.action.Identity.TheVariants.{Same}
use Rattle.fx_scene.specs.Areas.{area}
use Rattle.fx_scene.specs.Frames.{in_some}
use Rattle.fx_scene.specs.Nodes.{AreNodes, Effect, EffectNode, IsEffectNode, Node, Nodes, clip_node, seen}
use Rattle.fx_scene.proofs.Members.{all_in, in_of, in_some_at}
use Rattle.fx_scene.proofs.Outside.{Covered, area_window}
use Rattle.fx_region.specs.Ends.{Choice, Ends, Void, chosen, clip_end, cut_end, effect_end, effect_step, end_of, onward}
use Rattle.fx_region.specs.Follow.{GoesToRead, clip_stand, stand_end}
use Rattle.fx_region.specs.declared.following.Stand.{Stand}
use Rattle.fx_region.proofs.EndLaws.{end_is}

-- ---- cut regions

pub some_place : (c : Bounds) → IsRect c → c ≢ none → is_empty c ≡ false
some_place c rect some = is_empty-proper c (IsProper-from_rect c rect some)

near_within : (r a : Bounds) → IsProper r → IsWithin r a → IsNear a → IsNear r
near_within r a proper inside near =
    let in_a = Encloses-from_within r a proper inside in
    let p1 = near.left in let p2 = near.right in let p3 = near.bottom in let p4 = near.top in
    let q1 = in_a.left in let q2 = in_a.right in let q3 = in_a.bottom in let q4 = in_a.top in
    record { left = omega (arith, ints); right = omega (arith, ints); bottom = omega (arith, ints); top = omega (arith, ints) }

-- a region within a window is one
pub window_within : (r a : Bounds) → IsRect r → IsWithin r a → IsWindow a → IsWindow r
window_within r a rect inside w = record { bounds = rect; near = by_rect rect }
  where
    by_rect : IsRect r → IsNear r
    by_rect p = elim p [
      | inl e ↦ subst IsNear (sym e) (record { left = omega (arith, ints); right = omega (arith, ints); bottom = omega (arith, ints); top = omega (arith, ints) })
      | inr proper ↦ near_within r a (record { wide = proper.0; high = proper.1 }) inside w.near
    ]

-- so the part of a region that lies in a node's area is one
pub cut_window : (nodes : Nodes) → AreNodes nodes → (n : ℕ) (t : ℤ) (r a : Bounds) → n ≤ 1024 → a ≡ area nodes n t
    → IsWindow (meet r a)
cut_window nodes ok n t r a few is =
    window_within (meet r a) a (IsRect-meet r a) (IsWithin-meet_second r a) (subst IsWindow (sym is) (area_window nodes ok n t few))

-- ---- an effect that is the same as a clip at a frame

zero_taps : EffectNode → Tap → Pixel
zero_taps o p = zero_pixel (seen o p.clip)

same_as : (k : ℕ) (o : EffectNode) → IsEffectNode k o → (t : ℤ) (r : Bounds) (clip : ℕ) (f : ℤ)
    → o.meaning.same (o.values t) r ≡ Same clip f
    → IsSameAs o.meaning o.context (o.values t) o.depth o.components (zero_taps o) r clip f
unfolding zero_taps
same_as k o i t r clip f e =
    i.laws.identity_is_tap o.context (o.values t) r clip f o.depth o.components (zero_taps o) (record {
      lawful = i.lawful t;
      supported = i.supported;
      depth_is = λ p. (zero_form o.depth (seen o p.clip)).0;
      components_are = λ p. (zero_form o.depth (seen o p.clip)).1;
    }) e

-- the clip is one of its clips
pub same_clip : (k : ℕ) (o : EffectNode) → IsEffectNode k o → (t : ℤ) (r : Bounds) (clip : ℕ) (f : ℤ)
    → o.meaning.same (o.values t) r ≡ Same clip f → clip < length o.clips
same_clip k o i t r clip f e =
    let same = same_as k o i t r clip f e in
    let there = slice_get_within (o.values t).connected clip true same.connected in
    let flags = ap (λ (bs : List Bool). length bs) (i.connected t) in
    let many = length-map o.clips (λ (c : Option ℕ). is_some c) in
    omega (arith, there, flags, many)

-- and the frame is one that it needs of it
same_frame : (k : ℕ) (o : EffectNode) → IsEffectNode k o → (t : ℤ) (r : Bounds) (clip : ℕ) (f : ℤ) → IsProper r
    → o.meaning.same (o.values t) r ≡ Same clip f → in_some (o.meaning.spans (o.values t) clip) f ≡ true
same_frame k o i t r clip f proper e =
    let corner = holds_corner r proper.wide proper.high in
    let taps = o.meaning.taps (o.values t) r.x1 r.y1 in
    let read = tap clip f r.x1 r.y1 in
    let there = in_of taps read ((same_as k o i t r clip f e).read r.x1 r.y1 corner) in
    let covered = all_in (Covered o t r) taps read (i.laws.interest_holds_taps o.context (o.values t) r r.x1 r.y1 (i.lawful t) corner) there in
    in_some_at (o.meaning.spans (o.values t) clip) covered.span f
    (in_of (o.meaning.spans (o.values t) clip) covered.span covered.listed) covered.at_frame.0 covered.at_frame.1

-- so it goes on at what the node reads
pub same_read : (k : ℕ) (o : EffectNode) → IsEffectNode k o → (t : ℤ) (r : Bounds) (clip : ℕ) (f : ℤ) → is_empty r ≡ false
    → o.meaning.same (o.values t) r ≡ Same clip f
    → GoesToRead (Effect o) t (clip_stand o.depth o.components (clip_node o clip) f)
same_read k o i t r clip f some e = by_clip (clip_node o clip) refl
  where
    by_clip : (c : Option ℕ) → clip_node o clip ≡ c → GoesToRead (Effect o) t (clip_stand o.depth o.components c f)
    by_clip None is = tt
    by_clip (Some m) is =
        record { clip = clip; node = is; frame = same_frame k o i t r clip f (IsProper-from_test r some) e }

-- at its end
clip_stands : (ends : Ends) (o : EffectNode) (clip : Option ℕ) (f : ℤ) (r : Bounds)
    → stand_end ends r (clip_stand o.depth o.components clip f) ≡ onward (effect_step o) (clip_end ends clip f r)
clip_stands ends o None f r = refl
clip_stands ends o (Some m) f r = refl

pub same_stands : (choose : Choice) (ends : Ends) (k : ℕ) (o : EffectNode) (t : ℤ) (r : Bounds) (clip : ℕ) (f : ℤ)
    → o.meaning.same (o.values t) r ≡ Same clip f
    → stand_end ends r (clip_stand o.depth o.components (clip_node o clip) f)
    ≡ effect_end choose ends k o t r (o.meaning.same (o.values t) r)
same_stands choose ends k o t r clip f e =
    clip_stands ends o (clip_node o clip) f r ∙ ap (effect_end choose ends k o t r) (sym e)

-- ---- by what stands at a place

pub cut_by : (ends : Ends) (n : ℕ) (nodes : Nodes) (node : Node) (t : ℤ) (r : Bounds) → nodes n ≡ node
    → cut_end (chosen nodes) ends n node t r ≡ cut_end (chosen nodes) ends n (nodes n) t r
cut_by ends n nodes node t r stands = ap (λ (q : Node). cut_end (chosen nodes) ends n q t r) (sym stands)

pub read_by : (n : ℕ) (nodes : Nodes) (node : Node) (t : ℤ) (s : Stand) → nodes n ≡ node → GoesToRead node t s
    → GoesToRead (nodes n) t s
read_by n nodes node t s stands h = subst (λ (q : Node). GoesToRead q t s) (sym stands) h

-- ---- the end of a region by that of the part in the node's area

pub void_end : (nodes : Nodes) → AreNodes nodes → (n : ℕ) (t : ℤ) (r a cut : Bounds) → a ≡ area nodes n t
    → cut ≡ meet r a → cut ≡ none → Void ≡ end_of nodes n t r
void_end nodes ok n t r a cut is at e =
    let m = meet r (area nodes n t) in
    let same : cut ≡ m = at ∙ ap (meet r) is in
    sym (end_is (chosen nodes) nodes ok n t r ∙ cond-true (is_empty m) _ _ (is_empty-none m (sym same ∙ e)))

pub cut_is : (nodes : Nodes) → AreNodes nodes → (n : ℕ) (t : ℤ) (r a cut : Bounds) → a ≡ area nodes n t
    → cut ≡ meet r a → cut ≢ none → cut_end (chosen nodes) (end_of nodes) n (nodes n) t cut ≡ end_of nodes n t r
cut_is nodes ok n t r a cut is at some =
    let m = meet r (area nodes n t) in
    let same : cut ≡ m = at ∙ ap (meet r) is in
    let test : is_empty m ≡ false = some_place m (IsRect-meet r (area nodes n t)) (λ e. some (same ∙ e)) in
    ap (cut_end (chosen nodes) (end_of nodes) n (nodes n) t) same
    ∙ sym (end_is (chosen nodes) nodes ok n t r ∙ cond-false (is_empty m) _ _ test)
