-- Two lists of nodes that are the same outside of a set, of which nothing outside reads: all that is said of a node
-- outside is the same in both.
use Rattle.std.proofs.Common.{◌≡◌, ℕ, ◌<◌, ℤ, ◌≤ℤ◌, Bool, true, false, not, ◌&&◌, Option, Some, None, refl, sym, ap, ◌∙◌, subst}
use mathlib.Core.Path.{fun_ext}
use Rattle.std.proofs.lemmas.Bool.{and_parts, false≢true}
use Rattle.fx_pixel.specs.declared.Depth.{Depth}
use Rattle.fx_pixel.specs.declared.Components.{Components}
use Rattle.fx_pixel.specs.declared.Pixel.{Pixel}
use Rattle.fx_pixel.specs.Pixel.{convert}
use Rattle.fx_effect.specs.Tap.{Tap}
use Rattle.fx_effect.specs.Meaning.{mixed}
use Rattle.fx_scene.specs.Nodes.{AreNodes, Effect, EffectNode, IsNode, Node, Nodes, Source, clip_node, depth_at, node_depth, seen}
use Rattle.fx_scene.specs.Reach.{IsClosed, IsReached, IsReadBy, NodeFrames}
use Rattle.fx_scene.specs.Value.{Pixels, clip_value, node_value, tap_value, value}
use Rattle.fx_scene.specs.Wants.{IsWanted, Shows}
use Rattle.fx_scene.proofs.Equations.{value_is}
use Rattle.fx_scene.proofs.Places.{by_place}

-- a clip of the node is node m
abbrev pub HasClip : Node → ℕ → Type 0
HasClip (Source s) m = ⊥
HasClip (Effect o) m = (clip : ℕ) × (clip_node o clip ≡ Some m)

-- outside of the set the nodes are the same, and none has a node of the set for a clip
pub record IsSameOutside (s : ℕ → Bool) (a b : Nodes) : Type 0 where
  pub same : (k : ℕ) → s k ≡ false → a k ≡ b k
  pub closed : (k m : ℕ) → s k ≡ false → HasClip (a k) m → s m ≡ false

pub other_way : (s : ℕ → Bool) (a b : Nodes) → IsSameOutside s a b → IsSameOutside s b a
other_way s a b h =
    record {
      same = λ k out. sym (h.same k out);
      closed = λ k m out clip. h.closed k m out (subst (λ (node : Node). HasClip node m) (sym (h.same k out)) clip);
    }

-- what a node reads is a clip of it
read_clip : (node : Node) (t : ℤ) (m : ℕ) (f : ℤ) → IsReadBy node t m f → HasClip node m
read_clip (Source s) t m f h = h
read_clip (Effect o) t m f h = (h.clip, h.node)

-- what a clip shows, where its node is the same in both
clip_same : (d e : ℕ → Depth) (v w : ℕ → Pixels) (to : Depth) (c : Components) (o : Option ℕ)
    → ((m : ℕ) → o ≡ Some m → (d m ≡ e m) × (v m ≡ w m)) → clip_value d v to c o ≡ clip_value e w to c o
clip_same d e v w to c None h = refl
clip_same d e v w to c (Some m) h =
    ap {B = Pixels} (λ (z : Depth) (t x y : ℤ). convert z to c (v m t x y)) (h m refl).0
    ∙ ap {B = Pixels} (λ (z : Pixels) (t x y : ℤ). convert (e m) to c (z t x y)) (h m refl).1

module _ (s : ℕ → Bool) (a b : Nodes) (h : IsSameOutside s a b) where
  -- ---- pixels

  pub value_outside : AreNodes a → AreNodes b → (n : ℕ) → s n ≡ false → value a n ≡ value b n
  value_outside ok_a ok_b = by_place (λ n. s n ≡ false → value a n ≡ value b n) (λ n before out.
      value_is a ok_a n ∙ by n before out (a n) refl ∙ sym (value_is b ok_b n))
    where
      by : (n : ℕ) → ((m : ℕ) → m < n → s m ≡ false → value a m ≡ value b m) → s n ≡ false → (node : Node) → a n ≡ node
          → node_value (depth_at a) (value a) (a n) ≡ node_value (depth_at b) (value b) (b n)
      by n before out (Source r) e =
          ap (node_value (depth_at a) (value a)) e ∙ ap (node_value (depth_at b) (value b)) (sym e ∙ h.same n out)
      by n before out (Effect o) e =
          let i = subst (λ (node : Node). IsNode n node) e (ok_a n) in
          let clip : (m : ℕ) → (c : ℕ) → clip_node o c ≡ Some m → (depth_at a m ≡ depth_at b m) × (value a m ≡ value b m) = λ m c is.
          let low = h.closed n m out (subst (λ (node : Node). HasClip node m) (sym e) (c, is)) in
          (ap node_depth (h.same m low), before m (i.earlier c m is) low) in
          ap (node_value (depth_at a) (value a)) e
          ∙ ap {B = Pixels} (λ (v : Tap → Pixel) (t x y : ℤ). mixed o.meaning (o.values t) o.depth o.components v x y)
          (fun_ext (λ (p : Tap). ap (λ (z : Pixels). z p.frame p.x p.y)
          (clip_same (depth_at a) (depth_at b) (value a) (value b) o.depth (seen o p.clip) (clip_node o p.clip) (λ m is. clip m p.clip is))))
          ∙ ap (node_value (depth_at b) (value b)) (sym e ∙ h.same n out)

  -- ---- what is reached

  -- the members of a set that lie outside
  abbrev outside : NodeFrames → NodeFrames
  outside z k t = not (s k) && z k t

  out_in : (k : ℕ) (x : Bool) → s k ≡ false → x ≡ true → not (s k) && x ≡ true
  out_in k x out is = rw (out, is) refl

  is_out : (b : Bool) → not b ≡ true → b ≡ false
  is_out true e = absurd (false≢true e)
  is_out false e = refl

  closed_outside : (z : NodeFrames) (n : ℕ) (first last : ℤ) → s n ≡ false → IsClosed b n first last z
      → IsClosed a n first last (outside z)
  closed_outside z n first last out c =
      record {
        start = λ t low high. out_in n (z n t) out (c.start t low high);
        reads = λ k t in_ m f r.
            let p = and_parts (not (s k)) (z k t) in_ in
            let here = is_out (s k) p.0 in
            out_in m (z m f) (h.closed k m here (read_clip (a k) t m f r))
            (c.reads k t p.1 m f (subst (λ (node : Node). IsReadBy node t m f) (h.same k here) r));
      }

  pub reach_outside : (n : ℕ) (first last : ℤ) (m : ℕ) (f : ℤ) → s n ≡ false → IsReached a n first last m f
      → IsReached b n first last m f
  reach_outside n first last m f out r z c =
      (and_parts (not (s m)) (z m f) (r (outside z) (closed_outside z n first last out c))).1

  abbrev all_moments : NodeFrames
  all_moments k t = true

  pub reached_out : (n : ℕ) (first last : ℤ) (m : ℕ) (f : ℤ) → s n ≡ false → IsReached a n first last m f → s m ≡ false
  reached_out n first last m f out r =
      is_out (s m) (and_parts (not (s m)) true (r (outside all_moments)
      (closed_outside all_moments n first last out
      (record { start = λ t low high. refl; reads = λ k t in_ j u q. refl })))).0

  pub wants_outside : (n : ℕ) (first last : ℤ) (m : ℕ) (f : ℤ) → s n ≡ false → IsWanted a n first last m f
      → IsWanted b n first last m f
  wants_outside n first last m f out w =
      record {
        at = w.at;
        reached = reach_outside n first last m w.at out w.reached;
        shows = subst (λ (node : Node). Shows node w.at f) (h.same m (reached_out n first last m w.at out w.reached)) w.shows;
      }
