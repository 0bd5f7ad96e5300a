-- What every effect keeps, of dissolve.
use Rattle.std.specs.Prelude.{◌≡◌, ◌≤◌, ℕ, ℤ, List, [], ◌∷◌, codes, refl}
use Rattle.std.specs.List.{Contains}
use Rattle.std.proofs.Common.{inl, inr, sym, subst, arith, ◌∙◌}
use Rattle.fx_base.specs.Bounds.{Bounds}
use Rattle.fx_pixel.specs.declared.Depth.{Depth}
use Rattle.fx_pixel.specs.declared.Components.{Components}
use Rattle.fx_pixel.specs.declared.Pixel.{Pixel}
use Rattle.fx_pixel.specs.Pixel.{greatest, zero as clear, IsOfDepth, components_of}
use Rattle.fx_effect.specs.Shape.{IsLawfulIn}
use Rattle.fx_effect.specs.ShapeTests.{shape_is}
use Rattle.fx_effect.specs.Laws.{Laws}
use Rattle.fx_effect.specs.DefaultLaws.{default_spans_near}
use Rattle.fx_effect.specs.Local.{Read, IsSameRead, local_laws}
use Rattle.fx_effect.specs.declared.action.Context.{Context}
use Rattle.fx_effect.specs.declared.action.Identity.TheVariants.{No}
use Rattle.fx_effect.specs.declared.values.Values.{Values}
use Rattle.fx_kernel.specs.Samples.{nth, each}
use Rattle.fx_kernel.specs.SampleLaws.{nth_bound, nth_clear, each_same, each_of, each_clear, each_is_pixel}
use Rattle.fx_kernel.specs.Blends.{blended}
use Rattle.fx_kernel.specs.BlendLaws.{blended_bound, blended_zero, blended_first, blended_last}
use Rattle.fx_trans.specs.Transitions.{level}
use Rattle.fx_effect.specs.PairLaws.{both_reads, both_near, both_rect, both_hold}
use Rattle.fx_trans.specs.TransitionsLaws.{IsEnd, both_there, from_connected, to_connected, level_few, end_of}
use Rattle.fx_trans.specs.Dissolve.{dissolved, dissolve_shape, dissolve}

dissolved_zero : (k : ℕ) (c : Components) → dissolved k c (clear c) (clear c) ≡ clear c
dissolved_zero k c =
    each_same c (λ i. blended k (nth (clear c) i) (nth (clear c) i)) (λ i. 0) (λ i. rw (nth_clear c i) (blended_zero k))
    ∙ each_clear c

dissolved_is_pixel : (k : ℕ) (depth : Depth) (c : Components) (p q : Pixel) → k ≤ 65536 → IsOfDepth depth p
    → IsOfDepth depth q
    → IsOfDepth depth (dissolved k c p q) × (components_of (dissolved k c p q) ≡ c)
dissolved_is_pixel k depth c p q few from to =
    each_is_pixel depth c (λ i. blended k (nth p i) (nth q i))
    (λ i. blended_bound k (nth p i) (nth q i) (greatest depth) few (nth_bound depth p i from)
    (nth_bound depth q i to))

-- it is SourceFrom at the level 0, and SourceTo at the level 1
before : (k : ℕ) (c : Components) (p q : Pixel) → k ≡ 0 → components_of p ≡ c → dissolved k c p q ≡ p
before k c p q none is =
    rw (none, ← is)
    (each_same (components_of p) (λ i. blended 0 (nth p i) (nth q i)) (nth p)
    (λ i. blended_first (nth p i) (nth q i)) ∙ each_of p)

behind : (k : ℕ) (c : Components) (p q : Pixel) → k ≡ 65536 → components_of q ≡ c → dissolved k c p q ≡ q
behind k c p q all is =
    rw (all, ← is)
    (each_same (components_of q) (λ i. blended 65536 (nth p i) (nth q i)) (nth q)
    (λ i. blended_last (nth p i) (nth q i)) ∙ each_of q)

same_at_end : (context : Context) (v : Values) (window : Bounds) (clip : ℕ) (frame : ℤ) (depth : Depth) (c : Components)
    → IsLawfulIn dissolve_shape context v
    → IsEnd (level v) v.frame No clip frame → IsSameRead dissolve (both_reads v) context v depth c window clip frame
same_at_end context v window clip frame depth c lawful (inl (none, first, now)) =
    rw (first, now) (record {
      connected = from_connected v.connected lawful.connected;
      no_mask = refl;
      read = (0, omega arith, refl);
      pixels = λ value x y shown inside. before (level v) c (value (0, v.frame)) (value (1, v.frame)) none
          (shown.components_are (0, v.frame));
    })
same_at_end context v window clip frame depth c lawful (inr (inl (all, second, now))) =
    rw (second, now) (record {
      connected = to_connected v.connected lawful.connected;
      no_mask = refl;
      read = (1, omega arith, refl);
      pixels = λ value x y shown inside. behind (level v) c (value (0, v.frame)) (value (1, v.frame)) all
          (shown.components_are (1, v.frame));
    })
same_at_end context v window clip frame depth c lawful (inr (inr (some, part, is))) = absurd cc

pub dissolve_laws : Laws dissolve
dissolve_laws =
    local_laws dissolve both_reads (shape_is dissolve_shape refl) (record {
      taps = λ v x y. refl;
      interest = λ v r clip. refl;
      reads_there = both_there (codes "dissolve");
      frames_near = λ context v clip lawful. default_spans_near v clip;
      region_near = λ context v regions n lawful are up_to. both_near n v.project regions up_to;
      region_is_rect = λ context v regions lawful are. both_rect v regions are;
      whole = λ context v regions whole lawful are. absurd cc;
      region_holds = λ context v regions r x y lawful are there held. both_hold v regions r x y there held;
      zero_stays = λ context v depth c x y lawful supported. dissolved_zero (level v) c;
      pixel = λ context v depth c value x y lawful supported shown.
          dissolved_is_pixel (level v) depth c (value (0, v.frame)) (value (1, v.frame))
          (level_few (codes "dissolve") context v lawful) (shown.depth_is (0, v.frame))
          (shown.depth_is (1, v.frame));
      same = λ context v window clip frame depth c lawful supported answer. same_at_end context v window clip frame
          depth c lawful (end_of (level v) v.frame No clip frame answer);
    })
