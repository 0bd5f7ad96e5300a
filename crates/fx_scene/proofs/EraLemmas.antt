-- Takes with the same era of a node have the same node.
use Rattle.std.proofs.Common.{◌≡◌, ℕ, zero, suc, ◌+◌, ◌<◌, ◌≤◌, ℤ, Bool, true, false, cond, List, length, Option, Some, None, refl, sym, ap, ◌∙◌, subst, arith, inl, inr}
use Rattle.std.proofs.lemmas.Bool.{cases_lt}
use Rattle.fx_base.specs.declared.limits.TheConstants.{MOST_NODES}
use Rattle.fx_effect.specs.Laws.{Laws}
use Rattle.fx_effect.specs.Meaning.{Meaning}
use Rattle.fx_effect.specs.Shape.{IsProject}
use Rattle.fx_graph.specs.Shown.{GraphShown}
use Rattle.fx_scene.specs.Depends.{AreImages}
use Rattle.fx_scene.specs.Nodes.{AreNodes, Node, node_components, node_depth}
use Rattle.fx_scene.specs.Scenes.{Images, graph_nodes}
use Rattle.fx_scene.specs.Value.{Pixels}
use Rattle.fx_scene.proofs.NodesLemmas.{are_nodes}
use Rattle.fx_scene.specs.declared.take.Edit.{Edit}
use Rattle.fx_scene.specs.Takes.{AreTakes, ErasTell, IsSameAt, edits_after, era, graph_of_take, is_touched, nodes_at}
use Rattle.fx_scene.proofs.SameOutside.{IsSameOutside, other_way, reach_outside, value_outside, wants_outside}
use Rattle.fx_scene.proofs.TakeLemmas.{nodes_long, same_outside, node_untouched, touched_then, values_same}

module _ {E : Type 0} (meaning : E → Meaning) (g : GraphShown E) (takes : List (List Edit)) where
  abbrev At : ℕ → GraphShown E
  At k = graph_of_take g takes k

  same_itself : (k n : ℕ) → IsSameAt meaning (At k) (At k) n
  same_itself k n =
      record {
        values = λ t. refl;
        depth = λ images. refl;
        components = λ images. refl;
        pixels = λ images are t x y. refl;
        reach = λ images are first last m f h. h;
        wants = λ images are first last m f h. h;
      }

  same_then : (i j k n : ℕ) → IsSameAt meaning (At i) (At j) n → IsSameAt meaning (At j) (At k) n
      → IsSameAt meaning (At i) (At k) n
  same_then i j k n p q =
      record {
        values = λ t. p.values t ∙ q.values t;
        depth = λ images. p.depth images ∙ q.depth images;
        components = λ images. p.components images ∙ q.components images;
        pixels = λ images are t x y. p.pixels images are t x y ∙ q.pixels images are t x y;
        reach = λ images are first last m f h. q.reach images are first last m f (p.reach images are first last m f h);
        wants = λ images are first last m f h. q.wants images are first last m f (p.wants images are first last m f h);
      }

  -- both ways
  abbrev AreSame : ℕ → ℕ → ℕ → Type 0
  AreSame j k n = IsSameAt meaning (At j) (At k) n × IsSameAt meaning (At k) (At j) n

  module _ (laws : (e : E) → Laws (meaning e)) (is : IsProject g.project) (few : length g.nodes ≤ MOST_NODES)
      (are : AreTakes meaning g takes) where
    pub take_few : (k : ℕ) → length (nodes_at g.nodes takes k) ≤ MOST_NODES
    take_few k = let long = nodes_long g.nodes takes k in omega (arith, few, long)

    pub take_nodes : (k : ℕ) (images : Images) → AreImages images → AreNodes (graph_nodes meaning (At k) images)
    take_nodes k images h =
        are_nodes meaning g.project (g.depth, g.components) (nodes_at g.nodes takes k) images laws is (take_few k) h (are k)

    same_step : (k n : ℕ) → touched_then meaning g takes k n ≡ false → AreSame k (suc k) n
    same_step k n out = (forth, back)
      where
        s : ℕ → Bool
        s = touched_then meaning g takes k

        there : (images : Images) → AreImages images
            → IsSameOutside s (graph_nodes meaning (At k) images) (graph_nodes meaning (At (suc k)) images)
        there images h = same_outside meaning g takes k images (take_nodes k images h)

        node_same : (images : Images) → graph_nodes meaning (At k) images n ≡ graph_nodes meaning (At (suc k)) images n
        node_same images = node_untouched meaning g takes k images n out

        forth : IsSameAt meaning (At k) (At (suc k)) n
        forth =
            record {
              values = λ t. values_same meaning g takes k n t out;
              depth = λ images. ap node_depth (node_same images);
              components = λ images. ap node_components (node_same images);
              pixels = λ images h t x y.
                  ap (λ (v : Pixels). v t x y) (value_outside s _ _ (there images h) (take_nodes k images h) (take_nodes (suc k) images h) n out);
              reach = λ images h first last m f r. reach_outside s _ _ (there images h) n first last m f out r;
              wants = λ images h first last m f r. wants_outside s _ _ (there images h) n first last m f out r;
            }

        back : IsSameAt meaning (At (suc k)) (At k) n
        back =
            record {
              values = λ t. sym (values_same meaning g takes k n t out);
              depth = λ images. sym (ap node_depth (node_same images));
              components = λ images. sym (ap node_components (node_same images));
              pixels = λ images h t x y.
                  sym (ap (λ (v : Pixels). v t x y) (value_outside s _ _ (there images h) (take_nodes k images h) (take_nodes (suc k) images h) n out));
              reach = λ images h first last m f r. reach_outside s _ _ (other_way s _ _ (there images h)) n first last m f out r;
              wants = λ images h first last m f r. wants_outside s _ _ (other_way s _ _ (there images h)) n first last m f out r;
            }

    -- ---- eras only rise

    rises : (k n : ℕ) → era g.nodes takes k n ≤ era g.nodes takes (suc k) n
    rises k n = omega arith

    era_up : (n j k : ℕ) → j ≤ k → era g.nodes takes j n ≤ era g.nodes takes k n
    era_up n j zero low = let e : j ≡ 0 = omega (arith, low) in rw e (omega arith)
    era_up n j (suc k) low = elim (cases_lt k j) [
      | inl h ↦ let e : j ≡ suc k = omega (arith, low, h) in rw e (omega arith)
      | inr h ↦ let a = era_up n j k h in let b = rises k n in omega (arith, a, b)
    ]

    -- a take that raises no era touches not
    no_rise : (k n : ℕ) → era g.nodes takes (suc k) n ≡ era g.nodes takes k n → touched_then meaning g takes k n ≡ false
    no_rise k n e = by (is_touched (nodes_at g.nodes takes k) (edits_after takes k) n) refl
      where
        by : (b : Bool) → is_touched (nodes_at g.nodes takes k) (edits_after takes k) n ≡ b
            → is_touched (nodes_at g.nodes takes k) (edits_after takes k) n ≡ false
        by false is = is
        by true is =
            let one : era g.nodes takes (suc k) n ≡ era g.nodes takes k n + 1 = ap (λ (b : Bool). era g.nodes takes k n + cond b 1 0) is in
            absurd (omega (arith, e, one))

    same_up : (n j k : ℕ) → j ≤ k → era g.nodes takes j n ≡ era g.nodes takes k n → AreSame j k n
    same_up n j zero low e = let z : 0 ≡ j = omega (arith, low) in subst (λ (i : ℕ). AreSame i 0 n) z (same_itself 0 n, same_itself 0 n)
    same_up n j (suc k) low e = elim (cases_lt k j) [
      | inl h ↦ let z : suc k ≡ j = omega (arith, low, h) in subst (λ (i : ℕ). AreSame i (suc k) n) z (same_itself (suc k) n, same_itself (suc k) n)
      | inr h ↦
          let a = era_up n j k h in
          let b = rises k n in
          let here : era g.nodes takes j n ≡ era g.nodes takes k n = omega (arith, a, b, e) in
          let p = same_up n j k h here in
          let q = same_step k n (no_rise k n (sym e ∙ here)) in
          (same_then j k (suc k) n p.0 q.0, same_then (suc k) k j n q.1 p.1)
    ]

    pub eras_tell : ErasTell meaning g takes
    eras_tell j k n e = elim (cases_lt j k) [
      | inl h ↦ (same_up n j k (omega (arith, h)) e).0
      | inr h ↦ (same_up n k j h (sym e)).1
    ]
