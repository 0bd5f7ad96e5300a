-- What stands at the places of a graph.
use Rattle.std.proofs.Common.{◌≡◌, ℕ, zero, suc, [], ◌∷◌, ◌<◌, ◌≤◌, ℤ, List, map, length, take, refl, sym, ap, ◌∙◌, subst, Option, Some, None, is_some, All, IfSome, arith, slice_get, slice_index_or, option_map}
use Rattle.std.proofs.lemmas.Option.{slice_get_within}
use Rattle.std.proofs.lemmas.List.Elements.{All-head, All-tail}
use Rattle.std.proofs.lemmas.List.{length-take-le}
use Rattle.fx_base.specs.Bounds.{Bounds}
use Rattle.fx_base.specs.declared.limits.TheConstants.{MOST_NODES}
use Rattle.fx_pixel.specs.declared.Depth.{Depth}
use Rattle.fx_pixel.specs.declared.Components.{Components}
use Rattle.fx_image.specs.Image.{Image}
use Rattle.fx_effect.specs.Shape.{IsProject, IsShape}
use Rattle.fx_effect.specs.Meaning.{Meaning}
use Rattle.fx_effect.specs.Laws.{Laws}
use Rattle.fx_graph.specs.Shown.{Does, Shown}
use Rattle.fx_graph.specs.Shown as does
use Rattle.fx_graph.specs.Nodes.{Form}
use Rattle.fx_graph.specs.Kept as kept
use Rattle.fx_graph.specs.KeptLaws.{lawful_node, renders_node}
use Rattle.fx_scene.specs.Nodes.{Node, Nodes, Source, Effect, EffectNode, IsEffectNode, IsNode, AreNodes, IsFrameImage, clip_node}
use Rattle.fx_scene.specs.Scenes.{Images, node_of, node_in, nodes_of}

-- a clip that is connected is an earlier node
earlier_at : (n : ℕ) (clips : List (Option ℕ)) (c m : ℕ) → All (λ clip. IfSome clip (λ m. m < n)) clips
    → slice_index_or clips c None ≡ Some m → m < n
earlier_at n [] c m all is = absurd cc
earlier_at n (clip ∷ clips) zero m all is =
    subst (λ (o : Option ℕ). IfSome o (λ m. m < n)) is (All-head (λ o. IfSome o (λ m. m < n)) clip clips all)
earlier_at n (clip ∷ clips) (suc c) m all is =
    earlier_at n clips c m (All-tail (λ o. IfSome o (λ m. m < n)) clip clips all) is

pub is_node : {E : Type 0} (meaning : E → Meaning) (project : Bounds) (form : Form) (before : List (Shown E))
    (frames : ℤ → Option Image) (d : Depth) (c : Components) (work : Does E)
    → ((e : E) → Laws (meaning e)) → IsProject project → length before ≤ MOST_NODES
    → ((f : ℤ) (image : Image) → frames f ≡ Some image → IsFrameImage image)
    → kept.IsDoing meaning form before (d, c) work
    → IsNode (length before) (node_of meaning project frames d c work)
is_node meaning project form before frames d c (does.Source pattern first last hold) laws is few pictures h = pictures
is_node meaning project form before frames d c (does.Effect e context clips names optional masks params) laws is few pictures h =
    record {
      laws = laws e;
      lawful = λ t. lawful_node meaning form before project t (d, c) (does.Effect e context clips names optional masks params) is h;
      supported = renders_node meaning form before (d, c) (does.Effect e context clips names optional masks params) (λ e. (laws e).shape) h;
      frame = λ t. refl;
      connected = λ t. refl;
      earlier = λ clip m. earlier_at (length before) clips clip m h.0.earlier;
      few = few;
    }

node_at : {E : Type 0} (meaning : E → Meaning) (project : Bounds) (form : Form) (nodes : List (Shown E))
    (images : Images) → ((e : E) → Laws (meaning e)) → IsProject project → length nodes ≤ MOST_NODES
    → ((k : ℕ) (f : ℤ) (image : Image) → images k f ≡ Some image → IsFrameImage image)
    → kept.AreNodes meaning form nodes → (k : ℕ) (o : Option (Shown E)) → slice_get nodes k ≡ o
    → IsNode k (node_in meaning project (images k) o)
node_at meaning project form nodes images laws is few pictures kept k None e = λ f image h. absurd cc
node_at meaning project form nodes images laws is few pictures kept k (Some n) e =
    let low = slice_get_within nodes k n e in
    let same : length (take k nodes) ≡ k = length-take-le k nodes (omega (arith, low)) in
    subst (λ (j : ℕ). IsNode j (node_of meaning project (images k) n.depth n.components n.does)) same
    (is_node meaning project form (take k nodes) (images k) n.depth n.components n.does laws is (omega (arith, same, low, few)) (pictures k) (kept k n e))

-- the nodes of a graph keep what is asked of a list of nodes
pub are_nodes : {E : Type 0} (meaning : E → Meaning) (project : Bounds) (form : Form) (nodes : List (Shown E))
    (images : Images) → ((e : E) → Laws (meaning e)) → IsProject project → length nodes ≤ MOST_NODES
    → ((k : ℕ) (f : ℤ) (image : Image) → images k f ≡ Some image → IsFrameImage image)
    → kept.AreNodes meaning form nodes → AreNodes (nodes_of meaning project nodes images)
unfolding nodes_of
are_nodes meaning project form nodes images laws is few pictures kept k =
    node_at meaning project form nodes images laws is few pictures kept k (slice_get nodes k) refl
