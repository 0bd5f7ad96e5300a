-- An image that is right at one take is right, and stays right.
use Rattle.std.proofs.Common.{◌≡◌, ℕ, ◌≤◌, ℤ, List, length, Option, Some, None, IsSome, is_some, slice_get, refl, sym, ap, ◌∙◌, subst, arith}
use Rattle.std.proofs.lemmas.Bool.{false≢true}
use Rattle.std.proofs.lemmas.Int.{ints}
use Rattle.std.proofs.lemmas.Option.{none-some}
use Rattle.fx_base.specs.declared.limits.TheConstants.{MOST_NODES}
use Rattle.fx_effect.specs.Laws.{Laws}
use Rattle.fx_effect.specs.Meaning.{Meaning}
use Rattle.fx_effect.specs.Shape.{IsProject}
use Rattle.fx_graph.specs.Shown.{Does, GraphShown, Shown}
use Rattle.fx_graph.specs.Shown as does
use Rattle.fx_image.specs.Image.{Image}
use Rattle.fx_image.specs.Stored.{Stored}
use Rattle.fx_scene.specs.declared.key.Key.{Key}
use Rattle.fx_scene.specs.Depends.{AgreeOnWanted, AreImages, AreSame}
use Rattle.fx_scene.specs.Nodes.{components_at, depth_at, node_components, node_depth}
use Rattle.fx_scene.specs.Scenes.{Images, graph_nodes, no_images, node_in, node_of, nodes_of}
use Rattle.fx_scene.specs.Wants.{IsWanted}
use Rattle.fx_scene.proofs.DependLemmas.{value_depends}
use Rattle.fx_scene.specs.declared.take.Edit.{Edit}
use Rattle.fx_scene.specs.Right.{HasGrown, HasWanted, IsRightAt, IsRightTile, IsTile, RightByOne, RightStays}
use Rattle.fx_scene.specs.Takes.{AreTakes, IsSameAt, era, graph_of_take, nodes_at}
use Rattle.fx_scene.proofs.EraLemmas.{eras_tell, take_few}

pub none_are : AreImages no_images
none_are k f image h = absurd (none-some image h)

module _ {E : Type 0} (meaning : E → Meaning) where
  -- over a graph in which the node is the same
  right_same : (g h : GraphShown E) (images : Images) (key : Key) (image : Stored) → AreImages images
      → IsSameAt meaning g h key.node → IsSameAt meaning h g key.node → IsRightAt meaning g images key image
      → IsRightAt meaning h images key image
  right_same g h images key image are to from r =
      record {
        values = r.values ∙ to.values key.frame;
        fetched = λ k f w. r.fetched k f (from.wants no_images none_are key.frame key.frame k f w);
        tile = record {
          rect = r.tile.rect;
          depth = r.tile.depth ∙ to.depth images;
          components = r.tile.components ∙ to.components images;
          pixels = λ x y inside. r.tile.pixels x y inside ∙ to.pixels images are key.frame x y;
        };
      }

  -- ---- more frames

  work_components : (g : GraphShown E) (p q : ℤ → Option Image) (n : Shown E) (work : Does E)
      → node_components (node_of meaning g.project p n.depth n.components work)
      ≡ node_components (node_of meaning g.project q n.depth n.components work)
  work_components g p q n (does.Source pattern first last hold) = refl
  work_components g p q n (does.Effect e context clips names optional masks params) = refl

  work_depth : (g : GraphShown E) (p q : ℤ → Option Image) (n : Shown E) (work : Does E)
      → node_depth (node_of meaning g.project p n.depth n.components work)
      ≡ node_depth (node_of meaning g.project q n.depth n.components work)
  work_depth g p q n (does.Source pattern first last hold) = refl
  work_depth g p q n (does.Effect e context clips names optional masks params) = refl

  pub same_depth : (g : GraphShown E) (a b : Images) (k : ℕ)
      → depth_at (graph_nodes meaning g a) k ≡ depth_at (graph_nodes meaning g b) k
  unfolding nodes_of
  same_depth g a b k = by (slice_get g.nodes k)
    where
      by : (o : Option (Shown E)) → node_depth (node_in meaning g.project (a k) o) ≡ node_depth (node_in meaning g.project (b k) o)
      by None = refl
      by (Some n) = work_depth g (a k) (b k) n n.does

  pub same_components : (g : GraphShown E) (a b : Images) (k : ℕ)
      → components_at (graph_nodes meaning g a) k ≡ components_at (graph_nodes meaning g b) k
  unfolding nodes_of
  same_components g a b k = by (slice_get g.nodes k)
    where
      by : (o : Option (Shown E)) → node_components (node_in meaning g.project (a k) o) ≡ node_components (node_in meaning g.project (b k) o)
      by None = refl
      by (Some n) = work_components g (a k) (b k) n n.does

  still_some : (a b : Option Image) → ((i : Image) → a ≡ Some i → b ≡ Some i) → IsSome a → IsSome b
  still_some None b h some = absurd (false≢true some)
  still_some (Some i) b h some = ap is_some (h i refl)

  pub same_some : (a b : Option Image) → ((i : Image) → a ≡ Some i → b ≡ Some i) → IsSome a → AreSame a b
  same_some None b h some = absurd (false≢true some)
  same_some (Some i) b h some =
      subst (λ (o : Option Image). AreSame (Some i) o) (sym (h i refl))
      (record { rect = refl; depth = refl; components = refl; pixels = λ x y. refl })

  module _ (g : GraphShown E) (takes : List (List Edit)) (laws : (e : E) → Laws (meaning e)) (is : IsProject g.project)
      (few : length g.nodes ≤ MOST_NODES) (are : AreTakes meaning g takes) where
    pub right_by_one : RightByOne meaning g takes
    right_by_one images k key image pictures low here right =
        record {
          some = (k, low, here);
          each = λ j high there.
              right_same (graph_of_take g takes k) (graph_of_take g takes j) images key image pictures
              (eras_tell meaning g takes laws is few are k j key.node (here ∙ sym there))
              (eras_tell meaning g takes laws is few are j k key.node (there ∙ sym here)) right;
        }

    pub right_more : (k : ℕ) (old new : Images) (key : Key) (image : Stored) → AreImages old → AreImages new
        → HasGrown old new → IsRightAt meaning (graph_of_take g takes k) old key image
        → IsRightAt meaning (graph_of_take g takes k) new key image
    right_more k old new key image is_old is_new grown r =
        let h = graph_of_take g takes k in
        let agree : AgreeOnWanted meaning h key.node key.frame key.frame old new = λ m f w.
        same_some (old m f) (new m f) (grown m f) (r.fetched m f w) in
        record {
          values = r.values;
          fetched = λ m f w. still_some (old m f) (new m f) (grown m f) (r.fetched m f w);
          tile = record {
            rect = r.tile.rect;
            depth = r.tile.depth ∙ same_depth h old new key.node;
            components = r.tile.components ∙ same_components h old new key.node;
            pixels = λ x y inside.
                r.tile.pixels x y inside
                ∙ value_depends meaning h (g.depth, g.components) laws is (take_few meaning g takes laws is few are k) (are k)
                key.node key.frame key.frame old new is_old is_new agree key.frame x y (omega (arith, ints)) (omega (arith, ints));
          };
        }

    pub right_stays : RightStays meaning g takes
    right_stays old new key image is_old is_new grown right =
        record {
          some = right.some;
          each = λ k low here. right_more k old new key image is_old is_new grown (right.each k low here);
        }
