-- What is found where it stands may be shown or rendered.
use Rattle.std.proofs.Common.{◌≡◌, ◌≢◌, ℕ, ◌≤◌, ℤ, List, [], ◌∷◌, map, refl, arith, sym, ap, ◌∙◌, subst, Option, Some, None, All, inl, inr, ◌⊎◌}
use Rattle.std.specs.Prelude.{slice_get, option_map, count_by}
use Rattle.std.proofs.lemmas.List.Elements.{All-nil, All-cons, All-head, All-tail}
use Rattle.fx_base.specs.Bounds.{Bounds}
use Rattle.fx_base.specs.declared.limits.TheConstants.{MOST_SIDE}
use Rattle.fx_base.specs.Rect.{IsWithin}
use Rattle.fx_base.proofs.RectLemmas.{IsProper, IsProper-from_rect}
use Rattle.fx_core.proofs.Counting.{count_by-is, count-map}
use Rattle.fx_image.specs.Image.{Image}
use Rattle.fx_image.specs.Stored.{Stored, image_of}
use Rattle.fx_effect.specs.Meaning.{Meaning}
use Rattle.fx_graph.specs.Shown.{Does, GraphShown, Shown}
use Rattle.fx_graph.specs.Shown as does
use Rattle.fx_seq.specs.Held.{held}
use Rattle.fx_seq.specs.declared.store.Store.{Store}
use Rattle.fx_scene.specs.Nodes.{Node, Source, Effect, SourceFrames}
use Rattle.fx_scene.specs.Scenes.{Images, graph_nodes, images_in, node_in, node_of, nodes_of}
use Rattle.fx_region.specs.declared.ends.End.{End}
use Rattle.fx_region.specs.declared.ends.End.TheVariants as code
use Rattle.fx_region.specs.declared.ends.Need.{Need}
use Rattle.fx_region.specs.Counts.{is_asked}
use Rattle.fx_region.specs.Ends.{Void, end_shown}
use Rattle.fx_region.specs.Needs.{NeedShown, need_shown}
use Rattle.fx_scene.specs.Sites.{scene_nodes}
use Rattle.fx_region.specs.Stands.{NeedStands, StandsBelow}
use Rattle.fx_tile.specs.Founds.{IsFoundIn, IsOfFrame}
use Rattle.fx_tile.specs.declared.setup.Setup.{Setup}
use Rattle.fx_tile.specs.Setups.{IsReady, IsShown, renders_of}
use Rattle.fx_tile.specs.Tiles.{IsSmall}
use Rattle.fx_tile.proofs.NeedLemmas.{IsNeedIn}
use Rattle.fx_tile.proofs.SizeLemmas.{small_within}

-- ---- the images of a source are those of the store

some_same : {X : Type 0} (a b : X) → Some a ≡ Some b → a ≡ b
some_same a b h = cc

no_some : {X : Type 0} (a : X) → None ≡ Some a → ⊥
no_some a h = cc

abbrev frames_of_node : Node → ℤ → Option Image
frames_of_node (Source s) f = s.frames f
frames_of_node (Effect o) f = None

module _ {E : Type 0} (meaning : E → Meaning) (g : GraphShown E) (images : Images) (k : ℕ) (f : ℤ) (image : Image) where
  work_frames : (node : Shown E) (work : Does E)
      → frames_of_node (node_of meaning g.project (images k) node.depth node.components work) f ≡ Some image
      → images k f ≡ Some image
  work_frames node (does.Source pattern first last hold) e = e
  work_frames node (does.Effect e' context clips names optional masks params) e = absurd (no_some image e)

  node_frames : (o : Option (Shown E)) → frames_of_node (node_in meaning g.project (images k) o) f ≡ Some image
      → images k f ≡ Some image
  node_frames None e = absurd (no_some image e)
  node_frames (Some node) e = work_frames node node.does e

  all_frames : frames_of_node (graph_nodes meaning g images k) f ≡ Some image → images k f ≡ Some image
  unfolding nodes_of
  all_frames e = node_frames (slice_get g.nodes k) e

  pub frames_are : (s : SourceFrames) → graph_nodes meaning g images k ≡ Source s → s.frames f ≡ Some image
      → images k f ≡ Some image
  frames_are s there e = all_frames (ap (λ (n : Node). frames_of_node n f) there ∙ e)

-- the stored image of what a store shows
pub record IsStoredAs (o : Option Stored) (image : Image) : Type 0 where
  pub stored : Stored
  pub there : o ≡ Some stored
  pub same : image_of stored ≡ image

stored_as : (o : Option Stored) (image : Image) → option_map image_of o ≡ Some image → IsStoredAs o image
stored_as None image e = absurd (no_some image e)
stored_as (Some s) image e = record { stored = s; there = refl; same = some_same (image_of s) image e }

-- ---- ends

small_either : (q r : Bounds) → IsProper q → IsSmall r → IsWithin q r ⊎ IsSmall q → IsSmall q
small_either q r proper small (inl inside) = small_within q r proper inside small
small_either q r proper small (inr own) = own

module _ {E : Type 0} {c e : _} (meaning : E → Meaning) (setup : Setup E c e) (store : setup.scene.now.store ≡ setup.store.now) where
  frame_ready : (r : Bounds) (m : ℕ) (f : ℤ) (q : Bounds) → IsOfFrame (scene_nodes meaning setup.scene.now) r m f q
      → IsShown meaning setup m f q
  frame_ready r m f q found =
      let s = setup.scene.now.store in
      let at = frames_are meaning setup.scene.now.graph (images_in s) m f found.image found.source found.there found.shown in
      let is = stored_as (held s m f) found.image at in
      record {
        source = found.source;
        there = found.there;
        image = is.stored;
        is_held = subst (λ (z : Store). held z m f ≡ Some is.stored) store is.there;
        frame_is = found.shown ∙ ap (λ (i : Image). Some i) (sym is.same);
        window = found.window;
        within = subst (λ (i : Image). IsWithin q i.rect) (sym is.same) found.within;
      }

  pub end_ready : (n : ℕ) (r : Bounds) (end : End) → IsSmall r
      → StandsBelow (scene_nodes meaning setup.scene.now) setup.regions.now n (end_shown end)
      → IsFoundIn (scene_nodes meaning setup.scene.now) r (end_shown end) → IsReady meaning setup n end
  end_ready n r code.Void small stands found = tt
  end_ready n r (code.Frame m f q through) small stands found = frame_ready r m f q found
  end_ready n r (code.Render m f q cut through) small stands found =
      let size = small_either q r (IsProper-from_rect q found.window.bounds stands.some) small found.size in (
        stands.earlier,
        record {
          effect = found.effect;
          there = found.there;
          reached = stands.reached;
          region_is = record { some = stands.some; window = found.window; small = size };
          within = stands.inside;
          whole = found.whole;
        },
        stands.holds,
      )

  need_ready : (n count side : ℕ) (need : Need) → side ≤ MOST_SIDE
      → NeedStands (scene_nodes meaning setup.scene.now) setup.regions.now n (need_shown need)
      → IsNeedIn (scene_nodes meaning setup.scene.now) count side (need_shown need) → IsReady meaning setup n need.end
  need_ready n count side need few stands is =
      let w = is.wide in let h = is.high in
      end_ready n is.tile need.end (omega (arith, w, few), omega (arith, h, few)) stands is.found

  pub needs_ready : (n count side : ℕ) (needs : List Need) → side ≤ MOST_SIDE
      → All (NeedStands (scene_nodes meaning setup.scene.now) setup.regions.now n) (map need_shown needs)
      → All (IsNeedIn (scene_nodes meaning setup.scene.now) count side) (map need_shown needs)
      → All (λ need. IsReady meaning setup n need.end) needs
  needs_ready n count side [] few stands are = All-nil (λ (need : Need). IsReady meaning setup n need.end)
  needs_ready n count side (x ∷ xs) few stands are =
      let nodes = scene_nodes meaning setup.scene.now in
      let S = NeedStands nodes setup.regions.now n in
      let I = IsNeedIn nodes count side in
      All-cons (λ (need : Need). IsReady meaning setup n need.end) x xs
      (need_ready n count side x few (All-head S (need_shown x) (map need_shown xs) stands) (All-head I (need_shown x) (map need_shown xs) are))
      (needs_ready n count side xs few (All-tail S (need_shown x) (map need_shown xs) stands) (All-tail I (need_shown x) (map need_shown xs) are))

-- ---- needs one by one

pub all_shown : (P : NeedShown → Type 0) (Q : Need → Type 0) → ((need : Need) → P (need_shown need) → Q need) → (needs : List Need)
    → All P (map need_shown needs) → All Q needs
all_shown P Q h [] all = All-nil Q
all_shown P Q h (x ∷ xs) all =
    All-cons Q x xs (h x (All-head P (need_shown x) (map need_shown xs) all))
    (all_shown P Q h xs (All-tail P (need_shown x) (map need_shown xs) all))

shown_void : (end : End) → end ≡ code.Void → end_shown end ≡ Void
shown_void end e = ap end_shown e

pub need_some : (nodes : _) (count side : ℕ) (need : Need) → IsNeedIn nodes count side (need_shown need) → need.end ≢ code.Void
need_some nodes count side need is e = is.some (shown_void need.end e)

-- as many renders among them
pub renders_are : (needs : List Need) (shown : List NeedShown) → map need_shown needs ≡ shown
    → renders_of needs ≡ count_by (λ n. is_asked n.end) shown
renders_are needs shown is =
    let T : NeedShown → _ = λ n. is_asked n.end in
    count_by-is (λ (n : Need). is_asked (end_shown n.end)) needs
    ∙ sym (count-map T need_shown needs) ∙ sym (count_by-is T (map need_shown needs))
    ∙ ap (λ (ns : List NeedShown). count_by T ns) is
