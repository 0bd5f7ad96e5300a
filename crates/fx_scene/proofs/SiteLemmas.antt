-- Sources and effects in their places of a graph.
use Rattle.std.proofs.Common.{◌≡◌, ℕ, ◌<◌, ℤ, List, [], ◌∷◌, map, length, take, get_or, Bool, refl, sym, ap, ◌∙◌, subst, Option, Some, None, IfSome, is_some, pos, slice_index_or, arith}
use Rattle.std.specs.Prelude.{slice_get}
use Rattle.std.specs.List.{range_with_len}
use Rattle.std.specs.Option.{option_map}
use Rattle.std.specs.declared.alloc.Global.{Global}
use Rattle.std.specs.declared.vec.Vec.{Vec}
use Rattle.std.proofs.lemmas.List.{get_or-map, length-map}
use Rattle.std.proofs.lemmas.Option.{none-some, slice_get_within}
use Rattle.fx_pixel.specs.declared.Components.{Components}
use Rattle.fx_pixel.specs.declared.Components.TheVariants.{Rgba}
use Rattle.fx_image.specs.Stored.{Stored, image_of}
use Rattle.fx_params.specs.Parameter.{Parameter}
use Rattle.fx_effect.specs.Asked.{MayRender}
use Rattle.fx_effect.specs.DefaultLaws.{flag_for_each}
use Rattle.fx_effect.specs.Given.{Given}
use Rattle.fx_effect.specs.Laws.{seen_as}
use Rattle.fx_effect.specs.Meaning.{Meaning}
use Rattle.fx_effect.specs.Shape.{IsLawfulIn, IsProject, Shape, clip_names, is_mask, shown_as, shown_components}
use Rattle.fx_effect.specs.declared.action.Context.{Context}
use Rattle.fx_effect.specs.declared.values.Values.{Values}
use Rattle.fx_actions.specs.Clips.{NamesClips, each_clip}
use Rattle.fx_graph.specs.Kept as graph
use Rattle.fx_graph.specs.Kept.{use_values}
use Rattle.fx_graph.specs.Nodes.{Form}
use Rattle.fx_graph.specs.Shown.{Does, GraphShown, Shown}
use Rattle.fx_graph.specs.Shown as does
use Rattle.fx_seq.specs.declared.store.Store.{Store}
use Rattle.fx_scene.specs.Areas.{image_area, source_area}
use Rattle.fx_scene.specs.Frames.{clip_frames, frames_of, items_of}
use Rattle.fx_scene.specs.Nodes.{AreNodes, Effect, IsEffectNode, IsNode, Source, SourceFrames, seen}
use Rattle.fx_scene.specs.Reach.{IsReadBy}
use Rattle.fx_scene.specs.Scenes.{Images, effect_node, graph_nodes, images_in, node_in, node_of, nodes_of, source_node}
use Rattle.fx_scene.proofs.GraphLemmas.{names_clips, names_long, node_is, use_at}
use Rattle.fx_scene.specs.Sites.{AreReads, IsSourceAt, StandsIn, area_shown, does_by, effect_at, image_shown, seen_in, source_of}
use Rattle.fx_scene.specs.declared.site.EffectNode.{EffectNode}
use Rattle.fx_scene.specs.declared.site.SourceNode.{SourceNode}

-- the nodes of a graph over the frames of a store, by another name of both
pub same_nodes : {E : Type 0} (meaning : E → Meaning) (g h : GraphShown E) (a b : Store) → g ≡ h → a ≡ b
    → graph_nodes meaning g (images_in a) ≡ graph_nodes meaning h (images_in b)
same_nodes meaning g h a b graph store =
    ap (λ (s : GraphShown _). graph_nodes meaning s (images_in a)) graph
    ∙ ap (λ (s : Store). graph_nodes meaning h (images_in s)) store

-- what is read is read over all images
pub reads_same : {E : Type 0} (meaning : E → Meaning) (g : GraphShown E) (a b : Images) (n : ℕ) (t : ℤ) (m : ℕ) (f : ℤ)
    → IsReadBy (graph_nodes meaning g a n) t m f → IsReadBy (graph_nodes meaning g b n) t m f
unfolding nodes_of
reads_same {E} meaning g a b n t m f h = by_node (slice_get g.nodes n) h
  where
    by_work : (node : Shown E) (work : Does E)
        → IsReadBy (node_of meaning g.project (a n) node.depth node.components work) t m f
        → IsReadBy (node_of meaning g.project (b n) node.depth node.components work) t m f
    by_work node (does.Source pattern first last hold) r = absurd r
    by_work node (does.Effect e context clips names optional masks params) r = r

    by_node : (o : Option (Shown E)) → IsReadBy (node_in meaning g.project (a n) o) t m f
        → IsReadBy (node_in meaning g.project (b n) o) t m f
    by_node None r = absurd r
    by_node (Some k) r = by_work k k.does r

-- ---- sources

area_of : (o : Option Stored) → image_area (option_map image_of o) ≡ area_shown o
area_of None = refl
area_of (Some image) = refl

-- the rectangle of what is shown is the source's
pub shown_area : (frames : ℤ → Option Stored) (s : SourceFrames) (o : Option ℤ)
    → s.frames ≡ (λ f. option_map image_of (frames f)) → area_shown (image_shown frames o) ≡ source_area s o
shown_area frames s None is = refl
shown_area frames s (Some f) is =
    sym (ap (λ (v : ℤ → Option _). image_area (v f)) is ∙ area_of (frames f))

-- what is shown is the image of some frame
pub shown_some : (frames : ℤ → Option Stored) (o : Option ℤ) (image : Stored) → image_shown frames o ≡ Some image
    → (g : ℤ) × (o ≡ Some g) × (frames g ≡ Some image)
shown_some frames None image e = absurd (none-some image e)
shown_some frames (Some g) image e = (g, refl, e)

-- ---- clips

map_map : {A B C : Type 0} (f : B → C) (g : A → B) (xs : List A) → map f (map g xs) ≡ map (λ x. f (g x)) xs
map_map f g [] = refl
map_map f g (x ∷ xs) = ap (λ ys. f (g x) ∷ ys) (map_map f g xs)

-- the components of clips by their masks are those in which the effect sees them
pub seen_shown : (s : Shape) (context : Context) (c : Components) (masks : List Bool) → masks ≡ map is_mask (clip_names s context)
    → map (seen_in c) masks ≡ shown_components s context c
seen_shown s context c masks is = ap (map (seen_in c)) is ∙ map_map (seen_in c) is_mask (clip_names s context)

seen_at : (s : Shape) (context : Context) (c : Components) (masks : List Bool) (clip : ℕ)
    → masks ≡ map is_mask (clip_names s context) → clip < length (s.clips context)
    → get_or (map (seen_in c) masks) clip Rgba ≡ seen_as s context c clip
seen_at s context c masks clip is low =
    let names = clip_names s context in
    let named : length names ≡ length (s.clips context) = length-map (s.clips context) (λ clip. clip.name) in
    ap (λ (cs : List Components). get_or cs clip Rgba) (seen_shown s context c masks is)
    ∙ get_or-map (shown_as c) names clip [] Rgba (omega (arith, named, low))

-- as many masks as clips
pub clips_counted : (s : Shape) (before : ℕ) (c : Context) (clips : List (Option ℕ)) (names : List (List ℕ))
    (optional masks : List Bool) (params : List Parameter) → graph.IsUse s before c clips names optional masks params
    → (length clips ≡ length (s.clips c)) × (length masks ≡ length clips)
clips_counted s before c clips names optional masks params u =
    let flags = flag_for_each (s.clips c) (map is_some clips) u.connected in
    let connected = length-map clips (λ (o : Option ℕ). is_some o) in
    let named = length-map (s.clips c) (λ clip. clip.name) in
    let mask = ap (λ (bs : List Bool). length bs) u.masks_are in
    let each = length-map (clip_names s c) is_mask in
    (omega (arith, flags, connected), omega (arith, flags, connected, named, mask, each))

-- ---- what stands at a place

-- its place is one of the graph's
pub place_below : {E : Type 0} (g : GraphShown E) (n : EffectNode E) → StandsIn g n → n.place < length g.nodes
place_below g n at = slice_get_within g.nodes n.place at.node at.there

module _ {E : Type 0} (meaning : E → Meaning) (g : GraphShown E) where
  -- a source in the list of nodes
  pub source_is : (images : Images) (place : ℕ) (s : SourceNode) → IsSourceAt g place s
      → graph_nodes meaning g images place ≡ Source (source_of images place s)
  source_is images place s at =
      node_is meaning g images place at.node (does.Source at.pattern s.first s.last s.hold) at.there at.does
      ∙ ap (λ d. Source (source_node (images place) d at.node.components s.first s.last s.hold)) at.depth
      ∙ ap (λ c. Source (source_node (images place) s.depth c s.first s.last s.hold)) at.components

  -- it is an effect in the list of nodes
  pub effect_is : (images : Images) (n : EffectNode E) → StandsIn g n
      → graph_nodes meaning g images n.place ≡ Effect (effect_at meaning g.project n)
  effect_is images n at =
      node_is meaning g images n.place at.node (does_by n) at.there at.does
      ∙ ap (λ d. Effect (effect_node (meaning n.effect.now) g.project d at.node.components n.context n.clips.now n.params.now)) at.depth
      ∙ ap (λ c. Effect (effect_node (meaning n.effect.now) g.project n.depth c n.context n.clips.now n.params.now)) at.components

  pub effect_in : (images : Images) (place : ℕ) (n : EffectNode E) → n.place ≡ place → StandsIn g n
      → graph_nodes meaning g images place ≡ Effect (effect_at meaning g.project n)
  effect_in images place n same at = ap (graph_nodes meaning g images) (sym same) ∙ effect_is images n at

  pub is_effect : (images : Images) → AreNodes (graph_nodes meaning g images) → (n : EffectNode E) → StandsIn g n
      → IsEffectNode n.place (effect_at meaning g.project n)
  is_effect images are n at = subst (IsNode n.place) (effect_is images n at) (are n.place)

  module _ (form : Form) (kept : graph.AreNodes meaning form g.nodes) where
    -- what the graph keeps of it
    pub is_use : (n : EffectNode E) (at : StandsIn g n)
        → graph.IsUse (meaning n.effect.now).shape (length (take n.place g.nodes)) n.context n.clips.now n.names.now n.optional.now n.masks.now n.params.now
    is_use n at =
        use_at meaning form g.nodes n.place at.node n.effect.now n.context n.clips.now n.names.now n.optional.now n.masks.now n.params.now
        kept at.there at.does

    -- its clips' names
    pub has_names : IsProject g.project → (n : EffectNode E) → StandsIn g n → (t : ℤ) (v : Values)
        → v ≡ use_values g.project t n.clips.now n.params.now → NamesClips (meaning n.effect.now).shape v n.names.now
    has_names project n at t v is =
        names_clips (meaning n.effect.now).shape _ n.context n.clips.now n.names.now n.optional.now n.masks.now n.params.now g.project t v
        (is_use n at) project is

    -- as many as clips
    pub names_counted : (n : EffectNode E) → StandsIn g n → length n.names.now ≡ length n.clips.now
    names_counted n at =
        names_long (meaning n.effect.now).shape _ n.context n.clips.now n.names.now n.optional.now n.masks.now n.params.now (is_use n at)

    -- the frames that are needed by the names of its clips are those of its clips
    pub are_reads : (n : EffectNode E) → StandsIn g n → (t : ℤ) (v : Values) (reads : List (Vec ℤ Global))
        → v ≡ use_values g.project t n.clips.now n.params.now
        → map items_of reads ≡ each_clip n.names.now (λ c. frames_of ((meaning n.effect.now).spans v c))
        → AreReads (effect_at meaning g.project n) t reads
    are_reads n at t v reads is are =
        let o = effect_at meaning g.project n in
        are ∙ ap (λ (w : Values). each_clip n.names.now (λ c. frames_of ((meaning n.effect.now).spans w c))) is
        ∙ ap (λ (k : ℕ). map (clip_frames o t) (range_with_len 0 k)) (names_counted n at)

    -- few clips, each of an earlier node
    pub few_clips : (images : Images) → AreNodes (graph_nodes meaning g images) → (n : EffectNode E) → StandsIn g n
        → length n.clips.now < 65536
    few_clips images are n at =
        let i = is_effect images are n at in
        let s = (meaning n.effect.now).shape in
        let flags = flag_for_each (s.clips n.context) (map is_some n.clips.now) (is_use n at).connected in
        let connected = length-map n.clips.now (λ (o : Option ℕ). is_some o) in
        let few = (i.laws.shape.contexts n.context (i.lawful (pos 0)).supported).few_clips in
        omega (arith, flags, connected, few)

    pub clip_below : (images : Images) → AreNodes (graph_nodes meaning g images) → (n : EffectNode E) (at : StandsIn g n)
        → (c : ℕ) → IfSome (slice_index_or n.clips.now c None) (λ m. m < length g.nodes)
    clip_below images are n at c = by_clip (slice_index_or n.clips.now c None) refl
      where
        by_clip : (o : Option ℕ) → slice_index_or n.clips.now c None ≡ o → IfSome o (λ m. m < length g.nodes)
        by_clip None e = tt
        by_clip (Some m) e =
            let low = (is_effect images are n at).earlier c m e in
            let there = slice_get_within g.nodes n.place at.node at.there in
            omega (arith, low, there)

    -- the components in which it sees its clips
    pub sees : (n : EffectNode E) → StandsIn g n → (clip : ℕ) → clip < length n.clips.now
        → get_or (map (seen_in n.components) n.masks.now) clip Rgba ≡ seen (effect_at meaning g.project n) clip
    sees n at clip low =
        let u = is_use n at in
        let s = (meaning n.effect.now).shape in
        let counted = clips_counted s _ n.context n.clips.now n.names.now n.optional.now n.masks.now n.params.now u in
        let clips = counted.0 in
        seen_at s n.context n.components n.masks.now clip u.masks_are (omega (arith, clips, low))

    -- it may be asked to render what shows its clips
    pub may_render : (images : Images) → AreNodes (graph_nodes meaning g images) → (n : EffectNode E) → StandsIn g n
        → (v : Values) (given : Given) → v ≡ use_values g.project v.frame n.clips.now n.params.now → given.depth ≡ n.depth
        → given.components ≡ map (seen_in n.components) n.masks.now
        → (may : MayRender (meaning n.effect.now).shape v given n.depth n.components) × (may.context ≡ n.context)
    may_render images are n at v given is depth components =
        let i = is_effect images are n at in
        let s = (meaning n.effect.now).shape in (
          record {
            context = n.context;
            lawful = subst (λ (w : Values). IsLawfulIn s n.context w) (sym is) (i.lawful v.frame);
            supported = i.supported;
            depth_is = depth;
            clips = components ∙ seen_shown s n.context n.components n.masks.now (is_use n at).masks_are;
          },
          refl,
        )

    -- as many masks as clips
    pub masks_counted : (n : EffectNode E) → StandsIn g n → length n.masks.now ≡ length n.clips.now
    masks_counted n at =
        let s = (meaning n.effect.now).shape in
        (clips_counted s _ n.context n.clips.now n.names.now n.optional.now n.masks.now n.params.now (is_use n at)).1
