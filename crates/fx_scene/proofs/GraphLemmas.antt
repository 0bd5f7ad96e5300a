-- What stands at a place of a graph.
use Rattle.std.proofs.Common.{◌≡◌, ℕ, zero, suc, ◌<◌, ◌≤◌, ◌+◌, ℤ, Bool, true, List, [], ◌∷◌, map, length, take, get_or, slice_get, slice_index_or, Option, Some, None, is_some, refl, sym, ap, ◌∙◌, subst, arith, inl, inr}
use Rattle.std.proofs.lemmas.Option.{slice_get-map, slice_get-get_or, none-some}
use Rattle.std.proofs.lemmas.List.{get_or_past, length-map}
use Rattle.std.proofs.lemmas.List.FromFn.{get_or-map-range_with_len, length-map-range_with_len}
use Rattle.std.proofs.lemmas.Slice.Zip.{AllZip-long}
use Rattle.std.proofs.lemmas.Bool.{cases_lt}
use Rattle.std.specs.List.{AllZip}
use Rattle.std.specs.Option.{option_map}
use Rattle.std.specs.BTreeSet.{BTreeSet}
use Rattle.fx_base.specs.Bounds.{Bounds}
use Rattle.fx_base.specs.declared.limits.TheConstants.{MOST_NODES}
use Rattle.fx_params.specs.Parameter.{Parameter}
use Rattle.fx_image.specs.Image.{Image}
use Rattle.fx_effect.specs.declared.action.Context.{Context}
use Rattle.fx_effect.specs.declared.values.Values.{Values}
use Rattle.fx_effect.specs.Meaning.{Meaning}
use Rattle.fx_effect.specs.Shape.{Clip, MayBe, Shape, clip_names, IsProject, IsLawfulIn}
use Rattle.fx_effect.specs.Laws.{Laws}
use Rattle.fx_actions.specs.Clips.{NamesClips, each_clip}
use Rattle.fx_graph.specs.declared.node.Node.{Node as AnyNode}
use Rattle.fx_graph.specs.Shown.{Does, GraphShown, Shown, shown}
use Rattle.fx_graph.specs.Shown as does
use Rattle.fx_graph.specs.Nodes.{Form}
use Rattle.fx_graph.specs.Kept as kept
use Rattle.fx_graph.specs.KeptLaws.{lawful_use}
use Rattle.fx_scene.specs.declared.reaching.NodeFrame.{NodeFrame}
use Rattle.fx_scene.specs.Frames.{frames_of, has_frame, in_some}
use Rattle.fx_scene.specs.Nodes.{AreNodes, Effect, EffectNode, IsFrameImage, Node, Nodes, Source, clip_node}
use Rattle.fx_scene.specs.Reach.{Adds, IsClipRead, IsReadBy, IsTakenBy}
use Rattle.fx_scene.specs.Scenes.{Images, effect_node, graph_nodes, no_images, node_in, node_of, nodes_of, source_node}
use Rattle.fx_scene.proofs.NearLemmas.{frames_listed, listed_frames}
use Rattle.fx_scene.proofs.NodesLemmas.{are_nodes}
use Rattle.fx_scene.proofs.ReachLemmas.{adds_as, adds_none}

-- the node that is indexed
pub shown_at : {E : Type 0} (nodes : List (AnyNode E)) (k : ℕ) (n : AnyNode E) → k < length nodes → n ≡ get_or nodes k n
    → slice_get (map shown nodes) k ≡ Some (shown n)
shown_at nodes k n low is =
    slice_get-map shown nodes k ∙ ap (option_map shown) (slice_get-get_or nodes k n low ∙ ap Some (sym is))

-- what a node is by what it does
pub node_is : {E : Type 0} (meaning : E → Meaning) (g : GraphShown E) (images : Images) (k : ℕ) (n : Shown E) (work : Does E)
    → slice_get g.nodes k ≡ Some n → n.does ≡ work
    → graph_nodes meaning g images k ≡ node_of meaning g.project (images k) n.depth n.components work
unfolding nodes_of
node_is meaning g images k n work there is =
    ap (node_in meaning g.project (images k)) there
    ∙ ap (node_of meaning g.project (images k) n.depth n.components) is

-- the names of clips, and what is kept of them
pub names_long : (s : Shape) (before : ℕ) (c : Context) (clips : List (Option ℕ)) (names : List (List ℕ))
    (optional masks : List Bool) (params : List Parameter) → kept.IsUse s before c clips names optional masks params
    → length names ≡ length clips
names_long s before c clips names optional masks params u =
    let zip = AllZip-long MayBe (s.clips c) (map is_some clips) u.connected in
    let a = length-map clips (λ (o : Option ℕ). is_some o) in
    let b = length-map (s.clips c) (λ (clip : Clip). clip.name) in
    ap (λ (ns : List (List ℕ)). length ns) u.names_are ∙ b ∙ sym zip ∙ a

-- what is kept of an effect
pub use_at : {E : Type 0} (meaning : E → Meaning) (form : Form) (nodes : List (Shown E)) (k : ℕ) (n : Shown E) (e : E)
    (context : Context) (clips : List (Option ℕ)) (names : List (List ℕ)) (optional masks : List Bool)
    (params : List Parameter) → kept.AreNodes meaning form nodes → slice_get nodes k ≡ Some n
    → n.does ≡ does.Effect e context clips names optional masks params
    → kept.IsUse (meaning e).shape (length (take k nodes)) context clips names optional masks params
use_at meaning form nodes k n e context clips names optional masks params are there is =
    (subst (λ (w : Does _). kept.IsDoing meaning form (take k nodes) (n.depth, n.components) w) is (are k n there)).0

-- and of a source
pub source_at : {E : Type 0} (meaning : E → Meaning) (form : Form) (nodes : List (Shown E)) (k : ℕ) (n : Shown E)
    (pattern : List ℕ) (first last : ℕ) (hold : Bool) → kept.AreNodes meaning form nodes → slice_get nodes k ≡ Some n
    → n.does ≡ does.Source pattern first last hold → kept.IsSource pattern first last
source_at meaning form nodes k n pattern first last hold are there is =
    subst (λ (w : Does _). kept.IsDoing meaning form (take k nodes) (n.depth, n.components) w) is (are k n there)

-- the clips of an effect are named
pub names_clips : (s : Shape) (before : ℕ) (c : Context) (clips : List (Option ℕ)) (names : List (List ℕ))
    (optional masks : List Bool) (params : List Parameter) (project : Bounds) (t : ℤ) (values : Values)
    → kept.IsUse s before c clips names optional masks params → IsProject project
    → values ≡ kept.use_values project t clips params → NamesClips s values names
names_clips s before c clips names optional masks params project t values u is v =
    record {
      context = c;
      lawful = subst (λ (w : Values). IsLawfulIn s c w) (sym v) (lawful_use s before c clips names optional masks params project t is u);
      are = u.names_are;
    }

-- what the clips of an effect read, by lists of frames or by spans
clip_taken : (o : EffectNode) (t : ℤ) (names : List (List ℕ)) (reads : List (List ℤ)) (n : ℕ) (f : ℤ)
    → reads ≡ each_clip names (λ c. frames_of (o.meaning.spans (o.values t) c)) → IsClipRead o.clips reads n f → IsTakenBy o t n f
clip_taken o t names reads n f are r =
    let F : ℕ → List ℤ = λ c. frames_of (o.meaning.spans (o.values t) c) in
    let long = ap (λ (fs : List (List ℤ)). length fs) are ∙ length-map-range_with_len F 0 (length names) in
    let there = r.there in
    let same : slice_index_or reads r.clip [] ≡ F r.clip =
    ap (λ (fs : List (List ℤ)). get_or fs r.clip []) are
    ∙ get_or-map-range_with_len F 0 (length names) r.clip r.clip [] (omega (arith, there, long)) (omega arith) in
    record {
      clip = r.clip;
      node = r.node;
      frame = listed_frames (o.meaning.spans (o.values t) r.clip) f (ap (λ (fs : List ℤ). has_frame fs f) (sym same) ∙ r.frame);
    }

taken_clip : (o : EffectNode) (t : ℤ) (names : List (List ℕ)) (reads : List (List ℤ)) (n : ℕ) (f : ℤ)
    → reads ≡ each_clip names (λ c. frames_of (o.meaning.spans (o.values t) c)) → length names ≡ length o.clips
    → IsTakenBy o t n f → IsClipRead o.clips reads n f
taken_clip o t names reads n f are all r =
    let F : ℕ → List ℤ = λ c. frames_of (o.meaning.spans (o.values t) c) in
    let long = ap (λ (fs : List (List ℤ)). length fs) are ∙ length-map-range_with_len F 0 (length names) in
    let low : r.clip < length o.clips = within o.clips r.clip n r.node in
    let same : slice_index_or reads r.clip [] ≡ F r.clip =
    ap (λ (fs : List (List ℤ)). get_or fs r.clip []) are
    ∙ get_or-map-range_with_len F 0 (length names) r.clip r.clip [] (omega (arith, low, all)) (omega arith) in
    record {
      clip = r.clip;
      there = omega (arith, low, all, long);
      node = r.node;
      frame = ap (λ (fs : List ℤ). has_frame fs f) same ∙ frames_listed (o.meaning.spans (o.values t) r.clip) f r.frame;
    }
  where
    within : (clips : List (Option ℕ)) (c m : ℕ) → slice_index_or clips c None ≡ Some m → c < length clips
    within clips c m e = elim (cases_lt c (length clips)) [
      | inl l ↦ l
      | inr g ↦ absurd (none-some m (sym (get_or_past clips c None g) ∙ e))
    ]

-- what is added of an effect
pub effect_adds : {E : Type 0} (meaning : E → Meaning) (g : GraphShown E) (k : ℕ) (n : Shown E) (e : E) (context : Context)
    (clips : List (Option ℕ)) (names : List (List ℕ)) (optional masks : List Bool) (params : List Parameter) (t : ℤ)
    (values : Values) (reads : List (List ℤ)) (old new : BTreeSet NodeFrame)
    → slice_get g.nodes k ≡ Some n → n.does ≡ does.Effect e context clips names optional masks params
    → values ≡ kept.use_values g.project t clips params
    → reads ≡ each_clip names (λ c. frames_of ((meaning e).spans values c)) → length names ≡ length clips
    → Adds (IsClipRead clips reads) old new → Adds (IsReadBy (graph_nodes meaning g no_images k) t) old new
effect_adds meaning g k n e context clips names optional masks params t values reads old new there is v are long a =
    let o : EffectNode = effect_node (meaning e) g.project n.depth n.components context clips params in
    let same = node_is meaning g no_images k n (does.Effect e context clips names optional masks params) there is in
    let read : reads ≡ each_clip names (λ c. frames_of (o.meaning.spans (o.values t) c)) =
    are ∙ ap (λ (w : Values). each_clip names (λ c. frames_of ((meaning e).spans w c))) v in
    subst (λ (node : Node). Adds (IsReadBy node t) old new) (sym same)
    (adds_as (IsClipRead clips reads) (IsTakenBy o t) old new a (λ m f r. clip_taken o t names reads m f read r)
    (λ m f r. taken_clip o t names reads m f read long r))

-- of a source nothing is
pub source_adds : {E : Type 0} (meaning : E → Meaning) (g : GraphShown E) (k : ℕ) (n : Shown E) (pattern : List ℕ)
    (first last : ℕ) (hold : Bool) (t : ℤ) (old : BTreeSet NodeFrame) → slice_get g.nodes k ≡ Some n
    → n.does ≡ does.Source pattern first last hold → Adds (IsReadBy (graph_nodes meaning g no_images k) t) old old
source_adds meaning g k n pattern first last hold t old there is =
    let same = node_is meaning g no_images k n (does.Source pattern first last hold) there is in
    subst (λ (node : Node). Adds (IsReadBy node t) old old) (sym same)
    (adds_none (IsReadBy (Source (source_node (λ f. None) n.depth n.components first last hold)) t) old (λ m f r. r))

no_pictures : (k : ℕ) (f : ℤ) (image : Image) → no_images k f ≡ Some image → IsFrameImage image
no_pictures k f image h = absurd (none-some image h)

-- the nodes of a graph over no images keep what is asked of nodes
pub nodes_are : {E : Type 0} (meaning : E → Meaning) (form : Form) (g : GraphShown E) → ((e : E) → Laws (meaning e))
    → IsProject g.project → length g.nodes ≤ MOST_NODES → kept.AreNodes meaning form g.nodes
    → AreNodes (graph_nodes meaning g no_images)
nodes_are meaning form g laws is few are = are_nodes meaning g.project form g.nodes no_images laws is few no_pictures are

-- what stands at a place within a list
pub some_at : {A : Type 0} (xs : List A) (k : ℕ) → k < length xs → (x : A) × (slice_get xs k ≡ Some x)
some_at [] k low = absurd (omega (arith, low))
some_at (x ∷ xs) zero low = (x, refl)
some_at (x ∷ xs) (suc k) low = some_at xs k (omega (arith, low))
