-- The values of an accepted list's nodes are what the nodes show.
use Rattle.std.proofs.Common.{◌≡◌, refl, ap, ap₂, sym, ◌∙◌, subst, ℕ, ℤ, zero, suc, ◌+◌, ◌<◌, arith, Bool, true, false, List, [], ◌∷◌, ◌++◌, length, map, Option, Some, None, is_some, bytes_eq, cond, if◌then◌else◌, find, slice_get, slice_index_or, All, IfSome}
use mathlib.Core.Path.{fun_ext}
use Rattle.std.proofs.Math.ListN.{get_or-map}
use Rattle.std.proofs.lemmas.List.Elements.{All-cons, All-head, All-nil, All-tail}
use Rattle.std.proofs.lemmas.List.{length-map}
use Rattle.std.specs.Option.{option_map, option_and_then, option_flatten}
use Rattle.fx_base.specs.Bounds.{Bounds}
use Rattle.fx_pixel.specs.declared.Depth.{Depth}
use Rattle.fx_pixel.specs.declared.Depth.TheVariants as depths
use Rattle.fx_pixel.specs.declared.Components.{Components}
use Rattle.fx_pixel.specs.declared.Pixel.{Pixel}
use Rattle.fx_pixel.specs.Pixel.{convert}
use Rattle.fx_image.specs.Image.{Image}
use Rattle.fx_params.specs.Parameter.{Parameter, value_at}
use Rattle.fx_text.specs.Raw.{Project}
use Rattle.fx_text.specs.declared.value.RawClip.{RawClip}
use Rattle.fx_text.specs.declared.value.RawParam.{RawParam}
use Rattle.fx_prefs.specs.Prefs.{Input, negotiated}
use Rattle.fx_effect.specs.declared.action.Context.{Context}
use Rattle.fx_effect.specs.Laws.{seen_as}
use Rattle.fx_effect.specs.Meaning.{Meaning, mixed}
use Rattle.fx_effect.specs.Shape.{Clip, clip_names, is_mask}
use Rattle.fx_effect.specs.Tap.{Tap}
use Rattle.fx_graph.specs.Graphs.{extent, form}
use Rattle.fx_graph.specs.Nodes.{Form, form_at, form_of, has_alpha, has_depth, inputs_of, node_at, place_of}
use Rattle.fx_graph.specs.Params.{param_of}
use Rattle.fx_graph.specs.Shown.{Does, Shown, names_of}
use Rattle.fx_graph.specs.Shown as does
use Rattle.fx_graph.specs.Uses.{connection}
use Rattle.fx_scene.specs.Nodes.{Effect, Node, Nodes, components_at, depth_at, node_components, node_depth}
use Rattle.fx_scene.specs.Scenes.{Images, effect_node, node_in, node_of}
use Rattle.fx_scene.specs.Table.{below}
use Rattle.fx_scene.specs.Value.{Pixels, clip_value, no_pixels, node_value, value}
use Rattle.fx_scene.proofs.GraphLemmas.{some_at}
use Rattle.fx_scene.proofs.TableLemmas.{below_is}
use Rattle.fx_group.specs.Names.{look}
use Rattle.fx_group.specs.Instances.{Values, shown}
use Rattle.fx_group.specs.Shades.{Shade, clip_pixel, clip_shade, effect_shade, form_shown, forms_shown, mix_shade}
use Rattle.fx_group.proofs.Placed.{place_below, place_first}

-- ---- nodes by their places

-- what the node at a place shows
abbrev pub shade_at : Nodes → ℕ → Shade
shade_at nodes k = record { depth = depth_at nodes k; components = components_at nodes k; pixel = value nodes k }

-- what these nodes show that stand from a place on, each under its name
abbrev pub shades_from : {E : Type 0} → Nodes → ℕ → List (Shown E) → Values Shade
shades_from nodes k [] = []
shades_from nodes k (n ∷ ns) = (n.name, shade_at nodes k) ∷ shades_from nodes (suc k) ns

pub shades_more : {E : Type 0} (nodes : Nodes) (k : ℕ) (ns : List (Shown E)) (n : Shown E)
    → shades_from nodes k (ns ++ n ∷ []) ≡ shades_from nodes k ns ++ (n.name, shade_at nodes (k + length ns)) ∷ []
shades_more nodes k [] n = ap (λ j. (n.name, shade_at nodes j) ∷ []) (omega arith)
shades_more nodes k (m ∷ ns) n =
    let same : suc k + length ns ≡ k + suc (length ns) = omega arith in
    ap (λ es. (m.name, shade_at nodes k) ∷ es)
    (shades_more nodes (suc k) ns n ∙ ap (λ j. shades_from nodes (suc k) ns ++ (n.name, shade_at nodes j) ∷ []) same)

pub shade_of_place : {E : Type 0} (nodes : Nodes) (k : ℕ) (ns : List (Shown E)) (j : ℕ)
    → slice_get (shades_from nodes k ns) j ≡ option_map (λ n. (n.name, shade_at nodes (k + j))) (slice_get ns j)
shade_of_place nodes k [] j = refl
shade_of_place nodes k (n ∷ ns) zero =
    let same : k ≡ k + 0 = omega arith in
    ap (λ i. Some (n.name, shade_at nodes i)) same
shade_of_place nodes k (n ∷ ns) (suc j) =
    let same : suc k + j ≡ k + suc j = omega arith in
    shade_of_place nodes (suc k) ns j ∙ ap (λ i. option_map (λ m. (m.name, shade_at nodes i)) (slice_get ns j)) same

shades_seen : {E : Type 0} (nodes : Nodes) (k : ℕ) (ns : List (Shown E)) (name : List ℕ)
    → look (shades_from nodes k ns) name ≡ option_map (λ j. shade_at nodes (k + j)) (place_of (names_of ns) name)
shades_seen nodes k [] name = refl
shades_seen nodes k (n ∷ ns) name =
    go (bytes_eq n.name name) (place_of (names_of ns) name) (shades_seen nodes (suc k) ns name)
    ∙ ap (option_map (λ j. shade_at nodes (k + j))) (sym (place_first n.name (names_of ns) name))
  where
    go : (b : Bool) (o : Option ℕ) → look (shades_from nodes (suc k) ns) name ≡ option_map (λ j. shade_at nodes (suc k + j)) o
        → (if b then Some (shade_at nodes k) else look (shades_from nodes (suc k) ns) name) ≡ option_map (λ j. shade_at nodes (k + j)) (cond b (Some 0) (option_map suc o))
    go true o more =
        let same : k ≡ k + 0 = omega arith in
        ap (λ i. Some (shade_at nodes i)) same
    go false None more = more
    go false (Some j) more =
        let same : suc k + j ≡ k + suc j = omega arith in
        more ∙ ap (λ i. Some (shade_at nodes i)) same

-- a name shows what the node at its place shows
pub place_shown : {E : Type 0} (nodes : Nodes) (ns : List (Shown E)) (name : List ℕ)
    → look (shades_from nodes 0 ns) name ≡ option_map (shade_at nodes) (place_of (names_of ns) name)
place_shown nodes ns name = shades_seen nodes 0 ns name ∙ go (place_of (names_of ns) name)
  where
    go : (o : Option ℕ) → option_map (λ j. shade_at nodes (0 + j)) o ≡ option_map (shade_at nodes) o
    go None = refl
    go (Some j) =
        let same : 0 + j ≡ j = omega arith in
        ap (λ i. Some (shade_at nodes i)) same

-- ---- a node by the nodes before it

abbrev before_place : Nodes → ℕ → ℕ → Pixels
before_place nodes k = below no_pixels (λ before j. node_value (depth_at nodes) before (nodes j)) k

value_before : (nodes : Nodes) (k m : ℕ) → m < k → before_place nodes k m ≡ value nodes m
unfolding value
value_before nodes k m low = below_is no_pixels (λ before j. node_value (depth_at nodes) before (nodes j)) k m low

-- what it shows by what it does
abbrev pub shade_by : Nodes → ℕ → Node → Shade
shade_by nodes k node = record {
  depth = node_depth node;
  components = node_components node;
  pixel = node_value (depth_at nodes) (before_place nodes k) node;
}

pub shade_is : (nodes : Nodes) (k : ℕ) (node : Node) → nodes k ≡ node → shade_at nodes k ≡ shade_by nodes k node
unfolding value
shade_is nodes k node is = ap (shade_by nodes k) is

-- each clip is a node before this one
abbrev pub AreBefore : ℕ → List (Option ℕ) → Type 0
AreBefore k clips = All (λ clip. IfSome clip (λ m. m < k)) clips

one_before : (k : ℕ) (clips : List (Option ℕ)) (j : ℕ) → AreBefore k clips → IfSome (slice_index_or clips j None) (λ m. m < k)
one_before k [] j all = tt
one_before k (clip ∷ clips) zero all = All-head (λ o. IfSome o (λ m. m < k)) clip clips all
one_before k (clip ∷ clips) (suc j) all = one_before k clips j (All-tail (λ o. IfSome o (λ m. m < k)) clip clips all)

-- ---- the mix

some_same : {A B : Type 0} (f : A → B) (o : Option A) → is_some (option_map f o) ≡ is_some o
some_same f None = refl
some_same f (Some a) = refl

connected_same : {A B : Type 0} (f : A → B) (clips : List (Option A)) → map is_some (map (option_map f) clips) ≡ map is_some clips
connected_same f [] = refl
connected_same f (clip ∷ clips) = ap₂ (λ b bs. b ∷ bs) (some_same f clip) (connected_same f clips)

module _ (nodes : Nodes) (k : ℕ) where
  clip_same : (to : Depth) (c : Components) (o : Option ℕ) → IfSome o (λ m. m < k)
      → clip_pixel to c (option_map (shade_at nodes) o) ≡ clip_value (depth_at nodes) (before_place nodes k) to c o
  clip_same to c None low = refl
  clip_same to c (Some m) low =
      ap {B = Pixels} (λ (v : Pixels) (t x y : ℤ). convert (depth_at nodes m) to c (v t x y)) (sym (value_before nodes k m low))

  -- an effect of this form over the nodes that its clips are
  mix_same : (m : Meaning) (project : Bounds) (c : Context) (own : Form) (clips : List (Option ℕ)) (params : List Parameter) → AreBefore k clips
      → mix_shade m project c own (map (option_map (shade_at nodes)) clips) params ≡ shade_by nodes k (Effect (effect_node m project own.0 own.1 c clips params))
  mix_same m project c own clips params all =
      let shows : List Bool → (Tap → Pixel) → Shade = λ connected tap. record {
        depth = own.0;
        components = own.1;
        pixel = λ t x y. mixed m (record { frame = t; numbers = map (λ p. value_at p t) params; connected = connected; project = project }) own.0 own.1 tap x y;
      } in
      let seen_by : Tap → Components = λ p. seen_as m.shape c own.1 p.clip in
      ap₂ shows (connected_same (shade_at nodes) clips)
      (fun_ext (λ (p : Tap). ap (λ (v : Pixels). v p.frame p.x p.y)
      (ap (clip_pixel own.0 (seen_by p)) (get_or-map (option_map (shade_at nodes)) clips p.clip None)
      ∙ clip_same own.0 (seen_by p) (slice_index_or clips p.clip None) (one_before k clips p.clip all))))

-- ---- the form

node_form : {E : Type 0} (meaning : E → Meaning) (project : Bounds) (frames : ℤ → Option Image) (d : Depth) (c : Components) (work : Does E)
    → (node_depth (node_of meaning project frames d c work) ≡ d) × (node_components (node_of meaning project frames d c work) ≡ c)
node_form meaning project frames d c (does.Source pattern first last hold) = (refl, refl)
node_form meaning project frames d c (does.Effect e context clips names optional masks params) = (refl, refl)

-- at each place of these nodes stands that node
abbrev pub Stand : {E : Type 0} → (E → Meaning) → Bounds → Images → List (Shown E) → Nodes → Type 0
Stand {E} meaning project images before nodes =
    (j : ℕ) (n : Shown E) → slice_get before j ≡ Some n → nodes j ≡ node_in meaning project (images j) (Some n)

pub form_stands : {E : Type 0} (meaning : E → Meaning) (project : Bounds) (images : Images) (before : List (Shown E)) (nodes : Nodes) (j : ℕ) (n : Shown E)
    → Stand meaning project images before nodes → slice_get before j ≡ Some n → (depth_at nodes j ≡ n.depth) × (components_at nodes j ≡ n.components)
form_stands meaning project images before nodes j n stand there =
    let own = node_form meaning project (images j) n.depth n.components n.does in
    (ap node_depth (stand j n there) ∙ own.0, ap node_components (stand j n there) ∙ own.1)

module _ {E : Type 0} (meaning : E → Meaning) (project : Bounds) (images : Images) (before : List (Shown E)) (nodes : Nodes) (stand : Stand meaning project images before nodes) where
  form_same : (o : Option ℕ) (mask : Bool) → IfSome o (λ m. m < length before) → form_shown (option_map (shade_at nodes) o) mask ≡ form_at (node_at before o) mask
  form_same None mask low = refl
  form_same (Some j) mask low =
      let some = some_at before j low in
      let own = form_stands meaning project images before nodes j some.0 stand some.1 in
      ap₂ (λ d c. (d, c, mask) ∷ []) own.0 own.1 ∙ ap (λ o. form_at o mask) (sym some.1)

  forms_same : (clips : List (Option ℕ)) (masks : List Bool) → AreBefore (length before) clips
      → forms_shown (map (option_map (shade_at nodes)) clips) masks ≡ inputs_of before clips masks
  forms_same [] masks all = refl
  forms_same (clip ∷ clips) [] all = refl
  forms_same (clip ∷ clips) (mask ∷ masks) all =
      ap₂ (λ xs ys. xs ++ ys)
      (form_same clip mask (All-head (λ o. IfSome o (λ m. m < length before)) clip clips all))
      (forms_same clips masks (All-tail (λ o. IfSome o (λ m. m < length before)) clip clips all))

  -- an effect over the nodes that its clips are, with the form that these negotiate
  pub effect_same : (m : Meaning) (p : Project) (c : Context) (clips : List (Option ℕ)) (params : List RawParam) → extent p ≡ project → AreBefore (length before) clips
      → let own = form_of m.shape (form p) before clips (map is_mask (clip_names m.shape c)) in
      effect_shade m p c (map (option_map (shade_at nodes)) clips) params
      ≡ shade_by nodes (length before) (Effect (effect_node m project own.0 own.1 c clips (map (param_of params) (m.shape.params c))))
  effect_same m p c clips params is all =
      let masks = map is_mask (clip_names m.shape c) in
      let own : Form = form_of m.shape (form p) before clips masks in
      let shades : List (Option Shade) = map (option_map (shade_at nodes)) clips in
      let made : List Parameter = map (param_of params) (m.shape.params c) in
      ap (λ (inputs : List Input). mix_shade m (extent p) c (negotiated inputs (has_depth m.shape depths.Byte) (has_depth m.shape depths.Short) (has_alpha m.shape) (form p)) shades made)
      (forms_same clips masks all)
      ∙ ap (λ r. mix_shade m r c own shades made) is
      ∙ mix_same nodes (length before) m project c own clips made all

-- ---- clips by the names of nodes

look_shown : {V : Type 0} (env : Values V) (clips : List RawClip) (name : List ℕ)
    → look (shown env clips) name ≡ option_map (λ r. look env r.node) (find (λ r. bytes_eq r.name name) clips)
look_shown env [] name = refl
look_shown env (r ∷ clips) name = go (bytes_eq r.name name) (look_shown env clips name)
  where
    go : (b : Bool) → look (shown env clips) name ≡ option_map (λ r. look env r.node) (find (λ r. bytes_eq r.name name) clips)
        → (if b then Some (look env r.node) else look (shown env clips) name) ≡ option_map (λ r. look env r.node) (cond b (Some r) (find (λ r. bytes_eq r.name name) clips))
    go true more = refl
    go false more = more

module _ {E : Type 0} (nodes : Nodes) (before : List (Shown E)) (clips : List RawClip) where
  found_same : (o : Option RawClip) → option_flatten (option_map (λ r. look (shades_from nodes 0 before) r.node) o) ≡ option_map (shade_at nodes) (option_and_then (λ r. place_of (names_of before) r.node) o)
  found_same None = refl
  found_same (Some r) = place_shown nodes before r.node

  -- a clip shows what the node shows that it is connected to
  pub clips_same : (inputs : List Clip)
      → map (clip_shade (shown (shades_from nodes 0 before) clips)) inputs ≡ map (option_map (shade_at nodes)) (map (connection (place_of (names_of before)) clips) inputs)
  clips_same [] = refl
  clips_same (i ∷ inputs) =
      ap₂ (λ o os. o ∷ os)
      (ap option_flatten (look_shown (shades_from nodes 0 before) clips i.name) ∙ found_same (find (λ r. bytes_eq r.name i.name) clips))
      (clips_same inputs)

  connected_before : (o : Option RawClip) → IfSome (option_and_then (λ r. place_of (names_of before) r.node) o) (λ m. m < length before)
  connected_before None = tt
  connected_before (Some r) = by (place_of (names_of before) r.node) refl
    where
      by : (o : Option ℕ) → place_of (names_of before) r.node ≡ o → IfSome o (λ m. m < length before)
      by None at = tt
      by (Some k) at = subst (λ n. k < n) (length-map before (λ n. n.name)) (place_below (names_of before) r.node k at)

  pub clips_before : (inputs : List Clip) → AreBefore (length before) (map (connection (place_of (names_of before)) clips) inputs)
  clips_before [] = All-nil (λ o. IfSome o (λ m. m < length before))
  clips_before (i ∷ inputs) =
      All-cons (λ o. IfSome o (λ m. m < length before)) (connection (place_of (names_of before)) clips i) (map (connection (place_of (names_of before)) clips) inputs)
      (connected_before (find (λ r. bytes_eq r.name i.name) clips)) (clips_before inputs)
