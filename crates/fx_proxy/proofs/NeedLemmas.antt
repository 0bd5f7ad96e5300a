-- The frames that are needed don't change with the size.
use Rattle.std.proofs.Common.{◌≡◌, ◌↔◌, ℕ, zero, suc, ◌+◌, ℤ, pos, false, List, [], ◌∷◌, map, set, Option, Some, slice_get, is_some, refl, sym, ap, subst, ◌∙◌, arith}
use Rattle.std.specs.Prelude.{slice_index_or}
use Rattle.fx_base.specs.Bounds.{Bounds}
use Rattle.fx_effect.specs.Meaning.{Meaning}
use Rattle.fx_graph.specs.Edits.{with_edit, with_param}
use Rattle.fx_graph.specs.Kept.{use_values}
use Rattle.fx_graph.specs.Shown.{Does, Effect, GraphShown, Shown, Source}
use Rattle.fx_image.specs.Image.{Image}
use Rattle.fx_params.specs.Parameter.{Parameter}
use Rattle.fx_params.specs.declared.def.ParamDef.{ParamDef}
use Rattle.fx_scene.specs.Frames.{in_some}
use Rattle.fx_scene.specs.Nodes.{Node, Nodes}
use Rattle.fx_scene.specs.Reach.{IsClosed, IsReadBy, IsReached, NodeFrames}
use Rattle.fx_scene.specs.Scenes.{no_images, node_in, nodes_of}
use Rattle.fx_scene.specs.Takes.{edited_all, edits_after, nodes_at}
use Rattle.fx_scene.specs.Uses.{frame_at, take_at, wanting}
use Rattle.fx_scene.specs.Wants.{IsWanted, Shows}
use Rattle.fx_scene.specs.declared.take.Edit.{Edit}
use Rattle.fx_shipped.specs.Shipped.{meaning_of, number_of}
use Rattle.fx_shipped.specs.declared.shipped.Shipped.{Shipped}
use Rattle.fx_shipped.specs.declared.shipped.Shipped.TheVariants as shipped
use Rattle.fx_takes.specs.Shown.{EditShown, edit_shown}
use Rattle.fx_proxy.specs.Lengths.{is_length, lengths_of, scaled_param}
use Rattle.fx_proxy.specs.Needs.{AreScaledEdits, MomentsWantSame, WantsSame}
use Rattle.fx_proxy.specs.Reduced.{reduced_rect}
use Rattle.fx_proxy.specs.Scaled.{scaled_does, scaled_edit, scaled_node, scaled_params, scaled_value, value_for}

-- ---- two lists of nodes

module _ (a b : Nodes) (reads : (n : ℕ) (t : ℤ) (m : ℕ) (f : ℤ) → IsReadBy (a n) t m f → IsReadBy (b n) t m f)
    (shows : (n : ℕ) (t f : ℤ) → Shows (a n) t f → Shows (b n) t f) where
  closed : (output : ℕ) (first last : ℤ) (s : NodeFrames) → IsClosed b output first last s → IsClosed a output first last s
  closed output first last s h =
      record { start = h.start; reads = λ n t there m f by. h.reads n t there m f (reads n t m f by) }

  reached : (output : ℕ) (first last : ℤ) (n : ℕ) (t : ℤ) → IsReached a output first last n t → IsReached b output first last n t
  reached output first last n t h = λ s is. h s (closed output first last s is)

  wanted : (output : ℕ) (first last : ℤ) (n : ℕ) (f : ℤ) → IsWanted a output first last n f → IsWanted b output first last n f
  wanted output first last n f h =
      record { at = h.at; reached = reached output first last n h.at h.reached; shows = shows n h.at f h.shows }

-- ---- a graph and its proxy

-- an effect needs the same frames in a project of any size, whatever its lengths are
abbrev KeepsSpans : {E : Type 0} → (E → Meaning) → (E → ℕ) → Type 0
KeepsSpans {E} meaning number =
    (e : E) (q : ℕ) (project small : Bounds) (t : ℤ) (clips : List (Option ℕ)) (params : List Parameter) (clip : ℕ)
    → (meaning e).spans (use_values small t clips (scaled_params (number e) 0 q params)) clip
    ≡ (meaning e).spans (use_values project t clips params) clip

module _ {E : Type 0} (meaning : E → Meaning) (number : E → ℕ) (keeps : KeepsSpans meaning number) (q : ℕ)
    (project small : Bounds) (fs gs : ℤ → Option Image) where
  abbrev large : Option (Shown E) → Node
  large o = node_in meaning project fs o

  abbrev scaled : Option (Shown E) → Node
  scaled o = node_in meaning small gs o

  does_reads : (n : Shown E) (d : Does E) (t : ℤ) (m : ℕ) (f : ℤ)
      → IsReadBy (large (Some (record n { does = d }))) t m f
      ↔ IsReadBy (scaled (Some (record n { does = scaled_does number q d }))) t m f
  does_reads n (Source pattern first last hold) t m f = (λ h. h, λ h. h)
  does_reads n (Effect e c clips names optional masks params) t m f = (
    λ h. record {
      clip = h.clip;
      node = h.node;
      frame = ap (λ (spans : List (ℤ × ℤ)). in_some spans f) (keeps e q project small t clips params h.clip) ∙ h.frame;
    },
    λ h. record {
      clip = h.clip;
      node = h.node;
      frame = ap (λ (spans : List (ℤ × ℤ)). in_some spans f) (sym (keeps e q project small t clips params h.clip)) ∙ h.frame;
    },
  )

  does_shows : (n : Shown E) (d : Does E) (t f : ℤ)
      → Shows (large (Some (record n { does = d }))) t f ↔ Shows (scaled (Some (record n { does = scaled_does number q d }))) t f
  does_shows n (Source pattern first last hold) t f = (λ h. h, λ h. h)
  does_shows n (Effect e c clips names optional masks params) t f = (λ h. h, λ h. h)

  reads_stay : (nodes : List (Shown E)) (k : ℕ) (t : ℤ) (m : ℕ) (f : ℤ)
      → IsReadBy (large (slice_get nodes k)) t m f
      ↔ IsReadBy (scaled (slice_get (map (scaled_node number q) nodes) k)) t m f
  reads_stay [] k t m f = (λ h. h, λ h. h)
  reads_stay (n ∷ nodes) zero t m f = does_reads n n.does t m f
  reads_stay (n ∷ nodes) (suc k) t m f = reads_stay nodes k t m f

  shows_stay : (nodes : List (Shown E)) (k : ℕ) (t f : ℤ)
      → Shows (large (slice_get nodes k)) t f
      ↔ Shows (scaled (slice_get (map (scaled_node number q) nodes) k)) t f
  shows_stay [] k t f = (λ h. h, λ h. h)
  shows_stay (n ∷ nodes) zero t f = does_shows n n.does t f
  shows_stay (n ∷ nodes) (suc k) t f = shows_stay nodes k t f

module _ {E : Type 0} (meaning : E → Meaning) (number : E → ℕ) (keeps : KeepsSpans meaning number) (q : ℕ)
    (project small : Bounds) (nodes : List (Shown E)) where
  abbrev before : Nodes
  before = nodes_of meaning project nodes no_images

  abbrev after : Nodes
  after = nodes_of meaning small (map (scaled_node number q) nodes) no_images

  reads_same : (n : ℕ) (t : ℤ) (m : ℕ) (f : ℤ) → IsReadBy (before n) t m f ↔ IsReadBy (after n) t m f
  unfolding nodes_of
  reads_same n t m f = reads_stay meaning number keeps q project small (no_images n) (no_images n) nodes n t m f

  shows_same : (n : ℕ) (t f : ℤ) → Shows (before n) t f ↔ Shows (after n) t f
  unfolding nodes_of
  shows_same n t f = shows_stay meaning number keeps q project small (no_images n) (no_images n) nodes n t f

  pub wanted_same : (output : ℕ) (first last : ℤ) (n : ℕ) (f : ℤ)
      → IsWanted after output first last n f ↔ IsWanted before output first last n f
  wanted_same output first last n f = (
    wanted after before (λ n t m f. (reads_same n t m f).1) (λ n t f. (shows_same n t f).1) output first last n f,
    wanted before after (λ n t m f. (reads_same n t m f).0) (λ n t f. (shows_same n t f).0) output first last n f,
  )

pub wants_same : {E : Type 0} (meaning : E → Meaning) (number : E → ℕ) → KeepsSpans meaning number → (g : GraphShown E) (q : ℕ)
    → WantsSame meaning number g q
wants_same meaning number keeps g q =
    λ n first last k f. wanted_same meaning number keeps q g.project (reduced_rect q g.project) g.nodes n first last k f

-- ---- the graph of a take

module _ {E : Type 0} (number : E → ℕ) (q : ℕ) where
  -- what an edit gives a parameter is the same by the nodes of both
  abbrev GivesSame : List (Shown E) → List (Shown E) → Type 0
  GivesSame nodes now =
      (k i : ℕ) (p : Parameter) → value_for number q i p (slice_get nodes k) ≡ value_for number q i p (slice_get now k)

  does_gives : (work : Does E) (j i : ℕ) (r p : Parameter) → scaled_value number q i p (with_param j r work) ≡ scaled_value number q i p work
  does_gives (Source pattern first last hold) j i r p = refl
  does_gives (Effect e c clips names optional masks params) j i r p = refl

  edit_gives : (nodes : List (Shown E)) (m j : ℕ) (r : Parameter) → GivesSame nodes (with_edit m j r nodes)
  edit_gives [] m j r k i p = refl
  edit_gives (n ∷ nodes) zero j r zero i p = sym (does_gives n.does j i r p)
  edit_gives (n ∷ nodes) zero j r (suc k) i p = refl
  edit_gives (n ∷ nodes) (suc m) j r zero i p = refl
  edit_gives (n ∷ nodes) (suc m) j r (suc k) i p = edit_gives nodes m j r k i p

  all_give : (es : List Edit) (nodes now : List (Shown E)) → GivesSame nodes now → GivesSame nodes (edited_all es now)
  all_give [] nodes now same = same
  all_give (e ∷ es) nodes now same =
      all_give es nodes (with_edit e.node e.param e.value now)
      (λ k i p. same k i p ∙ edit_gives now e.node e.param e.value k i p)

  params_set : (effect place i : ℕ) (p : Parameter) (params : List Parameter)
      → scaled_params effect place q (set params i p) ≡ set (scaled_params effect place q params) i (scaled_param effect (place + i) q p)
  params_set effect place i p [] = refl
  params_set effect place zero p (x ∷ ps) =
      let here : place ≡ place + zero = omega arith in
      ap (λ (n : ℕ). scaled_param effect n q p ∷ scaled_params effect (place + 1) q ps) here
  params_set effect place (suc i) p (x ∷ ps) =
      let next : place + 1 + i ≡ place + suc i = omega arith in
      ap (λ (l : List Parameter). scaled_param effect place q x ∷ l)
      (params_set effect (place + 1) i p ps ∙ ap (λ (n : ℕ). set (scaled_params effect (place + 1) q ps) i (scaled_param effect n q p)) next)

  does_scaled : (d : Does E) (i : ℕ) (p : Parameter)
      → with_param i (scaled_value number q i p d) (scaled_does number q d) ≡ scaled_does number q (with_param i p d)
  does_scaled (Source pattern first last hold) i p = refl
  does_scaled (Effect e c clips names optional masks params) i p =
      let zero_i : 0 + i ≡ i = omega arith in
      ap (λ (ps : List Parameter). Effect e c clips names optional masks ps)
      (sym (params_set (number e) 0 i p params ∙ ap (λ (n : ℕ). set (scaled_params (number e) 0 q params) i (scaled_param (number e) n q p)) zero_i))

  edit_scaled : (nodes : List (Shown E)) (k i : ℕ) (p : Parameter)
      → with_edit k i (value_for number q i p (slice_get nodes k)) (map (scaled_node number q) nodes)
      ≡ map (scaled_node number q) (with_edit k i p nodes)
  edit_scaled [] k i p = refl
  edit_scaled (n ∷ nodes) zero i p =
      ap (λ (d : Does E). record n { does = d } ∷ map (scaled_node number q) nodes) (does_scaled n.does i p)
  edit_scaled (n ∷ nodes) (suc k) i p =
      ap (λ (ns : List (Shown E)). scaled_node number q n ∷ ns) (edit_scaled nodes k i p)

  -- an edit by what contracts see of it
  abbrev done : List EditShown → List (Shown E) → List (Shown E)
  done [] nodes = nodes
  done (e ∷ es) nodes = done es (with_edit e.node e.param e.value nodes)

  done_is : (es : List Edit) (nodes : List (Shown E)) → edited_all es nodes ≡ done (map edit_shown es) nodes
  done_is [] nodes = refl
  done_is (e ∷ es) nodes = done_is es (with_edit e.node e.param e.value nodes)

  all_scaled : (written : List (Shown E)) (es : List Edit) (now : List (Shown E)) → GivesSame written now
      → done (map (scaled_edit number q written) (map edit_shown es)) (map (scaled_node number q) now)
      ≡ map (scaled_node number q) (edited_all es now)
  all_scaled written [] now same = refl
  all_scaled written (e ∷ es) now same =
      let rest = map (scaled_edit number q written) (map edit_shown es) in
      ap (λ (p : Parameter). done rest (with_edit e.node e.param p (map (scaled_node number q) now))) (same e.node e.param e.value)
      ∙ ap (done rest) (edit_scaled now e.node e.param e.value)
      ∙ all_scaled written es (with_edit e.node e.param e.value now)
      (λ k i p. same k i p ∙ edit_gives now e.node e.param e.value k i p)

  after_shown : (takes : List (List Edit)) (k : ℕ) → map edit_shown (edits_after takes k) ≡ slice_index_or (map (map edit_shown) takes) k []
  after_shown [] k = refl
  after_shown (es ∷ takes) zero = refl
  after_shown (es ∷ takes) (suc k) = after_shown takes k

  after_scaled : (f : EditShown → EditShown) (takes : List (List EditShown)) (k : ℕ)
      → slice_index_or (map (map f) takes) k [] ≡ map f (slice_index_or takes k [])
  after_scaled f [] k = refl
  after_scaled f (es ∷ takes) zero = refl
  after_scaled f (es ∷ takes) (suc k) = after_scaled f takes k

  takes_give : (written : List (Shown E)) (edits : List (List Edit)) (k : ℕ) → GivesSame written (nodes_at written edits k)
  takes_give written edits zero = λ k i p. refl
  takes_give written edits (suc k) = all_give (edits_after edits k) written (nodes_at written edits k) (takes_give written edits k)

  -- scaled takes of the scaled graph make the graphs of the takes, scaled
  pub takes_scaled : (g : GraphShown E) (edits small : List (List Edit)) → AreScaledEdits number g q edits small → (k : ℕ)
      → nodes_at (map (scaled_node number q) g.nodes) small k ≡ map (scaled_node number q) (nodes_at g.nodes edits k)
  takes_scaled g edits small are zero = refl
  takes_scaled g edits small are (suc k) =
      let f = scaled_edit number q g.nodes in
      let now = nodes_at g.nodes edits k in
      let shown_is : map edit_shown (edits_after small k) ≡ map f (map edit_shown (edits_after edits k)) =
      after_shown small k ∙ ap (λ (l : List (List EditShown)). slice_index_or l k []) are
      ∙ after_scaled f (map (map edit_shown) edits) k ∙ ap (map f) (sym (after_shown edits k)) in
      ap (edited_all (edits_after small k)) (takes_scaled g edits small are k)
      ∙ done_is (edits_after small k) (map (scaled_node number q) now)
      ∙ ap (λ (es : List EditShown). done es (map (scaled_node number q) now)) shown_is
      ∙ all_scaled g.nodes (edits_after edits k) now (takes_give g.nodes edits k)

pub moments_same : {E : Type 0} (meaning : E → Meaning) (number : E → ℕ) → KeepsSpans meaning number → (g : GraphShown E) (q : ℕ)
    → MomentsWantSame meaning number g q
moments_same {E} meaning number keeps g q edits small are first count j n f =
    let k = take_at count j in
    let t = pos (frame_at first count j) in
    subst (λ (ns : List (Shown E)). IsWanted (nodes_of meaning (reduced_rect q g.project) ns no_images) g.output t t n f ↔ wanting meaning g edits first count j n f)
    (sym (takes_scaled number q g edits small are k))
    (wanted_same meaning number keeps q g.project (reduced_rect q g.project) (nodes_at g.nodes edits k) g.output t t n f)

-- ---- the effects of the program

no_lengths : (effect place q : ℕ) (params : List Parameter) → lengths_of effect ≡ [] → scaled_params effect place q params ≡ params
no_lengths effect place q [] none = refl
no_lengths effect place q (p ∷ ps) none =
    let here : is_length effect place ≡ false = ap (λ (ds : List ParamDef). is_some (slice_get ds place)) none in
    let one : scaled_param effect place q p ≡ p = rw here refl in
    ap (λ (x : Parameter). x ∷ scaled_params effect (place + 1) q ps) one ∙ ap (λ (l : List Parameter). p ∷ l) (no_lengths effect (place + 1) q ps none)

pub shipped_keep : KeepsSpans meaning_of number_of
shipped_keep e q project small t clips params clip = by e
  where
    -- the frames of an effect without lengths don't depend on the project
    plain : (m : Meaning) (effect : ℕ) → lengths_of effect ≡ []
        → ((ps : List Parameter) → m.spans (use_values small t clips ps) clip ≡ m.spans (use_values project t clips ps) clip)
        → m.spans (use_values small t clips (scaled_params effect 0 q params)) clip ≡ m.spans (use_values project t clips params) clip
    plain m effect none same =
        ap (λ (ps : List Parameter). m.spans (use_values small t clips ps) clip) (no_lengths effect 0 q params none) ∙ same params

    by : (e : Shipped) → (meaning_of e).spans (use_values small t clips (scaled_params (number_of e) 0 q params)) clip
        ≡ (meaning_of e).spans (use_values project t clips params) clip
    by shipped.Solid = refl
    by shipped.Checker = refl
    by shipped.Ramp = refl
    by shipped.Grain = refl
    by shipped.Invert = refl
    by shipped.Gain = refl
    by shipped.Premult = refl
    by shipped.Unpremult = refl
    by shipped.Shuffle = refl
    by shipped.Saturation = refl
    by shipped.Posterise = refl
    by shipped.Boxblur = refl
    by shipped.Erode = refl
    by shipped.Dilate = refl
    by shipped.Convolve3 = refl
    by shipped.Crop = refl
    by shipped.Translate = refl
    by shipped.Mirror = refl
    by shipped.Timeoffset = plain (meaning_of shipped.Timeoffset) 18 refl (λ ps. refl)
    by shipped.Frameblend = plain (meaning_of shipped.Frameblend) 19 refl (λ ps. refl)
    by shipped.Framediff = plain (meaning_of shipped.Framediff) 20 refl (λ ps. refl)
    by shipped.Echo = plain (meaning_of shipped.Echo) 21 refl (λ ps. refl)
    by shipped.Dissolve = refl
    by shipped.Wipe = refl
    by shipped.Merge = refl
    by shipped.Keymix = refl
    by shipped.Autogain = refl
