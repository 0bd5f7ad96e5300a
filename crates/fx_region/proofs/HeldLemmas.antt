-- Ends and needs of what is reached depend on the wanted frames alone.
use Rattle.std.proofs.Common.{◌≡◌, ℕ, ◌<◌, ◌≤◌, ◌+◌, ℤ, ◌≤ℤ◌, Bool, true, false, cond, List, [], ◌∷◌, ◌++◌, map, length, slice_get, inl, inr, Option, Some, None, refl, sym, ap, ◌∙◌, subst, arith}
use Rattle.std.proofs.lemmas.Int.{ints}
use Rattle.std.specs.List.{flat_map, range_with_len}
use Rattle.fx_base.specs.Bounds.{Bounds}
use Rattle.fx_base.specs.Grid.{tiles_of}
use Rattle.fx_base.specs.Rect.{is_empty, meet}
use Rattle.fx_base.specs.declared.limits.TheConstants.{MOST_NODES}
use Rattle.fx_effect.specs.Laws.{Laws}
use Rattle.fx_effect.specs.Meaning.{Meaning}
use Rattle.fx_effect.specs.Shape.{IsProject}
use Rattle.fx_effect.specs.declared.action.Identity.{Identity}
use Rattle.fx_effect.specs.declared.action.Identity.TheVariants.{No, Same}
use Rattle.fx_graph.specs.Shown.{Does, GraphShown, Shown}
use Rattle.fx_graph.specs.Shown as does
use Rattle.fx_graph.specs.Nodes.{Form}
use Rattle.fx_graph.specs.Kept as kept
use Rattle.fx_scene.specs.Areas.{area}
use Rattle.fx_scene.specs.Depends.{AgreeOnWanted, AreImages}
use Rattle.fx_scene.specs.Frames.{clip_frames, frames_of, in_some}
use Rattle.fx_scene.specs.Nodes.{AreNodes, Effect, EffectNode, IsEffectNode, IsNode, Node, Nodes, Source, SourceFrames, clip_node}
use Rattle.fx_scene.specs.Reach.{IsReached, IsReadBy, NodeFrames}
use Rattle.fx_scene.specs.Scenes.{Images, effect_node, graph_nodes, no_images, node_in, node_of, nodes_of, shown_frame, source_node}
use Rattle.fx_scene.proofs.Members.{In}
use Rattle.fx_scene.proofs.NearLemmas.{listed_frames}
use Rattle.fx_scene.proofs.NodesLemmas.{are_nodes}
use Rattle.fx_scene.proofs.Places.{by_place}
use Rattle.fx_region.specs.Ends.{Choice, EndShown, Ends, Frame, Render, Void, chosen, clip_end, cut_end, effect_end, effect_step, end_of, node_end, onward, source_end, whole_or_cut}
use Rattle.fx_region.specs.Follow.{GoesToRead, clip_stand}
use Rattle.fx_region.specs.Needs.{Areas, NeedShown, clip_needs, frame_needs, needed, needs_at, needs_of, node_needs, tile_needs}
use Rattle.fx_region.proofs.EndLaws.{end_is}
use Rattle.fx_region.proofs.FollowLemmas.{same_read}
use Rattle.fx_scene.specs.Right.{HasGrown, HasWanted}
use Rattle.fx_scene.proofs.HeldLemmas.{area_same, is_listed}
use Rattle.fx_scene.proofs.RightLemmas.{none_are, same_some}
use Rattle.fx_effect.specs.declared.steps.Step.{Step}
use Rattle.fx_region.specs.Held.{EndIn, EndsReached, EndsStay}

flat_same : {X Y : Type 0} (f g : X → List Y) (xs : List X) → ((x : X) → In xs x → f x ≡ g x) → flat_map f xs ≡ flat_map g xs
flat_same f g [] h = refl
flat_same f g (x ∷ xs) h =
    ap (λ ys. ys ++ flat_map f xs) (h x (inl refl)) ∙ ap (λ ys. g x ++ ys) (flat_same f g xs (λ y i. h y (inr i)))

-- ---- one node

source_same : (n : ℕ) (p q : ℤ → Option _) (d : _) (c : _) (first last : ℕ) (hold : Bool) (named : Option ℤ) (r : Bounds)
    → source_end n (source_node p d c first last hold) named r ≡ source_end n (source_node q d c first last hold) named r
source_same n p q d c first last hold None r = refl
source_same n p q d c first last hold (Some f) r = refl

clip_same : (e h : Ends) (o : Option ℕ) (f : ℤ) (r : Bounds) → ((m : ℕ) → o ≡ Some m → e m f r ≡ h m f r)
    → clip_end e o f r ≡ clip_end h o f r
clip_same e h None f r same = refl
clip_same e h (Some m) f r same = same m refl

effect_same : (c d : Choice) (e h : Ends) (n : ℕ) (o : EffectNode) (t : ℤ) (r : Bounds) (p : Identity) → c n t r ≡ d n t r
    → ((clip : ℕ) (f : ℤ) → p ≡ Same clip f → (m : ℕ) → clip_node o clip ≡ Some m → e m f r ≡ h m f r)
    → effect_end c e n o t r p ≡ effect_end d h n o t r p
effect_same c d e h n o t r No region same = ap (λ (q : Bounds). Render n t q r []) region
effect_same c d e h n o t r (Same clip f) region same =
    ap (onward (effect_step o)) (clip_same e h (clip_node o clip) f r (λ m is. same clip f refl m is))

-- what an identity goes on at is read
goes_to : (o : EffectNode) (t : ℤ) (clip : Option ℕ) (f : ℤ) (m : ℕ) → clip ≡ Some m
    → GoesToRead (Effect o) t (clip_stand o.depth o.components clip f) → IsReadBy (Effect o) t m f
goes_to o t clip f m is h =
    subst (λ (c : Option ℕ). GoesToRead (Effect o) t (clip_stand o.depth o.components c f)) is h

void_same : (b : Bool) (e h : EndShown) → (b ≡ false → e ≡ h) → cond b Void e ≡ cond b Void h
void_same true e h same = refl
void_same false e h same = same refl

module _ {E : Type 0} (meaning : E → Meaning) (g : GraphShown E) where
  abbrev over : Images → Nodes
  over images = graph_nodes meaning g images

  here : (images : Images) (k : ℕ) (o : Option (Shown E)) → slice_get g.nodes k ≡ o
      → over images k ≡ node_in meaning g.project (images k) o
  unfolding nodes_of
  here images k o e = ap (node_in meaning g.project (images k)) e

  -- the ends of nodes that one reads are the same
  abbrev SameReads : Ends → Ends → Node → ℤ → Type 0
  SameReads e h node t = (m : ℕ) (f : ℤ) → IsReadBy node t m f → (r : Bounds) → e m f r ≡ h m f r

  -- the same region is rendered of nodes with the same area
  whole_work : (a b : Images) (k : ℕ) (n : Shown E) (work : Does E) (p q r : Bounds) → p ≡ q
      → whole_or_cut (node_of meaning g.project (a k) n.depth n.components work) p r
      ≡ whole_or_cut (node_of meaning g.project (b k) n.depth n.components work) q r
  whole_work a b k n (does.Source pattern first last hold) p q r same = refl
  whole_work a b k n (does.Effect x context clips names optional masks params) p q r same =
      let o = effect_node (meaning x) g.project n.depth n.components context clips params in
      ap (λ (w : Bounds). whole_or_cut (Effect o) w r) same

  whole_in : (a b : Images) (k : ℕ) (o : Option (Shown E)) (p q r : Bounds) → p ≡ q
      → whole_or_cut (node_in meaning g.project (a k) o) p r ≡ whole_or_cut (node_in meaning g.project (b k) o) q r
  whole_in a b k None p q r same = refl
  whole_in a b k (Some n) p q r same = whole_work a b k n n.does p q r same

  cut_work : (c d : Choice) (a b : Images) (k : ℕ) (e h : Ends) (n : Shown E) (work : Does E) (t : ℤ) (r : Bounds) → is_empty r ≡ false
      → c k t r ≡ d k t r
      → IsNode k (node_of meaning g.project (a k) n.depth n.components work)
      → SameReads e h (node_of meaning g.project (no_images k) n.depth n.components work) t
      → cut_end c e k (node_of meaning g.project (a k) n.depth n.components work) t r
      ≡ cut_end d h k (node_of meaning g.project (b k) n.depth n.components work) t r
  cut_work c d a b k e h n (does.Source pattern first last hold) t r some region i same =
      source_same k (a k) (b k) n.depth n.components first last hold (shown_frame first last hold t) r
  cut_work c d a b k e h n (does.Effect x context clips names optional masks params) t r some region i same =
      let o = effect_node (meaning x) g.project n.depth n.components context clips params in
      effect_same c d e h k o t r (o.meaning.same (o.values t) r) region
      (λ clip f is m at. same m f (goes_to o t (clip_node o clip) f m at (same_read k o i t r clip f some is)) r)

  cut_in : (c d : Choice) (a b : Images) (k : ℕ) (e h : Ends) (o : Option (Shown E)) (t : ℤ) (r : Bounds) → is_empty r ≡ false
      → c k t r ≡ d k t r → IsNode k (node_in meaning g.project (a k) o) → SameReads e h (node_in meaning g.project (no_images k) o) t
      → cut_end c e k (node_in meaning g.project (a k) o) t r
      ≡ cut_end d h k (node_in meaning g.project (b k) o) t r
  cut_in c d a b k e h None t r some region i same = refl
  cut_in c d a b k e h (Some n) t r some region i same = cut_work c d a b k e h n n.does t r some region i same

  module _ (a b : Images) (root : ℕ) (first last : ℤ) (are_a : AreNodes (over a)) (are_b : AreNodes (over b))
      (are_none : AreNodes (over no_images)) (agree : AgreeOnWanted meaning g root first last a b) where
    lower : (k m : ℕ) (t f : ℤ) (node : Node) → IsNode k node → IsReadBy node t m f → m < k
    lower k m t f (Source s) i h = absurd h
    lower k m t f (Effect o) i h = i.earlier h.clip m h.node

    abbrev EndsSame : ℕ → Type 0
    EndsSame k =
        (t : ℤ) (r : Bounds) → IsReached (over no_images) root first last k t
        → end_of (over a) k t r ≡ end_of (over b) k t r

    pub ends_same : (k : ℕ) → EndsSame k
    ends_same = by_place EndsSame (λ k before t r here_.
        let same = area_same meaning g a b root first last are_a are_b are_none agree k t here_ in
        end_is (chosen (over a)) (over a) are_a k t r
        ∙ ap (λ (q : Bounds). node_end (chosen (over a)) (end_of (over a)) k (over a k) t (meet r q)) same
        ∙ by k before t here_ (meet r (area (over b) k t)) same (slice_get g.nodes k) refl
        ∙ sym (end_is (chosen (over b)) (over b) are_b k t r))
      where
        by : (k : ℕ) → ((m : ℕ) → m < k → EndsSame m) → (t : ℤ) → IsReached (over no_images) root first last k t
            → (q : Bounds) → area (over a) k t ≡ area (over b) k t → (o : Option (Shown E)) → slice_get g.nodes k ≡ o
            → node_end (chosen (over a)) (end_of (over a)) k (over a k) t q ≡ node_end (chosen (over b)) (end_of (over b)) k (over b k) t q
        by k before t reached q same o e =
            let none = here no_images k o e in
            let region : chosen (over a) k t q ≡ chosen (over b) k t q =
            ap (λ (node : Node). whole_or_cut node (area (over a) k t) q) (here a k o e)
            ∙ whole_in a b k o (area (over a) k t) (area (over b) k t) q same
            ∙ sym (ap (λ (node : Node). whole_or_cut node (area (over b) k t) q) (here b k o e)) in
            ap (λ (node : Node). node_end (chosen (over a)) (end_of (over a)) k node t q) (here a k o e)
            ∙ void_same (is_empty q) _ _ (λ some.
            cut_in (chosen (over a)) (chosen (over b)) a b k (end_of (over a)) (end_of (over b)) o t q some region (subst (λ (node : Node). IsNode k node) (here a k o e) (are_a k))
            (λ m f h r.
            let there = subst (λ (node : Node). IsReadBy node t m f) (sym none) h in
            before m (lower k m t f (over no_images k) (are_none k) there) f r (λ s closed. closed.reads k t (reached s closed) m f there)))
            ∙ sym (ap (λ (node : Node). node_end (chosen (over b)) (end_of (over b)) k node t q) (here b k o e))

    -- ---- needs

    frame_same : (side : ℕ) (interest : Bounds) (c m : ℕ) (f : ℤ) → IsReached (over no_images) root first last m f
        → frame_needs (end_of (over a)) (area (over a)) side interest c m f
        ≡ frame_needs (end_of (over b)) (area (over b)) side interest c m f
    frame_same side interest c m f reached =
        let same = area_same meaning g a b root first last are_a are_b are_none agree m f reached in
        ap (λ (q : Bounds). flat_map (λ tile. needed c f (end_of (over a) m f (meet tile q))) (tiles_of side (meet interest q))) same
        ∙ flat_same (λ tile. needed c f (end_of (over a) m f (meet tile (area (over b) m f))))
        (λ tile. needed c f (end_of (over b) m f (meet tile (area (over b) m f)))) (tiles_of side (meet interest (area (over b) m f)))
        (λ tile i. ap (needed c f) (ends_same m f (meet tile (area (over b) m f)) reached))

    clip_needs_same : (side : ℕ) (interest : Bounds) (c : ℕ) (frames : List ℤ) (o : Option ℕ)
        → ((m : ℕ) (f : ℤ) → o ≡ Some m → In frames f → IsReached (over no_images) root first last m f)
        → clip_needs (end_of (over a)) (area (over a)) side interest c frames o
        ≡ clip_needs (end_of (over b)) (area (over b)) side interest c frames o
    clip_needs_same side interest c frames None h = refl
    clip_needs_same side interest c frames (Some m) h =
        flat_same (frame_needs (end_of (over a)) (area (over a)) side interest c m)
        (frame_needs (end_of (over b)) (area (over b)) side interest c m) frames
        (λ f i. frame_same side interest c m f (h m f refl i))

    work_needs : (side k : ℕ) (n : Shown E) (work : Does E) (t : ℤ) (r : Bounds)
        → ((m : ℕ) (f : ℤ) → IsReadBy (node_of meaning g.project (no_images k) n.depth n.components work) t m f
        → IsReached (over no_images) root first last m f)
        → node_needs (end_of (over a)) (area (over a)) side (node_of meaning g.project (a k) n.depth n.components work) t r
        ≡ node_needs (end_of (over b)) (area (over b)) side (node_of meaning g.project (b k) n.depth n.components work) t r
    work_needs side k n (does.Source pattern first_ last_ hold) t r h = refl
    work_needs side k n (does.Effect x context clips names optional masks params) t r h =
        let o = effect_node (meaning x) g.project n.depth n.components context clips params in
        flat_same (needs_at (end_of (over a)) (area (over a)) side o t r) (needs_at (end_of (over b)) (area (over b)) side o t r)
        (range_with_len 0 (length o.clips))
        (λ c j. clip_needs_same side (o.meaning.roi (o.values t) r c) c (clip_frames o t c) (clip_node o c)
        (λ m f is i. h m f (record {
          clip = c;
          node = is;
          frame = listed_frames (o.meaning.spans (o.values t) c) f (is_listed (clip_frames o t c) f i);
        })))

    in_needs : (side k : ℕ) (o : Option (Shown E)) (t : ℤ) (r : Bounds)
        → ((m : ℕ) (f : ℤ) → IsReadBy (node_in meaning g.project (no_images k) o) t m f
        → IsReached (over no_images) root first last m f)
        → node_needs (end_of (over a)) (area (over a)) side (node_in meaning g.project (a k) o) t r
        ≡ node_needs (end_of (over b)) (area (over b)) side (node_in meaning g.project (b k) o) t r
    in_needs side k None t r h = refl
    in_needs side k (Some n) t r h = work_needs side k n n.does t r h

    pub needs_same : (side k : ℕ) (t : ℤ) (r : Bounds) → IsReached (over no_images) root first last k t
        → needs_of (over a) side k t r ≡ needs_of (over b) side k t r
    needs_same side k t r reached = by (slice_get g.nodes k) refl
      where
        by : (o : Option (Shown E)) → slice_get g.nodes k ≡ o → needs_of (over a) side k t r ≡ needs_of (over b) side k t r
        by o e =
            ap (λ (node : Node). node_needs (end_of (over a)) (area (over a)) side node t r) (here a k o e)
            ∙ in_needs side k o t r (λ m f h s closed.
            closed.reads k t (reached s closed) m f (subst (λ (node : Node). IsReadBy node t m f) (sym (here no_images k o e)) h))
            ∙ sym (ap (λ (node : Node). node_needs (end_of (over b)) (area (over b)) side node t r) (here b k o e))

  -- ---- where regions of what is in a set end

  module _ (a : Images) (are_a : AreNodes (over a)) (are_none : AreNodes (over no_images)) (s : NodeFrames)
      (reads : (n : ℕ) (t : ℤ) → s n t ≡ true → (m : ℕ) (f : ℤ) → IsReadBy (over no_images n) t m f → s m f ≡ true) where
    onward_in : (step : Step) (e : EndShown) → EndIn s e → EndIn s (onward step e)
    onward_in step Void h = h
    onward_in step (Frame n f r through) h = h
    onward_in step (Render n f r cut through) h = h

    clip_in : (e : Ends) (o : Option ℕ) (f : ℤ) (r : Bounds) → ((m : ℕ) → o ≡ Some m → EndIn s (e m f r))
        → EndIn s (clip_end e o f r)
    clip_in e None f r h = tt
    clip_in e (Some m) f r h = h m refl

    effect_in : (c : Choice) (e : Ends) (k : ℕ) (o : EffectNode) (t : ℤ) (r : Bounds) (p : Identity) → s k t ≡ true
        → ((clip : ℕ) (f : ℤ) → p ≡ Same clip f → (m : ℕ) → clip_node o clip ≡ Some m → EndIn s (e m f r))
        → EndIn s (effect_end c e k o t r p)
    effect_in c e k o t r No there h = there
    effect_in c e k o t r (Same clip f) there h =
        onward_in (effect_step o) (clip_end e (clip_node o clip) f r) (clip_in e (clip_node o clip) f r (h clip f refl))

    source_in : (n : ℕ) (source : SourceFrames) (named : Option ℤ) (r : Bounds) → EndIn s (source_end n source named r)
    source_in n source None r = tt
    source_in n source (Some f) r = tt

    work_in : (k : ℕ) (e : Ends) (n : Shown E) (work : Does E) (t : ℤ) (r : Bounds) → is_empty r ≡ false → s k t ≡ true
        → IsNode k (node_of meaning g.project (a k) n.depth n.components work)
        → ((m : ℕ) (f : ℤ) → IsReadBy (node_of meaning g.project (no_images k) n.depth n.components work) t m f → EndIn s (e m f r))
        → EndIn s (cut_end (chosen (over a)) e k (node_of meaning g.project (a k) n.depth n.components work) t r)
    work_in k e n (does.Source pattern first last hold) t r some there i before =
        source_in k (source_node (a k) n.depth n.components first last hold) (shown_frame first last hold t) r
    work_in k e n (does.Effect x context clips names optional masks params) t r some there i before =
        let o = effect_node (meaning x) g.project n.depth n.components context clips params in
        effect_in (chosen (over a)) e k o t r (o.meaning.same (o.values t) r) there
        (λ clip f is m at. before m f (goes_to o t (clip_node o clip) f m at (same_read k o i t r clip f some is)))

    node_in_set : (k : ℕ) (e : Ends) (o : Option (Shown E)) (t : ℤ) (r : Bounds) → is_empty r ≡ false → s k t ≡ true
        → IsNode k (node_in meaning g.project (a k) o)
        → ((m : ℕ) (f : ℤ) → IsReadBy (node_in meaning g.project (no_images k) o) t m f → EndIn s (e m f r))
        → EndIn s (cut_end (chosen (over a)) e k (node_in meaning g.project (a k) o) t r)
    node_in_set k e None t r some there i before = tt
    node_in_set k e (Some n) t r some there i before = work_in k e n n.does t r some there i before

    sooner : (k m : ℕ) (t f : ℤ) (node : Node) → IsNode k node → IsReadBy node t m f → m < k
    sooner k m t f (Source source) i h = absurd h
    sooner k m t f (Effect o) i h = i.earlier h.clip m h.node

    pub ends_in : (k : ℕ) (t : ℤ) (r : Bounds) → s k t ≡ true → EndIn s (end_of (over a) k t r)
    ends_in = by_place (λ k. (t : ℤ) (r : Bounds) → s k t ≡ true → EndIn s (end_of (over a) k t r)) (λ k before t r there.
        subst (λ (e : EndShown). EndIn s e) (sym (end_is (chosen (over a)) (over a) are_a k t r))
        (by k before t there (meet r (area (over a) k t)) (is_empty (meet r (area (over a) k t))) refl (slice_get g.nodes k) refl))
      where
        by : (k : ℕ) → ((m : ℕ) → m < k → (t : ℤ) (r : Bounds) → s m t ≡ true → EndIn s (end_of (over a) m t r))
            → (t : ℤ) → s k t ≡ true → (q : Bounds) (b : Bool) → is_empty q ≡ b → (o : Option (Shown E)) → slice_get g.nodes k ≡ o
            → EndIn s (node_end (chosen (over a)) (end_of (over a)) k (over a k) t q)
        by k before t there q true none o e = rw none tt
        by k before t there q false some o e =
            let here_none = here no_images k o e in
            rw some
            (subst (λ (node : Node). EndIn s (cut_end (chosen (over a)) (end_of (over a)) k node t q)) (sym (here a k o e))
            (node_in_set k (end_of (over a)) o t q some there (subst (λ (node : Node). IsNode k node) (here a k o e) (are_a k))
            (λ m f h.
            let read = subst (λ (node : Node). IsReadBy node t m f) (sym here_none) h in
            before m (sooner k m t f (over no_images k) (are_none k) read) f q (reads k t there m f read))))

  module _ (form : Form) (laws : (e : E) → Laws (meaning e)) (is : IsProject g.project) (few : length g.nodes ≤ MOST_NODES)
      (are : kept.AreNodes meaning form g.nodes) where
    are_over : (images : Images) → AreImages images → AreNodes (over images)
    are_over images h = are_nodes meaning g.project form g.nodes images laws is few h are

    pub ends_stay : EndsStay meaning g
    ends_stay held all t is_held is_all grown holds n u r reached =
        let agree : AgreeOnWanted meaning g g.output t t held all = λ k f w. same_some meaning (held k f) (all k f) (grown k f) (holds k f w) in (
          ends_same held all g.output t t (are_over held is_held) (are_over all is_all) (are_over no_images none_are) agree n u r reached,
          (λ side. needs_same held all g.output t t (are_over held is_held) (are_over all is_all) (are_over no_images none_are) agree side n u r reached),
        )

    pub ends_reached : EndsReached meaning g
    ends_reached held t is_held n u r reached s closed =
        ends_in held (are_over held is_held) (are_over no_images none_are) s closed.reads n u r (reached s closed)
