-- The plug-ins of a graph: how they are started and found, and which of them plays a node.
use Rattle.std.proofs.Common.{◌≡◌, ◌≢◌, ◌<◌, ◌++◌, ℕ, Option, Some, None, List, [], ◌∷◌, slice_index_or, map, reverse, set, length, refl, sym, ap, subst, ◌∙◌, arith, All, AllPairs, inl, inr}
use Rattle.std.specs.Prelude.{slice_get}
use Rattle.std.specs.List.{Contains}
use Rattle.std.specs.Option.{option_map}
use Rattle.std.specs.Global.{Vec}
use Rattle.std.proofs.lemmas.Option.{none-some, same_Some, slice_get-map, slice_get_within, get_or_from_slice_get}
use Rattle.std.proofs.lemmas.List.{append_assoc, reverse-append}
use Rattle.std.proofs.lemmas.Simd.{map-map}
use Rattle.std.proofs.lemmas.List.Elements.{Contains-get_or, All-contains, All-map}
use Rattle.fx_pixel.specs.declared.Components.{Components}
use Rattle.fx_pixel.specs.declared.Depth.{Depth}
use Rattle.fx_effect.specs.Given.{Given}
use Rattle.fx_effect.specs.Meaning.{Meaning}
use Rattle.fx_effect.specs.declared.values.Values.{Values}
use Rattle.fx_graph.specs.declared.node.Node.{Node}
use Rattle.fx_graph.specs.Shown.{GraphShown, Shown, shown}
use Rattle.fx_life.specs.declared.uses.Use.{Use}
use Rattle.fx_life.specs.declared.uses.Post.{Post}
use Rattle.fx_life.specs.Plugin.{Rendering, MayRenderIn, gate_of}
use Rattle.fx_life.specs.Running.{Run, rendering, AreUsed}
use Rattle.fx_life.specs.Posts.{Lives, Used, used_by, use_by, post_at, IsUsedAt, Plays, MayPlay, HasLife, IsGateOf, IsLifeOf, Serves, uses_at, ArePosted, ArePlaced, handed, IsStarted}
use Rattle.fx_life.proofs.Places.{last_or_before, get_set, get_set_other, there_at, at_there, in_reverse, from_reverse, in_map, from_map, differs, all_pairs_map}

-- ---- one more plug-in

pub handed_on : {E : Type 0} (rest effects : List E) (runs : List (Run E)) (effect : E) (run : Run E)
    → effects ≡ rest ++ effect ∷ [] → run.effect ≡ effect → handed rest (runs ++ run ∷ []) ≡ handed effects runs
handed_on {E} rest effects runs effect run is same =
    ap (λ l. rest ++ map (λ (r : Run E). r.effect) l) (reverse-append runs (run ∷ []))
    ∙ ap (λ e. rest ++ e ∷ map (λ (r : Run E). r.effect) (reverse runs)) same
    ∙ sym (append_assoc rest (effect ∷ []) (map (λ (r : Run E). r.effect) (reverse runs)))
    ∙ ap (λ l. l ++ map (λ (r : Run E). r.effect) (reverse runs)) (sym is)

-- the number of the last effect is that of no plug-in
pub unused_number : {E : Type 0} (number : E → ℕ) (rest effects given : List E) (runs : List (Run E)) (effect : E)
    (i : ℕ) (r : Run E)
    → AllPairs (λ a b. number a ≢ number b) given → handed effects runs ≡ given → effects ≡ rest ++ effect ∷ []
    → slice_get runs i ≡ Some r → number effect ≢ number r.effect
unused_number {E} number rest effects given runs effect i r apart are is there =
    let behind = map (λ (q : Run E). q.effect) (reverse runs) in
    let whole : given ≡ rest ++ effect ∷ behind =
    sym are ∙ ap (λ l. l ++ behind) is ∙ append_assoc rest (effect ∷ []) behind in
    differs (λ a b. number a ≢ number b) rest effect behind r.effect
    (subst (AllPairs (λ a b. number a ≢ number b)) whole apart)
    (in_map (λ (q : Run E). q.effect) (reverse runs) r (in_reverse runs r (there_at runs i r there)))

pub placed_more : {E : Type 0} (number : E → ℕ) (runs after : List (Run E)) (places : List ℕ) (run : Run E)
    (n place : ℕ)
    → after ≡ runs ++ run ∷ [] → number run.effect ≡ n → place ≡ length runs → n < length places
    → ArePlaced number runs places → ((i : ℕ) (r : Run E) → slice_get runs i ≡ Some r → n ≢ number r.effect)
    → ArePlaced number after (set places n place)
placed_more {E} number runs after places run n place grown is long low are other i r there =
    elim (last_or_before runs run r i (ap (λ l. slice_get l i) (sym grown) ∙ there)) [
      | inl before ↦
          get_set_other places n (number r.effect) place (λ same. other i r before (sym same)) ∙ are i r before
      | inr (at, same) ↦
          subst (λ m. slice_get (set places n place) m ≡ Some i) (sym is ∙ ap (λ (q : Run E). number q.effect) same)
          (get_set places n place low ∙ ap (λ m. Some m) (long ∙ sym at))
    ]

-- it is started for what its effect is used for
pub started_for : {E : Type 0} (number : E → ℕ) (uses : List (Vec Use)) (first last : ℕ) (effect : E) (run : Run E)
    (mine : List Use) → uses_at uses (number effect) ≡ mine → run.effect ≡ effect → AreUsed run.contexts mine
    → run.sequences ≡ map (rendering (number effect) first last) mine → IsStarted number uses first last run
started_for number uses first last effect run mine here same contexts sequences =
    let there : uses_at uses (number run.effect) ≡ mine = ap (λ e. uses_at uses (number e)) same ∙ here in
    record {
      contexts = subst (AreUsed run.contexts) (sym there) contexts;
      sequences = sequences
          ∙ ap (λ e. map (rendering (number e) first last) mine) (sym same)
          ∙ ap (map (rendering (number run.effect) first last)) (sym there);
    }

-- ---- a life

-- the plug-in of an effect of this number
run_of : {E : Type 0} (number : E → ℕ) (effects : List E) (runs : List (Run E)) (n : ℕ) → handed [] runs ≡ effects
    → Contains (map number effects) n → (run : Run E) × Contains runs run × (number run.effect ≡ n)
run_of {E} number effects runs n are there =
    let e = from_map number effects n there in
    let r = from_map (λ (q : Run E). q.effect) (reverse runs) e.0 (subst (λ l. Contains l e.0) (sym are) e.1) in
    (r.0, from_reverse runs r.0 r.1, ap number r.2 ∙ e.2)

pub is_life : {E : Type 0} (number : E → ℕ) (nodes : List (Node E)) (first last : ℕ) (life : Lives E)
    (uses : List (Vec Use))
    → ArePosted number nodes (length nodes) life.posts uses
    → ((k : ℕ) (used : Used E) → IsUsedAt nodes k used → Contains (map number life.effects) (number used.effect))
    → handed [] life.runs ≡ life.effects → All (IsStarted number uses first last) life.runs
    → IsLifeOf number nodes first last life
is_life {E} number nodes first last life uses are among in_order started k used at =
    let post = are.posted k used (slice_get_within nodes k at.0 at.1) at in
    let run = run_of number life.effects life.runs (number used.effect) in_order (among k used at) in
    let is = All-contains (IsStarted number uses first last) life.runs run.0 started run.1 in
    let one : Use = use_by k used in
    let there : slice_get (uses_at uses (number run.0.effect)) post.0 ≡ Some one =
    ap (λ n. slice_get (uses_at uses n) post.0) run.2 ∙ post.2 in
    let instance : slice_get run.0.sequences post.0 ≡ Some (rendering (number used.effect) first last one) =
    ap (λ l. slice_get l post.0) is.sequences
    ∙ slice_get-map (rendering (number run.0.effect) first last) (uses_at uses (number run.0.effect)) post.0
    ∙ ap (option_map (rendering (number run.0.effect) first last)) there
    ∙ ap (λ n. Some (rendering n first last one)) run.2 in
    let plays : Plays number life k used.effect = record {
      run = run.0;
      there = run.1;
      same = run.2;
      place = post.0;
      posted = post.1;
      sequence = rendering (number used.effect) first last one;
      instance = instance;
      own = refl;
      described = All-contains (λ (u : Use). Contains run.0.contexts u.context) (uses_at uses (number run.0.effect)) one
          is.contexts.each (there_at (uses_at uses (number run.0.effect)) post.0 one there);
    } in
    (plays, refl)

-- what it was started for is what nodes use it for
pub serves : {E : Type 0} (number : E → ℕ) (nodes : List (Node E)) (count first last : ℕ) (posts : List (Option Post))
    (uses : List (Vec Use)) (run : Run E) → ArePosted number nodes count posts uses
    → IsStarted number uses first last run → Serves number nodes run
serves {E} number nodes count first last posts uses run are is =
    let mine = uses_at uses (number run.effect) in
    let begun = rendering (number run.effect) first last in
    let P : Rendering → Type 0 =
    λ s. (used : Used E) × IsUsedAt nodes s.node used × (number used.effect ≡ number run.effect) in
    let contexts =
    ap (map (λ (s : Rendering). s.context)) is.sequences ∙ map-map (λ (s : Rendering). s.context) begun mine in
    record {
      each = subst (All P) (sym is.sequences) (All-map P begun mine (λ i d inside.
          let of = are.used (number run.effect) (slice_index_or mine i d) (Contains-get_or mine i d inside) in
          (of.0, of.2, of.3)));
      apart = subst (AllPairs (λ (a b : Rendering). a.node ≢ b.node)) (sym is.sequences)
          (all_pairs_map (λ (a b : Rendering). a.node ≢ b.node) begun mine (are.apart (number run.effect)));
      contexts = subst (λ l. All (Contains l) run.contexts) (sym contexts) is.contexts.used;
      once = is.contexts.once;
    }

-- the plug-in at the place of its number
pub at_place : {E : Type 0} (number : E → ℕ) (runs : List (Run E)) (places : List ℕ) (n : ℕ) (run : Run E)
    → ArePlaced number runs places → Contains runs run → number run.effect ≡ n
    → (i : ℕ) × (slice_get places n ≡ Some i) × (slice_get runs i ≡ Some run)
at_place number runs places n run are there is =
    let at = at_there runs run there in
    (at.0, ap (slice_get places) (sym is) ∙ are at.0 run at.1, at.1)

-- and the place itself
pub placed_at : {E : Type 0} (number : E → ℕ) (runs : List (Run E)) (places : List ℕ) (n : ℕ) (run : Run E) (place : ℕ)
    → ArePlaced number runs places → Contains runs run → number run.effect ≡ n → place ≡ slice_index_or places n place
    → slice_get runs place ≡ Some run
placed_at number runs places n run place are there is read =
    let at = at_place number runs places n run are there is in
    subst (λ i. slice_get runs i ≡ Some run) (sym (read ∙ get_or_from_slice_get places n at.0 place at.1)) at.2

-- ---- the plug-in that plays a node

-- what is read at a place where a post stands
pub read_post : (posts : List (Option Post)) (node : ℕ) (read : Option Post) (post : Post)
    → slice_get posts node ≡ Some (Some post) → read ≡ slice_index_or posts node read → read ≡ Some post
read_post posts node read post there is = is ∙ get_or_from_slice_get posts node (Some post) read there

-- the node's post is that which plays
pub post_is : {E : Type 0} (number : E → ℕ) (life : Lives E) (node : ℕ) (post : Post) (effect : E)
    → slice_get life.posts node ≡ Some (Some post) → (plays : Plays number life node effect)
    → post ≡ record { plugin = number effect; place = plays.place }
post_is number life node post effect at_post plays =
    let playing : Post = record { plugin = number effect; place = plays.place } in
    same_Some post playing (same_Some (Some post) (Some playing) (sym at_post ∙ plays.posted))

-- there is a plug-in of its number
pub post_played : {E : Type 0} (number : E → ℕ) (life : Lives E) (node : ℕ) (post : Post) (effect : E)
    → slice_get life.posts node ≡ Some (Some post) → Plays number life node effect
    → (run : Run E) × Contains life.runs run × (number run.effect ≡ post.plugin)
post_played number life node post effect at_post plays =
    let same = post_is number life node post effect at_post plays in
    (plays.run, plays.there, plays.same ∙ ap (λ (s : Post). s.plugin) (sym same))

-- and it is that which plays
pub run_is : {E : Type 0} (number : E → ℕ) (life : Lives E) (node : ℕ) (post : Post) (run : Run E) (effect : E)
    → slice_get life.posts node ≡ Some (Some post)
    → ((r : Run E) → Contains life.runs r → number r.effect ≡ post.plugin → run ≡ r)
    → (plays : Plays number life node effect) → run ≡ plays.run
run_is number life node post run effect at_post only plays =
    only plays.run plays.there (plays.same ∙ ap (λ (s : Post). s.plugin)
    (sym (post_is number life node post effect at_post plays)))

pub place_within : {E : Type 0} (number : E → ℕ) (life : Lives E) (node : ℕ) (post : Post) (run : Run E) (effect : E)
    → slice_get life.posts node ≡ Some (Some post)
    → ((r : Run E) → Contains life.runs r → number r.effect ≡ post.plugin → run ≡ r)
    → Plays number life node effect → post.place < length run.sequences
place_within {E} number life node post run effect at_post only plays =
    let low = slice_get_within plays.run.sequences plays.place plays.sequence plays.instance in
    let place : post.place ≡ plays.place =
    ap (λ (s : Post). s.place) (post_is number life node post effect at_post plays) in
    let long : length run.sequences ≡ length plays.run.sequences =
    ap (λ (r : Run E). length r.sequences) (run_is number life node post run effect at_post only plays) in
    omega (arith, low, place, long)

-- the plug-in's own effect plays the node as well
pub plays_own : {E : Type 0} (number : E → ℕ) (life : Lives E) (node : ℕ) (effect : E)
    → (plays : Plays number life node effect) → Plays number life node plays.run.effect
plays_own number life node effect plays =
    record {
      run = plays.run;
      there = plays.there;
      same = refl;
      place = plays.place;
      posted = plays.posted ∙ ap (λ n. Some (post_at n plays.place)) (sym plays.same);
      sequence = plays.sequence;
      instance = plays.instance;
      own = plays.own;
      described = plays.described;
    }

-- the sequence at its place is that which plays
own_sequence : {E : Type 0} (number : E → ℕ) (life : Lives E) (node : ℕ) (post : Post) (run : Run E) (effect : E)
    (s : Rendering) → slice_get life.posts node ≡ Some (Some post)
    → ((r : Run E) → Contains life.runs r → number r.effect ≡ post.plugin → run ≡ r)
    → (plays : Plays number life node effect) → slice_get run.sequences post.place ≡ Some s → s ≡ plays.sequence
own_sequence {E} number life node post run effect s at_post only plays there =
    let place : post.place ≡ plays.place =
    ap (λ (s : Post). s.place) (post_is number life node post effect at_post plays) in
    let same : slice_get run.sequences post.place ≡ slice_get plays.run.sequences plays.place =
    ap (λ (r : Run E). slice_get r.sequences post.place) (run_is number life node post run effect at_post only plays)
    ∙ ap (slice_get plays.run.sequences) place in
    same_Some s plays.sequence (sym there ∙ same ∙ plays.instance)

-- what the node may render its instance may, in its own context
pub may_there : {E : Type 0} (meaning : E → Meaning) (number : E → ℕ) (life : Lives E) (node : ℕ) (post : Post)
    (run : Run E) (s : Rendering) (v : Values) (given : Given) (depth : Depth) (c : Components)
    → ((a b : E) → number a ≡ number b → meaning a ≡ meaning b) → slice_get life.posts node ≡ Some (Some post)
    → ((r : Run E) → Contains life.runs r → number r.effect ≡ post.plugin → run ≡ r)
    → MayPlay number meaning life node v given depth c → slice_get run.sequences post.place ≡ Some s
    → MayRenderIn s.context (meaning run.effect).shape v given depth c
may_there {E} meaning number life node post run s v given depth c one_meaning at_post only plays there =
    let effect = plays.effect in
    let number_is : number run.effect ≡ number effect =
    ap (λ (r : Run E). number r.effect) (run_is number life node post run effect at_post only plays.plays)
    ∙ plays.plays.same in
    let context = ap (λ (r : Rendering). r.context) (own_sequence number life node post run effect s at_post only plays.plays there) in
    subst (λ (m : Meaning). MayRenderIn s.context m.shape v given depth c)
    (sym (one_meaning run.effect effect number_is)) (plays.may.0, plays.may.1 ∙ sym context)

-- what the plug-in there means is what any effect means that plays the node
pub means : {E : Type 0} (meaning : E → Meaning) (number : E → ℕ) (life : Lives E) (node : ℕ) (post : Post)
    (run : Run E) (effect : E) → ((a b : E) → number a ≡ number b → meaning a ≡ meaning b)
    → slice_get life.posts node ≡ Some (Some post)
    → ((r : Run E) → Contains life.runs r → number r.effect ≡ post.plugin → run ≡ r)
    → Plays number life node effect → meaning run.effect ≡ meaning effect
means {E} meaning number life node post run effect one_meaning at_post only plays =
    one_meaning run.effect effect
    (ap (λ (r : Run E). number r.effect) (run_is number life node post run effect at_post only plays) ∙ plays.same)

-- the gate of the node is that of the plug-in's own effect there
pub gate_is : {E : Type 0} (meaning : E → Meaning) (number : E → ℕ) (life : Lives E) (node : ℕ) (post : Post)
    (run : Run E) (effect : E) (gate : Option ℕ) (s : Rendering) → slice_get life.posts node ≡ Some (Some post)
    → ((r : Run E) → Contains life.runs r → number r.effect ≡ post.plugin → run ≡ r)
    → Plays number life node effect → IsGateOf meaning number life node gate
    → slice_get run.sequences post.place ≡ Some s
    → gate ≡ gate_of (meaning run.effect).shape.safety (number run.effect) s.node
gate_is {E} meaning number life node post run effect gate s at_post only plays is there =
    is plays.run.effect (plays_own number life node effect plays)
    ∙ ap (λ (r : Run E). gate_of (meaning r.effect).shape.safety (number r.effect) node)
    (sym (run_is number life node post run effect at_post only plays))
    ∙ ap (gate_of (meaning run.effect).shape.safety (number run.effect))
    (sym (ap (λ (r : Rendering). r.node) (own_sequence number life node post run effect s at_post only plays there) ∙ plays.own))

-- ---- a life of a graph, by what contracts see of it

-- a life that was started for a graph with these nodes has the instance of each
pub started_life : {E : Type 0} (number : E → ℕ) (nodes : List (Node E)) (first last : ℕ) (g : GraphShown E)
    (life : Lives E) → map shown nodes ≡ g.nodes → IsLifeOf number nodes first last life → HasLife number g life
started_life {E} number nodes first last g life same started k node used there is =
    by_node (slice_get nodes k) refl
    (sym (slice_get-map shown nodes k) ∙ ap (λ (ns : List (Shown E)). slice_get ns k) same ∙ there)
  where
    by_node : (o : Option (Node E)) → slice_get nodes k ≡ o → option_map shown o ≡ Some node
        → (plays : Plays number life k used.effect) × (plays.sequence.context ≡ used.context)
    by_node None e h = absurd (none-some node h)
    by_node (Some n) e h =
        let has = started k used (n, e, ap (λ (s : Shown E). used_by s.does) (same_Some (shown n) node h) ∙ is) in
        (has.0, ap (λ (s : Rendering). s.context) has.1)

-- in it a node may play what may be rendered in the context of its use
pub may_play : {E : Type 0} (number : E → ℕ) (meaning : E → Meaning) (g : GraphShown E) (life : Lives E)
    → HasLife number g life → (k : ℕ) (node : Shown E) (used : Used E)
    → slice_get g.nodes k ≡ Some node → used_by node.does ≡ Some used
    → (v : Values) (given : Given) (depth : Depth) (c : Components)
    → MayRenderIn used.context (meaning used.effect).shape v given depth c
    → MayPlay number meaning life k v given depth c
may_play number meaning g life has k node used there is v given depth c may =
    let plays = has k node used there is in
    record { effect = used.effect; plays = plays.0; may = (may.0, may.1 ∙ sym plays.1) }
