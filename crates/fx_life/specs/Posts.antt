-- Which instance renders which node of a graph.
use Rattle.std.specs.Prelude.{◌≡◌, ◌≢◌, ◌<◌, ◌≤◌, ℕ, List, [], ◌∷◌, ◌++◌, map, reverse, length, All, AllPairs, Option, Some, None, slice_get, ◌==◌, if◌then◌else◌}
use Rattle.std.specs.List.{Contains}
use Rattle.std.specs.Option.{option_map_or}
use Rattle.std.specs.Global.{Vec}
use Rattle.fx_pixel.specs.declared.Components.{Components}
use Rattle.fx_pixel.specs.declared.Depth.{Depth}
use Rattle.fx_effect.specs.declared.action.Context.{Context}
use Rattle.fx_effect.specs.declared.values.Values.{Values}
use Rattle.fx_effect.specs.Given.{Given}
use Rattle.fx_effect.specs.Meaning.{Meaning}
use Rattle.fx_graph.specs.Shown.{Does, GraphShown, Shown, Source, Effect, does_of}
use Rattle.fx_graph.specs.declared.node.Node.{Node}
use Rattle.fx_life.specs.declared.uses.Use.{Use}
use Rattle.fx_life.specs.declared.uses.Post.{Post}
use Rattle.fx_life.specs.Plugin.{Rendering, MayRenderIn, gate_of}
use Rattle.fx_life.specs.Running.{Run, rendering, AreUsed}

-- the plug-ins, where the instance of each node is, and the effects in the order in which they were handed in
pub record Lives (E : Type 0) : Type 0 where
  pub runs : List (Run E)
  pub posts : List (Option Post)
  pub effects : List E

-- an effect and the context in which it is used
pub record Used (E : Type 0) : Type 0 where
  pub effect : E
  pub context : Context

abbrev pub used_by : {E : Type 0} → Does E → Option (Used E)
used_by (Source pattern first last hold) = None
used_by (Effect e c clips names optional masks params) = Some (record { effect = e; context = c })

-- the use of a node
abbrev pub use_by : {E : Type 0} → ℕ → Used E → Use
use_by k used = record { node = k; context = used.context }

-- a place among the instances of the plug-in of a number
abbrev pub post_at : ℕ → ℕ → Option Post
post_at plugin place = Some (record { plugin = plugin; place = place })

-- the node at a place makes this use of an effect
abbrev pub IsUsedAt : {E : Type 0} → List (Node E) → ℕ → Used E → Type 0
IsUsedAt {E} nodes k used =
    (node : Node E) × (slice_get nodes k ≡ Some node) × (used_by (does_of node.work) ≡ Some used)

-- ---- a life of a graph

-- the node's instance, of the plug-in of the effect's number, in a sequence
pub record Plays {E : Type 0} (number : E → ℕ) (life : Lives E) (node : ℕ) (effect : E) : Type 0 where
  pub run : Run E
  pub there : Contains life.runs run
  pub same : number run.effect ≡ number effect
  pub place : ℕ
  pub posted : slice_get life.posts node ≡ Some (post_at (number effect) place)
  pub sequence : Rendering
  pub instance : slice_get run.sequences place ≡ Some sequence
  pub own : sequence.node ≡ node
  pub described : Contains run.contexts sequence.context

-- each node that uses an effect has its instance, in the context of the use and in a sequence over these frames
abbrev pub IsLifeOf : {E : Type 0} → (E → ℕ) → List (Node E) → ℕ → ℕ → Lives E → Type 0
IsLifeOf {E} number nodes first last life =
    (k : ℕ) (used : Used E) → IsUsedAt nodes k used
    → (plays : Plays number life k used.effect)
    × (plays.sequence ≡ rendering (number used.effect) first last (use_by k used))

-- the same over what contracts see of a graph, whatever the frames
abbrev pub HasLife : {E : Type 0} → (E → ℕ) → GraphShown E → Lives E → Type 0
HasLife {E} number g life =
    (k : ℕ) (node : Shown E) (used : Used E) → slice_get g.nodes k ≡ Some node → used_by node.does ≡ Some used
    → (plays : Plays number life k used.effect) × (plays.sequence.context ≡ used.context)

-- the gate of the node's instance
abbrev pub IsGateOf : {E : Type 0} → (E → Meaning) → (E → ℕ) → Lives E → ℕ → Option ℕ → Type 0
IsGateOf {E} meaning number life node gate =
    (effect : E) → Plays number life node effect → gate ≡ gate_of (meaning effect).shape.safety (number effect) node

-- Each instance of the plug-in is that of a node which uses its effect, and no node has two. It was described in their
-- contexts alone, in each once.
pub record Serves {E : Type 0} (number : E → ℕ) (nodes : List (Node E)) (run : Run E) : Type 0 where
  pub each : All (λ s. (used : Used E) × IsUsedAt nodes s.node used × (number used.effect ≡ number run.effect))
      run.sequences
  pub apart : AllPairs (λ a b. a.node ≢ b.node) run.sequences
  pub contexts : All (λ c. Contains (map (λ s. s.context) run.sequences) c) run.contexts
  pub once : AllPairs (λ a b. a ≢ b) run.contexts

-- what a node that uses an effect may be asked to render, in the context of its instance
pub record MayPlay {E : Type 0} (number : E → ℕ) (meaning : E → Meaning) (life : Lives E) (node : ℕ) (v : Values)
    (given : Given) (depth : Depth) (c : Components) : Type 0 where
  pub effect : E
  pub plays : Plays number life node effect
  pub may : MayRenderIn plays.sequence.context (meaning effect).shape v given depth c

-- ---- on the way there

-- what the effect of a number is used for
abbrev pub uses_at : List (Vec Use) → ℕ → List Use
uses_at uses number = option_map_or (λ v. v.items) (slice_get uses number) []

-- what a node adds to that
abbrev pub use_of : {E : Type 0} → (E → ℕ) → ℕ → ℕ → Used E → List Use
use_of number k n used = if number used.effect == n then use_by k used ∷ [] else []

abbrev pub added : {E : Type 0} → (E → ℕ) → ℕ → ℕ → Option (Used E) → List Use
added number k n used = option_map_or (use_of number k n) used []

-- a node's post is the place of its use among those of the effect
abbrev pub IsPosted : {E : Type 0} → (E → ℕ) → List (Option Post) → List (Vec Use) → ℕ → Used E → Type 0
IsPosted number posts uses k used =
    (place : ℕ) × (slice_get posts k ≡ Some (post_at (number used.effect) place))
    × (slice_get (uses_at uses (number used.effect)) place ≡ Some (use_by k used))

-- the first nodes have their posts
pub record ArePosted {E : Type 0} (number : E → ℕ) (nodes : List (Node E)) (count : ℕ) (posts : List (Option Post))
    (uses : List (Vec Use)) : Type 0 where
  pub length_is : length posts ≡ count
  pub posted : (k : ℕ) (used : Used E) → k < count → IsUsedAt nodes k used → IsPosted number posts uses k used
  pub used : (n : ℕ) (u : Use) → Contains (uses_at uses n) u
      → (used : Used E) × (u.node < count) × IsUsedAt nodes u.node used
      × (number used.effect ≡ n) × (used.context ≡ u.context)
  pub apart : (n : ℕ) → AllPairs (λ a b. a.node ≢ b.node) (uses_at uses n)
  pub few : (n : ℕ) → length (uses_at uses n) ≤ count

-- the place of each plug-in stands at its number
abbrev pub ArePlaced : {E : Type 0} → (E → ℕ) → List (Run E) → List ℕ → Type 0
ArePlaced {E} number runs places =
    (i : ℕ) (run : Run E) → slice_get runs i ≡ Some run → slice_get places (number run.effect) ≡ Some i

-- the effects that are left, and then those that were started, the last of them first
abbrev pub handed : {E : Type 0} → List E → List (Run E) → List E
handed rest runs = rest ++ map (λ run. run.effect) (reverse runs)

-- it was started for these uses, over these frames
pub record IsStarted {E : Type 0} (number : E → ℕ) (uses : List (Vec Use)) (first last : ℕ) (run : Run E) : Type 0 where
  pub contexts : AreUsed run.contexts (uses_at uses (number run.effect))
  pub sequences : run.sequences ≡ map (rendering (number run.effect) first last) (uses_at uses (number run.effect))
