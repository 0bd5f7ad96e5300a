-- A graph and its nodes as contracts see them: with lists in place of vectors.
use Rattle.std.specs.Prelude.{ℕ, Bool, List, Option, map}
use Rattle.fx_base.specs.Bounds.{Bounds}
use Rattle.fx_pixel.specs.declared.Depth.{Depth}
use Rattle.fx_pixel.specs.declared.Components.{Components}
use Rattle.fx_pixel.specs.declared.Format.{Format}
use Rattle.fx_params.specs.Parameter.{Parameter}
use Rattle.fx_effect.specs.declared.action.Context.{Context}
use Rattle.fx_graph.specs.declared.node.Node.{Node}
use Rattle.fx_graph.specs.declared.node.Work.{Work}
use Rattle.fx_graph.specs.declared.node.Work.TheVariants as work

-- a source: its pattern, its first and last frame, and whether it holds; or the use of an effect: its context, the
-- node of each clip, the clips' names, which are optional, which are masks, and the parameters
pub data Does (E : Type 0) : Type 0 where
  Source : List ℕ → ℕ → ℕ → Bool → Does E
  Effect : E → Context → List (Option ℕ) → List (List ℕ) → List Bool → List Bool → List Parameter → Does E

pub record Shown (E : Type 0) : Type 0 where
  pub name : List ℕ
  pub depth : Depth
  pub components : Components
  pub does : Does E

-- the project's extent, depth and components; the place of the node that is rendered, the pattern of the files' names
-- and their format; the first and last frame; the nodes
pub record GraphShown (E : Type 0) : Type 0 where
  pub project : Bounds
  pub depth : Depth
  pub components : Components
  pub output : ℕ
  pub file : List ℕ
  pub format : Format
  pub first : ℕ
  pub last : ℕ
  pub nodes : List (Shown E)

abbrev pub does_of : {E : Type 0} → Work E → Does E
does_of (work.Source pattern first last hold) = Source pattern first last hold
does_of (work.Effect e c clips names optional masks params) =
    Effect e c clips.items names optional masks params.items

abbrev pub shown : {E : Type 0} → Node E → Shown E
shown node =
    record { name = node.name; depth = node.depth; components = node.components; does = does_of node.work }

abbrev pub names_of : {E : Type 0} → List (Shown E) → List (List ℕ)
names_of nodes = map (λ node. node.name) nodes
