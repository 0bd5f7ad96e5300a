-- What contracts see of a plug-in that is described, of its instances, of what these may render, and of its gates.
use Rattle.std.specs.Prelude.{◌≡◌, ℕ, ◌+◌, ◌==◌, not, List, [], filter, Option, Some, None}
use Rattle.fx_pixel.specs.declared.Components.{Components}
use Rattle.fx_pixel.specs.declared.Depth.{Depth}
use Rattle.fx_effect.specs.Asked.{MayRender}
use Rattle.fx_effect.specs.Given.{Given}
use Rattle.fx_effect.specs.Shape.{Shape}
use Rattle.fx_effect.specs.declared.values.Values.{Values}
use Rattle.fx_effect.specs.declared.action.Context.{Context}
use Rattle.fx_effect.specs.declared.action.Safety.{Safety}
use Rattle.fx_effect.specs.declared.action.Safety.TheVariants as safety

-- a plug-in, the contexts in which it was described, and the nodes of its live instances
pub record Plugin (E : Type 0) : Type 0 where
  pub effect : E
  pub contexts : List Context
  pub live : List ℕ

-- an instance: the number of its plug-in, its node, and the context in which it was created
pub record MadeFor : Type 0 where
  pub plugin : ℕ
  pub node : ℕ
  pub context : Context

-- an instance in a sequence of renders, from the first frame to the last
pub record Rendering : Type 0 where
  pub plugin : ℕ
  pub node : ℕ
  pub context : Context
  pub first : ℕ
  pub last : ℕ

-- the plug-in as it is once it is described
abbrev pub described : {E : Type 0} → E → Plugin E
described effect = record { effect = effect; contexts = []; live = [] }

-- the nodes that are left without this one
abbrev pub without : ℕ → List ℕ → List ℕ
without node nodes = filter (λ n. not (n == node)) nodes

-- the gate that a render holds: the plug-in's own, the instance's own, or none
abbrev pub gate_of : Safety → ℕ → ℕ → Option ℕ
gate_of safety.Unsafe number node = Some number
gate_of safety.InstanceSafe number node = Some (64 + node)
gate_of safety.FullySafe number node = None

-- what an instance that was created in this context may render: its values are lawful there, and its inputs those that
-- the effect describes there
abbrev pub MayRenderIn : Context → Shape → Values → Given → Depth → Components → Type 0
MayRenderIn context s v given depth c = (may : MayRender s v given depth c) × (may.context ≡ context)
