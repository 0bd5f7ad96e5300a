-- What an instance may render in the context of its use.
use Rattle.std.proofs.Common.{◌≡◌, sym}
use Rattle.std.specs.Prelude.{IsTrue}
use Rattle.fx_pixel.specs.declared.Depth.{Depth}
use Rattle.fx_pixel.specs.declared.Components.{Components}
use Rattle.fx_effect.specs.declared.action.Context.{Context}
use Rattle.fx_effect.specs.declared.values.Values.{Values}
use Rattle.fx_effect.specs.Given.{Given}
use Rattle.fx_effect.specs.Shape.{IsLawfulIn, Shape, shown_components, supports}
use Rattle.fx_life.specs.Plugin.{MayRenderIn}

pub may_in : (s : Shape) (v : Values) (given : Given) (depth : Depth) (c : Components) (context own : Context)
    → IsLawfulIn s context v → IsTrue (supports s depth c) → given.depth ≡ depth
    → given.components ≡ shown_components s context c → own ≡ context → MayRenderIn own s v given depth c
may_in s v given depth c context own lawful supported deep shown is = (
  record { context = context; lawful = lawful; supported = supported; depth_is = deep; clips = shown },
  sym is,
)
