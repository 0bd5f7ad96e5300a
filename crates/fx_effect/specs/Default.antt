-- What stands for an answer that an effect leaves to the host (OpenFX 1.4, "Default"; where several frames are
-- needed the hull over them is this project's own choice, as is the region in the general context).
use Rattle.std.specs.Prelude.{ℕ, ℤ, Bool, true, false, not, ◌&&◌, List, [], ◌∷◌, if◌then◌else◌}
use Rattle.fx_base.specs.Bounds.{Bounds, none}
use Rattle.fx_base.specs.Rect.{hull}
use Rattle.fx_props.specs.Entries.{region_of}
use Rattle.fx_effect.specs.declared.action.Context.{Context}
use Rattle.fx_effect.specs.declared.action.Context.TheVariants as context
use Rattle.fx_effect.specs.declared.values.Values.{Values}

-- the hull of a first rectangle and the regions of the connected clips that aren't optional
abbrev pub hull_from : Bounds → List Bool → List Bool → List Bounds → Bounds
hull_from r (optional ∷ os) (connected ∷ cs) (region ∷ regions) =
    hull_from (if connected && not optional then hull r region else r) os cs regions
hull_from r os cs regions = r

-- whether such a clip is there
abbrev pub has_required : List Bool → List Bool → Bool
has_required (optional ∷ os) (connected ∷ cs) =
    if connected && not optional then true else has_required os cs
has_required os cs = false

-- the default region of definition
abbrev pub default_rod : Context → List Bool → Values → List Bounds → Bounds
default_rod context.Generator optional v regions = v.project
default_rod context.Filter optional v regions = region_of regions 0
default_rod context.Transition optional v regions = hull (region_of regions 0) (region_of regions 1)
default_rod context.General optional v regions =
    if has_required optional v.connected then hull_from none optional v.connected regions else v.project

-- the default frames of each clip: the current one
abbrev pub default_spans : Values → ℕ → List (ℤ × ℤ)
default_spans v clip = (v.frame, v.frame) ∷ []
