-- A graph's nodes with another parameter of one of them.
use Rattle.std.specs.Prelude.{◌≡◌, ℕ, zero, suc, List, [], ◌∷◌, set, Some, slice_get}
use Rattle.fx_params.specs.declared.def.ParamDef.{ParamDef}
use Rattle.fx_params.specs.Parameter.{IsSound, Parameter}
use Rattle.fx_graph.specs.Shown.{Does, Effect, Shown, Source}

-- with this parameter at its place
abbrev pub with_param : {E : Type 0} → ℕ → Parameter → Does E → Does E
with_param i p (Source pattern first last hold) = Source pattern first last hold
with_param i p (Effect e context clips names optional masks params) =
    Effect e context clips names optional masks (set params i p)

abbrev pub edited : {E : Type 0} → ℕ → Parameter → Shown E → Shown E
edited i p n = record n { does = with_param i p n.does }

-- with the node at a place edited
abbrev pub with_edit : {E : Type 0} → ℕ → ℕ → Parameter → List (Shown E) → List (Shown E)
with_edit k i p [] = []
with_edit zero i p (n ∷ ns) = edited i p n ∷ ns
with_edit (suc k) i p (n ∷ ns) = n ∷ with_edit k i p ns

-- an effect that has a parameter of this definition at the place
abbrev pub HasParam : {E : Type 0} → Does E → ℕ → ParamDef → Type 0
HasParam (Source pattern first last hold) i def = ⊥
HasParam (Effect e context clips names optional masks params) i def =
    (p : Parameter) × (slice_get params i ≡ Some p) × (p.def ≡ def)

-- the node at the place is such an effect
pub record IsEditOf {E : Type 0} (nodes : List (Shown E)) (k i : ℕ) (p : Parameter) : Type 0 where
  pub node : Shown E
  pub there : slice_get nodes k ≡ Some node
  pub param : HasParam node.does i p.def
