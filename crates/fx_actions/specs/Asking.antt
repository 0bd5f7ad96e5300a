-- Arguments that are kept, and what is written over in them.
use Rattle.std.specs.Prelude.{◌≡◌, ℕ, ℤ, List, [], ◌∷◌, map, Some}
use Rattle.fx_base.specs.Bounds.{Bounds}
use Rattle.fx_props.specs.declared.names.TheConstants.{TIME, WINDOW, ASKED_REGION}
use Rattle.fx_props.specs.declared.value.PropKind.{PropKind}
use Rattle.fx_props.specs.declared.value.PropKind.TheVariants as kind
use Rattle.fx_props.specs.declared.value.PropValue.{PropValue}
use Rattle.fx_props.specs.declared.value.PropValue.TheVariants as value
use Rattle.fx_props.specs.Property.{Property}
use Rattle.fx_props.specs.Set.{Set, property}
use Rattle.fx_props.specs.Entries.{Entry, whole}
use Rattle.fx_actions.specs.declared.asking.Arguments.{Arguments}

-- a whole number as an int, and else as a fixed-point number
abbrev pub number_value : PropKind → ℤ → PropValue
number_value kind.Int n = value.Int n
number_value kind.Fix n = whole n
number_value kind.Text n = whole n

abbrev pub numbers : PropKind → List ℤ → List PropValue
numbers k ns = map (number_value k) ns

-- the four numbers of a rectangle
abbrev pub bounds_of : Bounds → List ℤ
bounds_of r = r.x1 ∷ r.y1 ∷ r.x2 ∷ r.y2 ∷ []

-- a rectangle under this name
abbrev pub rect_entry : List ℕ → PropKind → Bounds → Entry
rect_entry name k r = record { name = name; kind = k; values = numbers k (bounds_of r) }

-- the property of this name has these numbers, and takes any in their places
pub record HasNumbers (set : Set) (name : List ℕ) (k : PropKind) (held : List ℤ) : Type 0 where
  pub found : Property
  pub there : property set name ≡ Some found
  pub of_kind : found.kind ≡ k
  pub values : found.values ≡ numbers k held
  pub any : found.allowed ≡ []

-- a set of a time and of a rectangle under this name has the numbers that are held
pub record AreArguments (name : List ℕ) (k : PropKind) (args : Arguments) : Type 0 where
  pub time : HasNumbers args.set TIME.now kind.Fix args.frame
  pub bounds : HasNumbers args.set name k args.bounds

-- the arguments of is_identity, and those of get_regions_of_interest
pub record AreBoth (window interest : Arguments) : Type 0 where
  pub window_args : AreArguments WINDOW.now kind.Int window
  pub interest_args : AreArguments ASKED_REGION.now kind.Fix interest
