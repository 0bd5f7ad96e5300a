-- Values of properties.
use Rattle.std.specs.Prelude.{ℕ, ◌==◌, Bool, true, false, ◌||◌, List, length, Result, Ok, Err}
use Rattle.std.specs.List.{list_any}
use Rattle.std.specs.Str.{bytes_eq}
use Rattle.fx_props.specs.declared.value.PropKind.{PropKind}
use Rattle.fx_props.specs.declared.value.PropKind.TheVariants as kind
use Rattle.fx_props.specs.declared.value.PropValue.{PropValue}
use Rattle.fx_props.specs.declared.value.PropValue.TheVariants as value
use Rattle.fx_props.specs.declared.fault.PropFault.{PropFault}
use Rattle.fx_props.specs.declared.value.Given.{Given}
use Rattle.fx_props.specs.declared.value.Given.TheVariants as given

abbrev pub kind_of : PropValue → PropKind
kind_of (value.Int n) = kind.Int
kind_of (value.Fix f) = kind.Fix
kind_of (value.Text text) = kind.Text

-- whether two kinds are one
abbrev pub same_kind : PropKind → PropKind → Bool
same_kind kind.Int kind.Int = true
same_kind kind.Fix kind.Fix = true
same_kind kind.Text kind.Text = true
same_kind a b = false

-- whether it is one of the texts
abbrev pub is_listed : List (List ℕ) → PropValue → Bool
is_listed texts (value.Text text) = list_any (λ t. bytes_eq t text) texts
is_listed texts v = false

-- where texts are listed only these are allowed, and else any value
abbrev pub is_allowed : List (List ℕ) → PropValue → Bool
is_allowed texts v = (length texts == 0) || is_listed texts v

-- what a call gave, as a value of a property
abbrev pub as_value : {A : Type 0} → (A → PropValue) → Result A PropFault → Result PropValue PropFault
as_value of (Ok a) = Ok (of a)
as_value of (Err fault) = Err fault

-- the value that was handed in
abbrev pub value_given : Given → PropValue
value_given (given.Int n) = value.Int n
value_given (given.Fix f) = value.Fix f
value_given (given.Text text) = value.Text text.now
