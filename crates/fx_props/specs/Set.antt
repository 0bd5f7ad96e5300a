-- A property set: a map from names to properties.
use Rattle.std.specs.Prelude.{◌≡◌, ◌≢◌, ℕ, List, [], ◌∷◌, length, is_some, AllPairs, Option, Some, None, Result, if◌then◌else◌}
use Rattle.std.specs.Option.{option_map, option_and_then, ok_or}
use Rattle.std.specs.Ordering.{nat_cmp}
use Rattle.std.specs.Cmp.Lexicographic.{slice_cmp}
use Rattle.std.specs.FinMap as map
use Rattle.std.specs.Str.{bytes_eq}
use Rattle.fx_props.specs.declared.value.PropKind.{PropKind}
use Rattle.fx_props.specs.declared.value.PropValue.{PropValue}
use Rattle.fx_props.specs.declared.def.PropDef.{PropDef}
use Rattle.fx_props.specs.declared.fault.PropFault.{PropFault}
use Rattle.fx_props.specs.declared.fault.PropFault.TheVariants.{ErrUnknown}
use Rattle.fx_props.specs.Value.{kind_of}
use Rattle.fx_props.specs.Property.{Property, property_made, with_values, of_kind, value_in, placed, put_refusal}

-- names are in the order of their bytes
abbrev pub Set : Type 0
Set = map.FinMap (slice_cmp nat_cmp) Property

-- the property of the name
abbrev pub property : Set → List ℕ → Option Property
property set name = map.get set name

-- the property of the name, where it is of the kind
abbrev pub property_of : Set → PropKind → List ℕ → Option Property
property_of set kind name = option_and_then (of_kind kind) (property set name)

-- the list of values of the name and kind
abbrev pub values_of : Set → PropKind → List ℕ → Option (List PropValue)
values_of set kind name = option_map (λ p. p.values) (property_of set kind name)

-- what reading one of them gives: the value, or that no such property is there, or else no value at the place
abbrev pub read : Set → PropKind → List ℕ → ℕ → Result PropValue PropFault
read set kind name index = value_in (values_of set kind name) index

-- this set is that one with the list of one name replaced
pub record Replaces (old new : Set) (name : List ℕ) (values : List PropValue) : Type 0 where
  pub there : property new name ≡ option_map (λ p. with_values p values) (property old name)
  pub rest : (n : List ℕ) → n ≢ name → property new n ≡ property old n

-- why putting a value at a place of the list of the name and the value's kind is refused
abbrev pub refusal : Set → List ℕ → ℕ → PropValue → Option PropFault
refusal set name index v = put_refusal (property_of set (kind_of v) name) index v

-- why the values of the name can't be reset
abbrev pub reset_refusal : Set → List ℕ → Option PropFault
reset_refusal set name = if is_some (property set name) then None else Some ErrUnknown

-- how many values the name has
abbrev pub dimension_of : Set → List ℕ → Result ℕ PropFault
dimension_of set name = ok_or (option_map (λ p. length p.values) (property set name)) ErrUnknown

-- the value was put at the place of that list
abbrev pub Puts : Set → Set → List ℕ → ℕ → PropValue → Type 0
Puts old new name index v =
    (values : List PropValue) → values_of old (kind_of v) name ≡ Some values
    → Replaces old new name (placed values index v)

-- the list of the name is that of the start
abbrev pub Resets : Set → Set → List ℕ → Type 0
Resets old new name = (p : Property) → property old name ≡ Some p → Replaces old new name p.start

-- names differ
abbrev pub AreApart : List PropDef → Type 0
AreApart defs = AllPairs (λ a b. a.name ≢ b.name) defs

-- the property that the definitions give a name
abbrev pub made : List PropDef → List ℕ → Option Property
made [] name = None
made (def ∷ defs) name = if bytes_eq name def.name then Some (property_made def) else made defs name
