-- A property: its kind, its list of values and its rules.
use Rattle.std.specs.Prelude.{◌≡◌, ℕ, ◌<◌, ◌≤◌, Bool, ◌&&◌, ◌||◌, ◌==◌, nat_lt, List, [], ◌∷◌, ◌++◌, length, All, IsTrue, slice_set, slice_get, Option, Some, None, Result, Err, IsOkUnless, if◌then◌else◌, refl}
use Rattle.std.specs.Option.{ok_or}
use Rattle.std.specs.Coded.{Coded, code_by, coded×, coded_ℕ, coded_list}
use Rattle.fx_props.specs.contracts.value.PropKind as kinds
use Rattle.fx_props.specs.contracts.value.PropValue as values
use Rattle.fx_props.specs.declared.value.PropKind.{PropKind}
use Rattle.fx_props.specs.declared.value.PropValue.{PropValue}
use Rattle.fx_props.specs.declared.def.PropDef.{PropDef}
use Rattle.fx_props.specs.declared.fault.PropFault.{PropFault}
use Rattle.fx_props.specs.declared.fault.PropFault.TheVariants.{ErrUnknown, ErrBadIndex, ErrValue, Memory}
use Rattle.fx_props.specs.Value.{kind_of, same_kind, is_allowed}

-- the rules: at most so many values, these texts or any value, and the values at the start
pub record Property : Type 0 where
  pub kind : PropKind
  pub values : List PropValue
  pub most : ℕ
  pub allowed : List (List ℕ)
  pub start : List PropValue

-- a property is stored as the tuple of its fields
abbrev pub property_code : Coded Property
property_code =
    code_by (PropKind × (List PropValue × (ℕ × (List (List ℕ) × List PropValue))))
    (coded× kinds.the_row.coded (coded× (coded_list values.the_row.coded)
    (coded× coded_ℕ (coded× (coded_list (coded_list coded_ℕ)) (coded_list values.the_row.coded)))))
    (λ p. (p.kind, (p.values, (p.most, (p.allowed, p.start)))))
    (λ t. record { kind = t.0; values = t.1.0; most = t.1.1.0; allowed = t.1.1.1.0; start = t.1.1.1.1 })
    (λ _. refl)

-- the property of a definition with these values
abbrev pub property_with : PropDef → List PropValue → Property
property_with def values =
    record { kind = def.kind; values = values; most = def.most; allowed = def.allowed; start = def.start }

-- what a definition makes: the values are those at the start
abbrev pub property_made : PropDef → Property
property_made def = property_with def def.start

-- the property with this list, and the rest as it was
abbrev pub with_values : Property → List PropValue → Property
with_values p values = record p { values = values }

-- the list keeps to a property's rules
pub record IsLawfulList (kind : PropKind) (most : ℕ) (allowed : List (List ℕ)) (values : List PropValue) : Type 0 where
  pub of_kind : All (λ v. kind_of v ≡ kind) values
  pub few : length values ≤ most
  pub all_allowed : All (λ v. IsTrue (is_allowed allowed v)) values

-- what a definition has to keep to
abbrev pub IsLawfulDef : PropDef → Type 0
IsLawfulDef def = IsLawfulList def.kind def.most def.allowed def.start

-- what every property keeps
pub record IsLawful (p : Property) : Type 0 where
  pub values : IsLawfulList p.kind p.most p.allowed p.values
  pub start : IsLawfulList p.kind p.most p.allowed p.start
  pub countable : p.most < 4294967296

-- the property, if it is of the kind
abbrev pub of_kind : PropKind → Property → Option Property
of_kind kind p = if same_kind p.kind kind then Some p else None

-- reading a list at a place: the value, or that there is no list, or else no value
abbrev pub value_in : Option (List PropValue) → ℕ → Result PropValue PropFault
value_in None index = Err ErrUnknown
value_in (Some values) index = ok_or (slice_get values index) ErrBadIndex

-- whether a value can be put at the place: over one that stands there, or behind the last one while there are fewer
-- than the most
abbrev pub takes_at : Property → ℕ → Bool
takes_at p index = nat_lt index (length p.values) || ((index == length p.values) && nat_lt index p.most)

-- the list with the value at the place, over the one that stands there or behind the last one
abbrev pub placed : List PropValue → ℕ → PropValue → List PropValue
placed values index v = if nat_lt index (length values) then slice_set values index v else values ++ v ∷ []

-- why putting a value is refused: no such property, or else no such place, or else a value that isn't allowed
abbrev pub put_refusal : Option Property → ℕ → PropValue → Option PropFault
put_refusal None index v = Some ErrUnknown
put_refusal (Some p) index v =
    if takes_at p index then (if is_allowed p.allowed v then None else Some ErrValue) else Some ErrBadIndex

-- a refusal is answered exactly where there is one, and else Ok, want of memory aside
abbrev pub IsAnswer : Option PropFault → Result (Unit {0}) PropFault → Type 0
IsAnswer None result = IsOkUnless result Memory
IsAnswer (Some fault) result = result ≡ Err fault
