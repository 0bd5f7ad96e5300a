-- The effect of a name is looked for in the list of all.
use Rattle.std.proofs.Common.{◌≡◌, ◌≢◌, ◌<◌, ◌≤◌, ◌+◌, ℕ, zero, suc, Bool, false, true, List, [], ◌∷◌, Option, Some, None, drop, length, slice_index_or, refl, sym, ap, ◌∙◌, subst, arith}
use Rattle.std.specs.Str.{bytes_eq}
use Rattle.std.proofs.lemmas.Bool.{false≢true}
use Rattle.fx_shipped.specs.declared.shipped.Shipped.{Shipped}
use Rattle.fx_shipped.specs.declared.shipped.Shipped.TheVariants as shipped
use Rattle.fx_shipped.specs.Shipped.{effect_of, first_named, name_of}

one_more : (es : List Shipped) (i : ℕ) (name : List ℕ) (d : Shipped) → i < length es → bytes_eq name (name_of (slice_index_or es i d)) ≡ false
    → first_named (drop (suc i) es) name ≡ first_named (drop i es) name
one_more [] i name d low other = absurd (omega arith)
one_more (e ∷ es) zero name d low other = rw other refl
one_more (e ∷ es) (suc i) name d low other = one_more es i name d (omega arith) other

-- an effect of another name is passed over
pub passed : (es : List Shipped) (i : ℕ) (name : List ℕ) (d : Shipped) → i < length es → bytes_eq name (name_of (slice_index_or es i d)) ≡ false
    → first_named (drop (i + 1) es) name ≡ first_named (drop i es) name
passed es i name d low other =
    let next : suc i ≡ i + 1 = omega arith in
    subst (λ n. first_named (drop n es) name ≡ first_named (drop i es) name) next (one_more es i name d low other)

-- beyond the last there is none
pub ended : (es : List Shipped) (i : ℕ) (name : List ℕ) → length es ≤ i → first_named (drop i es) name ≡ None
ended [] zero name past = refl
ended [] (suc i) name past = refl
ended (e ∷ es) zero name past = absurd (omega arith)
ended (e ∷ es) (suc i) name past = ended es i name (omega arith)

abbrev is_there : Option Shipped → Bool
is_there None = false
is_there (Some e) = true

-- each effect is the one of its name
by_name : (e : Shipped) → effect_of (name_of e) ≡ Some e
by_name shipped.Solid = refl
by_name shipped.Checker = refl
by_name shipped.Ramp = refl
by_name shipped.Grain = refl
by_name shipped.Invert = refl
by_name shipped.Gain = refl
by_name shipped.Premult = refl
by_name shipped.Unpremult = refl
by_name shipped.Shuffle = refl
by_name shipped.Saturation = refl
by_name shipped.Posterise = refl
by_name shipped.Boxblur = refl
by_name shipped.Erode = refl
by_name shipped.Dilate = refl
by_name shipped.Convolve3 = refl
by_name shipped.Crop = refl
by_name shipped.Translate = refl
by_name shipped.Mirror = refl
by_name shipped.Timeoffset = refl
by_name shipped.Frameblend = refl
by_name shipped.Framediff = refl
by_name shipped.Echo = refl
by_name shipped.Dissolve = refl
by_name shipped.Wipe = refl
by_name shipped.Merge = refl
by_name shipped.Keymix = refl
by_name shipped.Autogain = refl

-- so a name without an effect is no effect's
pub nowhere : (name : List ℕ) → None ≡ effect_of name → (e : Shipped) → name_of e ≢ name
nowhere name none e is = false≢true (ap is_there (none ∙ ap effect_of (sym is) ∙ by_name e))
