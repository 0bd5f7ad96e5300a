-- What holds of both clips of a transition, of its level and of its ends.
use Rattle.std.specs.Prelude.{◌≡◌, ◌≢◌, ◌≤◌, ◌==◌, ℕ, ℤ, pos, Bool, true, false, List, [], ◌∷◌, length, All, Some, slice_get, if◌then◌else◌, refl}
use Rattle.std.specs.List.{AllZip}
use Rattle.std.proofs.Common.{inl, inr, ◌⊎◌, ap, arith}
use Rattle.std.proofs.lemmas.Bool.Decides.{nat_tests}
use Rattle.std.proofs.lemmas.List.Elements.{All-from_recursion}
use Rattle.fx_params.specs.Def.{fix_def}
use Rattle.fx_effect.specs.Shape.{MayBe, IsLawfulIn}
use Rattle.fx_effect.specs.Default.{default_spans}
use Rattle.fx_effect.specs.DefaultLaws.{flag_for_each}
use Rattle.fx_effect.specs.Numbers.{number}
use Rattle.fx_effect.specs.NumberLaws.{number_between, natural_up_to}
use Rattle.fx_effect.specs.Local.{IsRead}
use Rattle.fx_effect.specs.PairLaws.{both_reads, read_here}
use Rattle.fx_effect.specs.declared.action.Context.{Context}
use Rattle.fx_effect.specs.declared.action.Context.TheVariants as context
use Rattle.fx_effect.specs.declared.action.Identity.{Identity}
use Rattle.fx_effect.specs.declared.action.Identity.TheVariants.{Same}
use Rattle.fx_effect.specs.declared.values.Values.{Values}
use Rattle.fx_trans.specs.Transitions.{from_and_to, transition_params, transition_shape, level, at_ends}

-- ---- what is read

pub both_there : (label : List ℕ) (c : Context) (v : Values) → IsLawfulIn (transition_shape label) c v
    → All (IsRead (length v.connected) (default_spans v)) (both_reads v)
both_there label c v lawful =
    let flags : length v.connected ≡ 2 = flag_for_each from_and_to v.connected lawful.connected in
    All-from_recursion (IsRead (length v.connected) (default_spans v)) (both_reads v) (
      read_here (length v.connected) 0 v (omega (arith, flags)),
      (read_here (length v.connected) 1 v (omega (arith, flags)), tt),
    )

pub from_connected : (connected : List Bool) → AllZip MayBe from_and_to connected → slice_get connected 0 ≡ Some true
from_connected [] may = elim may [ ]
from_connected (c ∷ connected) may = ap Some (may.0 refl)

pub to_connected : (connected : List Bool) → AllZip MayBe from_and_to connected → slice_get connected 1 ≡ Some true
to_connected [] may = elim may [ ]
to_connected (c ∷ []) may = elim may.1 [ ]
to_connected (c ∷ (d ∷ connected)) may = ap Some (may.1.0 refl)

-- ---- the level

pub level_few : (label : List ℕ) (c : Context) (v : Values) → IsLawfulIn (transition_shape label) c v → level v ≤ 65536
level_few label c v lawful =
    natural_up_to (number v 0) 65536
    (number_between transition_params v 0 (fix_def [] (pos 0) (pos 0) (pos 0)) lawful.numbers (omega arith)).below

-- ---- the ends

-- which clip an answer names
abbrev pub IsEnd : ℕ → ℤ → Identity → ℕ → ℤ → Type 0
IsEnd k t between clip frame =
    ((k ≡ 0) × (clip ≡ 0) × (frame ≡ t))
    ⊎ (((k ≡ 65536) × (clip ≡ 1) × (frame ≡ t)) ⊎
    (((k == 0) ≡ false) × ((k == 65536) ≡ false) × (between ≡ Same clip frame)))

same_number : (k n : ℕ) → (k == n) ≡ true → k ≡ n
same_number k n h = grind (arith, nat_tests)

pub end_of : (k : ℕ) (t : ℤ) (between : Identity) (clip : ℕ) (frame : ℤ) → at_ends k t between ≡ Same clip frame
    → IsEnd k t between clip frame
end_of k t between clip frame = go (k == 0) (k == 65536) refl refl
  where
    go : (a b : Bool) → (k == 0) ≡ a → (k == 65536) ≡ b
        → (if a then Same 0 t else (if b then Same 1 t else between)) ≡ Same clip frame → IsEnd k t between clip frame
    go true b first last e = inl (same_number k 0 first, cc, cc)
    go false true first last e = inr (inl (same_number k 65536 last, cc, cc))
    go false false first last e = inr (inr (first, last, e))
