-- The hull of the regions of required clips, one clip after another.
use Rattle.std.proofs.Common.{◌≡◌, ℕ, ◌+◌, ◌<◌, Bool, true, false, not, ◌&&◌, cond, List, [], ◌∷◌, length, get_or, drop, Option, Some, None, refl, arith, add-one, drop-cons}
use Rattle.std.specs.Option.{unwrap_or}
use Rattle.fx_base.specs.Bounds.{Bounds, none}
use Rattle.fx_base.specs.Rect.{hull}
use Rattle.fx_effect.specs.Default.{has_required, hull_from}

-- the hull so far, and a region more where its clip is required
abbrev pub hull_step : Option Bounds → Bool → Bool → Bounds → Option Bounds
hull_step so_far optional connected region = cond (connected && not optional) (Some (hull (unwrap_or so_far none) region)) so_far

abbrev pub hull_of : Option Bounds → List Bool → List Bool → List Bounds → Option Bounds
hull_of so_far (optional ∷ os) (connected ∷ cs) (region ∷ regions) = hull_of (hull_step so_far optional connected region) os cs regions
hull_of so_far os cs regions = so_far

pub hull_of-some : (r : Bounds) (os cs : List Bool) (regions : List Bounds) → hull_of (Some r) os cs regions ≡ Some (hull_from r os cs regions)
hull_of-some r (o ∷ os) (c ∷ cs) (region ∷ regions) =
    elim (c && not o) as (λ b. hull_of (cond b (Some (hull r region)) (Some r)) os cs regions ≡ Some (hull_from (cond b (hull r region) r) os cs regions)) [
      | true ↦ hull_of-some (hull r region) os cs regions
      | false ↦ hull_of-some r os cs regions
    ]
hull_of-some r [] cs regions = refl
hull_of-some r (o ∷ os) [] regions = refl
hull_of-some r (o ∷ os) (c ∷ cs) [] = refl

pub hull_of-none : (os cs : List Bool) (regions : List Bounds) → length os ≡ length regions → length cs ≡ length regions → hull_of None os cs regions ≡ cond (has_required os cs) (Some (hull_from none os cs regions)) None
hull_of-none [] cs regions flags connected = refl
hull_of-none (o ∷ os) [] regions flags connected = absurd (omega arith)
hull_of-none (o ∷ os) (c ∷ cs) [] flags connected = absurd (omega arith)
hull_of-none (o ∷ os) (c ∷ cs) (region ∷ regions) flags connected =
    elim (c && not o) as (λ b. hull_of (cond b (Some (hull none region)) None) os cs regions ≡ cond (cond b true (has_required os cs)) (Some (hull_from (cond b (hull none region) none) os cs regions)) None) [
      | true ↦ hull_of-some (hull none region) os cs regions
      | false ↦ hull_of-none os cs regions (omega arith) (omega arith)
    ]

-- one clip more
pub hull_of-drop : (so_far : Option Bounds) (os cs : List Bool) (regions : List Bounds) (k : ℕ) (d : Bounds) → k < length regions → length os ≡ length regions → length cs ≡ length regions → hull_of so_far (drop k os) (drop k cs) (drop k regions) ≡ hull_of (hull_step so_far (get_or os k false) (get_or cs k false) (get_or regions k d)) (drop (k + 1) os) (drop (k + 1) cs) (drop (k + 1) regions)
hull_of-drop so_far os cs regions k d lt flags connected =
    let os_lt : k < length os = omega arith in
    let cs_lt : k < length cs = omega arith in
    rw (add-one k, drop-cons os k false, drop-cons cs k false, drop-cons regions k d) refl
