-- The files of frames, name by name.
use Rattle.std.proofs.Common.{◌≡◌, ◌≤◌, ◌<◌, inl, inr, ◌⊎◌, ℕ, zero, suc, ◌+◌, ◌^◌, Bool, true, false, List, Some, if◌then◌else◌, refl, sym, ap, subst, ◌∙◌, below_more, arith, ◌-◌}
use Rattle.std.specs.Str.{bytes_eq}
use Rattle.std.proofs.lemmas.Bool.{false≢true}
use Rattle.std.proofs.lemmas.Slice.Eq.{bytes_eq-Decides}
use Rattle.fx_base.specs.Pattern.{runs}
use Rattle.fx_base.proofs.PatternLaws.{name_of-apart}
use Rattle.fx_outside.specs.Outside.{Files}
use Rattle.fx_scene.specs.Scenes.{Images}
use Rattle.fx_modes.specs.Graphs.{Graph}
use Rattle.fx_modes.specs.Reels.{picture_text}
use Rattle.fx_runs.proofs.PlainReels.{frame_name, with_frames}

-- a frame of n from a on
pub record IsOf (a n t : ℕ) : Type 0 where
  pub from : a ≤ t
  pub below : t < a + n

module _ (g : Graph) (one : runs g.file ≡ 1) where
  abbrev Here : Images → ℕ → ℕ → Files → ℕ → Type 0
  Here images a n old t = with_frames g images a n old (frame_name g t) ≡ Some (picture_text g images t)

  same_name : (t : ℕ) → bytes_eq (frame_name g t) (frame_name g t) ≡ true
  same_name t = (bytes_eq-Decides (frame_name g t) (frame_name g t)).1 refl

  -- one that was put before stays
  hit_before : (images : Images) (a n : ℕ) (old : Files) (k : ℕ) → a + suc n ≤ 2 ^ 32 → k < n
      → Here images a n old (a + k) → Here images a (suc n) old (a + k)
  hit_before images a n old k few low before = by (bytes_eq (frame_name g (a + n)) (frame_name g (a + k))) refl
    where
      by : (b : Bool) → bytes_eq (frame_name g (a + n)) (frame_name g (a + k)) ≡ b → Here images a (suc n) old (a + k)
      by true e =
          let same : a + n ≡ a + k = name_of-apart g.file (a + n) (a + k) one (omega (arith, few)) (omega (arith, few, low)) ((bytes_eq-Decides (frame_name g (a + n)) (frame_name g (a + k))).0 e) in
          absurd (omega (arith, same, low))
      by false e = rw e before

  hit_at : (images : Images) (a n : ℕ) (old : Files) → a + n ≤ 2 ^ 32 → (k : ℕ) → k < n → Here images a n old (a + k)
  hit_at images a zero old few k low = absurd (omega (arith, low))
  hit_at images a (suc n) old few k low =
      below_more (λ j. Here images a (suc n) old (a + j)) n
      (λ j below. hit_before images a n old j few below (hit_at images a n old (omega (arith, few)) j below))
      (rw (same_name (a + n)) refl) k (omega (arith, low))

  -- the file of one of them has its text
  pub hit : (images : Images) (a n : ℕ) (old : Files) (t : ℕ) → a + n ≤ 2 ^ 32 → IsOf a n t → Here images a n old t
  hit images a n old t few is =
      let low = is.from in
      let high = is.below in
      let same : a + (t - a) ≡ t = omega (arith, low) in
      subst (Here images a n old) same (hit_at images a n old few (t - a) (omega (arith, low, high)))

  -- a name of none of them has what it had
  pub miss : (images : Images) (a n : ℕ) (old : Files) (name : List ℕ) → ((t : ℕ) → IsOf a n t → frame_name g t ≡ name → ⊥)
      → with_frames g images a n old name ≡ old name
  miss images a zero old name none = refl
  miss images a (suc n) old name none =
      by (bytes_eq (frame_name g (a + n)) name) refl
      (miss images a n old name (λ t is. none t (record { from = is.from; below = let high = is.below in omega (arith, high) })))
    where
      by : (b : Bool) → bytes_eq (frame_name g (a + n)) name ≡ b → with_frames g images a n old name ≡ old name
          → (if bytes_eq (frame_name g (a + n)) name then Some (picture_text g images (a + n)) else with_frames g images a n old name) ≡ old name
      by true e rest =
          absurd (none (a + n) (record { from = omega arith; below = omega arith }) ((bytes_eq-Decides (frame_name g (a + n)) name).0 e))
      by false e rest = rw e rest

  -- a name is that of one of them, or of none
  abbrev IsOne : ℕ → ℕ → List ℕ → Type 0
  IsOne a n name = (t : ℕ) × IsOf a n t × (frame_name g t ≡ name)

  abbrev IsNone : ℕ → ℕ → List ℕ → Type 0
  IsNone a n name = (t : ℕ) → IsOf a n t → frame_name g t ≡ name → ⊥

  none_at : (a n : ℕ) (name : List ℕ) → IsNone a n name → bytes_eq (frame_name g (a + n)) name ≡ false
      → (k : ℕ) → k < suc n → frame_name g (a + k) ≡ name → ⊥
  none_at a n name none e k low =
      below_more (λ j. frame_name g (a + j) ≡ name → ⊥) n
      (λ j below same. none (a + j) (record { from = omega arith; below = omega (arith, below) }) same)
      (λ same. false≢true (sym e ∙ (bytes_eq-Decides (frame_name g (a + n)) name).1 same)) k (omega (arith, low))

  none_more : (a n : ℕ) (name : List ℕ) → IsNone a n name → bytes_eq (frame_name g (a + n)) name ≡ false → IsNone a (suc n) name
  none_more a n name none e t is same =
      let low = is.from in
      let high = is.below in
      let at : a + (t - a) ≡ t = omega (arith, low) in
      none_at a n name none e (t - a) (omega (arith, low, high)) (ap (frame_name g) at ∙ same)

  one_more : (a n : ℕ) (name : List ℕ) → IsOne a n name → IsOne a (suc n) name
  one_more a n name found =
      let high = found.1.below in (found.0, record { from = found.1.from; below = omega (arith, high) }, found.2)

  pub seek : (a n : ℕ) (name : List ℕ) → IsOne a n name ⊎ IsNone a n name
  seek a zero name = inr (λ t is same. let low = is.from in let high = is.below in absurd (omega (arith, low, high)))
  seek a (suc n) name = by (bytes_eq (frame_name g (a + n)) name) refl (seek a n name)
    where
      by : (b : Bool) → bytes_eq (frame_name g (a + n)) name ≡ b → IsOne a n name ⊎ IsNone a n name
          → IsOne a (suc n) name ⊎ IsNone a (suc n) name
      by true e rest = inl (a + n, record { from = omega arith; below = omega arith }, (bytes_eq-Decides (frame_name g (a + n)) name).0 e)
      by false e (inl found) = inl (one_more a n name found)
      by false e (inr none) = inr (none_more a n name none e)
