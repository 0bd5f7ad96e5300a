-- A band into which tiles are written one after the other.
use Rattle.std.proofs.Common.{◌≡◌, ◌<◌, ◌≤◌, ◌*◌, ℕ, suc, ℤ, List, ◌∷◌, [], ◌++◌, All, drop, get_or, length, take, sym, refl, ap, ◌∙◌, subst, arith, inl, inr, Result, Ok, Err, OnOk}
use Rattle.std.specs.List.{sum_by}
use Rattle.std.proofs.Math.Nat.{mul-le-mul_right, suc-mul}
use Rattle.std.proofs.lemmas.List.{drop-map, length-map, take-map}
use Rattle.std.proofs.lemmas.List.Sums.{sum_by-cons}
use Rattle.std.proofs.lemmas.Bool.{and_from, cases_Bool, false≢true}
use Rattle.std.proofs.lemmas.List.Elements.{Contains-push_cases}
use Rattle.fx_base.specs.Bounds.{Bounds}
use Rattle.fx_base.specs.Rect.{Holds, meet, within}
use Rattle.fx_base.specs.declared.memory.Memory.{Memory}
use Rattle.fx_base.proofs.RectLemmas.{within-meet}
use Rattle.fx_image.specs.Image.{Image, pixel_at}
use Rattle.fx_image.specs.Part.{IsWritten, narrowed}
use Rattle.fx_image.specs.Stored.{SameFrame, Stored, shown}
use Rattle.fx_effect.specs.Meaning.{Meaning}
use Rattle.fx_graph.specs.Shown.{GraphShown}
use Rattle.fx_pool.specs.Weights.{plus, weigh}
use Rattle.fx_pool.specs.Working.{EachRight}
use Rattle.fx_image.specs.declared.part.Part.{Part}
use Rattle.fx_image.proofs.ImageLaws.{place_from}
use Rattle.fx_tile.specs.declared.bands.BandJob.{BandJob}
use Rattle.fx_tile.specs.declared.found.FoundTile.{FoundTile}
use Rattle.fx_tile.specs.Moments.{AreBandsOf, Cover, IsBand, IsFoundTile, MayWrite, ShowEach, ShowsPicture, ShowsTiles, WritesTile, job_picture, rects_of}

pub frame_same : (a : Stored) → SameFrame a a
frame_same a = record { rect = refl; depth = refl; components = refl; pitch = refl; height = refl; step = refl; blocks = refl }

pub frame_after : (a b c : Stored) → SameFrame a b → SameFrame b c → SameFrame a c
frame_after a b c first then =
    record {
      rect = then.rect ∙ first.rect;
      depth = then.depth ∙ first.depth;
      components = then.components ∙ first.components;
      pitch = then.pitch ∙ first.pitch;
      height = then.height ∙ first.height;
      step = then.step ∙ first.step;
      blocks = then.blocks ∙ first.blocks;
    }

held_by_both : (r s : Bounds) (x y : ℤ) → Holds r x y → Holds s x y → Holds (meet r s) x y
held_by_both r s x y first second = within-meet r s x y ∙ and_from (within r x y) (within s x y) first second

-- a tile that was written into a part over the whole band, as far as it lies in the band
pub wrote : (picture : Image) (tile : Bounds) (p q : Part) (old new : Stored) → p.image.now ≡ old → q.image.now ≡ new
    → ((x y : ℤ) → Holds (meet tile old.rect) x y → Holds tile x y)
    → (r : Result (Unit {0}) Memory) → OnOk r (IsWritten (narrowed p (meet tile old.rect)) (narrowed q (meet tile old.rect)) (pixel_at picture))
    → OnOk r (WritesTile picture tile old new)
wrote picture tile p q old new was now inside (Err e) written = tt
wrote picture tile p q old new was now inside (Ok u) written =
    record {
      inside = λ x y here there.
          let both = held_by_both tile old.rect x y here there in
          subst (λ (s : Stored). shown s x y ≡ pixel_at picture x y) now
          (written.1.inside x y both (place_from (meet tile old.rect) x y both).top);
      outside = λ x y apart.
          subst (λ (s : Stored). shown s x y ≡ shown old x y) now
          (written.1.outside x y (λ there below. apart (inside x y there)) ∙ ap (λ (s : Stored). shown s x y) was);
    }

-- one tile more
pub shows_more : (picture : Image) (tiles : List Bounds) (tile : Bounds) (old new : Stored) → new.rect ≡ old.rect → WritesTile picture tile old new
    → ShowsTiles picture tiles old → ShowsTiles picture (tiles ++ tile ∷ []) new
shows_more picture tiles tile old new same one shows t among x y here there =
    let in_old : Holds old.rect x y = subst (λ (r : Bounds). Holds r x y) same there in
    elim (cases_Bool (within tile x y)) [
      | inl holds ↦ one.inside x y holds in_old
      | inr misses ↦
          let apart : Holds tile x y → ⊥ = λ holds. false≢true (sym misses ∙ holds) in
          elim (Contains-push_cases tiles tile t among) [
            | inl earlier ↦ one.outside x y apart ∙ shows t earlier x y here in_old
            | inr last ↦ absurd (apart (subst (λ (r : Bounds). Holds r x y) (sym last) here))
          ]
    ]

-- tiles that cover the band show the picture at each of its places
pub shows_all : (picture : Image) (tiles : List Bounds) (old new : Stored) → SameFrame old new → Cover tiles old.rect → ShowsTiles picture tiles new
    → (x y : ℤ) → Holds old.rect x y → shown new x y ≡ pixel_at picture x y
shows_all picture tiles old new same cover shows x y here =
    let tile = cover x y here in
    shows tile.0 tile.1 x y tile.2 (subst (λ (r : Bounds). Holds r x y) (sym same.rect) here)

-- what was written is a band still
pub band_still : {E : Type 0} (graph : GraphShown E) (old new : Stored) → SameFrame old new → IsBand graph old → IsBand graph new
band_still graph old new same is =
    record {
      within = λ x y here. is.within x y (subst (λ (r : Bounds). Holds r x y) same.rect here);
      depth = same.depth ∙ is.depth;
      components = same.components ∙ is.components;
    }

-- the rectangles of a slice of tiles are a slice of their rectangles
pub slice_rects : (found : List (ℕ × FoundTile)) (k n c : ℕ) → n ≡ c → rects_of (take n (drop k found)) ≡ take c (drop k (rects_of found))
slice_rects found k n c is =
    ap (λ m. rects_of (take m (drop k found))) is
    ∙ sym (take-map (λ (f : ℕ × FoundTile). f.1.tile) c (drop k found))
    ∙ ap (take c) (sym (drop-map (λ (f : ℕ × FoundTile). f.1.tile) k found))

-- ---- all bands

module _ {E : Type 0} {c e : _} (meaning : E → Meaning) (job : BandJob E c e) (bands : List Stored) where
  -- each may be written
  pub may_write : All (λ f. IsFoundTile meaning job.setup.now job.frame f.1) job.found.now
      → AreBandsOf job.setup.now.scene.now.graph job.columns (rects_of job.found.now) bands
      → (k : ℕ) (d : Stored) → k < length bands → MayWrite meaning job k (get_or bands k d)
  may_write found are k d low =
      let long = length-map job.found.now (λ (f : ℕ × FoundTile). f.1.tile) in
      let many = are.many in
      let up : suc k * job.columns ≤ length bands * job.columns = mul-le-mul_right job.columns low in
      let next = suc-mul k job.columns in
      record { found = found; row = omega (arith, long, many, up, next); cover = are.cover k d low; is = are.each k d low }

  -- each was written
  pub show_each : (after : List Stored) (outs : List (Unit {0})) → length after ≡ length bands
      → EachRight (λ _ b a out. ShowsPicture (job_picture meaning job) b a) bands after outs → ShowEach (job_picture meaning job) bands after
  show_each after outs many right k d low = right k d tt (omega (arith, many, low))

-- what weighs nothing adds nothing
none_each : {A : Type 0} (xs : List A) → sum_by (λ x. 0) xs ≡ 0
none_each [] = refl
none_each (x ∷ xs) = let one = sum_by-cons (λ y. 0) x xs in let rest = none_each xs in omega (arith, one, rest)

pub weighs_same : (v w : ℕ × ℕ) (outs : List (Unit {0})) → v ≡ plus w (weigh (λ out. (0, 0)) outs) → v ≡ w
weighs_same v w outs is =
    let none = none_each outs in
    let first = ap (λ (u : ℕ × ℕ). u.0) is in
    let second = ap (λ (u : ℕ × ℕ). u.1) is in
    let a : v.0 ≡ w.0 = omega (arith, first, none) in
    let b : v.1 ≡ w.1 = omega (arith, second, none) in
    λ i. (a i, b i)
