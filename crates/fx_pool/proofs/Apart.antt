-- What the turns made of items, put in order and taken apart.
use Rattle.std.proofs.Common.{◌≡◌, ◌<◌, ℕ, zero, suc, List, [], ◌∷◌, All, Option, Some, None, length, get_or, map, sum_by, sym, refl, ap, ◌∙◌, subst, arith}
use Rattle.std.proofs.lemmas.List.{length-map}
use Rattle.std.proofs.lemmas.List.FromFn.{length-range_with_len, get_or-range_with_len}
use Rattle.std.proofs.lemmas.List.Sums.{sum_by-cons}
use mathlib.Core.Option.{some, some-injective, some-ne-none}
use lib.ListN.{get_elem?}
use Rattle.fx_pool.specs.Weights.{weigh}
use Rattle.fx_pool.specs.Working.{EachRight, MadeRight, numbers_below, numbers_of}

pub none_of : {I : Type 0} (xs : List I) (k : ℕ) → get_elem? (map Some xs) k ≡ some None → ⊥
none_of [] k e = some-ne-none None (sym e)
none_of {I} (x ∷ xs) zero e = let h : ◌≡◌ {A = Option I} (Some x) None = some-injective (Some x) None e in cc
none_of (x ∷ xs) (suc k) e = none_of xs k e

stood : {I : Type 0} (xs : List I) (k : ℕ) (x i : I) → get_elem? (map Some xs) k ≡ some (Some x) → x ≡ get_or xs k i
stood [] k x i e = absurd (some-ne-none (Some x) (sym e))
stood {I} (y ∷ xs) zero x i e = let h : ◌≡◌ {A = Option I} (Some y) (Some x) = some-injective (Some y) (Some x) e in cc
stood (y ∷ xs) (suc k) x i e = stood xs k x i e

within : {I : Type 0} (xs : List I) (k : ℕ) (x : I) → get_elem? (map Some xs) k ≡ some (Some x) → k < length xs
within [] k x e = absurd (some-ne-none (Some x) (sym e))
within (y ∷ xs) zero x e = omega arith
within (y ∷ xs) (suc k) x e = let h = within xs k x e in omega arith

-- what is asked of each item holds of what stands in the slots
pub asked_of : {I : Type 0} (takes : ℕ → I → Type 0) (items : List I) (slots : List (Option I)) → slots ≡ map Some items → ((k : ℕ) (i : I) → k < length items → takes k (get_or items k i)) → (k : ℕ) (i : I) → get_elem? slots k ≡ some (Some i) → takes k i
asked_of takes items slots same all k i e =
    let e' : get_elem? (map Some items) k ≡ some (Some i) = subst (λ (l : List (Option _)). get_elem? l k ≡ some (Some i)) same e in
    subst (takes k) (sym (stood items k i i e')) (all k i (within items k i e'))

module _ {A B : Type 0} (f : A → B) where
  mapped_at : (xs : List A) (k : ℕ) (d : A) → get_or (map f xs) k (f d) ≡ f (get_or xs k d)
  mapped_at [] k d = refl
  mapped_at (x ∷ xs) zero d = refl
  mapped_at (x ∷ xs) (suc k) d = mapped_at xs k d

  sum_mapped : (g : B → ℕ) (xs : List A) → sum_by g (map f xs) ≡ sum_by (λ x. g (f x)) xs
  sum_mapped g [] = refl
  sum_mapped g (x ∷ xs) = let h = sum_mapped g xs in omega (arith, sum_by-cons g (f x) (map f xs), sum_by-cons (λ y. g (f y)) x xs)

  pub weigh-map : (w : B → ℕ × ℕ) (xs : List A) → weigh w (map f xs) ≡ weigh (λ x. w (f x)) xs
  weigh-map w xs = let first = sum_mapped (λ y. (w y).0) xs in let second = sum_mapped (λ y. (w y).1) xs in λ k. (first k, second k)

-- as many as there are numbers
pub count_of : {T : Type 0} (outs : List (ℕ × T)) (count : ℕ) → numbers_of outs ≡ numbers_below count → length outs ≡ count
count_of {T} outs count e = sym (length-map outs (λ (o : ℕ × T). o.0)) ∙ (ap length e ∙ length-range_with_len 0 count)

module _ {I T : Type 0} (right : ℕ → I → I → T → Type 0) where
  pub each_right : (before : List I) (outs : List (ℕ × (I × T))) → numbers_of outs ≡ numbers_below (length before) → All (λ o. MadeRight right (map Some before) o.0 o.1) outs
      → EachRight right before (map (λ o. o.1.0) outs) (map (λ o. o.1.1) outs)
  each_right before outs numbers all k i o h =
      let d : ℕ × (I × T) = (k, (i, o)) in
      let made : ℕ × (I × T) = get_or outs k d in
      let long = count_of outs (length before) numbers in
      let number : made.0 ≡ k = sym (mapped_at {A = ℕ × (I × T)} {B = ℕ} (λ x. x.0) outs k d) ∙ (ap (λ (ns : List ℕ). get_or ns k k) numbers ∙ (get_or-range_with_len 0 (length before) k k h ∙ (omega arith))) in
      let was = all k d (omega arith) in
      let item : was.0 ≡ get_or before k i = stood before k was.0 i (subst (λ n. get_elem? (map Some before) n ≡ some (Some was.0)) number was.1) in
      let after : made.1.0 ≡ get_or (map (λ (x : ℕ × (I × T)). x.1.0) outs) k i = sym (mapped_at {A = ℕ × (I × T)} {B = I} (λ x. x.1.0) outs k d) in
      let out : made.1.1 ≡ get_or (map (λ (x : ℕ × (I × T)). x.1.1) outs) k o = sym (mapped_at {A = ℕ × (I × T)} {B = T} (λ x. x.1.1) outs k d) in
      subst (λ (z : ℕ × (I × (I × T))). right z.0 z.1.0 z.1.1.0 z.1.1.1) (λ q. (number q, (item q, (after q, out q)))) was.2
