-- Samples that are picked block by block, apart from those that they are picked of.
use Rattle.std.proofs.Common.{◌≡◌, ◌≤◌, ◌<◌, ◌⊎◌, ◌∙◌, inl, inr, ℕ, ◌+◌, ◌-◌, List, ap, subst, arith}
use Rattle.std.proofs.lemmas.Bool.{cases_lt}
use Rattle.fx_pixel.specs.declared.Depth.{Depth}
use Rattle.fx_pixel.specs.declared.Components.TheVariants.{Alpha}
use Rattle.fx_image.specs.Stored.{sample_in, pixel_in}
use Rattle.fx_kernel.specs.Samples.{nth}
use Rattle.fx_area.specs.declared.extreme.Extreme.{Extreme}
use Rattle.fx_area.specs.Extreme.{pick}

-- the samples of pixels of a alone
pub sample_of : (d : Depth) (xs ys : List ℕ) (i j : ℕ) → pixel_in d Alpha xs i ≡ pixel_in d Alpha ys j → sample_in d xs i ≡ sample_in d ys j
sample_of d xs ys i j same = ap (λ p. nth p 0) same

-- one more block: a sample of it is made of those at its place and behind it, which were as they had been
in_block : (e : Extreme) (d : Depth) (first few shift : ℕ) (old mid block new : List ℕ) → ((k : ℕ) → first ≤ k → sample_in d mid k ≡ sample_in d old k)
    → ((k : ℕ) → k < few → sample_in d block k ≡ pick e (sample_in d mid (first + k)) (sample_in d mid (first + k + shift)))
    → ((i : ℕ) → i < few → pixel_in d Alpha new (first + i) ≡ pixel_in d Alpha block i)
    → (i : ℕ) → i < few → sample_in d new (first + i) ≡ pick e (sample_in d old (first + i)) (sample_in d old (first + i + shift))
in_block e d first few shift old mid block new rest made copied i low =
    sample_of d new block (first + i) i (copied i low) ∙ made i low
    ∙ ap (λ a. pick e a (sample_in d mid (first + i + shift))) (rest (first + i) (omega arith))
    ∙ ap (λ b. pick e (sample_in d old (first + i)) b) (rest (first + i + shift) (omega arith))

pub block_done : (e : Extreme) (d : Depth) (first few shift : ℕ) (old mid block new : List ℕ)
    → ((k : ℕ) → k < first → sample_in d mid k ≡ pick e (sample_in d old k) (sample_in d old (k + shift)))
    → ((k : ℕ) → first ≤ k → sample_in d mid k ≡ sample_in d old k)
    → ((k : ℕ) → k < few → sample_in d block k ≡ pick e (sample_in d mid (first + k)) (sample_in d mid (first + k + shift)))
    → ((i : ℕ) → i < few → pixel_in d Alpha new (first + i) ≡ pixel_in d Alpha block i)
    → ((j : ℕ) → (j < first) ⊎ (first + few ≤ j) → pixel_in d Alpha new j ≡ pixel_in d Alpha mid j)
    → (k : ℕ) → k < first + few → sample_in d new k ≡ pick e (sample_in d old k) (sample_in d old (k + shift))
block_done e d first few shift old mid block new before rest made copied others k low =
    elim (cases_lt k first) [
      | inl less ↦ sample_of d new mid k k (others k (inl less)) ∙ before k less
      | inr more ↦
          let is : first + (k - first) ≡ k = omega (arith, more) in
          subst (λ n. sample_in d new n ≡ pick e (sample_in d old n) (sample_in d old (n + shift))) is
          (in_block e d first few shift old mid block new rest made copied (k - first) (omega (arith, low, more)))
    ]

pub block_rest : (d : Depth) (first few : ℕ) (old mid new : List ℕ) → ((k : ℕ) → first ≤ k → sample_in d mid k ≡ sample_in d old k)
    → ((j : ℕ) → (j < first) ⊎ (first + few ≤ j) → pixel_in d Alpha new j ≡ pixel_in d Alpha mid j)
    → (k : ℕ) → first + few ≤ k → sample_in d new k ≡ sample_in d old k
block_rest d first few old mid new rest others k high = sample_of d new mid k k (others k (inr high)) ∙ rest k (omega (arith, high))
