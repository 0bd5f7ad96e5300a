-- Samples that are picked of more and more.
use Rattle.std.proofs.Common.{◌≡◌, ◌≤◌, ◌<◌, ◌⊎◌, inl, inr, ℕ, zero, suc, ◌+◌, ◌-◌, ◌*◌, List, ap, sym, subst, arith}
use Rattle.std.proofs.Math.Nat.{mul-le-mul_left}
use Rattle.std.proofs.lemmas.Bool.{cases_lt}
use Rattle.fx_pixel.specs.declared.Depth.{Depth}
use Rattle.fx_image.specs.Stored.{sample_in}
use Rattle.fx_area.specs.declared.extreme.Extreme.{Extreme}
use Rattle.fx_area.specs.Extreme.{pick, Leads}
use Rattle.fx_area.specs.ExtremeLaws.{leads_pick, leads_first, leads_second}
use Rattle.fx_area.specs.Gathered.{IsExtreme, AreGathered}

first_is : (stride s i : ℕ) → i < 1 → s ≡ s + stride * i
first_is stride s zero few = omega arith
first_is stride s (suc i) few = absurd (omega arith)

pub gathered_one : (e : Extreme) (d : Depth) (count stride : ℕ) (bytes : List ℕ) → AreGathered e d count stride 1 bytes bytes
gathered_one e d count stride bytes s low =
    record {
      leads = λ b i few p. subst (λ k. Leads e b (sample_in d bytes k)) (first_is stride s i few) p;
      led = λ b all. subst (λ k. Leads e b (sample_in d bytes k)) (sym (first_is stride s 0 (omega arith))) (all 0 (omega arith));
    }

behind : (stride s more j i : ℕ) → i ≡ more + j → s + stride * more + stride * j ≡ s + stride * i
behind stride s more j i is = omega (arith, ap (λ n. stride * n) is)

far : (stride have more : ℕ) → 0 < have → stride * more + stride * (have - 1) ≡ stride * ((have + more) - 1)
far stride have more some =
    let e : (have + more) - 1 ≡ more + (have - 1) = omega arith in
    omega (arith, ap (λ n. stride * n) e)

near : (stride have more : ℕ) → 0 < have → stride * (have - 1) ≤ stride * ((have + more) - 1)
near stride have more some = mul-le-mul_left stride (omega arith)

-- two windows that meet or lie over one another are one
pub gathered_more : (e : Extreme) (d : Depth) (count stride have more : ℕ) (old mid new : List ℕ) → 0 < have → more ≤ have
    → AreGathered e d count stride have old mid
    → ((s : ℕ) → s + stride * more < count → sample_in d new s ≡ pick e (sample_in d mid s) (sample_in d mid (s + stride * more)))
    → AreGathered e d count stride (have + more) old new
gathered_more e d count stride have more old mid new some few gathered spread s low =
    let p = far stride have more some in
    let q = near stride have more some in
    let one = gathered s (omega (arith, low, q)) in
    let two = gathered (s + stride * more) (omega (arith, low, p)) in
    let is = spread s (omega (arith, low, p)) in
    record {
      leads = λ b i less lead. split b i less (subst (Leads e b) is lead) one two (cases_lt i have);
      led = λ b all. subst (Leads e b) (sym is)
          (leads_pick e b (sample_in d mid s) (sample_in d mid (s + stride * more))
          (one.led b (λ i less. all i (omega (arith, less))))
          (two.led b (λ i less. subst (λ k. Leads e b (sample_in d old k)) (sym (behind stride s more i (more + i) (omega arith))) (all (more + i) (omega (arith, less))))));
    }
  where
    split : (b i : ℕ) → i < have + more → Leads e b (pick e (sample_in d mid s) (sample_in d mid (s + stride * more)))
        → IsExtreme e (λ i. sample_in d old (s + stride * i)) have (sample_in d mid s)
        → IsExtreme e (λ i. sample_in d old (s + stride * more + stride * i)) have (sample_in d mid (s + stride * more))
        → (i < have) ⊎ (have ≤ i) → Leads e b (sample_in d old (s + stride * i))
    split b i less lead one two (inl low) = one.leads b i low (leads_first e b (sample_in d mid s) (sample_in d mid (s + stride * more)) lead)
    split b i less lead one two (inr high) =
        let back : i ≡ more + (i - more) = omega (arith, few, high) in
        subst (λ k. Leads e b (sample_in d old k)) (behind stride s more (i - more) i back)
        (two.leads b (i - more) (omega (arith, few, high, less)) (leads_second e b (sample_in d mid s) (sample_in d mid (s + stride * more)) lead))
