-- What holds of the least and of the greatest of samples.
use Rattle.std.specs.Prelude.{◌≡◌, ◌≤◌, ◌<◌, ℕ, List, [], ◌∷◌, map, length, All, refl}
use Rattle.std.specs.List.{Contains}
use Rattle.std.proofs.Common.{zero, suc, ap, arith, ◌∙◌}
use Rattle.std.proofs.lemmas.List.Elements.{All-nil, All-cons, All-head, All-tail, All-map, All-weaker}
use Rattle.fx_pixel.specs.declared.Depth.{Depth}
use Rattle.fx_pixel.specs.declared.Components.{Components}
use Rattle.fx_pixel.specs.declared.Pixel.{Pixel}
use Rattle.fx_pixel.specs.Pixel.{greatest, zero as clear, IsOfDepth, components_of}
use Rattle.fx_kernel.specs.Samples.{nth}
use Rattle.fx_kernel.specs.SampleLaws.{nth_bound, nth_clear, each_same, each_of, each_clear, each_is_pixel}
use Rattle.fx_area.specs.declared.extreme.Extreme.{Extreme}
use Rattle.fx_area.specs.declared.extreme.Extreme.TheVariants.{Least, Greatest}
use Rattle.fx_area.specs.Extreme.{pick, picked, extreme_of, Leads}

-- ---- of two

pub leads_pick : (e : Extreme) (b x y : ℕ) → Leads e b x → Leads e b y → Leads e b (pick e x y)
leads_pick Least b x y p q = grind arith
leads_pick Greatest b x y p q = grind arith

pub leads_first : (e : Extreme) (b x y : ℕ) → Leads e b (pick e x y) → Leads e b x
leads_first Least b x y p = grind arith
leads_first Greatest b x y p = grind arith

pub leads_second : (e : Extreme) (b x y : ℕ) → Leads e b (pick e x y) → Leads e b y
leads_second Least b x y p = grind arith
leads_second Greatest b x y p = grind arith

leads_self : (e : Extreme) (v : ℕ) → Leads e v v
leads_self Least v = omega arith
leads_self Greatest v = omega arith

both_lead : (e : Extreme) (v w : ℕ) → Leads e v w → Leads e w v → v ≡ w
both_lead Least v w p q = omega arith
both_lead Greatest v w p q = omega arith

-- two samples that the same numbers lead are one
pub one_extreme : (e : Extreme) (v w : ℕ) → ((b : ℕ) → Leads e b v → Leads e b w)
    → ((b : ℕ) → Leads e b w → Leads e b v)
    → v ≡ w
one_extreme e v w there back = both_lead e v w (there v (leads_self e v)) (back w (leads_self e w))

-- ---- of a list

-- a number leads the empty list's where it leads a sample
leads_none : (e : Extreme) (b n m : ℕ) → n ≤ m → Leads e b n → Leads e b (picked e m [])
leads_none Least b n m few p = omega arith
leads_none Greatest b n m few p = omega arith

picked_more : (e : Extreme) (m n : ℕ) (ns : List ℕ) → picked e m (n ∷ ns) ≡ pick e n (picked e m ns)
picked_more Least m n ns = refl
picked_more Greatest m n ns = refl

pub leads_each : (e : Extreme) (b m : ℕ) (ns : List ℕ) → Leads e b (picked e m ns) → All (λ n. Leads e b n) ns
leads_each e b m [] p = All-nil (λ n. Leads e b n)
leads_each e b m (n ∷ ns) p =
    let q = (rw (picked_more e m n ns) at p) in
    All-cons (λ n. Leads e b n) n ns (leads_first e b n (picked e m ns) q)
    (leads_each e b m ns (leads_second e b n (picked e m ns) q))

leads_rest : (e : Extreme) (b n m : ℕ) (ns : List ℕ) → n ≤ m → Leads e b n → All (λ n. Leads e b n) ns
    → Leads e b (picked e m ns)
leads_rest e b n m [] few p all = leads_none e b n m few p
leads_rest e b n m (x ∷ ns) few p all =
    rw (picked_more e m x ns)
    (leads_pick e b x (picked e m ns) (All-head (λ n. Leads e b n) x ns all)
    (leads_rest e b n m ns few p (All-tail (λ n. Leads e b n) x ns all)))

pub leads_picked : (e : Extreme) (b m : ℕ) (ns : List ℕ) → 0 < length ns → All (λ n. n ≤ m) ns
    → All (λ n. Leads e b n) ns → Leads e b (picked e m ns)
leads_picked e b m [] some few all = absurd (omega arith)
leads_picked e b m (n ∷ ns) some few all =
    leads_rest e b n m (n ∷ ns) (All-head (λ n. n ≤ m) n ns few) (All-head (λ n. Leads e b n) n ns all) all

-- ---- the pixels of the two effects

pub picked_few : (e : Extreme) (m : ℕ) (ns : List ℕ) → All (λ n. n ≤ m) ns → picked e m ns ≤ m
picked_few Least m [] few = omega arith
picked_few Greatest m [] few = omega arith
picked_few Least m (n ∷ ns) few = let rest = picked_few Least m ns (All-tail (λ n. n ≤ m) n ns few) in grind arith
picked_few Greatest m (n ∷ ns) few =
    let rest = picked_few Greatest m ns (All-tail (λ n. n ≤ m) n ns few) in
    let here = All-head (λ n. n ≤ m) n ns few in
    grind arith

pub samples_few : (depth : Depth) (k : ℕ) (pixels : List Pixel) → All (IsOfDepth depth) pixels
    → All (λ n. n ≤ greatest depth) (map (λ p. nth p k) pixels)
samples_few depth k pixels all =
    All-map (λ n. n ≤ greatest depth) (λ p. nth p k) pixels
    (All-weaker (IsOfDepth depth) (λ p. nth p k ≤ greatest depth) (λ p is. nth_bound depth p k is) pixels all)

pub extreme_is_pixel : (e : Extreme) (depth : Depth) (c : Components) (pixels : List Pixel)
    → All (IsOfDepth depth) pixels
    → IsOfDepth depth (extreme_of e c (greatest depth) pixels)
    × (components_of (extreme_of e c (greatest depth) pixels) ≡ c)
extreme_is_pixel e depth c pixels all =
    each_is_pixel depth c (λ k. picked e (greatest depth) (map (λ p. nth p k) pixels))
    (λ k. picked_few e (greatest depth) (map (λ p. nth p k) pixels) (samples_few depth k pixels all))

-- of one pixel
picked_one : (e : Extreme) (m n : ℕ) → n ≤ m → picked e m (n ∷ []) ≡ n
picked_one Least m n few = grind arith
picked_one Greatest m n few = grind arith

pub extreme_one : (e : Extreme) (depth : Depth) (p : Pixel) → IsOfDepth depth p
    → extreme_of e (components_of p) (greatest depth) (p ∷ []) ≡ p
extreme_one e depth p is =
    each_same (components_of p) (λ k. picked e (greatest depth) (nth p k ∷ [])) (nth p)
    (λ k. picked_one e (greatest depth) (nth p k) (nth_bound depth p k is))
    ∙ each_of p

-- the greatest of zeros is zero
greatest_none : (c : Components) (k m : ℕ) (pixels : List Pixel) → All (λ p. p ≡ clear c) pixels
    → picked Greatest m (map (λ p. nth p k) pixels) ≡ 0
greatest_none c k m [] all = refl
greatest_none c k m (p ∷ pixels) all =
    let rest = greatest_none c k m pixels (All-tail (λ p. p ≡ clear c) p pixels all) in
    let none : nth p k ≡ 0 = ap (λ q. nth q k) (All-head (λ p. p ≡ clear c) p pixels all) ∙ nth_clear c k in
    grind arith

pub greatest_clear : (c : Components) (m : ℕ) (pixels : List Pixel) → All (λ p. p ≡ clear c) pixels
    → extreme_of Greatest c m pixels ≡ clear c
greatest_clear c m pixels all =
    each_same c (λ k. picked Greatest m (map (λ p. nth p k) pixels)) (λ k. 0) (λ k. greatest_none c k m pixels all)
    ∙ each_clear c

-- the least is zero where one of the pixels is
least_none : (c : Components) (k m : ℕ) (pixels : List Pixel) → Contains pixels (clear c)
    → picked Least m (map (λ p. nth p k) pixels) ≡ 0
least_none c k m [] (i, low, is) = absurd (omega arith)
least_none c k m (p ∷ pixels) (zero, low, is) =
    let none : nth p k ≡ 0 = ap (λ q. nth q k) is ∙ nth_clear c k in
    grind arith
least_none c k m (p ∷ pixels) (suc i, low, is) =
    let rest = least_none c k m pixels (i, omega arith, is) in
    grind arith

pub least_clear : (c : Components) (m : ℕ) (pixels : List Pixel) → Contains pixels (clear c)
    → extreme_of Least c m pixels ≡ clear c
least_clear c m pixels one =
    each_same c (λ k. picked Least m (map (λ p. nth p k) pixels)) (λ k. 0) (λ k. least_none c k m pixels one)
    ∙ each_clear c
