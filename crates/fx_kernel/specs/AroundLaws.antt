-- What holds of the places round a place, and of sums over them.
use Rattle.std.specs.Prelude.{◌≡◌, ℕ, ◌+◌, ◌*◌, ℤ, pos, ◌≤ℤ◌, ◌+ℤ◌, ◌-ℤ◌, List, [], ◌∷◌, ◌++◌, map, length, All, refl}
use Rattle.std.specs.List.{flat_map, sum_by}
use Rattle.std.proofs.Common.{zero, suc, sym, ap, arith, ◌∙◌, add-one}
use Rattle.std.proofs.lemmas.Int.{ints}
use Rattle.std.proofs.lemmas.List.Concat.{length-flat_map}
use Rattle.std.proofs.lemmas.List.Elements.{All-map}
use Rattle.std.proofs.lemmas.List.Sums.{sum_by-cons, sum_by-append, sum_by_push}
use Rattle.fx_base.specs.Run.{int_run}
use Rattle.fx_base.proofs.RunLaws.{All-run, All-flat_map}
use Rattle.fx_kernel.specs.Around.{around, column, square}

-- ---- what holds of each

-- what holds at each place near (x, y) holds of what the square has
pub All-square : {X : Type 0} (P : X → Type 0) (at : ℤ → ℤ → X) (rx ry : ℕ) (x y : ℤ)
    → ((i j : ℤ) → (x -ℤ pos rx) ≤ℤ i → i ≤ℤ (x +ℤ pos rx) → (y -ℤ pos ry) ≤ℤ j → j ≤ℤ (y +ℤ pos ry) → P (at i j))
    → All P (square at rx ry x y)
All-square P at rx ry x y h =
    All-flat_map P (column at ry y) (around x rx)
    (All-run (λ i. All P (column at ry y i)) (x -ℤ pos rx) (2 * rx + 1)
    (λ i a b. All-map P (λ j. at i j) (around y ry)
    (All-run (λ j. P (at i j)) (y -ℤ pos ry) (2 * ry + 1)
    (λ j c d. h i j a (omega (arith, ints)) c (omega (arith, ints))))))

-- ---- how many there are

pub length-int_run : (a : ℤ) (n : ℕ) → length (int_run a n) ≡ n
length-int_run a zero = refl
length-int_run a (suc n) = omega (arith, length-int_run (a +ℤ pos 1) n)

pub length-mapped : {X Y : Type 0} (f : X → Y) (xs : List X) → length (map f xs) ≡ length xs
length-mapped f [] = refl
length-mapped f (x ∷ xs) = ap (λ n. suc n) (length-mapped f xs)

length-column : {X : Type 0} (at : ℤ → ℤ → X) (r : ℕ) (y x : ℤ) → length (column at r y x) ≡ 2 * r + 1
length-column at r y x = length-mapped (λ j. at x j) (around y r) ∙ length-int_run (y -ℤ pos r) (2 * r + 1)

sum_same : {X : Type 0} (f : X → ℕ) (n : ℕ) (xs : List X) → ((x : X) → f x ≡ n) → sum_by f xs ≡ length xs * n
sum_same f n [] same = omega arith
sum_same f n (x ∷ xs) same = omega (arith, sum_by-cons f x xs, same x, sum_same f n xs same)

pub length-square : {X : Type 0} (at : ℤ → ℤ → X) (rx ry : ℕ) (x y : ℤ)
    → length (square at rx ry x y) ≡ (2 * rx + 1) * (2 * ry + 1)
length-square at rx ry x y =
    length-flat_map (column at ry y) (around x rx)
    ∙ sum_same (λ i. length (column at ry y i)) (2 * ry + 1) (around x rx) (length-column at ry y)
    ∙ ap (λ n. n * (2 * ry + 1)) (length-int_run (x -ℤ pos rx) (2 * rx + 1))

-- the square of radius 0
minus_zero : (a : ℤ) → a -ℤ pos 0 ≡ a
minus_zero a = omega (arith, ints)

pub square_one : {X : Type 0} (at : ℤ → ℤ → X) (x y : ℤ) → square at 0 0 x y ≡ at x y ∷ []
square_one at x y = rw (minus_zero x, minus_zero y) refl

-- ---- sums

pub int_run-push : (a : ℤ) (n : ℕ) → int_run a (suc n) ≡ int_run a n ++ (a +ℤ pos n) ∷ []
int_run-push a zero = ap (λ z. z ∷ []) (omega (arith, ints))
int_run-push a (suc n) =
    let e : a +ℤ pos 1 +ℤ pos n ≡ a +ℤ pos (suc n) = omega (arith, ints) in
    ap (λ l. a ∷ l) (int_run-push (a +ℤ pos 1) n ∙ ap (λ z. int_run (a +ℤ pos 1) n ++ z ∷ []) e)

pub sum_push : (g : ℤ → ℕ) (a : ℤ) (n : ℕ) → sum_by g (int_run a (n + 1)) ≡ sum_by g (int_run a n) + g (a +ℤ pos n)
sum_push g a n =
    ap (λ m. sum_by g (int_run a m)) (add-one n) ∙ ap (sum_by g) (int_run-push a n)
    ∙ sum_by_push g (int_run a n) (a +ℤ pos n)

-- a window of n numbers that moves up by one loses its first and gains the next
pub slide : (g : ℤ → ℕ) (a : ℤ) (n : ℕ)
    → sum_by g (int_run (a +ℤ pos 1) n) + g a ≡ sum_by g (int_run a n) + g (a +ℤ pos n)
slide g a n =
    let p = sum_by-cons g a (int_run (a +ℤ pos 1) n) in
    let q = ap (sum_by g) (int_run-push a n) ∙ sum_by_push g (int_run a n) (a +ℤ pos n) in
    omega (arith, p, q)

sum_by-flat_map : {X Y : Type 0} (g : Y → ℕ) (f : X → List Y) (xs : List X)
    → sum_by g (flat_map f xs) ≡ sum_by (λ x. sum_by g (f x)) xs
sum_by-flat_map g f [] = refl
sum_by-flat_map g f (x ∷ xs) =
    sum_by-append g (f x) (flat_map f xs)
    ∙ ap (λ n. sum_by g (f x) + n) (sum_by-flat_map g f xs)
    ∙ sym (sum_by-cons (λ z. sum_by g (f z)) x xs)

pub sum_by-map : {X Y : Type 0} (g : Y → ℕ) (f : X → Y) (xs : List X) → sum_by g (map f xs) ≡ sum_by (λ x. g (f x)) xs
sum_by-map g f [] = refl
sum_by-map g f (x ∷ xs) =
    omega (arith, sum_by-cons g (f x) (map f xs), sum_by-cons (λ z. g (f z)) x xs, sum_by-map g f xs)

pub sum_by-same : {X : Type 0} (f g : X → ℕ) (xs : List X) → ((x : X) → f x ≡ g x) → sum_by f xs ≡ sum_by g xs
sum_by-same f g [] same = refl
sum_by-same f g (x ∷ xs) same = omega (arith, sum_by-cons f x xs, sum_by-cons g x xs, same x, sum_by-same f g xs same)

-- the sum over a square is the sum of its columns' sums
pub sum_square : {X : Type 0} (g : X → ℕ) (at : ℤ → ℤ → X) (rx ry : ℕ) (x y : ℤ)
    → sum_by g (square at rx ry x y) ≡ sum_by (λ i. sum_by (λ j. g (at i j)) (around y ry)) (around x rx)
sum_square g at rx ry x y =
    sum_by-flat_map g (column at ry y) (around x rx)
    ∙ sum_by-same (λ i. sum_by g (column at ry y i)) (λ i. sum_by (λ j. g (at i j)) (around y ry)) (around x rx)
    (λ i. sum_by-map g (λ j. at i j) (around y ry))
