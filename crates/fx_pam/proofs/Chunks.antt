-- Lists of chunks that are joined: how long they are, what stands where, and how great the items are.
use Rattle.std.proofs.Common.{◌≡◌, ◌≤◌, ◌<◌, ◌⊎◌, inl, inr, ℕ, zero, suc, ◌+◌, ◌-◌, ◌*◌, List, [], ◌∷◌, ◌++◌, length, get_or, refl, ap, ◌∙◌, arith}
use Rattle.std.proofs.Math.Nat.{suc-mul, mul-le-mul_right}
use Rattle.std.proofs.lemmas.Bool.{cases_lt}
use Rattle.std.proofs.lemmas.List.{length-append, get_or_append_left, get_or-append_right}

-- the first n chunks, end to end
abbrev pub chunks : (ℕ → List ℕ) → ℕ → List ℕ
chunks f zero = []
chunks f (suc n) = chunks f n ++ f n

pub chunks-same : (f g : ℕ → List ℕ) (n : ℕ) → ((k : ℕ) → f k ≡ g k) → chunks f n ≡ chunks g n
chunks-same f g zero same = refl
chunks-same f g (suc n) same = ap (λ xs. xs ++ f n) (chunks-same f g n same) ∙ ap (λ x. chunks g n ++ x) (same n)

pub length-chunks : (f : ℕ → List ℕ) (n size : ℕ) → ((k : ℕ) → k < n → length (f k) ≡ size) → length (chunks f n) ≡ n * size
length-chunks f zero size each = omega arith
length-chunks f (suc n) size each = omega (arith, length-append (chunks f n) (f n), length-chunks f n size (λ k h. each k (omega arith)), each n (omega arith), suc-mul n size)

-- the item at a place of the chunks with one more chunk
one-more : (xs ys : List ℕ) (f : ℕ → List ℕ) (n size k j : ℕ) → length xs ≡ n * size → ys ≡ f n → k < n + 1 → j < size → (k < n → get_or xs (k * size + j) 0 ≡ get_or (f k) j 0)
    → (k < n) ⊎ (n ≤ k) → get_or (xs ++ ys) (k * size + j) 0 ≡ get_or (f k) j 0
one-more xs ys f n size k j long last low within before (inl h) =
    let room : suc k * size ≤ n * size = mul-le-mul_right size h in
    get_or_append_left xs ys 0 (k * size + j) (omega (arith, long, room, suc-mul k size)) ∙ before h
one-more xs ys f n size k j long last low within before (inr h) =
    let same : k ≡ n = omega arith in
    let past : n * size + j - n * size ≡ j = omega arith in
    rw (same, last) (get_or-append_right xs (f n) (n * size) (n * size + j) 0 long (omega arith) ∙ ap (λ i. get_or (f n) i 0) past)

-- chunk k has size items, so its item j stands behind k * size others
pub get_or-chunks : (f : ℕ → List ℕ) (n size k j : ℕ) → ((i : ℕ) → i < n → length (f i) ≡ size) → k < n → j < size → get_or (chunks f n) (k * size + j) 0 ≡ get_or (f k) j 0
get_or-chunks f zero size k j each low within = absurd (omega arith)
get_or-chunks f (suc n) size k j each low within =
    let before = λ (i : ℕ) (h : i < n). each i (omega arith) in
    one-more (chunks f n) (f n) f n size k j (length-chunks f n size before) refl (omega arith) within (λ h. get_or-chunks f n size k j before h within) (cases_lt k n)

-- each item is at most m
abbrev pub AllUpTo : ℕ → List ℕ → Type 0
AllUpTo m [] = Unit {0}
AllUpTo m (x ∷ xs) = (x ≤ m) × AllUpTo m xs

up_to-append : (m : ℕ) (xs ys : List ℕ) → AllUpTo m xs → AllUpTo m ys → AllUpTo m (xs ++ ys)
up_to-append m [] ys h k = k
up_to-append m (x ∷ xs) ys h k = (h.0, up_to-append m xs ys h.1 k)

pub up_to-chunks : (m : ℕ) (f : ℕ → List ℕ) (n : ℕ) → ((k : ℕ) → k < n → AllUpTo m (f k)) → AllUpTo m (chunks f n)
up_to-chunks m f zero each = tt
up_to-chunks m f (suc n) each = up_to-append m (chunks f n) (f n) (up_to-chunks m f n (λ k h. each k (omega arith))) (each n (omega arith))

pub up_to-at : (m : ℕ) (xs : List ℕ) (i : ℕ) → AllUpTo m xs → get_or xs i 0 ≤ m
up_to-at m [] i h = omega arith
up_to-at m (x ∷ xs) zero h = h.0
up_to-at m (x ∷ xs) (suc i) h = up_to-at m xs i h.1
