-- Entries by their rank, which falls with each that is taken, so that planning ends.
use Rattle.std.proofs.Common.{◌≡◌, ℕ, suc, ◌<◌, ◌≤◌, ◌+◌, ◌*◌, ℤ, pos, negsuc, ◌<ℤ◌, ◌+ℤ◌, List, [], ◌∷◌, refl, sym, ap, ◌∙◌, subst, arith, ◌⊎◌, inl, inr, max}
use Rattle.std.proofs.Math.Nat.{mul-le-mul_right}
use Rattle.std.proofs.lemmas.Int.{ints}
use Rattle.std.proofs.lemmas.Cmp.{int_ranked, ranked}
use Rattle.std.specs.Int.{int_gap}
use Rattle.std.specs.declared.cmp.Ordering.{Ordering}
use Rattle.std.specs.declared.cmp.Ordering.TheVariants.{Less, Equal, Greater}
use Rattle.std.specs.Ordering.{nat_cmp, int_cmp, ordering_then}
use Rattle.fx_base.specs.Rect.{IsFrame}
use Rattle.fx_base.proofs.RectLaws.{gap_is}
use Rattle.fx_scene.proofs.Members.{In}
use Rattle.fx_plan.specs.declared.entry.Entry.{Entry}
use Rattle.fx_plan.specs.declared.entry.SortKey.{SortKey}
use Rattle.fx_plan.specs.Keys.{entry_of, key_cmp}
use Rattle.fx_plan.specs.Plan.{IsBefore, IsLess}

-- ---- what a comparison says

less_then : (o p : Ordering) → ordering_then o p ≡ Less → (o ≡ Less) ⊎ ((o ≡ Equal) × (p ≡ Less))
less_then Less p e = inl refl
less_then Equal p e = inr (refl, e)
less_then Greater p e = absurd cc

int_level : (a b : ℤ) (p : Ordering) (rest : Type 0) → (p ≡ Less → rest) → ordering_then (int_cmp a b) p ≡ Less
    → IsLess a b rest
int_level a b p rest next e = elim (less_then (int_cmp a b) p e) [
  | inl less ↦ inl (int_ranked a b Less (sym less))
  | inr same ↦ inr (int_ranked a b Equal (sym same.0), next same.1)
]

last_level : (a b : SortKey) → ordering_then (int_cmp a.y2 b.y2) (int_cmp a.x2 b.x2) ≡ Less
    → IsLess a.y2 b.y2 (a.x2 <ℤ b.x2)
last_level a b e =
    int_level a.y2 b.y2 (int_cmp a.x2 b.x2) (a.x2 <ℤ b.x2) (λ last. int_ranked a.x2 b.x2 Less (sym last)) e

abbrev y2_cmp : SortKey → SortKey → Ordering
y2_cmp a b = ordering_then (int_cmp a.y2 b.y2) (int_cmp a.x2 b.x2)

abbrev x1_cmp : SortKey → SortKey → Ordering
x1_cmp a b = ordering_then (int_cmp a.x1 b.x1) (y2_cmp a b)

abbrev y1_cmp : SortKey → SortKey → Ordering
y1_cmp a b = ordering_then (int_cmp a.y1 b.y1) (x1_cmp a b)

abbrev frame_cmp : SortKey → SortKey → Ordering
frame_cmp a b = ordering_then (int_cmp a.frame b.frame) (y1_cmp a b)

abbrev X1Less : SortKey → SortKey → Type 0
X1Less a b = IsLess a.x1 b.x1 (IsLess a.y2 b.y2 (a.x2 <ℤ b.x2))

abbrev Y1Less : SortKey → SortKey → Type 0
Y1Less a b = IsLess a.y1 b.y1 (X1Less a b)

x1_level : (a b : SortKey) → x1_cmp a b ≡ Less → X1Less a b
x1_level a b e = int_level a.x1 b.x1 (y2_cmp a b) (IsLess a.y2 b.y2 (a.x2 <ℤ b.x2)) (last_level a b) e

y1_level : (a b : SortKey) → y1_cmp a b ≡ Less → Y1Less a b
y1_level a b e = int_level a.y1 b.y1 (x1_cmp a b) (X1Less a b) (x1_level a b) e

frame_level : (a b : SortKey) → frame_cmp a b ≡ Less → IsLess a.frame b.frame (Y1Less a b)
frame_level a b e = int_level a.frame b.frame (y1_cmp a b) (Y1Less a b) (y1_level a b) e

pub is_before : (a b : SortKey) → key_cmp a b ≡ Less → IsBefore (entry_of a) (entry_of b)
is_before a b e = elim (less_then (nat_cmp a.node b.node) (frame_cmp a b) e) [
  | inl less ↦ inl (ranked a.node b.node Less (sym less))
  | inr same ↦ inr (ranked a.node b.node Equal (sym same.0), frame_level a b same.1)
]

-- ---- ranks

-- how far a number is above the least that is near
abbrev pub offset : ℤ → ℕ
offset z = int_gap (negsuc 1073741823) z

unfoldable pub with_digit : ℕ → ℤ → ℕ
with_digit high z = high * 4294967296 + offset z

abbrev pub rank : Entry → ℕ
rank e =
    let r = e.region in
    with_digit (with_digit (with_digit (with_digit (with_digit e.node e.frame) r.y1) r.x1) r.y2) r.x2

-- its frame and its region's coordinates are near
pub record IsNearEntry (e : Entry) : Type 0 where
  pub frame : IsFrame e.frame
  pub y1 : IsFrame e.region.y1
  pub x1 : IsFrame e.region.x1
  pub y2 : IsFrame e.region.y2
  pub x2 : IsFrame e.region.x2

offset_is : (z : ℤ) → IsFrame z → (negsuc 1073741823 +ℤ pos (offset z) ≡ z) × (offset z < 4294967296)
offset_is z near =
    let low = near.0 in
    let high = near.1 in
    let e = gap_is (negsuc 1073741823) z low in
    (e, omega (arith, ints, e, high))

offset_less : (a b : ℤ) → IsFrame a → IsFrame b → a <ℤ b → offset a < offset b
offset_less a b p q low =
    let e = (offset_is a p).0 in
    let f = (offset_is b q).0 in
    omega (arith, ints, e, f, low)

higher : (m n : ℕ) (a b : ℤ) → IsFrame a → m < n → with_digit m a < with_digit n b
unfolding with_digit
higher m n a b near low =
    let few = (offset_is a near).1 in
    let up = mul-le-mul_right 4294967296 low in
    omega (arith, few, up)

-- the next numbers decide, or are the same
carry : (m n : ℕ) (a b : ℤ) (rest : Type 0) → IsFrame a → IsFrame b → (m < n) ⊎ ((m ≡ n) × IsLess a b rest)
    → (with_digit m a < with_digit n b) ⊎ ((with_digit m a ≡ with_digit n b) × rest)
unfolding with_digit
carry m n a b rest p q h = elim h [
  | inl low ↦ inl (higher m n a b p low)
  | inr s ↦ elim (s.1) [
    | inl low ↦ inl (let l = offset_less a b p q low in let e = s.0 in omega (arith, l, e))
    | inr same ↦ inr (ap (λ (k : ℕ). with_digit k a) (s.0) ∙ ap (with_digit n) (same.0), same.1)
  ]
]

last : (m n : ℕ) (a b : ℤ) → IsFrame a → IsFrame b → (m < n) ⊎ ((m ≡ n) × (a <ℤ b)) → with_digit m a < with_digit n b
unfolding with_digit
last m n a b p q h = elim h [
  | inl low ↦ higher m n a b p low
  | inr s ↦ let l = offset_less a b p q (s.1) in let e = s.0 in omega (arith, l, e)
]

pub rank_before : (a b : Entry) → IsNearEntry a → IsNearEntry b → IsBefore a b → rank a < rank b
rank_before a b p q h =
    let r = a.region in
    let s = b.region in
    let m = with_digit a.node a.frame in
    let n = with_digit b.node b.frame in
    let one = carry a.node b.node a.frame b.frame (IsLess r.y1 s.y1 (IsLess r.x1 s.x1 (IsLess r.y2 s.y2 (r.x2 <ℤ s.x2)))) p.frame q.frame h in
    let two = carry m n r.y1 s.y1 (IsLess r.x1 s.x1 (IsLess r.y2 s.y2 (r.x2 <ℤ s.x2))) p.y1 q.y1 one in
    let three = carry (with_digit m r.y1) (with_digit n s.y1) r.x1 s.x1 (IsLess r.y2 s.y2 (r.x2 <ℤ s.x2)) p.x1 q.x1 two in
    let four = carry (with_digit (with_digit m r.y1) r.x1) (with_digit (with_digit n s.y1) s.x1) r.y2 s.y2 (r.x2 <ℤ s.x2) p.y2 q.y2 three in
    last (with_digit (with_digit (with_digit m r.y1) r.x1) r.y2) (with_digit (with_digit (with_digit n s.y1) s.x1) s.y2) r.x2 s.x2 p.x2 q.x2 four

-- ---- above all ranks

abbrev pub top : List SortKey → ℕ
top [] = 0
top (k ∷ ks) = max (suc (rank (entry_of k))) (top ks)

pub top_least : (ks : List SortKey) (above : ℕ) → ((k : SortKey) → In ks k → rank (entry_of k) < above) → top ks ≤ above
top_least [] above h = omega arith
top_least (k ∷ ks) above h =
    let here = h k (inl refl) in
    let rest = top_least ks above (λ j i. h j (inr i)) in
    omega (arith, here, rest)

pub top_above : (ks : List SortKey) (k : SortKey) → In ks k → rank (entry_of k) < top ks
top_above [] k h = absurd h
top_above (j ∷ ks) k h = elim h [
  | inl e ↦ subst (λ (p : SortKey). rank (entry_of p) < top (j ∷ ks)) e (omega arith)
  | inr i ↦ let rest = top_above ks k i in omega (arith, rest)
]
