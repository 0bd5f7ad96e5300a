-- Bands of pieces, when a piece comes behind the others.
use Rattle.std.proofs.Common.{◌≡◌, ◌≤◌, ◌<◌, ◌⊎◌, inl, inr, ◌+◌, ℕ, ℤ, pos, true, false, ◌&&◌, List, [], ◌∷◌, ◌++◌, length, get_or, sym, ap, subst, arith, below_more, ◌∙◌, w64, to_z, of_z, FitsSigned}
use Rattle.std.specs.Prelude.{nat_eq}
use Rattle.std.specs.Int.Signed.{le_z, lt_z}
use Rattle.std.specs.Ordering.{int_eq, nat_cmp, ord_max}
use Rattle.std.proofs.Math.Nat.{eq-or-lt_of_le}
use Rattle.std.proofs.Math.ListN.{set, get_or-append}
use Rattle.std.proofs.Math.Seq.{get_or-append_seam}
use Rattle.std.proofs.lemmas.Int.{ints, to_z-of_z}
use Rattle.std.proofs.lemmas.Bool.Decides.{nat_tests}
use Rattle.std.proofs.lemmas.Map.Views.{exact_unsigned_eq}
use Rattle.std.proofs.lemmas.List.{length-append, length-set, get_or-set_same, get_or-set_other}
use Rattle.std.proofs.lemmas.List.Elements.{All-push, All-set}
use Rattle.fx_effect.specs.Tap.{tap}
use Rattle.fx_effect.specs.Given.{holds_tap}
use Rattle.fx_effect.specs.Placed.{piece_rect, given_piece}
use Rattle.fx_effect.specs.Bands.{IsInBand, IsBand, HasPiece, AreBands}
use Rattle.fx_effect.specs.declared.piece.Placed.{Placed}
use Rattle.fx_effect.proofs.PieceLaws.{both}
use Rattle.fx_effect.specs.declared.bands.Band.{Band}

-- numbers whose words are the same are the same
same_word : (a b : ℤ) → FitsSigned w64 a → FitsSigned w64 b → nat_eq (of_z w64 a) (of_z w64 b) ≡ true → a ≡ b
same_word a b fa fb h = sym (to_z-of_z w64 a fa) ∙ ap (to_z w64) (exact_unsigned_eq (of_z w64 a) (of_z w64 b) h) ∙ to_z-of_z w64 b fb

-- a piece of the clip, the frame and the rows is in the band
pub in_band : (b : Band) (p : Placed) (clip : ℕ) (frame bottom top : ℤ) → FitsSigned w64 b.bottom → FitsSigned w64 b.top → FitsSigned w64 bottom → FitsSigned w64 top
    → ((nat_eq b.clip clip && int_eq b.frame frame) && nat_eq (of_z w64 b.bottom) (of_z w64 bottom)) && nat_eq (of_z w64 b.top) (of_z w64 top) ≡ true
    → p.clip ≡ clip → p.frame ≡ frame → (piece_rect p.piece).y1 ≡ bottom → (piece_rect p.piece).y2 ≡ top → IsInBand b p
in_band b p clip frame bottom top fb ft f g h here then low high =
    let one = both (nat_eq b.clip clip && int_eq b.frame frame && nat_eq (of_z w64 b.bottom) (of_z w64 bottom)) (nat_eq (of_z w64 b.top) (of_z w64 top)) h in
    let two = both (nat_eq b.clip clip && int_eq b.frame frame) (nat_eq (of_z w64 b.bottom) (of_z w64 bottom)) one.0 in
    let three = both (nat_eq b.clip clip) (int_eq b.frame frame) two.0 in
    record {
      clip = here ∙ sym (exact_unsigned_eq b.clip clip three.0);
      frame = then ∙ sym (same_frame b.frame frame three.1);
      bottom = low ∙ sym (same_word b.bottom bottom fb f two.1);
      top = high ∙ sym (same_word b.top top ft g one.1);
    }
  where
    same_frame : (x y : ℤ) → int_eq x y ≡ true → x ≡ y
    same_frame x y e = grind (arith, ints)

one_more : (pieces : List Placed) (p : Placed) → length (pieces ++ p ∷ []) ≡ length pieces + 1
one_more pieces p = length-append pieces (p ∷ [])

-- a band of the pieces is one of these with another behind them
still_band : (pieces : List Placed) (p : Placed) (b : Band) → IsBand pieces b → IsBand (pieces ++ p ∷ []) b
still_band pieces p b is =
    record {
      some = is.some;
      there = omega (arith, one_more pieces p, is.there);
      same = λ j d from to.
          let low : j < length pieces = omega (arith, is.there, to) in
          subst (IsInBand b) (sym (get_or-append pieces (p ∷ []) d j low)) (is.same j d from to);
    }

-- the piece takes a band of its own
pub own_band : (bands : List Band) (pieces : List Placed) (p : Placed) (b : Band) → AreBands bands pieces → b.from ≡ length pieces → b.to ≡ length pieces + 1 → IsInBand b p → AreBands (bands ++ b ∷ []) (pieces ++ p ∷ [])
own_band bands pieces p b are from to here =
    record {
      each = All-push (IsBand (pieces ++ p ∷ [])) bands b (λ k d low. still_band pieces p _ (are.each k d low)) (record {
        some = omega (arith, from, to);
        there = omega (arith, one_more pieces p, to);
        same = λ j d above below.
            let is : j ≡ length pieces = omega (arith, from, to, above, below) in
            subst (λ i. IsInBand b (get_or (pieces ++ p ∷ []) i d)) (sym is) (subst (IsInBand b) (sym (get_or-append_seam pieces p [] d)) here);
      });
      all = λ j low.
          below_more (λ i. HasPiece (bands ++ b ∷ []) i) (length pieces) (λ i less. old i (are.all i less)) new j (omega (arith, one_more pieces p, low));
      last = λ k d e.
          let is : k ≡ length bands = omega (arith, e, length-append bands (b ∷ [])) in
          subst (λ i. (get_or (bands ++ b ∷ []) i d).to ≡ length (pieces ++ p ∷ [])) (sym is)
          (subst (λ (z : Band). z.to ≡ length (pieces ++ p ∷ [])) (sym (get_or-append_seam bands b [] d)) (omega (arith, to, one_more pieces p)));
    }
  where
    old : (i : ℕ) → HasPiece bands i → HasPiece (bands ++ b ∷ []) i
    old i has =
        let same : (d : Band) → get_or (bands ++ b ∷ []) has.band d ≡ get_or bands has.band d = λ d. get_or-append bands (b ∷ []) d has.band has.there in
        record {
          band = has.band;
          there = omega (arith, has.there, length-append bands (b ∷ []));
          from = λ d. subst (λ (z : Band). z.from ≤ i) (sym (same d)) (has.from d);
          to = λ d. subst (λ (z : Band). i < z.to) (sym (same d)) (has.to d);
        }

    new : HasPiece (bands ++ b ∷ []) (length pieces)
    new =
        record {
          band = length bands;
          there = omega (arith, length-append bands (b ∷ []));
          from = λ d. subst (λ (z : Band). z.from ≤ length pieces) (sym (get_or-append_seam bands b [] d)) (omega (arith, from));
          to = λ d. subst (λ (z : Band). length pieces < z.to) (sym (get_or-append_seam bands b [] d)) (omega (arith, to));
        }

-- a band that goes up to another end, and is the same otherwise
pub record IsWider (was b : Band) (end : ℕ) : Type 0 where
  pub clip : b.clip ≡ was.clip
  pub frame : b.frame ≡ was.frame
  pub bottom : b.bottom ≡ was.bottom
  pub top : b.top ≡ was.top
  pub from : b.from ≡ was.from
  pub to : b.to ≡ end

wider_in : (was b : Band) (to : ℕ) (p : Placed) → IsWider was b to → IsInBand was p → IsInBand b p
wider_in was b to p wide is =
    record {
      clip = is.clip ∙ sym wide.clip;
      frame = is.frame ∙ sym wide.frame;
      bottom = is.bottom ∙ sym wide.bottom;
      top = is.top ∙ sym wide.top;
    }

-- the last band takes the piece
pub last_takes : (bands : List Band) (pieces : List Placed) (p : Placed) (i : ℕ) (was b : Band) → AreBands bands pieces → i + 1 ≡ length bands → was ≡ get_or bands i was → IsWider was b (length pieces + 1) → IsInBand was p
    → AreBands (set bands i b) (pieces ++ p ∷ [])
last_takes bands pieces p i was b are at is wide here =
    record {
      each = All-set (IsBand (pieces ++ p ∷ [])) bands i b (record { some = omega (arith, wide.from, wide.to, before.some, ended); there = omega (arith, wide.to, one_more pieces p); same = own }) (λ k d low. still_band pieces p _ (are.each k d low));
      all = λ j low. below_more (λ m. HasPiece (set bands i b) m) (length pieces) (λ m less. old m (are.all m less)) new j (omega (arith, one_more pieces p, low));
      last = λ k d e.
          let end : k ≡ i = omega (arith, e, at, length-set bands i b) in
          subst (λ m. (get_or (set bands i b) m d).to ≡ length (pieces ++ p ∷ [])) (sym end)
          (subst (λ (z : Band). z.to ≡ length (pieces ++ p ∷ [])) (sym (this d)) (omega (arith, wide.to, one_more pieces p)));
    }
  where
    there : i < length bands
    there = omega (arith, at)

    ended : was.to ≡ length pieces
    ended = subst (λ (z : Band). z.to ≡ length pieces) (sym is) (are.last i was at)

    this : (d : Band) → get_or (set bands i b) i d ≡ b
    this d = get_or-set_same bands i b d there

    before : IsBand pieces was
    before = subst (IsBand pieces) (sym is) (are.each i was there)

    own : (j : ℕ) (d : Placed) → b.from ≤ j → j < b.to → IsInBand b (get_or (pieces ++ p ∷ []) j d)
    own j d from to =
        below_more (λ m. b.from ≤ m → IsInBand b (get_or (pieces ++ p ∷ []) m d)) (length pieces)
        (λ m low above. subst (IsInBand b) (sym (get_or-append pieces (p ∷ []) d m low)) (wider_in was b (length pieces + 1) _ wide (before.same m d (omega (arith, above, wide.from)) (omega (arith, low, ended)))))
        (λ above. subst (IsInBand b) (sym (get_or-append_seam pieces p [] d)) (wider_in was b (length pieces + 1) p wide here)) j (omega (arith, to, wide.to)) from

    new : HasPiece (set bands i b) (length pieces)
    new =
        record {
          band = i;
          there = omega (arith, there, length-set bands i b);
          from = λ d. subst (λ (z : Band). z.from ≤ length pieces) (sym (this d)) (omega (arith, wide.from, before.some, ended));
          to = λ d. subst (λ (z : Band). length pieces < z.to) (sym (this d)) (omega (arith, wide.to));
        }

    in_this : (m : ℕ) (has : HasPiece bands m) → has.band ≡ i → HasPiece (set bands i b) m
    in_this m has e =
        let z : get_or bands has.band was ≡ was = subst (λ k. get_or bands k was ≡ was) (sym e) (sym is) in
        let from : was.from ≤ m = subst (λ (x : Band). x.from ≤ m) z (has.from was) in
        let to : m < was.to = subst (λ (x : Band). m < x.to) z (has.to was) in
        record {
          band = i;
          there = omega (arith, there, length-set bands i b);
          from = λ d. subst (λ (x : Band). x.from ≤ m) (sym (this d)) (omega (arith, wide.from, from));
          to = λ d. subst (λ (x : Band). m < x.to) (sym (this d)) (omega (arith, wide.to, ended, to));
        }

    in_other : (m : ℕ) (has : HasPiece bands m) → has.band < i → HasPiece (set bands i b) m
    in_other m has low =
        let other : (d : Band) → get_or (set bands i b) has.band d ≡ get_or bands has.band d = λ d. get_or-set_other bands i has.band b d (λ e. omega (arith, e, low)) in
        record {
          band = has.band;
          there = omega (arith, has.there, length-set bands i b);
          from = λ d. subst (λ (x : Band). x.from ≤ m) (sym (other d)) (has.from d);
          to = λ d. subst (λ (x : Band). m < x.to) (sym (other d)) (has.to d);
        }

    old : (m : ℕ) → HasPiece bands m → HasPiece (set bands i b) m
    old m has = elim (eq-or-lt_of_le (omega (arith, has.there, at))) [ inl e ↦ in_this m has e | inr low ↦ in_other m has low ]

-- a piece of a band that has not the row has no place of it
pub row_apart : (b : Band) (p : Placed) (clip : ℕ) (frame x y : ℤ) → IsInBand b p → ((nat_eq b.clip clip && int_eq b.frame frame) && le_z b.bottom y) && lt_z y b.top ≡ false → holds_tap (given_piece p) (tap clip frame x y) ≡ false
row_apart b p clip frame x y is apart = rw (is.clip, is.frame, is.bottom, is.top) (grind (arith, ints))

-- ---- from the first band that has a row to the last one

abbrev pub blank : Band
blank = record { clip = 0; frame = pos 0; bottom = pos 0; top = pos 0; from = 0; to = 0 }

-- what lies beside some pieces lies beside fewer
pub beside_fewer : (from to from' to' j : ℕ) → from' ≤ from → to ≤ to' → (j < from') ⊎ (to' ≤ j) → (j < from) ⊎ (to ≤ j)
beside_fewer from to from' to' j low high (inl before) = inl (omega (arith, low, before))
beside_fewer from to from' to' j low high (inr behind) = inr (omega (arith, high, behind))

pub not_beside : (from to from' to' j : ℕ) → from' ≤ from → to ≤ to' → from ≤ j → j < to → (j < from') ⊎ (to' ≤ j) → ⊥
not_beside from to from' to' j low high above below (inl before) = omega (arith, low, before, above)
not_beside from to from' to' j low high above below (inr behind) = omega (arith, high, behind, below)

pub record IsMax (a b m : ℕ) : Type 0 where
  pub one : a ≤ m
  pub other : b ≤ m
  pub least : (n : ℕ) → a ≤ n → b ≤ n → m ≤ n

pub is_max : (a b : ℕ) → IsMax a b (ord_max nat_cmp a b)
is_max a b =
    record {
      one = grind (arith, nat_tests);
      other = grind (arith, nat_tests);
      least = λ n low high. grind (arith, nat_tests, low, high);
    }
