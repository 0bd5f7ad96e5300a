-- Windows and the numbers that tell them.
use Rattle.std.proofs.Common.{◌≤ℤ◌, [], ◌∷◌, All, inl, inr, ap, arith}
use Rattle.std.proofs.lemmas.Int.{ints}
use Rattle.std.proofs.lemmas.List.Elements.{All-cons, All-nil}
use Rattle.fx_base.specs.Bounds.{Bounds, IsRect}
use Rattle.fx_base.specs.Rect.{IsFrame}
use Rattle.fx_effect.specs.Asked.{IsWindow}

-- each coordinate can be told as a fixed-point number
pub record AreFrames (r : Bounds) : Type 0 where
  pub left : IsFrame r.x1
  pub bottom : IsFrame r.y1
  pub right : IsFrame r.x2
  pub top : IsFrame r.y2

order_of : (r : Bounds) → IsRect r → (r.x1 ≤ℤ r.x2) × (r.y1 ≤ℤ r.y2)
order_of r (inl is) =
    let left = ap (λ b. b.x1) is in
    let bottom = ap (λ b. b.y1) is in
    let right = ap (λ b. b.x2) is in
    let top = ap (λ b. b.y2) is in
    (omega (arith, ints), omega (arith, ints))
order_of r (inr proper) = (omega (arith, ints, proper.0), omega (arith, ints, proper.1))

pub AreFrames-window : (r : Bounds) → IsWindow r → AreFrames r
AreFrames-window r window =
    let order = order_of r window.bounds in
    let near = window.near in
    record {
      left = (near.left, omega (arith, ints));
      bottom = (near.bottom, omega (arith, ints));
      right = (omega (arith, ints), near.right);
      top = (omega (arith, ints), near.top);
    }

-- the same of the list of them
pub frames_of_window : (r : Bounds) → IsWindow r → All IsFrame (r.x1 ∷ r.y1 ∷ r.x2 ∷ r.y2 ∷ [])
frames_of_window r window =
    let frames = AreFrames-window r window in
    All-cons IsFrame r.x1 (r.y1 ∷ r.x2 ∷ r.y2 ∷ []) frames.left
    (All-cons IsFrame r.y1 (r.x2 ∷ r.y2 ∷ []) frames.bottom
    (All-cons IsFrame r.x2 (r.y2 ∷ []) frames.right (All-cons IsFrame r.y2 [] frames.top (All-nil IsFrame))))
