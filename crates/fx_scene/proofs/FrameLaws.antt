-- The frames of spans are those that lie in one of them, each once and rising.
use Rattle.std.proofs.Common.{ℕ, zero, suc, ℤ, pos, ◌+ℤ◌, ◌≤ℤ◌, ◌<ℤ◌, Bool, true, false, cond, List, [], ◌∷◌, arith, ◌⊎◌, inl, inr, All, AllPairs}
use Rattle.std.proofs.lemmas.Int.{ints}
use Rattle.std.proofs.lemmas.List.Kept.{AllPairs-cons, AllPairs-filter}
use Rattle.std.specs.List.{Contains}
use Rattle.std.specs.Int.{int_gap}
use Rattle.fx_scene.specs.Frames.{AreFramesIn, IsEarlier, LiesIn, frames_of, greatest, in_some, int_run, int_span, least}
use Rattle.fx_scene.proofs.Members.{In, all_from, contained, frames_have, in_of}
use Rattle.fx_scene.proofs.NearLemmas.{listed, listed_frames, some_span}

run_above : (a : ℤ) (n : ℕ) (f : ℤ) → In (int_run a n) f → a ≤ℤ f
run_above a zero f h = absurd h
run_above a (suc n) f h = elim h [
  | inl e ↦ omega (arith, ints, e)
  | inr i ↦ let above = run_above (a +ℤ pos 1) n f i in omega (arith, ints, above)
]

run_rises : (a : ℤ) (n : ℕ) → AllPairs IsEarlier (int_run a n)
run_rises a zero = λ i j d low high. absurd (omega (arith, low, high))
run_rises a (suc n) =
    AllPairs-cons IsEarlier a (int_run (a +ℤ pos 1) n)
    (all_from (IsEarlier a) (int_run (a +ℤ pos 1) n)
    (λ f i. let above = run_above (a +ℤ pos 1) n f i in omega (arith, ints, above)))
    (run_rises (a +ℤ pos 1) n)

rising : (spans : List (ℤ × ℤ)) → AllPairs IsEarlier (frames_of spans)
unfolding frames_of
rising [] = λ i j d low high. absurd (omega (arith, low, high))
rising (p ∷ ps) =
    let first = least p.0 ps in
    let end = greatest p.1 ps +ℤ pos 1 in
    AllPairs-filter IsEarlier (in_some (p ∷ ps)) (int_span first (greatest p.1 ps)) (run_rises first (int_gap first end))

only : (spans : List (ℤ × ℤ)) (f : ℤ) → Contains (frames_of spans) f → LiesIn spans f
only spans f h =
    let some = some_span spans f (listed_frames spans f (listed (frames_of spans) f (in_of (frames_of spans) f h))) in
    record { span = some.0; listed = contained spans some.0 some.1; first = some.2; last = some.3 }

pub are_frames : (spans : List (ℤ × ℤ)) → AreFramesIn spans (frames_of spans)
are_frames spans =
    record {
      all = λ f lies.
          contained (frames_of spans) f
          (frames_have spans lies.span f (in_of spans lies.span lies.listed) lies.first lies.last);
      only = only spans;
      rising = rising spans;
    }
