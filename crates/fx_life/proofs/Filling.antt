-- Images that are written whole, and gates of nodes.
use Rattle.std.proofs.Common.{◌≡◌, ◌<◌, ◌+◌, ℕ, ℤ, Some, sym, ap, ◌∙◌, arith}
use Rattle.std.proofs.lemmas.Option.{none-some, same_Some}
use Rattle.fx_pixel.specs.declared.Pixel.{Pixel}
use Rattle.fx_image.specs.Stored.{Stored}
use Rattle.fx_image.specs.declared.part.Part.{Part}
use Rattle.fx_image.specs.Part.{IsWritten}
use Rattle.fx_image.proofs.ImageLaws.{place_from}
use Rattle.fx_effect.specs.declared.action.Safety.{Safety}
use Rattle.fx_effect.specs.declared.action.Safety.TheVariants as safety
use Rattle.fx_life.specs.Plugin.{gate_of}
use Rattle.fx_life.specs.Filled.{IsFilled}

pub written_filled : (s : Stored) (p q : Part) (f : ℤ → ℤ → Pixel) → p.image.now ≡ s → p.rect ≡ s.rect → IsWritten p q f
    → IsFilled s q.image.now f
written_filled s p q f is whole written =
    let frame = written.0.2 in
    record {
      rect = frame.rect ∙ ap (λ (i : Stored). i.rect) is;
      depth = frame.depth ∙ ap (λ (i : Stored). i.depth) is;
      components = frame.components ∙ ap (λ (i : Stored). i.components) is;
      pixels = λ x y inside. written.1.inside x y (rw whole inside) (rw whole (place_from s.rect x y inside).top);
    }

-- it is one of a row that has a gate for each plug-in and for the node
pub gate_below : (s : Safety) (number node gates gate : ℕ) → number < 64 → 64 + node < gates
    → Some gate ≡ gate_of s number node → gate < gates
gate_below safety.Unsafe number node gates gate few enough is =
    let e = same_Some gate number is in omega (arith, few, enough, e)
gate_below safety.InstanceSafe number node gates gate few enough is =
    let e = same_Some gate (64 + node) is in omega (arith, few, enough, e)
gate_below safety.FullySafe number node gates gate few enough is = absurd (none-some gate (sym is))
