use Rattle.std.proofs.Common.{◌≡◌, ◌∙◌, ℕ, ◌+◌, ◌*◌, sym, ap, subst, arith}
use Rattle.fx_pixel.specs.Pixel.{size}
use Rattle.fx_area.specs.Gathered.{AreGathered}
use Rattle.fx_area.proofs.AreaLaws.{tall_room, wide_room}
use Rattle.fx_area.proofs.extreme.pick_squares.Goals as goal

pub gather-requires-clause-room : goal.gather-requires-clause-room
gather-requires-clause-room c = tall_room c.args.width c.args.height c.args.radius c.count-step.result c.requires.high

pub gather-requires-2-clause-room : goal.gather-requires-2-clause-room
gather-requires-2-clause-room c =
    wide_room c.args.width c.args.height c.args.radius c.count-step.result c.requires.wide (omega (arith, c.requires.high))

regrouped : (n a b s : ℕ) → a ≡ b → n * (b * s) ≡ n * a * s
regrouped n a b s same = ap (λ k. n * (k * s)) (sym same) ∙ omega arith

pub gather-requires-clause-long : goal.gather-requires-clause-long
gather-requires-clause-long c =
    c.requires.long
    ∙ regrouped (c.args.height * c.args.width) c.count-step.result _ (size c.args.depth) c.count-step.ensures

pub gather-requires-2-clause-long : goal.gather-requires-2-clause-long
gather-requires-2-clause-long c =
    c.gather.auto.bytes ∙ c.requires.long
    ∙ regrouped (c.args.height * c.args.width) c.count-step.result _ (size c.args.depth) c.count-step.ensures

pub returns : goal.returns
returns c =
    let e = c.args.extreme in
    let d = c.args.depth in
    let w = c.args.width in
    let h = c.args.height in
    let r = c.args.radius in
    let step = c.count-step.ensures in
    record {
      middle = c.gather.new.bytes;
      along_columns =
          subst (λ n. AreGathered e d (h * w * n) (w * n) (2 * r + 1) c.args.bytes.now c.gather.new.bytes) step
          c.gather.ensures;
      along_rows =
          subst (λ n. AreGathered e d (h * w * n) n (2 * r + 1) c.gather.new.bytes c.gather-2.new.bytes) step
          c.gather-2.ensures;
    }
