-- What every effect keeps, of timeoffset.
use Rattle.std.specs.Prelude.{◌≡◌, ℕ, ℤ, pos, neg_ℤ, List, [], ◌∷◌, length, refl}
use Rattle.std.proofs.Common.{arith}
use Rattle.std.proofs.lemmas.Int.{ints}
use Rattle.std.proofs.lemmas.List.Elements.{All-nil, All-cons}
use Rattle.fx_base.specs.Bounds.{Bounds}
use Rattle.fx_pixel.specs.declared.Depth.{Depth}
use Rattle.fx_pixel.specs.declared.Components.{Components}
use Rattle.fx_params.specs.Def.{int_def}
use Rattle.fx_effect.specs.Shape.{IsLawfulIn}
use Rattle.fx_effect.specs.ShapeTests.{shape_is}
use Rattle.fx_effect.specs.Numbers.{number}
use Rattle.fx_effect.specs.NumberLaws.{Between, number_between}
use Rattle.fx_effect.specs.Laws.{Laws, IsNearSpan}
use Rattle.fx_effect.specs.DefaultLaws.{region_near, region_is_rect}
use Rattle.fx_effect.specs.Local.{Read, IsRead, IsSameRead, local_laws}
use Rattle.fx_effect.specs.declared.action.Context.{Context}
use Rattle.fx_effect.specs.declared.values.Values.{Values}
use Rattle.fx_time.specs.Times.{source_at, alone}
use Rattle.fx_effect.specs.SourceLaws.{source_flag, source_connected}
use Rattle.fx_time.specs.TimesLaws.{source_holds, read_alone, near_alone}
use Rattle.fx_time.specs.Timeoffset.{timeoffset_params, timeoffset_shape, moment, timeoffset}

pub offset_between : (context : Context) (v : Values) → IsLawfulIn timeoffset_shape context v
    → Between (neg_ℤ (pos 100000)) (pos 100000) (number v 0)
offset_between context v lawful =
    number_between timeoffset_params v 0 (int_def [] (pos 0) (pos 0) (pos 0)) lawful.numbers (omega arith)

abbrev reads : Values → List Read
reads v = source_at (moment v) ∷ []

moment_near : (context : Context) (v : Values) → IsLawfulIn timeoffset_shape context v
    → IsNearSpan v.frame (alone (moment v))
moment_near context v lawful =
    let between = offset_between context v lawful in
    near_alone v.frame (moment v) (omega (arith, ints, between.above, between.below))
    (omega (arith, ints, between.above, between.below))

same_always : (context : Context) (v : Values) (window : Bounds) (clip : ℕ) (frame : ℤ) (depth : Depth) (c : Components)
    → IsLawfulIn timeoffset_shape context v
    → clip ≡ 0 → frame ≡ moment v → IsSameRead timeoffset (reads v) context v depth c window clip frame
same_always context v window clip frame depth c lawful source now =
    rw (source, now) (record {
      connected = source_connected v.connected lawful.connected;
      no_mask = refl;
      read = (0, omega arith, refl);
      pixels = λ value x y shown inside. refl;
    })

pub timeoffset_laws : Laws timeoffset
timeoffset_laws =
    local_laws timeoffset reads (shape_is timeoffset_shape refl) (record {
      taps = λ v x y. refl;
      interest = λ v r clip. refl;
      reads_there = λ context v lawful.
          All-cons (IsRead (length v.connected) (timeoffset.spans v)) (source_at (moment v)) []
          (read_alone (length v.connected) (timeoffset.spans v) (moment v) (source_flag v.connected lawful.connected)
          (0, omega arith, refl))
          (All-nil (IsRead (length v.connected) (timeoffset.spans v)));
      frames_near = λ context v clip lawful.
          All-cons (IsNearSpan v.frame) (alone (moment v)) [] (moment_near context v lawful)
          (All-nil (IsNearSpan v.frame));
      region_near = λ context v regions n lawful are up_to. region_near n 0 v.project regions up_to;
      region_is_rect = λ context v regions lawful are. region_is_rect 0 v regions are;
      whole = λ context v regions whole lawful are. absurd cc;
      region_holds =
          λ context v regions r x y lawful are there held. source_holds (moment v ∷ []) regions r x y there held;
      zero_stays = λ context v depth c x y lawful supported. refl;
      pixel = λ context v depth c value x y lawful supported shown.
          (shown.depth_is (source_at (moment v)), shown.components_are (source_at (moment v)));
      same = λ context v window clip frame depth c lawful supported answer.
          let source : clip ≡ 0 =
          cc in let now : frame ≡ moment v =
          cc in same_always context v window clip frame depth c lawful source now;
    })
