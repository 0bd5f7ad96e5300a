use Rattle.std.proofs.Common.{◌≡◌, ◌∙◌, ◌+◌, ◌*◌, ◌<◌, ℤ, pos, Some, w64, to_z, of_z, rules, length, take, get_or, sym, ap, add-one, arith}
use Rattle.std.specs.List.{slice_get}
use Rattle.std.proofs.Math.Seq.{take-length}
use Rattle.std.proofs.lemmas.Int.{to_z-of_z}
use Rattle.fx_props.specs.declared.value.PropKind.TheVariants as kind
use Rattle.fx_props.specs.Entries.{range_values, whole}
use Rattle.fx_props.proofs.ReadLemmas.{read_at, count_of, length-range_values, first_at, last_at, take-pair}
use Rattle.fx_props.proofs.read.frames_at.Goals as goal

pub loop-k-preserved : goal.loop-k-preserved
loop-k-preserved c = λ spans there.
    let set = c.args.set.now in
    let name = c.args.name.now in
    let values = range_values spans in
    let k = c.loop-k.k in
    let d : ℤ × ℤ = (pos 0, pos 0) in
    let count : c.unwrap-count.result ≡ length values = count_of set kind.Fix name values c.unwrap-count.result there (sym c.dimension.ensures.count ∙ c.unwrap-count.ensures) in
    let within : k < length spans = omega (arith, length-range_values spans) in
    let first = c.frame_at.ensures (get_or spans k d).0 (read_at set kind.Fix name values (2 * k) (whole (get_or spans k d).0) there (first_at spans k d within)) in
    let last_there : slice_get values (2 * k + 1) ≡ Some (whole (get_or spans k d).1) = rw add-one (last_at spans k d within) in
    let last = c.frame_at-in-loop-k.ensures (get_or spans k d).1 (read_at set kind.Fix name values (2 * k + 1) (whole (get_or spans k d).1) there last_there) in
    let first_same : to_z w64 (of_z w64 c.frame_at.result) ≡ c.frame_at.result = search (rules, to_z-of_z) in
    let last_same : to_z w64 (of_z w64 c.frame_at-in-loop-k.result) ≡ c.frame_at-in-loop-k.result = search (rules, to_z-of_z) in
    take-pair spans _ _ k _ _ d within c.in_ok-push.ensures.items (c.loop-k.invariant spans there) (first_same ∙ first) (last_same ∙ last)

pub returns : goal.returns
returns c = λ spans there.
    let values = range_values spans in
    let count : c.unwrap-count.result ≡ length values = count_of c.args.set.now kind.Fix c.args.name.now values c.unwrap-count.result there (sym c.dimension.ensures.count ∙ c.unwrap-count.ensures) in
    let all : c.loop-k.k ≡ length spans = omega (arith, length-range_values spans) in
    c.loop-k.invariant spans there ∙ ap (λ k. take k spans) all ∙ take-length spans
