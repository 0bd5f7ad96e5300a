use Rattle.std.proofs.Common.{◌≡◌, ◌<◌, ℕ, ℤ, pos, List, [], ◌∷◌, map, take, get_or, w64, to_z, of_z, sym, ap, subst, refl, ◌∙◌, ◌+◌, arith}
use Rattle.std.proofs.lemmas.Int.{to_z-of_z}
use Rattle.std.proofs.lemmas.List.{get_or-map}
use Rattle.std.proofs.lemmas.List.Elements.{All-from_recursion}
use Rattle.fx_base.specs.Bounds.{Bounds}
use Rattle.fx_base.specs.Rect.{IsUpTo}
use Rattle.fx_props.specs.declared.value.PropKind.TheVariants as kind
use Rattle.fx_props.specs.Entries.{IsEntry, IsModerate, region_entry, region_values, whole}
use Rattle.fx_props.proofs.EntryLaws.{Begun, entry_more, entry_whole, four_of, fronts_one, moderate_fits, on_err}
use Rattle.fx_props.proofs.write.write_region.Goals as goal

abbrev numbers : Bounds → List ℤ
numbers r = r.x1 ∷ r.y1 ∷ r.x2 ∷ r.y2 ∷ []

moderate_at : (r : Bounds) (i : ℕ) → IsUpTo 2147483648 r → i < 4 → IsModerate (get_or (numbers r) i (pos 0))
moderate_at r i near inside = All-from_recursion IsModerate (numbers r) (near.left, (near.bottom, (near.right, (near.top, tt)))) i (pos 0) inside

-- a number of the region is handed on as it is
handed : (r b : Bounds) (i : ℕ) → b ≡ r → IsUpTo 2147483648 r → i < 4 → to_z w64 (of_z w64 (get_or (map (λ n. to_z w64 (of_z w64 n)) (numbers b)) i (pos 0))) ≡ get_or (numbers r) i (pos 0)
handed r b i is near inside =
    let same : map (λ n. to_z w64 (of_z w64 n)) (numbers r) ≡ numbers r
    = rw (to_z-of_z w64 r.x1 (moderate_fits r.x1 near.left), to_z-of_z w64 r.y1 (moderate_fits r.y1 near.bottom), to_z-of_z w64 r.x2 (moderate_fits r.x2 near.right), to_z-of_z w64 r.y2 (moderate_fits r.y2 near.top)) refl in
    ap (λ (xs : List ℤ). to_z w64 (of_z w64 (get_or xs i (pos 0)))) (ap (λ q. map (λ n. to_z w64 (of_z w64 n)) (numbers q)) is ∙ same)
    ∙ to_z-of_z w64 _ (moderate_fits _ (moderate_at r i near inside))

is_entry : (name : List ℕ) (r : Bounds) → IsEntry (region_entry name r)
is_entry name r = record { of_kind = four_of kind.Fix (whole r.x1) (whole r.y1) (whole r.x2) (whole r.y2) refl refl refl refl; few = omega arith }

pub put_whole-requires-clause-moderate : goal.put_whole-requires-clause-moderate
put_whole-requires-clause-moderate c =
    let r = c.args.region in
    let i = c.loop-bound.bound-index in
    subst IsModerate (sym (handed r _ i c.region.view_is c.requires.near c.loop-bound-test.true)) (moderate_at r i c.requires.near c.loop-bound-test.true)

pub returns-in_err-put_whole-clause-left : goal.returns-in_err-put_whole-clause-left
returns-in_err-put_whole-clause-left c =
    let r = c.args.region in
    let name = c.args.name.now in
    let old = c.args.out_args.now in
    let i = c.loop-bound.bound-index in
    on_err c.from_residual.result (fronts_one (region_entry name r) i old c.put_whole.new.set
    (subst (λ s. Begun name kind.Fix (take i (region_values r)) old s) (sym c.in_err-put_whole.ensures.err) c.loop-bound.invariant.begun))

pub loop-bound-preserved : goal.loop-bound-preserved
loop-bound-preserved c =
    let r = c.args.region in
    let e = region_entry c.args.name.now r in
    let i = c.loop-bound.bound-index in
    let inside : i < 4 = c.loop-bound-test.true in
    let n = get_or (numbers r) i (pos 0) in
    let is : whole n ≡ get_or e.values i (whole n) = sym (get_or-map whole (numbers r) i (pos 0) (whole n) inside) in
    record {
      place = ap (λ k. k + 1) c.loop-bound.invariant.place;
      begun = entry_more e i c.loop-bound.index (whole n) c.args.out_args.now c.loop-bound.out_args c.put_whole.new.set (is_entry c.args.name.now r) inside is c.loop-bound.invariant.place c.loop-bound.invariant.begun
          (rw (handed r _ i c.region.view_is c.requires.near inside) at c.in_ok-put_whole.ensures.ok);
    }

pub returns-clause-written : goal.returns-clause-written
returns-clause-written c =
    entry_whole (region_entry c.args.name.now c.args.region) c.loop-bound.bound-index c.args.out_args.now c.loop-bound.out_args (omega (arith, c.loop-bound-test.false)) c.loop-bound.invariant.begun
