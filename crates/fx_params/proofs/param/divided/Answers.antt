use Rattle.std.proofs.Common.{◌≡◌, ◌∙◌, refl, ℤ, pos, negsuc, ◌*◌, ◌+ℤ◌, ◌*ℤ◌, ◌≤ℤ◌, w64, to_z, of_z, arith}
use Rattle.std.specs.Int.{w128, int_div_euclid}
use Rattle.std.proofs.lemmas.Int.{ints, to_z-of_z, to_z_pos, fits_signed_from_abs}
use Rattle.fx_params.specs.Parameter.{divided}
use Rattle.fx_params.proofs.DivideLemmas.{divided_few, divided_low, sum_fits, twice_fits}
use Rattle.fx_params.proofs.param.divided.Goals as goal
use Rattle.fx_params.proofs.param.divided.Goals.{After-from, After-div_euclid}

-- the code's wide value is the value itself
wide_value : (c : After-from) → to_z w128 (of_z w128 c.from.result) ≡ c.args.value
wide_value c = to_z-of_z w128 _ (record { sfits = c.from.type_inv }) ∙ c.from.ensures ∙ to_z-of_z w64 _ c.ranges.value

wide_by : (c : After-from) → to_z w128 (of_z w128 c.from-by.result) ≡ pos c.args.by
wide_by c = to_z-of_z w128 _ (record { sfits = c.from-by.type_inv }) ∙ c.from-by.ensures

twice_value : (c : After-from) → to_z w128 (of_z w128 (pos 2 *ℤ to_z w128 (of_z w128 c.from.result))) ≡ pos 2 *ℤ c.args.value
twice_value c = rw (wide_value c) (to_z-of_z w128 _ (twice_fits c.args.value c.ranges.value))

pub overflow_mul-from : goal.overflow_mul-from
overflow_mul-from c = rw (wide_value c) (twice_fits c.args.value c.ranges.value)

pub overflow_add-from : goal.overflow_add-from
overflow_add-from c = rw (twice_value c, wide_by c) (sum_fits c.args.value c.args.by c.ranges.value c.ranges.by)

twice_by : (c : After-from) → to_z w128 (of_z w128 (pos 2 *ℤ to_z w128 (of_z w128 c.from-by.result))) ≡ pos (2 * c.args.by)
twice_by c = rw (wide_by c) (to_z_pos w128 _ (omega arith))

sum_is : (c : After-from) → to_z w128 (of_z w128 (to_z w128 (of_z w128 (pos 2 *ℤ to_z w128 (of_z w128 c.from.result))) +ℤ to_z w128 (of_z w128 c.from-by.result))) ≡ (pos 2 *ℤ c.args.value) +ℤ pos c.args.by
sum_is c = rw (twice_value c, wide_by c) (to_z-of_z w128 _ (sum_fits c.args.value c.args.by c.ranges.value c.ranges.by))

pub overflow_mul-by : goal.overflow_mul-by
overflow_mul-by c = rw (wide_by c) (fits_signed_from_abs w128 _ (omega arith))

pub div_euclid-requires-clause-no_overflow : goal.div_euclid-requires-clause-no_overflow
div_euclid-requires-clause-no_overflow c = rw (twice_by c) (λ least minus_one. absurd (omega arith))

result_is : (c : After-div_euclid) → to_z w128 (of_z w128 c.div_euclid.result) ≡ divided c.args.by c.args.value
result_is c =
    to_z-of_z w128 _ (record { sfits = c.div_euclid.type_inv })
    ∙ (rw (sum_is (goal.at.returns-clause-value c).After-from, twice_by (goal.at.returns-clause-value c).After-from) at c.div_euclid.ensures)

pub returns-clause-value : goal.returns-clause-value
returns-clause-value c = result_is c

pub returns-clause-low : goal.returns-clause-low
returns-clause-low c = rw (result_is c) (divided_low c.args.by c.args.value 9223372036854775807 c.requires (omega (arith, ints)))

pub returns-clause-high : goal.returns-clause-high
returns-clause-high c = rw (result_is c) (divided_few c.args.by c.args.value (pos 9223372036854775807) c.requires (omega (arith, ints)) (omega (arith, ints)))
