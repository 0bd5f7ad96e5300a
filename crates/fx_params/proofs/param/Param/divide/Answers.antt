use Rattle.std.proofs.Common.{◌≡◌, ◌∙◌, ap, pos, ◌≤ℤ◌, ℤ, List, map, sym, subst, w64, to_z, of_z, FitsSigned, rules}
use Rattle.std.proofs.lemmas.Int.{to_z-of_z}
use Rattle.fx_params.specs.declared.key.Key.{Key}
use Rattle.fx_params.specs.Parameter.{IsSound, Parameter, divided_from, with_value}
use Rattle.fx_params.proofs.DivideLemmas.{divided_sound}
use Rattle.fx_params.proofs.param.Param.divide.Goals as goal

pub invariant_of-self : goal.invariant_of-self
invariant_of-self c =
    let p : Parameter = record { def = c.self.inside.def; plain = c.self.inside.plain; step = c.self.inside.step; keys = c.self.inside.keys.items } in
    let q = c.args.by in
    let most = ap (λ (s : Parameter). s.def.greatest) c.self.view_is in
    let up = subst (λ (g : ℤ). pos 0 ≤ℤ g) (sym most) c.requires.range in
    let sound = divided_sound p q c.requires.some up c.self.invariant in
    let least : FitsSigned w64 p.def.least = search rules in
    let plain : FitsSigned w64 p.plain = search rules in
    let made : FitsSigned w64 c.divided_from-self-inside.result = record { sfits = c.divided_from-self-inside.type_inv } in
    let value = simp to_z-of_z at c.divided_from-self-inside.ensures in
    let keys = simp to_z-of_z at c.divide_each.ensures in
    subst (λ (ks : List Key). IsSound (record { def = p.def; plain = to_z w64 (of_z w64 c.divided_from-self-inside.result); step = p.step; keys = ks })) (sym keys)
    (subst (λ (n : ℤ). IsSound (record { def = p.def; plain = n; step = p.step; keys = map (with_value (divided_from p.def.least q)) p.keys })) (sym (to_z-of_z w64 c.divided_from-self-inside.result made ∙ value)) sound)
