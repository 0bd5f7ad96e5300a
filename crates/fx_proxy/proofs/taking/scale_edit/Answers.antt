use Rattle.std.proofs.Common.{◌∙◌, ℕ, ap, subst, sym}
use Rattle.fx_params.specs.Parameter.{IsSound, Parameter}
use Rattle.fx_takes.specs.Shown.{EditShown}
use Rattle.fx_proxy.specs.Lengths.{HasLength, scaled_param}
use Rattle.fx_proxy.proofs.LengthLemmas.{sound_stays}
use Rattle.fx_proxy.proofs.TakeLemmas.{edit_has, value_is}
use Rattle.fx_proxy.proofs.taking.scale_edit.Goals as goal

pub scale_param-requires-clause-length : goal.scale_param-requires-clause-length
scale_param-requires-clause-length g c =
    let e = c.args.edit.now in
    let number = g.E.Catalogue.number_of in
    subst (λ (n : ℕ). HasLength n e.param e.value) (sym c.number.ensures.value)
    (edit_has number e.param e.value c.args.graph.now.nodes.items e.node c.index.result.now _ c.requires.lengths c.requires.edit c.index.ensures c.in-Effect.is)

pub invariant_of-edit : goal.invariant_of-edit
invariant_of-edit g c =
    let e = c.args.edit.now in
    let number = g.E.Catalogue.number_of in
    let has = subst (λ (n : ℕ). HasLength n e.param e.value) (sym c.number.ensures.value)
    (edit_has number e.param e.value c.args.graph.now.nodes.items e.node c.index.result.now _ c.requires.lengths c.requires.edit c.index.ensures c.in-Effect.is) in
    record {
      sound = subst (λ (p : Parameter). IsSound p) (sym c.scale_param.ensures)
          (sound_stays c.number.result e.param c.args.q e.value has c.requires.scale.0 e.sound);
    }

pub returns-in-Source : goal.returns-in-Source
returns-in-Source g c =
    let e = c.args.edit.now in
    let is = value_is g.E.Catalogue.number_of c.args.q e.param e.value c.args.graph.now.nodes.items e.node c.index.result.now _ c.requires.edit c.index.ensures c.in-Source.is in
    let with_ : Parameter → EditShown = λ v. record { node = e.node; param = e.param; value = v } in
    ap with_ (sym is)

pub returns-in-Effect : goal.returns-in-Effect
returns-in-Effect g c =
    let e = c.args.edit.now in
    let is = value_is g.E.Catalogue.number_of c.args.q e.param e.value c.args.graph.now.nodes.items e.node c.index.result.now _ c.requires.edit c.index.ensures c.in-Effect.is in
    let with_ : Parameter → EditShown = λ v. record { node = e.node; param = e.param; value = v } in
    ap with_ (c.scale_param.ensures ∙ ap (λ (n : ℕ). scaled_param n e.param c.args.q e.value) c.number.ensures.value ∙ sym is)
