use Rattle.std.proofs.Common.{◌≡◌, ◌∙◌, ap, map}
use Rattle.std.specs.Prelude.{codes}
use Rattle.std.specs.List.{list_any}
use Rattle.std.specs.Str.{bytes_eq}
use Rattle.fx_effect.specs.Described.{components_text}
use Rattle.fx_graph.proofs.DescribedLaws.{has_components, alpha_back}
use Rattle.fx_graph.proofs.described.takes_alpha.Goals as goal

pub texts_at-requires : goal.texts_at-requires
texts_at-requires c = record { items = map components_text c.requires.components; there = has_components c.args.set.now c.requires.clip c.requires.components c.requires.there }

pub returns : goal.returns
returns c = λ clip cs there.
    let texts : c.in_ok-components.components ≡ map components_text cs = c.in_ok-components.ensures (map components_text cs) (has_components c.args.set.now clip cs there) in
    c.has_text.ensures ∙ ap (list_any (λ t. bytes_eq t (codes "OfxImageComponentAlpha"))) texts ∙ alpha_back cs
