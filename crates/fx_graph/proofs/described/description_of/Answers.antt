use Rattle.std.proofs.Common.{◌≡◌, ◌∙◌, ap, map}
use Rattle.std.specs.Prelude.{codes}
use Rattle.std.specs.List.{list_any}
use Rattle.std.specs.Str.{bytes_eq}
use Rattle.fx_effect.specs.Described.{context_text, depth_text}
use Rattle.fx_graph.specs.Described.{contexts_in}
use Rattle.fx_graph.proofs.DescribedLaws.{contexts_written, depths_written, contexts_back, byte_back, short_back}
use Rattle.fx_graph.proofs.described.description_of.Goals as goal

pub texts_at-requires : goal.texts_at-requires
texts_at-requires g c =
    let s = (g.E.ImageEffect.meaning c.args.effect.now).shape in
    record { items = map context_text s.contexts; there = contexts_written s c.in_ok-set.set c.describe.new.descriptor c.in_ok-describe.ensures.written }

pub texts_at-requires-2 : goal.texts_at-requires-2
texts_at-requires-2 g c =
    let s = (g.E.ImageEffect.meaning c.args.effect.now).shape in
    record { items = map depth_text s.depths; there = depths_written s c.in_ok-set.set c.describe.new.descriptor c.in_ok-describe.ensures.written }

pub returns-clause-contexts : goal.returns-clause-contexts
returns-clause-contexts g c =
    let s = (g.E.ImageEffect.meaning c.args.effect.now).shape in
    let written = contexts_written s c.in_ok-set.set c.describe.new.descriptor c.in_ok-describe.ensures.written in
    let texts : c.in_ok-contexts.contexts ≡ map context_text s.contexts = c.in_ok-contexts.ensures (map context_text s.contexts) written in
    c.in_ok-contexts_in.ensures ∙ ap contexts_in texts ∙ contexts_back s.contexts

pub returns-clause-byte : goal.returns-clause-byte
returns-clause-byte g c =
    let s = (g.E.ImageEffect.meaning c.args.effect.now).shape in
    let written = depths_written s c.in_ok-set.set c.describe.new.descriptor c.in_ok-describe.ensures.written in
    let texts : c.in_ok-depths.depths ≡ map depth_text s.depths = c.in_ok-depths.ensures (map depth_text s.depths) written in
    c.has_text.ensures ∙ ap (list_any (λ t. bytes_eq t (codes "OfxBitDepthByte"))) texts ∙ byte_back s

pub returns-clause-short : goal.returns-clause-short
returns-clause-short g c =
    let s = (g.E.ImageEffect.meaning c.args.effect.now).shape in
    let written = depths_written s c.in_ok-set.set c.describe.new.descriptor c.in_ok-describe.ensures.written in
    let texts : c.in_ok-depths.depths ≡ map depth_text s.depths = c.in_ok-depths.ensures (map depth_text s.depths) written in
    c.has_text-2.ensures ∙ ap (list_any (λ t. bytes_eq t (codes "OfxBitDepthShort"))) texts ∙ short_back s
