use Rattle.std.proofs.Common.{◌≡◌, ◌∙◌, refl, rules}
use Rattle.fx_graph.proofs.DescribedLaws.{has_name, has_optional}
use Rattle.fx_graph.proofs.described.input_of.Goals as goal

pub text_at-requires : goal.text_at-requires
text_at-requires c = record { text = c.requires.clip.name; there = has_name c.args.set.now c.requires.clip c.requires.components c.requires.there }

pub flag_at-requires : goal.flag_at-requires
flag_at-requires c = record { yes = c.requires.clip.optional; there = has_optional c.args.set.now c.requires.clip c.requires.components c.requires.there }

pub returns : goal.returns
returns c = λ clip cs there.
    let name : c.of-name.result ≡ clip.name = c.of-name.ensures ∙ c.in_ok-from_str.ensures.ok ∙ c.text_at.ensures clip.name (has_name c.args.set.now clip cs there) in
    let yes : c.flag_at.result ≡ clip.optional = c.flag_at.ensures clip.optional (has_optional c.args.set.now clip cs there) in
    rw (name, yes) refl
