use Rattle.std.proofs.Common.{rules, ap, ap₂, Some, Option, ◌≡◌, ◌∙◌}
use Rattle.clap.specs.Simple.{new_rule}
use Rattle.clap.specs.Walk.{Rule, rule_of}
use Rattle.clap.specs.declared.builder.value_parser.ValueParser.{ValueParser}
use Rattle.clap.specs.declared.builder.value_parser.ValueParser.TheVariants as value
use Rattle.fx_words.proofs.command.wide_number.Goals as goal

pub returns-clause-rule : goal.returns-clause-rule
returns-clause-rule c =
    let name = c.args.name.now in
    let parser : c.value_parser-2.result.value_parser ≡ Some (value.Signed c.args.least c.args.most) = search rules in
    let long : rule_of c.long.result ≡ record (new_rule name) { long = Some name } =
    ap rule_of c.long.ensures ∙ ap (λ (r : Rule). record r { long = Some name }) c.new.ensures.rule in
    ap rule_of c.value_parser-2.ensures.others
    ∙ ap₂ (λ (r : Rule) (p : Option ValueParser). record r { parser = p }) long parser
