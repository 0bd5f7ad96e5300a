-- The command: two required words, seven options with a whole number in a range, no help and no version flag.
use Rattle.std.specs.Prelude.{ℤ, pos, true, Some, codes}
use Rattle.fx_base.specs.declared.limits.TheConstants.{LAST_FRAME, MOST_TILE_SIDE}
use Rattle.clap.specs.Walk.{Rule, Text}
use Rattle.clap.specs.Simple.{App, on_top, new_app, new_rule, with_rule}
use Rattle.clap.specs.declared.builder.value_parser.ValueParser.TheVariants as value
use Rattle.fx_words.specs.declared.order.TheConstants.{MOST_AHEAD, MOST_CACHE, MOST_SCALE, MOST_WORKERS}

abbrev pub word_rule : Text → Rule
word_rule id = record (new_rule id) { required = true }

abbrev pub number_rule : Text → ℤ → ℤ → Rule
number_rule id least most = record (new_rule id) { long = Some id; parser = Some (value.Signed least most) }

abbrev pub bare : App
bare = on_top (λ s. record s { no_binary_name = true; disable_help_flag = true; disable_version_flag = true })
    (new_app (codes "ofxr"))

abbrev pub ofxr : App
ofxr =
    with_rule (with_rule (with_rule (with_rule (with_rule (with_rule (with_rule (with_rule (with_rule bare
    (word_rule (codes "mode")))
    (word_rule (codes "graph")))
    (number_rule (codes "first") (pos 0) (pos LAST_FRAME)))
    (number_rule (codes "last") (pos 0) (pos LAST_FRAME)))
    (number_rule (codes "tile") (pos 1) (pos MOST_TILE_SIDE)))
    (number_rule (codes "cache") (pos 0) (pos MOST_CACHE)))
    (number_rule (codes "workers") (pos 1) (pos MOST_WORKERS)))
    (number_rule (codes "ahead") (pos 0) (pos MOST_AHEAD)))
    (number_rule (codes "scale") (pos 1) (pos MOST_SCALE))
