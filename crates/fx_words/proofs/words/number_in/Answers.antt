use Rattle.std.proofs.Common.{◌∙◌}
use Rattle.std.specs.Str.Parse.{ParsesUnsigned, ExplainsUnsignedError, HasUnsignedDigitsIfOk}
use Rattle.clap.specs.Matches.{found_of}
use Rattle.clap.proofs.WalkLemmas.{one_text-rows}
use Rattle.fx_words.proofs.Numbers.{given, absent, refused}
use Rattle.fx_words.proofs.words.number_in.Goals as goal

pub returns-in-Ok-Some-clause-ok : goal.returns-in-Ok-Some-clause-ok
returns-in-Ok-Some-clause-ok c =
    let same = one_text-rows (found_of c.args.matches.now) c.args.id.now in
    given (λ bs r. ParsesUnsigned 32 10 bs r × ExplainsUnsignedError 10 bs r × HasUnsignedDigitsIfOk bs r) (λ t r h. h.0) _ c.args.default c.in-Ok-Some.number c.in-Ok-Some.field-0 c.in-Ok-Some.field-0-is (λ e. c.in-Ok-Some.ensures.none (same ∙ e)) (λ t e. c.in-Ok-Some.ensures.value t (same ∙ e))

pub returns-in-Ok-None-clause-ok : goal.returns-in-Ok-None-clause-ok
returns-in-Ok-None-clause-ok c =
    let same = one_text-rows (found_of c.args.matches.now) c.args.id.now in
    absent (λ bs r. ParsesUnsigned 32 10 bs r × ExplainsUnsignedError 10 bs r × HasUnsignedDigitsIfOk bs r) (λ t r h. h.0) _ c.args.default c.in-Ok-None.field-0 c.in-Ok-None.field-0-is (λ t e. c.in-Ok-None.ensures.value t (same ∙ e))

pub returns-in-Err-clause-usage : goal.returns-in-Err-clause-usage
returns-in-Err-clause-usage c =
    let same = one_text-rows (found_of c.args.matches.now) c.args.id.now in
    refused (λ bs r. ParsesUnsigned 32 10 bs r × ExplainsUnsignedError 10 bs r × HasUnsignedDigitsIfOk bs r) (λ t r h. h.0) _ c.args.default c.in-Err.field-0 (λ e. c.in-Err.ensures.none (same ∙ e)) (λ t e. c.in-Err.ensures.value t (same ∙ e))
