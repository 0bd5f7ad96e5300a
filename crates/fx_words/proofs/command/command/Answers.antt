use Rattle.std.proofs.Common.{ap₂, ◌∙◌}
use Rattle.std.proofs.lemmas.Result.{IfOk-weaker}
use Rattle.clap.specs.Simple.{with_rule}
use Rattle.fx_words.proofs.command.command.Goals as goal

pub returns : goal.returns
returns c =
    let mode = c.in_ok-arg.ensures.shape c.word.ensures.local ∙ ap₂ with_rule c.bare.ensures c.word.ensures.rule in
    let graph = c.in_ok-arg-2.ensures.shape c.word-2.ensures.local ∙ ap₂ with_rule mode c.word-2.ensures.rule in
    let first = c.in_ok-arg-3.ensures.shape c.number.ensures.local ∙ ap₂ with_rule graph c.number.ensures.rule in
    let last = c.in_ok-arg-4.ensures.shape c.number-2.ensures.local ∙ ap₂ with_rule first c.number-2.ensures.rule in
    let tile = c.in_ok-arg-5.ensures.shape c.number-3.ensures.local ∙ ap₂ with_rule last c.number-3.ensures.rule in
    let cache = c.in_ok-arg-6.ensures.shape c.number-4.ensures.local ∙ ap₂ with_rule tile c.number-4.ensures.rule in
    let workers = c.in_ok-arg-7.ensures.shape c.number-5.ensures.local ∙ ap₂ with_rule cache c.number-5.ensures.rule in
    let ahead = c.in_ok-arg-8.ensures.shape c.number-6.ensures.local ∙ ap₂ with_rule workers c.number-6.ensures.rule in
    IfOk-weaker c.arg-9.result _ _ (λ m h. h.shape c.number-7.ensures.local ∙ ap₂ with_rule ahead c.number-7.ensures.rule) c.arg-9.ensures
