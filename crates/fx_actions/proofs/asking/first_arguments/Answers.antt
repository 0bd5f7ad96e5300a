use Rattle.std.proofs.Common.{◌≡◌, ◌≢◌, ◌∙◌, ◌∷◌, [], pos}
use Rattle.fx_props.specs.declared.names.TheConstants.{TIME}
use Rattle.fx_props.specs.declared.value.PropKind.TheVariants as kinds
use Rattle.fx_actions.proofs.AskingLemmas.{first_made, second_made}
use Rattle.fx_actions.proofs.asking.first_arguments.Goals as goal

pub returns : goal.returns
returns c =
    let first = c.in_ok-time.time in
    let second = c.in_ok-bounds.bounds in
    let set = c.in_ok-set.set in
    let are = c.in_ok-set.ensures in
    let time = c.in_ok-time.ensures in
    let rect = c.in_ok-bounds.ensures in
    let apart : c.args.name.now ≢ first.name = λ same. c.requires.name (same ∙ time.name) in
    record {
      time = first_made set first second kinds.Fix (pos 0 ∷ []) are TIME.now time.name time.kind time.start time.any;
      bounds = second_made set first second c.args.kind (pos 0 ∷ pos 0 ∷ pos 0 ∷ pos 0 ∷ []) are c.args.name.now rect.name apart rect.kind rect.start rect.any;
    }
