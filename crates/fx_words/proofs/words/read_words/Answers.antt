use Rattle.std.proofs.Common.{◌≡◌, ◌∙◌, sym, ap, subst, refl, map, true, List, [], string_bytes}
use Rattle.clap.specs.Faults.{fault_of, is_simple_and_free}
use Rattle.clap.specs.Kinds.{HasKind}
use Rattle.clap.specs.Matches.{found_of}
use Rattle.clap.specs.Simple.{App, app_of, is_simple, matches_of}
use Rattle.clap.specs.Values.{kind_of}
use Rattle.clap.specs.Walk.{Text, rows_of}
use Rattle.fx_words.specs.Command.{ofxr}
use Rattle.fx_words.specs.Order.{order_of}
use Rattle.fx_words.proofs.Found.{reads_found, none_refused}
use Rattle.fx_words.proofs.words.read_words.Goals as goal

simple : is_simple ofxr ≡ true
simple = refl

free : is_simple_and_free ofxr ≡ true
free = refl

pub returns-in-Ok : goal.returns-in-Ok
unfolding order_of
returns-in-Ok c =
    let is : app_of c.in_ok-command.command ≡ ofxr = c.in_ok-command.ensures in
    let parsed = c.in-Ok.ensures in
    let words : List Text = map string_bytes c.args.words.now in
    let none : fault_of ofxr words ≡ [] = ap (λ (a : App). fault_of a words) (sym is) ∙ parsed.kinds (ap is_simple_and_free is ∙ free) in
    let same : rows_of (found_of c.in-Ok.matches) ≡ matches_of ofxr words =
    (parsed.matches (ap is_simple is ∙ simple)).0 ∙ ap (λ (a : App). matches_of a words) is in
    reads_found c.order_in.result (fault_of ofxr words) (matches_of ofxr words) (rows_of (found_of c.in-Ok.matches)) none same c.order_in.ensures

pub returns-in-Err : goal.returns-in-Err
unfolding order_of
returns-in-Err c =
    let is : app_of c.in_ok-command.command ≡ ofxr = c.in_ok-command.ensures in
    let words : List Text = map string_bytes c.args.words.now in
    let HasFault : App → Type 0 = λ a. HasKind (fault_of a words) c.in-Err.error in
    let has : HasKind (fault_of ofxr words) c.in-Err.error = subst HasFault is (c.in-Err.ensures.kinds (ap is_simple_and_free is ∙ free)) in
    (tt, λ usage. none_refused (kind_of c.in-Err.error) (fault_of ofxr words) (matches_of ofxr words) c.fault.result has c.fault.ensures usage)
