use Rattle.std.proofs.Common.{◌≡◌, ◌++◌, ℕ, ℤ, List, ◌∙◌, ap, string_bytes, w64, to_z, of_z}
use Rattle.std.proofs.lemmas.Int.{to_z-of_z}
use Rattle.std.proofs.lemmas.Result.{IfOk-weaker}
use Rattle.std.specs.Prelude.{codes}
use Rattle.std.specs.Fmt.{signed_decimal}
use Rattle.fx_words.proofs.fault.frame_line.Goals as goal

-- the pieces as `format!` joins them
abbrev joined : List ℕ → ℤ → List ℕ → List ℕ
joined node t why =
    codes "ofxr: frame: " ++ (node ++ (codes " " ++ (signed_decimal t ++ (codes " " ++ (why ++ codes "\n")))))

pub returns : goal.returns
returns c =
    let node = c.args.node.now in
    let why = string_bytes c.in_ok-why.why in
    IfOk-weaker c.format.result _ _
    (λ text is.
    let pieces : string_bytes text ≡ joined node (to_z w64 (of_z w64 c.args.frame)) why = is in
    pieces ∙ ap (λ t. joined node t why) (to_z-of_z w64 c.args.frame c.ranges.frame) ∙ ap (joined node c.args.frame) c.in_ok-why.ensures)
    c.format.ensures.ok
