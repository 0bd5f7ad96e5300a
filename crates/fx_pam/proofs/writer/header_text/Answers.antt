use Rattle.std.proofs.Common.{◌≡◌, ◌++◌, ℕ, List, ap, ◌∙◌, string_bytes, append_assoc}
use Rattle.std.specs.Prelude.{codes, decimal}
use Rattle.std.proofs.lemmas.Result.{IfOk-weaker}
use Rattle.fx_pixel.specs.declared.Format.{Format}
use Rattle.fx_pam.specs.Text.{header, format_depth, format_name}
use Rattle.fx_pam.proofs.writer.header_text.Goals as goal

-- the parts as `format!` joins them
abbrev joined : ℕ → ℕ → ℕ → ℕ → List ℕ → List ℕ
joined width height depth maxval name =
    codes "P7\nWIDTH " ++ (decimal width ++ (codes "\nHEIGHT " ++ (decimal height ++ (codes "\nDEPTH " ++ (decimal depth ++ (codes "\nMAXVAL " ++ (decimal maxval ++ (codes "\nTUPLTYPE " ++ (name ++ codes "\nENDHDR\n")))))))))

joined-header : (width height depth maxval : ℕ) (name : List ℕ) (format : Format) → depth ≡ format_depth format → name ≡ format_name format → joined width height depth maxval name ≡ header width height format maxval
joined-header width height depth maxval name format is_depth is_name =
    ap (λ d. joined width height d maxval name) is_depth
    ∙ ap (joined width height (format_depth format) maxval) is_name
    ∙ simp append_assoc

pub returns : goal.returns
returns c = IfOk-weaker c.format.result _ _
    (λ text is.
    let pieces : string_bytes text ≡ joined c.args.width c.args.height c.sample_count-depth.result c.args.maxval c.tuple_type-name.result.now = is in
    pieces ∙ joined-header c.args.width c.args.height c.sample_count-depth.result c.args.maxval c.tuple_type-name.result.now c.args.format c.sample_count-depth.ensures c.tuple_type-name.ensures)
    c.format.ensures.ok
