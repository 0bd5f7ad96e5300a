-- The header that is written gives its four numbers back, and the bytes behind it.
use Rattle.std.proofs.Common.{◌≡◌, ◌≤◌, ℕ, ◌+◌, List, [], ◌∷◌, ◌++◌, true, false, refl, ap, sym, ◌∙◌, None, append_assoc, arith}
use Rattle.std.specs.Prelude.{codes, decimal}
use Rattle.fx_pixel.specs.declared.Format.{Format}
use Rattle.fx_pixel.specs.declared.Format.TheVariants.{RgbAlpha, Rgb, Grayscale}
use Rattle.fx_pam.specs.declared.fault.PamField.{PamField}
use Rattle.fx_pam.specs.declared.fault.PamField.TheVariants.{Width, Height, Depth, Maxval}
use Rattle.fx_pam.specs.declared.numbers.HeaderSoFar.{HeaderSoFar}
use Rattle.fx_pam.specs.Header.{Number, Reads, lines_of, is_blank, trimmed, saying_of, no_numbers, number_of, with_number, header_of, header_by}
use Rattle.fx_pam.specs.Reading.{header_in, is_pam}
use Rattle.fx_pam.specs.Text.{format_depth, format_name, header}
use Rattle.fx_pam.proofs.WrittenLines.{IsLine, line-append, lines_of-line, trimmed-whole}
use Rattle.fx_pam.proofs.WrittenNumbers.{digits-line, decimal-ends, decimal-digits, number_behind-decimal}

-- the first byte of a word, and the others with a space
record IsWord (field : PamField) (first : ℕ) (others : List ℕ) : Type 0 where
  pub kept : is_blank first ≡ false
  pub line : IsLine (first ∷ others)
  pub says : (n : ℕ) → n ≤ 999999999 → saying_of (first ∷ (others ++ decimal n)) ≡ Number field n

width_word : IsWord Width 87 (codes "IDTH ")
width_word = record { kept = refl; line = refl; says = number_behind-decimal Width }

height_word : IsWord Height 72 (codes "EIGHT ")
height_word = record { kept = refl; line = refl; says = number_behind-decimal Height }

depth_word : IsWord Depth 68 (codes "EPTH ")
depth_word = record { kept = refl; line = refl; says = number_behind-decimal Depth }

maxval_word : IsWord Maxval 77 (codes "AXVAL ")
maxval_word = record { kept = refl; line = refl; says = number_behind-decimal Maxval }

-- a word and a number are a line, and nothing of it is cut off
number-trimmed : (first : ℕ) (others : List ℕ) (n : ℕ) → is_blank first ≡ false → n ≤ 999999999 → trimmed (first ∷ (others ++ decimal n)) ≡ first ∷ (others ++ decimal n)
number-trimmed first others n kept small =
    let ends = decimal-ends n (omega arith) in
    let split : others ++ decimal n ≡ (others ++ ends.front) ++ ends.last ∷ [] = rw ends.split (sym (append_assoc others ends.front (ends.last ∷ []))) in
    rw split (trimmed-whole first ends.last (others ++ ends.front) kept ends.kept)

-- a line that says a number
header-number : (line : ℕ) (so_far : HeaderSoFar) (field : PamField) (first : ℕ) (others : List ℕ) (n : ℕ) (rest : List ℕ) → IsWord field first others → n ≤ 999999999 → number_of so_far field ≡ None
    → header_of line so_far (lines_of ((first ∷ (others ++ decimal n)) ++ 10 ∷ rest)) ≡ header_of (line + 1) (with_number so_far field n) (lines_of rest)
header-number line so_far field first others n rest word small new =
    let text = first ∷ (others ++ decimal n) in
    let is_line : IsLine text = line-append (first ∷ others) (decimal n) word.line (digits-line (decimal n) (decimal-digits n small)) in
    let says : saying_of (trimmed text) ≡ Number field n = ap saying_of (number-trimmed first others n word.kept small) ∙ word.says n small in
    ap (header_of line so_far) (lines_of-line text rest is_line)
    ∙ ap (λ s. header_by line so_far s rest (λ l m. header_of l m (lines_of rest))) says
    ∙ rw new refl

-- the line of the tuple type says nothing
tuple-type : (line : ℕ) (so_far : HeaderSoFar) (format : Format) (rest : List ℕ) → header_of line so_far (lines_of ((codes "TUPLTYPE " ++ format_name format) ++ 10 ∷ rest)) ≡ header_of (line + 1) so_far (lines_of rest)
tuple-type line so_far RgbAlpha rest = refl
tuple-type line so_far Rgb rest = refl
tuple-type line so_far Grayscale rest = refl

-- a pixel has 1 to 4 samples
pub few_samples : (format : Format) → (1 ≤ format_depth format) × (format_depth format ≤ 4)
few_samples RgbAlpha = (omega arith, omega arith)
few_samples Rgb = (omega arith, omega arith)
few_samples Grayscale = (omega arith, omega arith)

-- the header's bytes behind the line `P7`, and what follows the header
abbrev lines_behind : ℕ → ℕ → Format → ℕ → List ℕ → List ℕ
lines_behind width height format maxval behind =
    (codes "WIDTH " ++ decimal width) ++ 10 ∷ ((codes "HEIGHT " ++ decimal height) ++ 10 ∷ ((codes "DEPTH " ++ decimal (format_depth format)) ++ 10 ∷ ((codes "MAXVAL " ++ decimal maxval)
    ++ 10 ∷ ((codes "TUPLTYPE " ++ format_name format) ++ 10 ∷ (codes "ENDHDR" ++ 10 ∷ behind)))))

header-lines : (width height : ℕ) (format : Format) (maxval : ℕ) (behind : List ℕ) → header width height format maxval ++ behind ≡ codes "P7\n" ++ lines_behind width height format maxval behind
header-lines width height format maxval behind = simp append_assoc

pub header_in-header : (width height : ℕ) (format : Format) (maxval : ℕ) (behind : List ℕ) → width ≤ 999999999 → height ≤ 999999999 → maxval ≤ 999999999
    → header_in (header width height format maxval ++ behind) ≡ Reads (record { width = width; height = height; depth = format_depth format; maxval = maxval }) behind
header_in-header width height format maxval behind small_width small_height small_maxval =
    let depth = format_depth format in
    let with_width = with_number no_numbers Width width in
    let with_height = with_number with_width Height height in
    let with_depth = with_number with_height Depth depth in
    let with_maxval = with_number with_depth Maxval maxval in
    ap header_in (header-lines width height format maxval behind)
    ∙ header-number 2 no_numbers Width 87 (codes "IDTH ") width _ width_word small_width refl
    ∙ header-number 3 with_width Height 72 (codes "EIGHT ") height _ height_word small_height refl
    ∙ header-number 4 with_height Depth 68 (codes "EPTH ") depth _ depth_word (omega (arith, few_samples format)) refl
    ∙ header-number 5 with_depth Maxval 77 (codes "AXVAL ") maxval _ maxval_word small_maxval refl
    ∙ tuple-type 6 with_maxval format _

pub is_pam-header : (width height : ℕ) (format : Format) (maxval : ℕ) (behind : List ℕ) → is_pam (header width height format maxval ++ behind) ≡ true
is_pam-header width height format maxval behind = ap is_pam (header-lines width height format maxval behind)
