use Rattle.std.proofs.Common.{◌≡◌, ℕ, List, [], ◌∷◌, length, get_or, Bool, true, false, if◌then◌else◌, refl, sym, ap, ◌∙◌, arith}
use Rattle.std.specs.Prelude.{◌==◌}
use Rattle.std.proofs.lemmas.Bool.Decides.{nat_tests}
use Rattle.std.proofs.lemmas.List.{take_rest}
use Rattle.std.specs.Str.{bytes_eq}
use Rattle.fx_pam.specs.declared.fault.PamField.TheVariants.{Width, Height, Depth, Maxval}
use Rattle.fx_pam.specs.Header.{Saying, starts_comment, number_behind, tuple_type_behind}
use Rattle.fx_pam.proofs.header.saying_of.Goals as goal
use Rattle.fx_pam.proofs.header.saying_of.Goals.{then-is_empty, else-is_empty}

-- the code's two tests say whether a line is a comment
no_byte : (line : List ℕ) (value empty : Bool) → value ≡ empty → empty ≡ (length line == 0) → empty ≡ true → starts_comment line ≡ value
no_byte [] value empty is none some = sym (is ∙ some)
no_byte (b ∷ line) value empty is none some = absurd (grind (arith, nat_tests, none, some))

first_byte : (line : List ℕ) (value empty : Bool) → value ≡ (get_or line 0 0 == 35) → empty ≡ (length line == 0) → empty ≡ false → starts_comment line ≡ value
first_byte [] value empty is none some = absurd (let no : true ≡ false = sym none ∙ some in cc)
first_byte (b ∷ line) value empty is none some = sym is

-- what a chain of tests chooses: at a test that holds, and past one that doesn't
chosen : (t : Bool) (x y : Saying) → t ≡ true → (if t then x else y) ≡ x
chosen t x y is = ap (λ b. if b then x else y) is

passed : (t : Bool) (x y z : Saying) → t ≡ false → y ≡ z → (if t then x else y) ≡ z
passed t x y z is more = ap (λ b. if b then x else y) is ∙ more

pub returns-then-line-eq35 : goal.returns-then-line-eq35
returns-then-line-eq35 c =
    let comment : starts_comment c.args.line.now ≡ c.if-is_empty.value = elim c.if-is_empty.branch [
      | then-is_empty w ↦
          no_byte c.args.line.now c.if-is_empty.value c.is_empty.result w.value-is c.is_empty.ensures w.if-is_empty.true
      | else-is_empty w ↦
          first_byte c.args.line.now c.if-is_empty.value c.is_empty.result w.value-is c.is_empty.ensures w.if-is_empty.false
    ] in
    sym (chosen _ _ _ (comment ∙ c.if-line-eq35.true))

pub returns-then-eq : goal.returns-then-eq
returns-then-eq c =
    let comment : starts_comment c.args.line.now ≡ c.if-is_empty.value = elim c.if-is_empty.branch [
      | then-is_empty w ↦
          no_byte c.args.line.now c.if-is_empty.value c.is_empty.result w.value-is c.is_empty.ensures w.if-is_empty.true
      | else-is_empty w ↦
          first_byte c.args.line.now c.if-is_empty.value c.is_empty.result w.value-is c.is_empty.ensures w.if-is_empty.false
    ] in
    let word = sym (ap (λ word. bytes_eq c.args.line.now word) c.as_slice.ensures) ∙ sym c.eq.ensures ∙ c.if-eq.true in
    sym (passed _ _ _ _ (comment ∙ c.if-line-eq35.false)
    (chosen _ _ _ word))

pub returns-then-starts_with : goal.returns-then-starts_with
returns-then-starts_with c =
    let comment : starts_comment c.args.line.now ≡ c.if-is_empty.value = elim c.if-is_empty.branch [
      | then-is_empty w ↦
          no_byte c.args.line.now c.if-is_empty.value c.is_empty.result w.value-is c.is_empty.ensures w.if-is_empty.true
      | else-is_empty w ↦
          first_byte c.args.line.now c.if-is_empty.value c.is_empty.result w.value-is c.is_empty.ensures w.if-is_empty.false
    ] in
    let word = sym (ap (λ word. bytes_eq c.args.line.now word) c.as_slice.ensures) ∙ sym c.eq.ensures ∙ c.if-eq.false in
    c.number_behind.ensures ∙ ap (number_behind Width) (take_rest c.args.line.now 5)
    ∙ sym (passed _ _ _ _ (comment ∙ c.if-line-eq35.false)
    (passed _ _ _ _ word
    (chosen _ _ _ (sym c.starts_with.ensures.value ∙ c.if-starts_with.true))))

pub returns-then-starts_with-2 : goal.returns-then-starts_with-2
returns-then-starts_with-2 c =
    let comment : starts_comment c.args.line.now ≡ c.if-is_empty.value = elim c.if-is_empty.branch [
      | then-is_empty w ↦
          no_byte c.args.line.now c.if-is_empty.value c.is_empty.result w.value-is c.is_empty.ensures w.if-is_empty.true
      | else-is_empty w ↦
          first_byte c.args.line.now c.if-is_empty.value c.is_empty.result w.value-is c.is_empty.ensures w.if-is_empty.false
    ] in
    let word = sym (ap (λ word. bytes_eq c.args.line.now word) c.as_slice.ensures) ∙ sym c.eq.ensures ∙ c.if-eq.false in
    c.number_behind-then-starts_with-2.ensures ∙ ap (number_behind Height) (take_rest c.args.line.now 6)
    ∙ sym (passed _ _ _ _ (comment ∙ c.if-line-eq35.false)
    (passed _ _ _ _ word
    (passed _ _ _ _ (sym c.starts_with.ensures.value ∙ c.if-starts_with.false)
    (chosen _ _ _ (sym c.starts_with-else-starts_with.ensures.value ∙ c.if-starts_with-2.true)))))

pub returns-then-starts_with-3 : goal.returns-then-starts_with-3
returns-then-starts_with-3 c =
    let comment : starts_comment c.args.line.now ≡ c.if-is_empty.value = elim c.if-is_empty.branch [
      | then-is_empty w ↦
          no_byte c.args.line.now c.if-is_empty.value c.is_empty.result w.value-is c.is_empty.ensures w.if-is_empty.true
      | else-is_empty w ↦
          first_byte c.args.line.now c.if-is_empty.value c.is_empty.result w.value-is c.is_empty.ensures w.if-is_empty.false
    ] in
    let word = sym (ap (λ word. bytes_eq c.args.line.now word) c.as_slice.ensures) ∙ sym c.eq.ensures ∙ c.if-eq.false in
    c.number_behind-then-starts_with-3.ensures ∙ ap (number_behind Depth) (take_rest c.args.line.now 5)
    ∙ sym (passed _ _ _ _ (comment ∙ c.if-line-eq35.false)
    (passed _ _ _ _ word
    (passed _ _ _ _ (sym c.starts_with.ensures.value ∙ c.if-starts_with.false)
    (passed _ _ _ _ (sym c.starts_with-else-starts_with.ensures.value ∙ c.if-starts_with-2.false)
    (chosen _ _ _ (sym c.starts_with-else-starts_with-2.ensures.value ∙ c.if-starts_with-3.true))))))

pub returns-then-starts_with-4 : goal.returns-then-starts_with-4
returns-then-starts_with-4 c =
    let comment : starts_comment c.args.line.now ≡ c.if-is_empty.value = elim c.if-is_empty.branch [
      | then-is_empty w ↦
          no_byte c.args.line.now c.if-is_empty.value c.is_empty.result w.value-is c.is_empty.ensures w.if-is_empty.true
      | else-is_empty w ↦
          first_byte c.args.line.now c.if-is_empty.value c.is_empty.result w.value-is c.is_empty.ensures w.if-is_empty.false
    ] in
    let word = sym (ap (λ word. bytes_eq c.args.line.now word) c.as_slice.ensures) ∙ sym c.eq.ensures ∙ c.if-eq.false in
    c.number_behind-then-starts_with-4.ensures ∙ ap (number_behind Maxval) (take_rest c.args.line.now 6)
    ∙ sym (passed _ _ _ _ (comment ∙ c.if-line-eq35.false)
    (passed _ _ _ _ word
    (passed _ _ _ _ (sym c.starts_with.ensures.value ∙ c.if-starts_with.false)
    (passed _ _ _ _ (sym c.starts_with-else-starts_with.ensures.value ∙ c.if-starts_with-2.false)
    (passed _ _ _ _ (sym c.starts_with-else-starts_with-2.ensures.value ∙ c.if-starts_with-3.false)
    (chosen _ _ _ (sym c.starts_with-else-starts_with-3.ensures.value ∙ c.if-starts_with-4.true)))))))

pub returns-then-starts_with-5 : goal.returns-then-starts_with-5
returns-then-starts_with-5 c =
    let comment : starts_comment c.args.line.now ≡ c.if-is_empty.value = elim c.if-is_empty.branch [
      | then-is_empty w ↦
          no_byte c.args.line.now c.if-is_empty.value c.is_empty.result w.value-is c.is_empty.ensures w.if-is_empty.true
      | else-is_empty w ↦
          first_byte c.args.line.now c.if-is_empty.value c.is_empty.result w.value-is c.is_empty.ensures w.if-is_empty.false
    ] in
    let word = sym (ap (λ word. bytes_eq c.args.line.now word) c.as_slice.ensures) ∙ sym c.eq.ensures ∙ c.if-eq.false in
    c.tuple_type_behind.ensures ∙ ap (tuple_type_behind) (take_rest c.args.line.now 8)
    ∙ sym (passed _ _ _ _ (comment ∙ c.if-line-eq35.false)
    (passed _ _ _ _ word
    (passed _ _ _ _ (sym c.starts_with.ensures.value ∙ c.if-starts_with.false)
    (passed _ _ _ _ (sym c.starts_with-else-starts_with.ensures.value ∙ c.if-starts_with-2.false)
    (passed _ _ _ _ (sym c.starts_with-else-starts_with-2.ensures.value ∙ c.if-starts_with-3.false)
    (passed _ _ _ _ (sym c.starts_with-else-starts_with-3.ensures.value ∙ c.if-starts_with-4.false)
    (chosen _ _ _ (sym c.starts_with-else-starts_with-4.ensures.value ∙ c.if-starts_with-5.true))))))))

pub returns-else-starts_with-5 : goal.returns-else-starts_with-5
returns-else-starts_with-5 c =
    let comment : starts_comment c.args.line.now ≡ c.if-is_empty.value = elim c.if-is_empty.branch [
      | then-is_empty w ↦
          no_byte c.args.line.now c.if-is_empty.value c.is_empty.result w.value-is c.is_empty.ensures w.if-is_empty.true
      | else-is_empty w ↦
          first_byte c.args.line.now c.if-is_empty.value c.is_empty.result w.value-is c.is_empty.ensures w.if-is_empty.false
    ] in
    let word = sym (ap (λ word. bytes_eq c.args.line.now word) c.as_slice.ensures) ∙ sym c.eq.ensures ∙ c.if-eq.false in
    sym (passed _ _ _ _ (comment ∙ c.if-line-eq35.false)
    (passed _ _ _ _ word
    (passed _ _ _ _ (sym c.starts_with.ensures.value ∙ c.if-starts_with.false)
    (passed _ _ _ _ (sym c.starts_with-else-starts_with.ensures.value ∙ c.if-starts_with-2.false)
    (passed _ _ _ _ (sym c.starts_with-else-starts_with-2.ensures.value ∙ c.if-starts_with-3.false)
    (passed _ _ _ _ (sym c.starts_with-else-starts_with-3.ensures.value ∙ c.if-starts_with-4.false)
    (passed _ _ _ _ (sym c.starts_with-else-starts_with-4.ensures.value ∙ c.if-starts_with-5.false) refl)))))))
