-- The number of an option, by what `u32` reads.
use Rattle.std.proofs.Common.{ℕ, Option, Some, None, refl, sym, ap, ◌≡◌, ◌∙◌, Bool, true, false, arith}
use Rattle.std.specs.Prelude.{Ok, Err, Result}
use Rattle.std.specs.Str.Parse.{ParsesUnsigned}
use Rattle.clap.specs.Walk.{Text}
use Rattle.clap.specs.Matches.{TriesOne}
use Rattle.clap.specs.ValueTests.{is_unsigned_in}
use Rattle.clap.specs.declared.builder.value_parser.ValueParser.TheVariants as vp
use Rattle.clap.proofs.ValueTestLemmas.{Accepts-accepts, accepts-Accepts}
use Rattle.fx_words.specs.Order.{number_or, number_in}

module _ {E : Type 0} where
  read_ok : (t : Text) (v : ℕ) (r : Result ℕ E) → r ≡ Ok v → ParsesUnsigned 32 10 t r → number_in t ≡ Some v
  read_ok t v (Ok w) same p =
      let is_w : w ≡ v = cc in
      let is : is_unsigned_in 0 4294967295 t ≡ true = Accepts-accepts false (vp.Unsigned 0 4294967295) t (p.0.0, omega (arith, p.0.1), omega arith, omega (arith, p.0.1)) in
      rw is (ap Some (sym p.1 ∙ is_w))
  read_ok t v (Err e) same p = cc

  read_err : (t : Text) (e : E) (r : Result ℕ E) → r ≡ Err e → ParsesUnsigned 32 10 t r → number_in t ≡ None
  read_err t e (Ok w) same p = cc
  read_err t e (Err f) same p = go (is_unsigned_in 0 4294967295 t) refl
    where
      go : (b : Bool) → is_unsigned_in 0 4294967295 t ≡ b → number_in t ≡ None
      go true is =
          let a = accepts-Accepts false (vp.Unsigned 0 4294967295) t is in
          absurd (p (a.0, omega (arith, a.3)))
      go false is = rw is refl

  -- both answers of `try_get_one`
  abbrev pub Alike : Result (Option ℕ) E → Result (Option ℕ) E → Type 0
  Alike x y = x ≡ y

  module _ (G : Text → Result ℕ E → Type 0) (only : (t : Text) (r : Result ℕ E) → G t r → ParsesUnsigned 32 10 t r) where
    pub given : (o : Option Text) (d n : ℕ) (x : Option ℕ) → x ≡ Some n → (o ≡ None → Alike (Ok x) (Ok None)) → ((t : Text) → o ≡ Some t → TriesOne G t (Ok x)) → number_or o d ≡ Some n
    given o d n None is none some = cc
    given None d n (Some y) is none some = let bad = none refl in cc
    given (Some t) d n (Some y) is none some = read_ok t n (Ok y) (ap Ok (let same : y ≡ n = cc in same)) (only t (Ok y) (some t refl))

    pub absent : (o : Option Text) (d : ℕ) (x : Option ℕ) → x ≡ None → ((t : Text) → o ≡ Some t → TriesOne G t (Ok x)) → number_or o d ≡ Some d
    absent None d x is some = refl
    absent (Some t) d None is some = absurd (some t refl)
    absent (Some t) d (Some y) is some = cc

    pub refused : (o : Option Text) (d : ℕ) (e : E) → (o ≡ None → Alike (Err e) (Ok None)) → ((t : Text) → o ≡ Some t → TriesOne G t (Err e)) → number_or o d ≡ None
    refused None d e none some = let bad = none refl in cc
    refused (Some t) d e none some = read_err t e (Err e) refl (only t (Err e) (some t refl))
